use Rattle.std.proofs.Common.{◌≡◌, ◌<◌, ◌≤◌, ◌++◌, ◌∷◌, [], length, arith, subst, sym, ap, ◌∙◌, slice_index_or, Some}
use Rattle.mars_base.specs.Outside.{file_at, place_at}
use Rattle.mars_base.proofs.Files.{Replaced, replaced, added}
use Rattle.mars_base.proofs.shelf.replace.Goals as goal

pub returns-then-place-len-clause-ok : goal.returns-then-place-len-clause-ok
returns-then-place-len-clause-ok c =
    let name = c.args.name.now in
    let files = c.args.files.now.items in
    let f = c.index_mut.result.now in
    let at : c.place_of-place.result ≡ place_at name files = c.place_of-place.ensures ∙ ap (place_at name) c.deref.ensures.value in
    let below : place_at name files < length files = omega (arith, at, c.if-place-len.true) in
    let r = replaced name c.in_ok-bytes.bytes files f below (c.index_mut.ensures.value ∙ ap (λ k. slice_index_or files k f) at) in
    let p = subst (λ k. Replaced name c.in_ok-bytes.bytes files k f) (sym at) r in
    (p.0 ∙ ap Some (c.in_ok-bytes.ensures {u = tt}), p.1)

pub returns-clause-ok : goal.returns-clause-ok
returns-clause-ok c =
    let name = c.args.name.now in
    let files = c.args.files.now.items in
    let at : c.place_of-place.result ≡ place_at name files = c.place_of-place.ensures ∙ ap (place_at name) c.deref.ensures.value in
    let beyond : length files ≤ place_at name files = omega (arith, at, c.if-place-len.false) in
    let bytes_is = c.in_ok-bytes.ensures {u = tt} in
    let name_is = c.in_ok-name.ensures {u = tt} in
    let items = (c.in_ok-push.ensures {u = tt}).items in
    let after : c.push.new.self.items ≡ files ++ (record { name = name; bytes = c.args.bytes.now }) ∷ [] =
    items ∙ ap (λ n. files ++ (record { name = n; bytes = c.in_ok-bytes.bytes }) ∷ []) name_is ∙ ap (λ b. files ++ (record { name = name; bytes = b }) ∷ []) bytes_is in
    let a = added name c.args.bytes.now files beyond in
    (ap (file_at name) after ∙ a.0, λ other ne. ap (file_at other) after ∙ a.1 other ne)
