use Rattle.std.proofs.Common.{◌≡◌, ◌+◌, ◌++◌, List, ℕ, length, take, drop, sym, ap, ◌∙◌, arith}
use Rattle.std.proofs.Math.Seq.{take-append_seam}
use Rattle.std.specs.Io.KnownBytes.{prepend_known}
use Rattle.std.specs.Vec.{with_items}
use Rattle.std.proofs.lemmas.List.{with_items_is}
use Rattle.lines.proofs.Room.{filled, prepend_both, view_length}
use Rattle.lines.proofs.window.Window.fill.Goals as goal

pub invariant_of-self : goal.invariant_of-self
invariant_of-self g c =
    let inv = c.self.invariant in
    let room = c.to_the_front-start.ensures.room in
    let all = c.deref_mut.ensures.len in
    let long = view_length c.self.inside.start c.self.inside.end c.deref_mut.result.now inv.0 (omega (arith, inv.1, all)) in
    let same = ap (λ (t : List ℕ). length (drop c.self.inside.start (take c.self.inside.end t))) c.deref_mut.ensures.value ∙ ap length c.self.view_is in
    (c.to_the_front-start.ensures.order, omega (arith, inv.2, long, same, room, c.requires.short), inv.2)

pub invariant_of-self-2 : goal.invariant_of-self-2
invariant_of-self-2 g c =
    let ok = c.in_ok-count.ensures {u = tt} in
    let inv = c.self.invariant in
    (omega (arith, c.to_the_front-start.ensures.order), omega (arith, ok.room, c.read_behind.auto.bytes, c.deref_mut-2.ensures.len), inv.2)

-- what the window shows is what it showed and the bytes that were read
grown : (g : _) (c : goal.After-self-5-1 g) → drop c.to_the_front-start.result.0 (take (c.to_the_front-start.result.1 + c.in_ok-count.count) (with_items (with_items c.self.inside.bytes c.to_the_front-start.new.bytes) c.read_behind.new.bytes).items)
    ≡ c.args.self.now ++ take c.in_ok-count.count (drop c.to_the_front-start.result.1 c.read_behind.new.bytes)
grown g c =
    let ok = c.in_ok-count.ensures {u = tt} in
    let front = c.to_the_front-start in
    let from = front.result.0 in
    let to = front.result.1 in
    let read = c.read_behind.new.bytes in
    let mid : c.deref_mut-2.result.now ≡ front.new.bytes = c.deref_mut-2.ensures.value ∙ with_items_is c.self.inside.bytes front.new.bytes (front.auto.bytes ∙ c.deref_mut.ensures.len) in
    let items = with_items_is (with_items c.self.inside.bytes front.new.bytes) read (c.read_behind.auto.bytes ∙ c.deref_mut-2.ensures.len) in
    let kept : drop from (take to c.deref_mut-2.result.now) ≡ c.args.self.now =
    ap (λ (t : List ℕ). drop from (take to t)) mid ∙ front.ensures.same
    ∙ ap (λ (t : List ℕ). drop c.self.inside.start (take c.self.inside.end t)) c.deref_mut.ensures.value ∙ c.self.view_is in
    ap (λ (t : List ℕ). drop from (take (to + c.in_ok-count.count) t)) items
    ∙ filled from to c.in_ok-count.count c.deref_mut-2.result.now read front.ensures.order (omega (arith, ok.room)) c.read_behind.ensures.front
    ∙ ap (λ (t : List ℕ). t ++ take c.in_ok-count.count (drop to read)) kept

pub returns-clause-bytes : goal.returns-clause-bytes
returns-clause-bytes g c =
    let ok = c.in_ok-count.ensures {u = tt} in
    let left = g.I.Source.left c.read_behind.new.source in
    ap (λ (t : List ℕ). prepend_known t left) (grown g c)
    ∙ prepend_both c.args.self.now _ left ∙ ap (prepend_known c.args.self.now) (sym ok.bytes.0)

pub returns-clause-kept : goal.returns-clause-kept
returns-clause-kept g c = ap (take (length c.args.self.now)) (grown g c) ∙ take-append_seam c.args.self.now _
