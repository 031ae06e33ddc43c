-- The bytes between two places of a room, as they are moved and as more are read behind them.
use Rattle.std.proofs.Common.{◌≡◌, ℕ, ◌+◌, ◌-◌, ◌≤◌, List, ◌++◌, length, take, drop, Option, None, Some, refl, sym, ap, ◌∙◌, arith}
use Rattle.std.proofs.lemmas.List.{append_assoc, drop-append-le, drop-take, length-drop, length-take-le}
use Rattle.std.proofs.Math.Seq.{drop-append_seam, take-add, take-append_seam}
use Rattle.std.specs.Io.KnownBytes.{prepend_known}

pub view_length : (start end : ℕ) (items : List ℕ) → start ≤ end → end ≤ length items → length (drop start (take end items)) ≡ end - start
view_length start end items le within = let long = length-drop start (take end items) in let short = length-take-le end items within in omega (arith, long, short)

-- the bytes between the places stand at the front
pub moved : (start end : ℕ) (items front back new rest : List ℕ) → start ≤ end → end ≤ length items → items ≡ front ++ back → length front ≡ start → length new ≡ end - start → new ≡ take (end - start) back
    → take (end - start) ((new ++ rest) ++ back) ≡ drop start (take end items)
moved start end items front back new rest le within split fronts count is =
    let ends : start + (end - start) ≡ end = omega arith in
    ap (take (end - start)) (append_assoc new rest back)
    ∙ ap (λ (n : ℕ). take n (new ++ (rest ++ back))) (sym count) ∙ take-append_seam new (rest ++ back)
    ∙ is ∙ ap (take (end - start)) (sym (ap (λ (n : ℕ). drop n (front ++ back)) (sym fronts) ∙ drop-append_seam front back))
    ∙ ap (λ (t : List ℕ). take (end - start) (drop start t)) (sym split)
    ∙ sym (drop-take start (end - start) items) ∙ ap (λ (n : ℕ). drop start (take n items)) ends

-- so many of the bytes read stand behind those that were there
pub filled : (start end n : ℕ) (old new : List ℕ) → start ≤ end → end ≤ length new → take end new ≡ take end old
    → drop start (take (end + n) new) ≡ drop start (take end old) ++ take n (drop end new)
filled start end n old new le within same =
    let long = length-take-le end new within in
    ap (drop start) (take-add end n new) ∙ drop-append-le start (take end new) (take n (drop end new)) (omega (arith, long))
    ∙ ap (λ (t : List ℕ). drop start t ++ take n (drop end new)) same

pub prepend_both : (xs ys : List ℕ) (o : Option (List ℕ)) → prepend_known (xs ++ ys) o ≡ prepend_known xs (prepend_known ys o)
prepend_both xs ys None = refl
prepend_both xs ys (Some zs) = ap Some (append_assoc xs ys zs)
