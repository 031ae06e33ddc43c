-- The first whole list is one.
use Rattle.std.proofs.Common.{◌≡◌, ◌⊎◌, inl, inr, ◌<◌, ℕ, List, [], ◌∷◌, ◌++◌, length, Some, refl, sym, ap₂, ◌∙◌, subst, arith}
use Rattle.walks.specs.First.{Rules, Reaches, total, InOrder, IsFirst}

same_both : (r q : ℕ) (rs qs : List ℕ) → (InOrder rs qs → InOrder qs rs → rs ≡ qs) → (r < q) ⊎ ((r ≡ q) × InOrder rs qs) → (q < r) ⊎ ((q ≡ r) × InOrder qs rs) → r ∷ rs ≡ q ∷ qs
same_both r q rs qs rest (inl low) (inl up) = absurd (omega (arith, low, up))
same_both r q rs qs rest (inl low) (inr up) = absurd (omega (arith, low, up.0))
same_both r q rs qs rest (inr low) (inl up) = absurd (omega (arith, low.0, up))
same_both r q rs qs rest (inr low) (inr up) = ap₂ (λ (x : ℕ) (xs : List ℕ). x ∷ xs) low.0 (rest low.1 up.1)

-- ranks each of which is no later than the other are the same
one_ranks : (rs qs : List ℕ) → length rs ≡ length qs → InOrder rs qs → InOrder qs rs → rs ≡ qs
one_ranks [] [] e h k = refl
one_ranks [] (q ∷ qs) e h k = absurd (omega (arith, e))
one_ranks (r ∷ rs) [] e h k = absurd (omega (arith, e))
one_ranks (r ∷ rs) (q ∷ qs) e h k = same_both r q rs qs (one_ranks rs qs (omega (arith, e))) h k

-- ranks lead to one list
one_reached : {C : Type 0} (ru : Rules C) (l : List C) (rs : List ℕ) (m o : List C) → Reaches ru l rs m → Reaches ru l rs o → m ≡ o
one_reached ru l [] m o h k = sym h ∙ k
one_reached {C} ru l (r ∷ rs) m o (c, is, h) (d, too, k) =
    let both : Some c ≡ Some d = sym is ∙ too in
    let same : c ≡ d = cc in
    one_reached ru (l ++ c ∷ []) rs m o h (subst (λ (x : C). Reaches ru (l ++ x ∷ []) rs o) (sym same) k)

pub one_first : {C : Type 0} (ru : Rules C) (n : ℕ) (m o : List C) → IsFirst ru n m → IsFirst ru n o → m ≡ o
one_first ru n m o h k =
    let low = h.least k.ranks o k.is in
    let up = k.least h.ranks m h.is in
    let totals : total k.ranks ≡ total h.ranks = omega (arith, low, up) in
    let ranks : h.ranks ≡ k.ranks = one_ranks h.ranks k.ranks (h.is.whole ∙ sym k.is.whole) (h.first k.ranks o k.is totals) (k.first h.ranks m h.is (sym totals)) in
    one_reached ru [] h.ranks m o h.is.reached (subst (λ rs. Reaches ru [] rs o) (sym ranks) k.is.reached)
