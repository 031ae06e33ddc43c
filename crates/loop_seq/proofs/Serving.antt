-- Serving the heaviest loop first, one after the other, gives turns that follow a price.
use Rattle.std.proofs.Common.{◌≡◌, ◌⊎◌, inl, inr, ⊎_elim, ℕ, zero, suc, ◌+◌, ◌*◌, ◌-◌, ◌<◌, ◌≤◌, min, Bool, true, false, List, length, set, get_or, replicate, refl, sym, ap, ◌∙◌, subst, arith, get_or-set_same, get_or-set_other}
use Rattle.std.proofs.lemmas.Bool.{cases_lt, cases_eq}
use Rattle.std.proofs.lemmas.List.{length-set, length-replicate, get_or-replicate}
use Rattle.std.proofs.lemmas.List.Sums.{sum_by-set}
use Rattle.std.specs.Prelude.{slice_index, EachIndex}
use Rattle.std.specs.List.{sum}
use Rattle.loop_seq.specs.Split.{worth, IsBestSplit}
use Rattle.loop_seq.proofs.Worth.{sum-zeros, worth-zeros, worth-set}
use Rattle.loop_seq.proofs.Price.{FollowsPrice, best_by_price}

-- a served loop is full and worth the price, or no turns are left and it follows the price; any other has none and is worth no more than the price
abbrev pub IsChosen : (price left cap weight k : ℕ) → Bool → Type 0
IsChosen price left cap weight k true = ((price ≤ weight) × (k ≡ cap)) ⊎ ((left ≡ 0) × FollowsPrice price cap weight k)
IsChosen price left cap weight k false = (weight ≤ price) × (k ≡ 0)

-- turns of that worth are given to the served loops, and so many of the total are left
pub record Serving (caps weights : List ℕ) (total : ℕ) (served : List Bool) (left value : ℕ) : Type 0 where
  pub turns : List ℕ
  pub price : ℕ
  pub size : length turns ≡ length caps
  pub given : sum turns + left ≡ total
  pub value_is : worth turns weights ≡ value
  pub chosen : EachIndex turns (λ i. IsChosen price left (slice_index caps i) (slice_index weights i) (slice_index turns i) (get_or served i false))

-- the price falls to the weight of the loop that is served, as long as turns are left
abbrev next_price : (price left weight : ℕ) → ℕ
next_price price zero weight = price
next_price price (suc left) weight = weight

-- a loop that is not served now stays chosen
other_chosen : (p left k c w t v : ℕ) (b : Bool) → v ≤ p → (b ≡ false → w ≤ v) → IsChosen p left c w t b → IsChosen (next_price p left v) (left - k) c w t b
other_chosen p zero k c w t v true le less (inl x) = inl x
other_chosen p zero k c w t v true le less (inr (none, follows)) = inr (omega arith, follows)
other_chosen p zero k c w t v false le less x = x
other_chosen p (suc left) k c w t v true le less (inl (above, full)) = inl (omega arith, full)
other_chosen p (suc left) k c w t v true le less (inr (none, follows)) = absurd (omega (arith, none))
other_chosen p (suc left) k c w t v false le less (below, empty) = (less refl, empty)

-- the loop that is served now is chosen
this_chosen : (p left k c w : ℕ) → w ≤ p → k ≡ min c left → IsChosen (next_price p left w) (left - k) c w k true
this_chosen p zero k c w le is = inr (omega arith, inr (inr (le, omega arith)))
this_chosen p (suc left) k c w le is =
    ⊎_elim
    (λ part. inr (omega arith, inr (inl (refl, omega arith))))
    (λ full. inl (omega arith, omega arith))
    (cases_lt (suc left) c)

-- the same, under other names of the turns and of whether it is served
same_chosen : (p left c w t u : ℕ) (a b : Bool) → t ≡ u → a ≡ b → IsChosen p left c w t a → IsChosen p left c w u b
same_chosen p left c w t u a b turns served chosen = subst (λ x. IsChosen p left c w x b) turns (subst (λ x. IsChosen p left c w t x) served chosen)

-- nothing is served yet
pub serving_none : (caps weights : List ℕ) (total most : ℕ) (served : List Bool) → ((i : ℕ) → i < length caps → get_or served i false ≡ false) → EachIndex caps (λ i. slice_index weights i ≤ most) → Serving caps weights total served total 0
serving_none caps weights total most served none low =
    let zeros : List ℕ = replicate (length caps) 0 in
    let size : length zeros ≡ length caps = length-replicate (length caps) 0 in
    record {
      turns = zeros;
      price = most;
      size = size;
      given = omega (arith, sum-zeros (length caps));
      value_is = worth-zeros (length caps) weights;
      chosen = λ i lt.
          let inside : i < length caps = omega (arith, size) in
          same_chosen most total (slice_index caps i) (slice_index weights i) 0 (slice_index zeros i) false (get_or served i false)
          (sym (get_or-replicate (length caps) i 0 0 inside)) (sym (none i inside)) (low i inside, refl);
    }

-- the heaviest loop that is not served yet gets as many of the turns left as its cap lets it
pub serving_more : (caps weights : List ℕ) (total : ℕ) (served : List Bool) (left value i k : ℕ) → length weights ≡ length caps → i < length caps → i < length served → get_or served i false ≡ false → ((j : ℕ) → j < length caps → get_or served j false ≡ false → slice_index weights j ≤ slice_index weights i) → k ≡ min (slice_index caps i) left → Serving caps weights total served left value → Serving caps weights total (set served i true) (left - k) (value + k * slice_index weights i)
serving_more caps weights total served left value i k same inside room unserved heaviest is s =
    let v = slice_index weights i in
    let it : i < length s.turns = omega (arith, s.size) in
    let was : IsChosen s.price left (slice_index caps i) v (slice_index s.turns i) false =
    same_chosen s.price left (slice_index caps i) v (slice_index s.turns i) (slice_index s.turns i) (get_or served i false) false refl unserved (s.chosen i it) in
    let size : length (set s.turns i k) ≡ length s.turns = length-set s.turns i k in
    record {
      turns = set s.turns i k;
      price = next_price s.price left v;
      size = size ∙ s.size;
      given = omega (arith, s.given, was.1, sum_by-set (λ x. x) s.turns i k 0 it);
      value_is =
          let nothing : slice_index s.turns i * v ≡ 0 * v = ap (λ t. t * v) was.1 in
          omega (arith, s.value_is, nothing, worth-set s.turns weights i k it (omega (arith, s.size)));
      chosen = λ j lt. ⊎_elim
          (λ at. subst (λ j. IsChosen (next_price s.price left v) (left - k) (slice_index caps j) (slice_index weights j) (slice_index (set s.turns i k) j) (get_or (set served i true) j false)) (sym at)
          (same_chosen (next_price s.price left v) (left - k) (slice_index caps i) v k (slice_index (set s.turns i k) i) true (get_or (set served i true) i false)
          (sym (get_or-set_same s.turns i k 0 it)) (sym (get_or-set_same served i true false room)) (this_chosen s.price left k (slice_index caps i) v was.0 is)))
          (λ other. same_chosen (next_price s.price left v) (left - k) (slice_index caps j) (slice_index weights j) (slice_index s.turns j) (slice_index (set s.turns i k) j) (get_or served j false) (get_or (set served i true) j false)
          (sym (get_or-set_other s.turns i j k 0 other)) (sym (get_or-set_other served i j true false other))
          (other_chosen s.price left k (slice_index caps j) (slice_index weights j) (slice_index s.turns j) v (get_or served j false) was.0 (λ free. heaviest j (omega (arith, s.size, size)) free) (s.chosen j (omega (arith, size)))))
          (cases_eq j i);
    }

-- with no turns left, a served loop follows the price
follows_at_end : (p c w k : ℕ) → IsChosen p 0 c w k true → FollowsPrice p c w k
follows_at_end p c w k (inl full) = inl full
follows_at_end p c w k (inr (none, follows)) = follows

-- with turns left, a served loop follows the price 0
full_with_rest : (p left c w k : ℕ) → IsChosen p (suc left) c w k true → FollowsPrice 0 c w k
full_with_rest p left c w k (inl (above, full)) = inl (omega arith, full)
full_with_rest p left c w k (inr (none, follows)) = absurd (omega (arith, none))

-- where all loops are served, their turns are the best split
pub serving_all : (caps weights : List ℕ) (total : ℕ) (served : List Bool) (left value : ℕ) → length weights ≡ length caps → ((i : ℕ) → i < length caps → get_or served i false ≡ true) → Serving caps weights total served left value → IsBestSplit caps weights total value
serving_all caps weights total served zero value same all s =
    subst (λ v. IsBestSplit caps weights total v) s.value_is
    (best_by_price s.price total caps weights s.turns s.size same
    (λ i lt. follows_at_end s.price (slice_index caps i) (slice_index weights i) (slice_index s.turns i) (same_chosen s.price 0 (slice_index caps i) (slice_index weights i) (slice_index s.turns i) (slice_index s.turns i) (get_or served i false) true refl (all i (omega (arith, s.size))) (s.chosen i lt)))
    (omega (arith, s.given)) (inl (omega (arith, s.given))))
serving_all caps weights total served (suc left) value same all s =
    subst (λ v. IsBestSplit caps weights total v) s.value_is
    (best_by_price 0 total caps weights s.turns s.size same
    (λ i lt. full_with_rest s.price left (slice_index caps i) (slice_index weights i) (slice_index s.turns i) (same_chosen s.price (suc left) (slice_index caps i) (slice_index weights i) (slice_index s.turns i) (slice_index s.turns i) (get_or served i false) true refl (all i (omega (arith, s.size))) (s.chosen i lt)))
    (omega (arith, s.given)) (inr refl))
