-- A price for a turn shows that a split is the best: no other is worth more, but for what its further turns cost.
use Rattle.std.proofs.Common.{◌≡◌, ◌⊎◌, inl, inr, ⊎_elim, ℕ, suc, ◌+◌, ◌*◌, ◌-◌, ◌<◌, ◌≤◌, List, [], ◌∷◌, length, refl, ap, arith}
use Rattle.std.proofs.Math.Nat.{mul-le-mul_left, mul-le-mul_right}
use Rattle.std.specs.Prelude.{slice_index, EachIndex}
use Rattle.std.specs.List.{sum}
use Rattle.loop_seq.specs.Split.{worth, IsBestSplit}
use Rattle.loop_seq.proofs.Worth.{sum-cons}

-- a loop of that cap and weight has k turns, as the price asks: all where it is worth as much or more, none where it is worth less
abbrev pub FollowsPrice : (price cap weight k : ℕ) → Type 0
FollowsPrice price cap weight k = ((price ≤ weight) × (k ≡ cap)) ⊎ (((weight ≡ price) × (k ≤ cap)) ⊎ ((weight ≤ price) × (k ≡ 0)))

-- one loop, against any other number of turns within its cap
one_loop : (p c w k j : ℕ) → FollowsPrice p c w k → j ≤ c → j * w + k * p ≤ k * w + j * p
one_loop p c w k j (inl (above, full)) le =
    let more : w ≡ p + (w - p) = omega arith in
    let jw : j * w ≡ j * (p + (w - p)) = ap (λ v. j * v) more in
    let kw : k * w ≡ k * (p + (w - p)) = ap (λ v. k * v) more in
    let fewer : j * (w - p) ≤ k * (w - p) = mul-le-mul_right (w - p) (omega arith) in
    omega (arith, jw, kw, fewer)
one_loop p c w k j (inr (inl (equal, part))) le =
    let jw : j * w ≡ j * p = ap (λ v. j * v) equal in
    let kw : k * w ≡ k * p = ap (λ v. k * v) equal in
    omega (arith, jw, kw)
one_loop p c w k j (inr (inr (below, none))) le =
    let jw : j * w ≤ j * p = mul-le-mul_left j below in
    let kp : k * p ≡ 0 * p = ap (λ v. v * p) none in
    omega (arith, jw, kp)

-- all loops, against any other turns within the caps: what is worth more costs as much more
all_loops : (p : ℕ) (cs ws ks js : List ℕ) → length cs ≡ length ks → length ws ≡ length ks → length js ≡ length ks → ((i : ℕ) → i < length ks → FollowsPrice p (slice_index cs i) (slice_index ws i) (slice_index ks i)) → ((i : ℕ) → i < length ks → slice_index js i ≤ slice_index cs i) → worth js ws + sum ks * p ≤ worth ks ws + sum js * p
all_loops p [] [] [] [] sc sw sj follows within = omega arith
all_loops p (c ∷ cs) (w ∷ ws) (k ∷ ks) (j ∷ js) sc sw sj follows within =
    let first = one_loop p c w k j (follows 0 (omega arith)) (within 0 (omega arith)) in
    let rest = all_loops p cs ws ks js (omega arith) (omega arith) (omega arith) (λ i lt. follows (suc i) (omega arith)) (λ i lt. within (suc i) (omega arith)) in
    let sk = ap (λ v. v * p) (sum-cons k ks) in
    let sj = ap (λ v. v * p) (sum-cons j js) in
    omega (arith, first, rest, sk, sj)
all_loops p cs ws [] (j ∷ js) sc sw sj follows within = absurd (omega arith)
all_loops p cs ws (k ∷ ks) [] sc sw sj follows within = absurd (omega arith)
all_loops p [] ws (k ∷ ks) js sc sw sj follows within = absurd (omega arith)
all_loops p (c ∷ cs) ws [] js sc sw sj follows within = absurd (omega arith)
all_loops p cs [] (k ∷ ks) js sc sw sj follows within = absurd (omega arith)
all_loops p cs (w ∷ ws) [] js sc sw sj follows within = absurd (omega arith)

-- turns that follow a price are within the cap
within_cap : (p c w k : ℕ) → FollowsPrice p c w k → k ≤ c
within_cap p c w k (inl (above, full)) = omega arith
within_cap p c w k (inr (inl (equal, part))) = part
within_cap p c w k (inr (inr (below, none))) = omega arith

-- turns that follow a price are the best split where they use the whole total, or where a turn is for nothing
pub best_by_price : (p total : ℕ) (caps weights turns : List ℕ) → length turns ≡ length caps → length weights ≡ length caps → EachIndex turns (λ i. FollowsPrice p (slice_index caps i) (slice_index weights i) (slice_index turns i)) → sum turns ≤ total → (sum turns ≡ total) ⊎ (p ≡ 0) → IsBestSplit caps weights total (worth turns weights)
best_by_price p total caps weights turns size same follows within used = record {
  reached = (turns, record { each = size; within = λ i lt. within_cap p (slice_index caps i) (slice_index weights i) (slice_index turns i) (follows i lt); sum_within = within }, refl);
  bound = λ others split.
      let fewer = all_loops p caps weights turns others (omega arith) (omega arith) (omega (arith, split.each)) follows (λ i lt. split.within i (omega (arith, split.each))) in
      ⊎_elim
      (λ whole.
      let cost : sum others * p ≤ sum turns * p = mul-le-mul_right p (omega (arith, split.sum_within)) in
      omega (arith, fewer, cost))
      (λ free.
      let theirs : sum others * p ≡ sum others * 0 = ap (λ v. sum others * v) free in
      let ours : sum turns * p ≡ sum turns * 0 = ap (λ v. sum turns * v) free in
      omega (arith, fewer, theirs, ours))
      used;
}

-- two values of a best split are one
pub best_is_one : (caps weights : List ℕ) (total u v : ℕ) → IsBestSplit caps weights total u → IsBestSplit caps weights total v → u ≡ v
best_is_one caps weights total u v first second =
    let below = second.bound first.reached.0 first.reached.1 in
    let above = first.bound second.reached.0 second.reached.1 in
    omega (arith, below, above, first.reached.2, second.reached.2)
