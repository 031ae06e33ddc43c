-- The walks that need no choice.
use Rattle.std.proofs.Common.{◌≡◌, ℕ, zero, suc, ◌+◌, ◌-◌, ◌<◌, ◌≤◌, true, false, List, length, Some, refl, arith}
use Rattle.walks.specs.First.{Rules}
use Rattle.walks.specs.Walk.{nothing, walk}
use Rattle.passes.specs.declared.Ended.TheVariants.{Found, Missing, Stopped}
use Rattle.passes.specs.Answers.{Answers}
use Rattle.passes.proofs.Going.{whole_walk}

walk_pruned : {C : Type 0} (ru : Rules C) (n : ℕ) (l : List C) (k : ℕ) → ru.pruned l ≡ true → walk ru n l k ≡ nothing false
unfolding walk
walk_pruned ru zero l k p = rw p refl
walk_pruned ru (suc n) l k p = rw p refl

walk_counts : {C : Type 0} (ru : Rules C) (n : ℕ) (l : List C) (k : ℕ) → ru.pruned l ≡ false → 0 < (walk ru n l k).count
unfolding walk
walk_counts ru zero l k p = rw p (omega arith)
walk_counts ru (suc n) l k p = rw p (omega arith)

walk_whole : {C : Type 0} (ru : Rules C) (n : ℕ) (l : List C) (k : ℕ) → n ≡ 0 → ru.pruned l ≡ false → walk ru n l k ≡ record { count = 1; list = Some l; cut = false }
unfolding walk
walk_whole ru zero l k e p = rw p refl
walk_whole ru (suc n) l k e p = absurd (omega arith)

pub pruned_answers : {C : Type 0} (ru : Rules C) (n : ℕ) (l : List C) (k t limit : ℕ) → ru.pruned l ≡ true → t ≤ limit → Answers (whole_walk ru n l k) l limit t t l (Missing false)
pruned_answers ru n l k t limit p h = rw (walk_pruned ru (n - length l) l k p) (refl, refl, omega arith, h, refl)

pub stopped_answers : {C : Type 0} (ru : Rules C) (n : ℕ) (l m : List C) (k t limit : ℕ) → ru.pruned l ≡ false → t ≡ limit → Answers (whole_walk ru n l k) l limit t t m Stopped
stopped_answers ru n l m k t limit p e = (e, omega (arith, walk_counts ru (n - length l) l k p))

pub whole_answers : {C : Type 0} (ru : Rules C) (n : ℕ) (l : List C) (k t u limit : ℕ) → ru.pruned l ≡ false → length l ≡ n → u ≡ t + 1 → u ≤ limit → Answers (whole_walk ru n l k) l limit t u l Found
whole_answers ru n l k t u limit p f e h = rw (walk_whole ru (n - length l) l k (omega arith) p) (refl, e, h)
