-- What a split is worth, with no turns and after a change of one loop's turns.
use Rattle.std.proofs.Common.{◌≡◌, ℕ, zero, suc, ◌+◌, ◌*◌, ◌<◌, List, [], ◌∷◌, length, set, get_or, replicate, refl, arith}
use Rattle.std.specs.List.{sum}
use Rattle.std.proofs.lemmas.List.Sums.{sum_by-cons}
use Rattle.loop_seq.specs.Split.{worth}

-- the turns of the first loop and those of the rest
pub sum-cons : (k : ℕ) (turns : List ℕ) → sum (k ∷ turns) ≡ k + sum turns
sum-cons k turns = sum_by-cons (λ x. x) k turns

-- no turns
pub sum-zeros : (n : ℕ) → sum (replicate n 0) ≡ 0
sum-zeros zero = refl
sum-zeros (suc n) = omega (arith, sum-cons 0 (replicate n 0), sum-zeros n)

-- no turns are worth nothing
pub worth-zeros : (n : ℕ) (weights : List ℕ) → worth (replicate n 0) weights ≡ 0
worth-zeros zero weights = refl
worth-zeros (suc n) [] = refl
worth-zeros (suc n) (w ∷ weights) = omega (arith, worth-zeros n weights)

-- the loop i gets k turns in place of those that it had
pub worth-set : (turns weights : List ℕ) (i k : ℕ) → i < length turns → length turns ≡ length weights → worth (set turns i k) weights + get_or turns i 0 * get_or weights i 0 ≡ worth turns weights + k * get_or weights i 0
worth-set [] weights i k lt same = absurd (omega arith)
worth-set (t ∷ turns) [] i k lt same = absurd (omega arith)
worth-set (t ∷ turns) (w ∷ weights) zero k lt same = omega arith
worth-set (t ∷ turns) (w ∷ weights) (suc i) k lt same =
    let rest = worth-set turns weights i k (omega arith) (omega arith) in
    omega (arith, rest)
