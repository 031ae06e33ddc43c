-- Where slots and jobs lie in a cycle.
use Rattle.std.proofs.Common.{◌≡◌, ℕ, ◌+◌, ◌*◌, ◌/◌, ◌%◌, ◌<◌, ◌≤◌, inl, inr, ap, ◌∙◌, arith, zero-mul}
use Rattle.std.proofs.lemmas.Bool.{cases_lt}
use Rattle.std.proofs.Math.Nat.{div-add-mod'}
use Rattle.std.proofs.lemmas.Grind.{rows}

pub times_le : (a b c : ℕ) → a ≤ b → a * c ≤ b * c
times_le a b c low = grind (arith, rows)

-- a slot lies in its round, and a round in its cycle
pub slot_inside : (rounds round units unit ticks slot : ℕ) → round < rounds → unit < units → 2 * units * slot ≤ ticks → round * ticks + 2 * unit * slot + 2 * slot ≤ rounds * ticks
slot_inside rounds round units unit ticks slot low in_units fits =
    let a : (round + 1) * ticks ≤ rounds * ticks = times_le (round + 1) rounds ticks (omega (arith, low)) in
    let b : (2 * unit + 2) * slot ≤ 2 * units * slot = times_le (2 * unit + 2) (2 * units) slot (omega (arith, in_units)) in
    omega (arith, a, b, fits)

-- the last instance that begins before another one ends before it
pub instance_ends : (i k period : ℕ) → i < k → i * period + period ≤ k * period
instance_ends i k period low = let a : (i + 1) * period ≤ k * period = times_le (i + 1) k period (omega (arith, low)) in omega (arith, a)

pub instance_inside : (i cycle period : ℕ) → i < cycle / period → i * period + period ≤ cycle
instance_inside i cycle period low =
    let a = instance_ends i (cycle / period) period low in
    omega (arith, a, div-add-mod' cycle period)

-- a number that divides another one above 0 goes into it
pub goes_into : (cycle period : ℕ) → 0 < cycle → cycle % period ≡ 0 → 0 < cycle / period
goes_into cycle period some divides = elim (cases_lt 0 (cycle / period)) [
  | inl more ↦ more
  | inr none ↦
      let zero_times : cycle / period * period ≡ 0 = (let z : cycle / period ≡ 0 = omega (arith, none) in ap (λ k. k * period) z ∙ zero-mul period) in
      absurd (omega (arith, div-add-mod' cycle period, zero_times, divides, some))
]
