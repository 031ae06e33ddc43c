-- States that are words, and text that doesn't wait.
use Rattle.std.proofs.Common.{◌≡◌, ◌⊎◌, inl, inr, ℕ, zero, suc, List, [], replicate, ℤ, pos, refl, arith}
use Rattle.std.proofs.lemmas.Int.{ints}
use Rattle.std.proofs.lemmas.List.Elements.{All-nil, All-cons}
use Rattle.processor.specs.Ends.{Over, Halted, Broken, Cut, end_under}
use Rattle.processor.specs.Results.{Ran, IsWord, AreWords, turn_of, state_in}
use Rattle.processor.specs.declared.cpu.Turn.TheVariants as turn

pub zeros_fit : (n : ℕ) → AreWords (replicate n (pos 0))
zeros_fit zero = All-nil IsWord
zeros_fit (suc n) = All-cons IsWord (pos 0) (replicate n (pos 0)) (record { sfits = omega (arith, ints) }) (zeros_fit n)

pub nothing_waits : {P : Type 0} {waiting : List ℕ} → (P → ⊥) → P ⊎ (waiting ≡ []) → waiting ≡ []
nothing_waits none (inl held) = absurd (none held)
nothing_waits none (inr empty) = empty

-- the state that an execution leaves where it halts
pub left_fits : (r : Ran) → turn_of r ≡ turn.Halted → ((left outs : List ℤ) → end_under r ≡ Halted (left, outs) → AreWords left × AreWords outs) → AreWords (state_in r)
left_fits (Over (Halted (left, outs)) cycles) is law = (law left outs refl).0
left_fits (Over Broken cycles) is law = cc
left_fits (Cut cycles) is law = cc
