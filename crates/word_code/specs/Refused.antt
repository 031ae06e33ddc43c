-- Where code that isn't verified is refused first. This project's own.
use Rattle.std.specs.Prelude.{◌≡◌, ◌⊎◌, ℕ, ◌<◌, Option, None, Some, length, slice_get}
use Rattle.word_code.specs.Typing.{IsWhole, IsTypedAt}
use Rattle.word_code.specs.declared.code.Code.{Code}
use Rattle.word_code.specs.declared.code.Slot.{Slot}

-- what stands at a number meets the rules on one instruction, where there is one
abbrev pub MeetsRules : Code → ℕ → Option Slot → Type 0
MeetsRules code k None = Unit {0}
MeetsRules code k (Some slot) = IsTypedAt code k slot

abbrev pub IsGoodAt : Code → ℕ → Type 0
IsGoodAt code k = MeetsRules code k (slice_get code.instrs k)

-- an instruction stands at the number and fails a rule
pub record IsBadAt (code : Code) (k : ℕ) : Type 0 where
  pub slot : Slot
  pub stands : slice_get code.instrs k ≡ Some slot
  pub fails : IsTypedAt code k slot → ⊥

-- the first instruction that fails a rule
pub record IsFirstBad (code : Code) (k : ℕ) : Type 0 where
  pub bad : IsBadAt code k
  pub first : (j : ℕ) → j < k → IsGoodAt code j

-- at the number of instructions where a rule on the whole fails, and else at the first instruction that fails one
abbrev pub IsRefusedAt : Code → ℕ → Type 0
IsRefusedAt code k = ((IsWhole code → ⊥) × (k ≡ length code.instrs)) ⊎ (IsWhole code × IsFirstBad code k)
