-- Where a routine ends. This project's own.
use Rattle.std.specs.Prelude.{◌≡◌, ◌⊎◌, ℕ, ◌+◌, ◌≤◌, length, slice_get, Some}
use Rattle.word_code.specs.declared.code.Code.{Code}

-- at the next start, or with the code where there is none
abbrev pub EndsAt : Code → ℕ → ℕ → Type 0
EndsAt code number end = (slice_get code.starts (number + 1) ≡ Some end) ⊎ ((length code.starts ≤ number + 1) × (end ≡ length code.instrs))
