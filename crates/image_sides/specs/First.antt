-- The first of some codes that isn't verified.
use Rattle.std.specs.Prelude.{◌≡◌, ℕ, List, take, slice_get, Some, All}
use Rattle.word_code.specs.declared.code.Code.{Code}
use Rattle.word_code.specs.Typing.{IsVerified}

-- the code at k isn't verified, and those before it are
pub record IsFirstUnverified (codes : List Code) (k : ℕ) : Type 0 where
  pub code : Code
  pub stands : slice_get codes k ≡ Some code
  pub breaks : IsVerified code → ⊥
  pub before : All IsVerified (take k codes)
