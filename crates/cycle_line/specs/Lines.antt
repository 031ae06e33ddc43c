-- The line of a cycle's events.
use Rattle.std.specs.Prelude.{ℕ, List, ℤ, Option}

-- so many words has a line of any cycle; and the line of this one, where it has had an event
pub record LineOf : Type 0 where
  pub width : ℕ
  pub line : Option (List ℤ)
