-- What stands outside the program, as its calls see it.
use Rattle.std.specs.Prelude.{ℕ, List, Option}
use Rattle.mars_base.specs.declared.file.File.{File}
use Rattle.refusals.specs.Causes.{Counts}

-- what the objects that a command uses hold: the files, what is left of the input, and the output; None where one doesn't tell
pub record Held : Type 0 where
  pub files : Option (List File)
  pub left : Option (List ℕ)
  pub out : Option (List ℕ)

-- all that the program sees: what is held, and the counts of failed calls; what the error output holds, and its count
pub record World : Type 0 where
  pub held : Held
  pub counts : Counts
  pub err : Option (List ℕ)
  pub errors : ℕ

-- so written in contracts
abbrev pub held : Option (List File) → Option (List ℕ) → Option (List ℕ) → Held
held files left out = record { files = files; left = left; out = out }

abbrev pub world : Held → Counts → Option (List ℕ) → ℕ → World
world held counts err errors = record { held = held; counts = counts; err = err; errors = errors }
