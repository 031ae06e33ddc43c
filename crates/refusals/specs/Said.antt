-- What was put on the error output.
use Rattle.std.specs.Prelude.{◌≡◌, ◌⊎◌, ◌≤◌, ℕ, List, take, Option, Result, Ok, Err}
use Rattle.std.specs.Io.KnownBytes.{append_known}
use Rattle.mars_base.specs.Causes.{Rose}
use Rattle.refusals.specs.Status.{line_of}
use Rattle.refusals.specs.declared.refusal.Refusal.{Refusal}

-- the line of a refusal, or a front of it where a put of it failed, and the count of failed puts never falls;
-- of an answer that is no refusal nothing, and then the count stays too
abbrev pub Said : Option (List ℕ) → Option (List ℕ) → ℕ → ℕ → Result (Unit {0}) Refusal → Type 0
Said old new before now (Ok done) = (new ≡ old) × (now ≡ before)
Said old new before now (Err refused) = (before ≤ now) × ((new ≡ append_known old (line_of refused)) ⊎ ((n : ℕ) × (new ≡ append_known old (take n (line_of refused))) × Rose before now))
