use Rattle.std.proofs.Common.{◌≡◌, ℕ, ◌<◌, get_or}
use Rattle.tables.specs.Named.{no_entry}
use Rattle.tables.proofs.jobs.are_numbered.Given as goal

abbrev pub invariant-loop-number : goal.invariant-loop-number
invariant-loop-number l = (job : ℕ) → job < l.number → (get_or l.entries job no_entry).job ≡ job
