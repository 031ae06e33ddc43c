use Rattle.std.proofs.Common.{ℕ, ◌<◌}
use Rattle.tables.specs.Progress.{IsOnUnit}
use Rattle.tables.proofs.units.has_units.Given as goal

abbrev pub invariant-loop-job : goal.invariant-loop-job
invariant-loop-job l = (job : ℕ) → job < l.job → IsOnUnit l.net l.graph l.tables job
