use Rattle.std.proofs.Common.{ℕ, ◌<◌, ◌≤◌}
use Rattle.tables.specs.Named.{job_at, entry_at}
use Rattle.tables.proofs.jobs.starts_after_release.Given as goal

abbrev pub invariant-loop-number : goal.invariant-loop-number
invariant-loop-number l = (job : ℕ) → job < l.number → (job_at l.graph job).release ≤ (entry_at l.tables job).start
