use Rattle.std.proofs.Common.{◌≡◌, ℕ, ◌<◌, ◌+◌}
use Rattle.tables.specs.Named.{job_at, entry_at}
use Rattle.tables.proofs.jobs.has_lengths.Given as goal

abbrev pub invariant-loop-number : goal.invariant-loop-number
invariant-loop-number l = (job : ℕ) → job < l.number → (entry_at l.tables job).start + (job_at l.graph job).length ≡ (entry_at l.tables job).end
