use Rattle.std.proofs.Common.{◌-◌, ◌<◌, ◌≤◌, ℕ, length, get_or}
use Rattle.graph.proofs.sequence.block_end.Given as goal

abbrev pub invariant-loop-to : goal.invariant-loop-to
invariant-loop-to l = (l.from < l.to) × (l.to ≤ length l.tasks) × ((k : ℕ) → l.from < k → k < l.to → get_or l.tasks k 0 < get_or l.tasks l.from 0)

abbrev pub decreases-loop-to : goal.decreases-loop-to
decreases-loop-to l = length l.tasks - l.to
