use Rattle.graph.specs.TaskRemaining.{HasRemainingFrom}
use Rattle.graph.proofs.longest.task_remaining.Given as goal

abbrev pub invariant-loop-place : goal.invariant-loop-place
invariant-loop-place l = HasRemainingFrom l.net l.lengths l.tasks l.list.items l.place
