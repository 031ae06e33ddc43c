use Rattle.std.proofs.Common.{◌≡◌, ℕ, ◌<◌}
use Rattle.std.specs.Prelude.{Any}
use Rattle.graph.specs.declared.net.NetTask.{NetTask}
use Rattle.graph.proofs.rules.are_used.Given as goal

abbrev pub invariant-loop-transaction : goal.invariant-loop-transaction
invariant-loop-transaction l = (t : ℕ) → t < l.transaction → Any (λ (task : NetTask). task.transaction ≡ t) l.net.tasks
