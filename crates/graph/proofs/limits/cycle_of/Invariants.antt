use Rattle.std.proofs.Common.{◌+◌, ◌≤◌, take}
use Rattle.graph.specs.Net.{cycle_parts}
use Rattle.graph.specs.Cycle.{IsLeastMultiple}
use Rattle.graph.proofs.limits.cycle_of.Given as goal

abbrev pub invariant-loop-transaction : goal.invariant-loop-transaction
invariant-loop-transaction l = IsLeastMultiple (take (l.transaction-index + 1) (cycle_parts l.net)) l.cycle × (1 ≤ l.cycle) × (l.cycle ≤ 65536)
