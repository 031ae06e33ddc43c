use Rattle.std.proofs.Common.{◌≡◌, ℕ, ◌<◌, length, true}
use Rattle.std.specs.Prelude.{is_some}
use Rattle.graph.specs.Net.{ins_of}
use Rattle.graph.specs.FeederTable.{feeder_in}
use Rattle.graph.proofs.feeds.are_tasks_fed.Given as goal

abbrev pub invariant-loop-task : goal.invariant-loop-task
invariant-loop-task l = (task port : ℕ) → task < l.task → port < length (ins_of l.net task) → is_some (feeder_in l.table task port) ≡ true
