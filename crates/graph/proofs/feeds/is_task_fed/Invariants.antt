use Rattle.std.proofs.Common.{◌≡◌, ℕ, ◌<◌, true}
use Rattle.std.specs.Prelude.{is_some}
use Rattle.graph.specs.FeederTable.{feeder_in}
use Rattle.graph.proofs.feeds.is_task_fed.Given as goal

abbrev pub invariant-loop-port : goal.invariant-loop-port
invariant-loop-port l = (port : ℕ) → port < l.port → is_some (feeder_in l.table l.task port) ≡ true
