use Rattle.std.proofs.Common.{◌≡◌, ◌≤◌, ◌*◌, length, take, Some}
use Rattle.std.specs.Prelude.{sum}
use Rattle.graph.specs.Net.{ins_of}
use Rattle.tables.specs.Named.{job_at}
use Rattle.net_run.specs.Words.{ports_to}
use Rattle.job_inputs.specs.Look.{looked_up}
use Rattle.job_inputs.proofs.ports.gather.Given as goal

abbrev pub invariant-loop-port : goal.invariant-loop-port
invariant-loop-port l = record {
  ports : ports_to l.net l.graph.cycle l.line (looked_up l.net l.graph l.tables l.unit l.book l.inbox (job_at l.graph l.job).instance) (job_at l.graph l.job).instance (job_at l.graph l.job).task l.port ≡ Some l.ins;
  count : length l.ins ≡ sum (take l.port (ins_of l.net (job_at l.graph l.job).task));
  few : length l.ins ≤ 16 * l.port;
}
