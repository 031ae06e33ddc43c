use Rattle.std.proofs.Common.{◌≡◌, take}
use Rattle.project_binder.specs.NetOf.{widths_of}
use Rattle.project_binder.proofs.net.widths_of.Given as goal

abbrev pub invariant-loop-port : goal.invariant-loop-port
invariant-loop-port l = l.list ≡ widths_of (take l.port-index l.ports)
