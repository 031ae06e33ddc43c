use Rattle.std.proofs.Common.{◌≡◌, map, take}
use Rattle.project_binder.specs.NetOf.{edge_of}
use Rattle.project_binder.proofs.net.edges_of.Given as goal

abbrev pub invariant-loop-wire : goal.invariant-loop-wire
invariant-loop-wire l = l.list ≡ map (edge_of l.ports) (take l.wire-index l.wires)
