use Rattle.std.proofs.Common.{◌≡◌, map, take}
use Rattle.project_binder.specs.NetOf.{actuator_of}
use Rattle.project_binder.proofs.net.actuators_of.Given as goal

abbrev pub invariant-loop-outlet : goal.invariant-loop-outlet
invariant-loop-outlet l = l.list ≡ map (actuator_of l.ports) (take l.outlet-index l.outlets)
