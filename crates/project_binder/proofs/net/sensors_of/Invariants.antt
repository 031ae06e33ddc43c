use Rattle.std.proofs.Common.{◌≡◌, map, take}
use Rattle.project_binder.specs.NetOf.{sensor_of}
use Rattle.project_binder.proofs.net.sensors_of.Given as goal

abbrev pub invariant-loop-outlet : goal.invariant-loop-outlet
invariant-loop-outlet l = l.list ≡ map (sensor_of l.ports) (take l.outlet-index l.outlets)
