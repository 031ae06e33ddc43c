use Rattle.std.proofs.Common.{◌≡◌, take}
use Rattle.project_binder.specs.NetOf.{net_tasks}
use Rattle.project_binder.proofs.net.net_tasks.Given as goal

abbrev pub invariant-loop-place : goal.invariant-loop-place
invariant-loop-place l = l.list ≡ net_tasks (take l.place l.tasks) (take l.place l.ports)
