-- A net has as many tasks as the ports that it was made of.
use Rattle.std.proofs.Common.{◌≡◌, suc, List, [], ◌∷◌, length, refl, ap, ◌∙◌, arith}
use Rattle.graph.specs.declared.net.Net.{Net}
use Rattle.project_binder.specs.NetOf.{net_tasks}
use Rattle.project_binder.specs.PortFaults.{IsBound}
use Rattle.project_reader.specs.declared.project.Project.{Project}
use Rattle.project_reader.specs.declared.project.TaskEntry.{TaskEntry}
use Rattle.task_ports.specs.declared.ports.TaskPorts.{TaskPorts}

as_many : (tasks : List TaskEntry) (ports : List TaskPorts) → length ports ≡ length tasks → length (net_tasks tasks ports) ≡ length ports
as_many [] [] e = refl
as_many [] (p ∷ ports) e = absurd (omega (arith, e))
as_many (t ∷ tasks) [] e = refl
as_many (t ∷ tasks) (p ∷ ports) e = ap suc (as_many tasks ports (omega (arith, e)))

pub count_tasks : (project : Project) (ports : List TaskPorts) (net : Net) → length ports ≡ length project.tasks → IsBound project ports net → length net.tasks ≡ length ports
count_tasks project ports net e bound = ap (λ (n : Net). length n.tasks) bound.is ∙ as_many project.tasks ports e
