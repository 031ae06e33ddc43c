-- What a project gives whose tasks have these ports.
use Rattle.std.specs.Prelude.{◌≡◌, ℕ, List, Result, Ok, Err}
use Rattle.graph.specs.declared.net.Net.{Net}
use Rattle.project_binder.specs.NetOf.{net_of}
use Rattle.project_binder.specs.PortFaults.{BindFails, IsBound}
use Rattle.project_faults.specs.Faulty.{faulty}
use Rattle.project_reader.specs.declared.project.Project.{Project}
use Rattle.project_sheet.specs.Kind.{IsFirst}
use Rattle.project_sheet.specs.declared.kind.Fault.{Fault}
use Rattle.refusals.specs.declared.refusal.Refusal.{Refusal}
use Rattle.task_ports.specs.declared.ports.TaskPorts.{TaskPorts}

-- the net of the project and the ports, or the first fault that the ports have
pub data NetGives (file : List ℕ) (project : Project) (ports : List TaskPorts) (answer : Result Net Refusal) : Type 0 where
  Whole : (net : Net) → answer ≡ Ok net → IsBound project ports net → NetGives file project ports answer
  Faulty : (f : Fault) → answer ≡ Err (faulty file f) → IsFirst (BindFails (net_of project ports)) f → NetGives file project ports answer
