-- What binding a project gives.
use Rattle.std.proofs.Common.{◌≡◌, ◌⊎◌, inl, ℕ, List, Result, Ok, Err, refl, ap, ◌∙◌, subst}
use Rattle.graph.specs.declared.net.Net.{Net}
use Rattle.project_binder.specs.NetOf.{net_of}
use Rattle.project_binder.specs.PortFaults.{BindFails, IsBound}
use Rattle.project_faults.specs.Faulty.{faulty}
use Rattle.project_net.specs.Gives.{NetGives, Whole, Faulty}
use Rattle.project_reader.specs.declared.project.Project.{Project}
use Rattle.project_sheet.specs.Kind.{IsFirst}
use Rattle.project_sheet.specs.declared.kind.Fault.{Fault}
use Rattle.refusals.specs.declared.refusal.Refusal.{Refusal}
use Rattle.refusals.specs.declared.refusal.Refusal.TheVariants as refusal
use Rattle.stages.proofs.Turns.{fails}
use Rattle.task_ports.specs.declared.ports.TaskPorts.{TaskPorts}

abbrev pub Gives : List ℕ → Project → List TaskPorts → Result Net Refusal → Type 0
Gives file project ports r = NetGives file project ports r ⊎ (r ≡ Err refusal.Memory)

pub give_net : (file : List ℕ) (project : Project) (ports : List TaskPorts) (net : Net) → IsBound project ports net → Gives file project ports (Ok net)
give_net file project ports net bound = inl (Whole net refl bound)

-- the fault is told with the name of the file
pub give_fault : (file name : List ℕ) (project : Project) (ports : List TaskPorts) (f g : Fault) (e : Refusal) → name ≡ file → g ≡ f → e ≡ faulty name f → IsFirst (BindFails (net_of project ports)) g → Gives file project ports (Err e)
give_fault file name project ports f g e same is told first = inl (Faulty f (ap (fails Net) (told ∙ ap (λ (n : List ℕ). faulty n f) same)) (subst (IsFirst (BindFails (net_of project ports))) is first))
