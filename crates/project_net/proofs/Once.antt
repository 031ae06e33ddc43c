-- A project gives one answer.
use Rattle.std.proofs.Common.{◌≡◌, ℕ, List, Result, Ok, Err, sym, ap, ◌∙◌}
use Rattle.graph.specs.declared.net.Net.{Net}
use Rattle.project_binder.specs.NetOf.{net_of}
use Rattle.project_binder.specs.PortFaults.{BindFails, IsBound}
use Rattle.project_faults.proofs.Once.{first_once}
use Rattle.project_faults.specs.Faulty.{faulty}
use Rattle.project_net.specs.Gives.{NetGives, Whole, Faulty}
use Rattle.project_reader.specs.declared.project.Project.{Project}
use Rattle.project_sheet.specs.declared.kind.Fault.{Fault}
use Rattle.refusals.specs.declared.fault.Fault.{Fault as ToldFault}
use Rattle.refusals.specs.declared.refusal.Refusal.{Refusal}
use Rattle.refusals.specs.declared.refusal.Refusal.TheVariants as refusal
use Rattle.stages.proofs.Relations.{OneAnswer}
use Rattle.stages.proofs.Turns.{fails, not_err}
use Rattle.stages.proofs.Gives.{ok_once}
use Rattle.stages.proofs.WithinFacts.{refuses_none, refuses_one}
use Rattle.std.proofs.Common.{subst}
use Rattle.task_ports.specs.declared.ports.TaskPorts.{TaskPorts}

pub net_once : (file : List ℕ) (project : Project) (ports : List TaskPorts) → OneAnswer (NetGives file project ports)
net_once file project ports r s (Whole net ok is) (Whole other fine too) = ok ∙ (ap (λ z. Ok z) (is.is ∙ sym too.is) ∙ sym fine)
net_once file project ports r s (Whole net ok is) (Faulty f refused first) = absurd (is.no_fault f.kind f.place first.0)
net_once file project ports r s (Faulty f refused first) (Whole net ok is) = absurd (is.no_fault f.kind f.place first.0)
net_once file project ports r s (Faulty f refused first) (Faulty g also least) = refused ∙ (ap (λ (z : Fault). fails Net (faulty file z)) (first_once (BindFails (net_of project ports)) f g first least) ∙ sym also)

-- a project refuses by a fault
pub refuses_net : (P : Refusal → Type 0) (file : List ℕ) (project : Project) (ports : List TaskPorts) → ((f : ToldFault) → P (refusal.Fault f)) → (r : Result Net Refusal) (e : Refusal) → NetGives file project ports r → r ≡ Err e → P e
refuses_net P file project ports fails r e (Whole net ok bound) is = refuses_none P net r e ok is
refuses_net P file project ports fails r e (Faulty f refused first) is = refuses_one P (faulty file f) r e (fails _) refused is

-- a net that was given is bound
pub net_bound : (file : List ℕ) (project : Project) (ports : List TaskPorts) (net : Net) → NetGives file project ports (Ok net) → IsBound project ports net
net_bound file project ports net (Whole other ok is) = subst (λ (n : Net). IsBound project ports n) (sym (ok_once Net net other ok)) is
net_bound file project ports net (Faulty f refused first) = not_err net (faulty file f) (sym refused)
