-- A fault of a text is told as its first one.
use Rattle.std.proofs.Common.{◌≡◌, ◌⊎◌, inl, inr, ℕ, List, Some, None, Result, Err, sym, ap, ◌∙◌}
use Rattle.project_faults.specs.Faulty.{faulty}
use Rattle.project_file.specs.Gives.{ProjectGives, NotToml, Faulty}
use Rattle.project_file.specs.Helpers.{IsToldAs}
use Rattle.project_reader.specs.Faults.{IsFaultOf}
use Rattle.project_reader.specs.declared.project.Project.{Project}
use Rattle.project_reader.specs.declared.read.ProjectFault.{ProjectFault}
use Rattle.project_reader.specs.declared.read.ProjectFault.TheVariants as read
use Rattle.project_sheet.specs.declared.kind.Kind.{Kind}
use Rattle.project_sheet.specs.declared.kind.Fault.{Fault}
use Rattle.project_sheet.specs.declared.place.Place.{Place}
use Rattle.refusals.specs.declared.fault.Fault.TheVariants as fault
use Rattle.refusals.specs.declared.refusal.Refusal.{Refusal}
use Rattle.refusals.specs.declared.refusal.Refusal.TheVariants as refusal
use Rattle.stages.proofs.Turns.{fails}

abbrev pub Gives : List ℕ → List ℕ → Result Project Refusal → Type 0
Gives file bytes r = ProjectGives file bytes r ⊎ (r ≡ Err refusal.Memory)

abbrev fault_at : Kind → Place → Fault
fault_at kind place = record { kind = kind; place = place }

-- the name is the file's
pub told : (file name bytes : List ℕ) (f : ProjectFault) (e : Refusal) → name ≡ file → IsFaultOf bytes f → IsToldAs name f e → Gives file bytes (Err e)
told file name bytes (read.Bad n None) e same is said = inl (NotToml (ap (fails Project) (said ∙ ap (λ (m : List ℕ). refusal.Fault (fault.NotToml m)) same)) is.1)
told file name bytes (read.Bad n (Some place)) e same (doc, f, document, first, number, here) said =
    inl (Faulty doc f (ap (fails Project) (said f.kind number ∙ (ap (λ (m : List ℕ). faulty m (fault_at f.kind place)) same ∙ ap (λ (p : Place). faulty file (fault_at f.kind p)) (sym here)))) document first)
told file name bytes read.Memory e same is said = inr (ap (fails Project) said)
