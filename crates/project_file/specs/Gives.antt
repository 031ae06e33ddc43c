-- What the text of a project file gives.
use Rattle.std.specs.Prelude.{◌≡◌, ℕ, List, Result, Ok, Err}
use Rattle.project_faults.specs.Faulty.{faulty}
use Rattle.project_reader.specs.Faults.{Fails, IsProjectOf}
use Rattle.project_reader.specs.declared.project.Project.{Project}
use Rattle.project_sheet.specs.Document.{IsDocument}
use Rattle.project_sheet.specs.Kind.{IsFirst}
use Rattle.project_sheet.specs.declared.kind.Fault.{Fault}
use Rattle.refusals.specs.declared.fault.Fault.TheVariants as fault
use Rattle.refusals.specs.declared.refusal.Refusal.{Refusal}
use Rattle.refusals.specs.declared.refusal.Refusal.TheVariants as refusal
use Rattle.stages.specs.Files.{reading}
use Rattle.stages.specs.Stage.{Stage, in_turn, judging}
use Rattle.toml.specs.Data.{Members}

-- What a text gives: the project of the document that it is, or that it's no document, or the document's first fault.
pub data ProjectGives (file bytes : List ℕ) (answer : Result Project Refusal) : Type 0 where
  Sound : (p : Project) → answer ≡ Ok p → IsProjectOf bytes p → ProjectGives file bytes answer
  NotToml : answer ≡ Err (refusal.Fault (fault.NotToml file)) → ((doc : Members) → IsDocument bytes doc → ⊥) → ProjectGives file bytes answer
  Faulty : (doc : Members) (f : Fault) → answer ≡ Err (faulty file f) → IsDocument bytes doc → IsFirst (Fails doc) f → ProjectGives file bytes answer

-- the file's read, and then its text
abbrev pub project_stage : List ℕ → Stage Project
project_stage file = in_turn (reading file 1048576) (λ bytes. judging (ProjectGives file bytes))
