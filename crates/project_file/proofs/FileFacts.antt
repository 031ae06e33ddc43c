-- What holds of every reading of a project file.
use Rattle.std.proofs.Common.{◌≡◌, ◌≤◌, ℕ, List, length, Some, Result, Ok, Err, sym, ◌∙◌, subst}
use Rattle.project_faults.specs.Faulty.{faulty}
use Rattle.project_file.proofs.Once.{gives_once}
use Rattle.project_file.specs.Gives.{ProjectGives, Sound, NotToml, Faulty, project_stage}
use Rattle.project_reader.specs.Faults.{IsProjectOf}
use Rattle.project_reader.specs.declared.project.Project.{Project}
use Rattle.refusals.specs.declared.fault.Fault.{Fault}
use Rattle.refusals.specs.declared.fault.Fault.TheVariants as fault
use Rattle.refusals.specs.declared.refusal.Refusal.{Refusal}
use Rattle.refusals.specs.declared.refusal.Refusal.TheVariants as refusal
use Rattle.stages.specs.Files.{reading, FileIs, IsMissing}
use Rattle.stages.specs.Stage.{Stage, judging}
use Rattle.stages.specs.World.{Held}
use Rattle.stages.proofs.Gives.{both_gave, was_read, ok_once}
use Rattle.stages.proofs.MissingFacts.{missing_reading, refused_turn}
use Rattle.stages.proofs.Relations.{AlwaysRefuses, Within, IsKept, Refuses, Passes}
use Rattle.stages.proofs.SoundFacts.{passes_turn, passes_judging, passes_reading}
use Rattle.stages.proofs.Turns.{not_err}
use Rattle.stages.proofs.WithinFacts.{within_turn, within_judging, within_reading, refuses_turn, refuses_none, refuses_one, refuses_reading}

abbrev judge_it : List ℕ → List ℕ → Stage Project
judge_it file bytes = judging (ProjectGives file bytes)

-- a project file is sound as a stage
pub passes_project : (file : List ℕ) → Passes (project_stage file)
passes_project file = passes_turn (reading file 1048576) (judge_it file) (passes_reading file 1048576) (λ bytes. passes_judging (ProjectGives file bytes) (gives_once file bytes))

-- what is kept from stage to stage is kept by its read
pub kept_project : (R : Held → Held → Type 0) (file : List ℕ) → IsKept R → Within R (project_stage file)
kept_project R file kept = within_turn R (reading file 1048576) (judge_it file) kept (within_reading R file 1048576 kept) (λ bytes. within_judging R (ProjectGives file bytes) kept)

refuses_text : (P : Refusal → Type 0) (file bytes : List ℕ) → ((f : Fault) → P (refusal.Fault f)) → (r : Result Project Refusal) (e : Refusal) → ProjectGives file bytes r → r ≡ Err e → P e
refuses_text P file bytes fails r e (Sound p ok text) is = refuses_none P p r e ok is
refuses_text P file bytes fails r e (NotToml refused none) is = refuses_one P (refusal.Fault (fault.NotToml file)) r e (fails (fault.NotToml file)) refused is
refuses_text P file bytes fails r e (Faulty doc f refused document first) is = refuses_one P (faulty file f) r e (fails _) refused is

-- a project file refuses by its read, by its length, and by a fault
pub refuses_project : (P : Refusal → Type 0) (file : List ℕ) → P (refusal.ReadFault (Some file)) → P (refusal.TooLong (Some file)) → ((f : Fault) → P (refusal.Fault f)) → Refuses P (project_stage file)
refuses_project P file missing long fails = refuses_turn P (reading file 1048576) (judge_it file) (refuses_reading P file 1048576 missing long) (λ bytes b n r e meant is. refuses_text P file bytes fails r e meant.1 is)

-- a project file that isn't there
pub missing_project : (file : List ℕ) (b : Held) → IsMissing b.files file → AlwaysRefuses b (refusal.ReadFault (Some file)) (project_stage file)
missing_project file b missing = refused_turn b (refusal.ReadFault (Some file)) (reading file 1048576) (judge_it file) (missing_reading file 1048576 b missing)

-- what a project file gave
pub record WasProject (b n : Held) (file : List ℕ) (p : Project) : Type 0 where
  pub stays : n ≡ b
  pub bytes : List ℕ
  pub file_is : FileIs b.files file bytes
  pub short : length bytes ≤ 1048576
  pub is : IsProjectOf bytes p

project_by : (file bytes : List ℕ) (p : Project) → ProjectGives file bytes (Ok p) → IsProjectOf bytes p
project_by file bytes p (Sound q ok text) = subst (λ (x : Project). IsProjectOf bytes x) (sym (ok_once Project p q ok)) text
project_by file bytes p (NotToml refused none) = not_err p (refusal.Fault (fault.NotToml file)) (sym refused)
project_by file bytes p (Faulty doc f refused document first) = not_err p (faulty file f) (sym refused)

pub was_project : (file : List ℕ) (b n : Held) (p : Project) → (project_stage file).meant b n (Ok p) → WasProject b n file p
was_project file b n p meant =
    let go = both_gave (reading file 1048576) (judge_it file) meant in
    let read = was_read file 1048576 b go.1 go.0 go.2 in
    record { stays = go.3.0 ∙ read.stays; bytes = go.0; file_is = read.file; short = read.short; is = project_by file go.0 p go.3.1 }
