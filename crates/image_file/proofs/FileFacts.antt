-- What holds of every reading of an image's file.
use Rattle.std.proofs.Common.{◌≡◌, ◌≤◌, ℕ, List, length, Some, Result, Ok, Err, sym, ◌∙◌, subst}
use Rattle.image_file.proofs.Once.{gives_once, told_bad}
use Rattle.image_file.specs.Gives.{ImageGives, Sound, Faulty, image_stage, refusal_of}
use Rattle.image_plant.specs.Fields.{image_bytes}
use Rattle.image_plant.specs.Image.{IsImage}
use Rattle.plant.specs.declared.system.Plant.{Plant}
use Rattle.refusals.specs.declared.refusal.ImageBad.{ImageBad}
use Rattle.refusals.specs.declared.refusal.Refusal.{Refusal}
use Rattle.refusals.specs.declared.refusal.Refusal.TheVariants as refusal
use Rattle.stages.specs.Files.{reading, FileIs, IsMissing}
use Rattle.stages.specs.Stage.{Stage, judging}
use Rattle.stages.specs.World.{Held}
use Rattle.stages.proofs.Gives.{both_gave, was_read, ok_once}
use Rattle.stages.proofs.MissingFacts.{missing_reading, refused_turn}
use Rattle.stages.proofs.Relations.{AlwaysRefuses, Within, IsKept, Refuses, Passes}
use Rattle.stages.proofs.SoundFacts.{passes_turn, passes_judging, passes_reading}
use Rattle.stages.proofs.Turns.{not_err}
use Rattle.stages.proofs.WithinFacts.{within_turn, within_judging, within_reading, refuses_turn, refuses_none, refuses_one, refuses_reading}
use Rattle.word_code.specs.declared.code.Code.{Code}

abbrev judge_it : List ℕ → Stage (Plant Code)
judge_it bytes = judging (ImageGives bytes)

-- an image's file is sound as a stage
pub passes_image : (file : List ℕ) → Passes (image_stage file)
passes_image file = passes_turn (reading file 4194304) judge_it (passes_reading file 4194304) (λ bytes. passes_judging (ImageGives bytes) (gives_once bytes))

-- what is kept from stage to stage is kept by its read
pub kept_image : (R : Held → Held → Type 0) (file : List ℕ) → IsKept R → Within R (image_stage file)
kept_image R file kept = within_turn R (reading file 4194304) judge_it kept (within_reading R file 4194304 kept) (λ bytes. within_judging R (ImageGives bytes) kept)

refuses_bytes : (P : Refusal → Type 0) (bytes : List ℕ) → ((b : ImageBad) → P (refusal.BadImage b)) → (r : Result (Plant Code) Refusal) (e : Refusal) → ImageGives bytes r → r ≡ Err e → P e
refuses_bytes P bytes each r e (Sound plant ok image has) is = refuses_none P plant r e ok is
refuses_bytes P bytes each r e (Faulty f refused first) is = refuses_one P (refusal_of f) r e (told_bad P bytes f each first) refused is

-- an image's file refuses by its read, by its length, and by what is bad in the image
pub refuses_image : (P : Refusal → Type 0) (file : List ℕ) → P (refusal.ReadFault (Some file)) → P (refusal.TooLong (Some file)) → ((b : ImageBad) → P (refusal.BadImage b)) → Refuses P (image_stage file)
refuses_image P file missing long each = refuses_turn P (reading file 4194304) judge_it (refuses_reading P file 4194304 missing long) (λ bytes b n r e meant is. refuses_bytes P bytes each r e meant.1 is)

-- an image's file that isn't there
pub missing_image : (file : List ℕ) (b : Held) → IsMissing b.files file → AlwaysRefuses b (refusal.ReadFault (Some file)) (image_stage file)
missing_image file b missing = refused_turn b (refusal.ReadFault (Some file)) (reading file 4194304) judge_it (missing_reading file 4194304 b missing)

-- what an image's file gave
pub record WasImage (b n : Held) (file : List ℕ) (plant : Plant Code) : Type 0 where
  pub stays : n ≡ b
  pub bytes : List ℕ
  pub file_is : FileIs b.files file bytes
  pub short : length bytes ≤ 4194304
  pub is_image : IsImage plant
  pub has_bytes : bytes ≡ image_bytes plant

image_by : (bytes : List ℕ) (plant : Plant Code) → ImageGives bytes (Ok plant) → IsImage plant × (bytes ≡ image_bytes plant)
image_by bytes plant (Sound q ok is has) = subst (λ (x : Plant Code). IsImage x × (bytes ≡ image_bytes x)) (sym (ok_once (Plant Code) plant q ok)) (is, has)
image_by bytes plant (Faulty e refused first) = not_err plant (refusal_of e) (sym refused)

pub was_image : (file : List ℕ) (b n : Held) (plant : Plant Code) → (image_stage file).meant b n (Ok plant) → WasImage b n file plant
was_image file b n plant meant =
    let go = both_gave (reading file 4194304) judge_it meant in
    let read = was_read file 4194304 b go.1 go.0 go.2 in
    let by = image_by go.0 plant go.3.1 in
    record { stays = go.3.0 ∙ read.stays; bytes = go.0; file_is = read.file; short = read.short; is_image = by.0; has_bytes = by.1 }
