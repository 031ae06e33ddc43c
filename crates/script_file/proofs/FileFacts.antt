-- What holds of every reading of a script's file.
use Rattle.std.proofs.Common.{◌≡◌, ◌≤◌, ℕ, false, List, length, Some, Result, Ok, Err, sym, ◌∙◌, subst}
use Rattle.refusals.specs.declared.refusal.Refusal.{Refusal}
use Rattle.refusals.specs.declared.refusal.Refusal.TheVariants as refusal
use Rattle.script_file.proofs.Once.{gives_once}
use Rattle.script_file.specs.Gives.{ScriptGives, Said, Faulty, script_stage}
use Rattle.script_reader.specs.Reading.{Events, Good, reading as script_of}
use Rattle.stages.specs.Files.{reading, FileIs, IsMissing}
use Rattle.stages.specs.Stage.{Stage, judging}
use Rattle.stages.specs.World.{Held}
use Rattle.stages.proofs.Gives.{both_gave, was_read, ok_once}
use Rattle.stages.proofs.MissingFacts.{missing_reading, refused_turn}
use Rattle.stages.proofs.Relations.{AlwaysRefuses, Within, IsKept, Refuses, Passes}
use Rattle.stages.proofs.SoundFacts.{passes_turn, passes_judging, passes_reading}
use Rattle.stages.proofs.Turns.{not_err}
use Rattle.stages.proofs.WithinFacts.{within_turn, within_judging, within_reading, refuses_turn, refuses_none, refuses_one, refuses_reading}

module _ (units ticks : ℕ) where
  abbrev judge_it : List ℕ → Stage Events
  judge_it bytes = judging (ScriptGives units ticks bytes)

  -- a script's file is sound as a stage
  pub passes_script : (file : List ℕ) → Passes (script_stage file units ticks)
  passes_script file = passes_turn (reading file 1048576) judge_it (passes_reading file 1048576) (λ bytes. passes_judging (ScriptGives units ticks bytes) (gives_once units ticks bytes))

  -- what is kept from stage to stage is kept by its read
  pub kept_script : (R : Held → Held → Type 0) (file : List ℕ) → IsKept R → Within R (script_stage file units ticks)
  kept_script R file kept = within_turn R (reading file 1048576) judge_it kept (within_reading R file 1048576 kept) (λ bytes. within_judging R (ScriptGives units ticks bytes) kept)

  refuses_bytes : (P : Refusal → Type 0) (bytes : List ℕ) → ((n : ℕ) → P (refusal.BadScript n)) → (r : Result Events Refusal) (e : Refusal) → ScriptGives units ticks bytes r → r ≡ Err e → P e
  refuses_bytes P bytes each r e (Said events ok has) is = refuses_none P events r e ok is
  refuses_bytes P bytes each r e (Faulty n refused bad) is = refuses_one P (refusal.BadScript n) r e (each n) refused is

  -- a script's file refuses by its read, by its length, and by its first bad line
  pub refuses_script : (P : Refusal → Type 0) (file : List ℕ) → P (refusal.ReadFault (Some file)) → P (refusal.TooLong (Some file)) → ((n : ℕ) → P (refusal.BadScript n)) → Refuses P (script_stage file units ticks)
  refuses_script P file missing long each =
      refuses_turn P (reading file 1048576) judge_it (refuses_reading P file 1048576 missing long) (λ bytes b n r e meant is. refuses_bytes P bytes each r e meant.1 is)

  -- a script's file that isn't there
  pub missing_script : (file : List ℕ) (b : Held) → IsMissing b.files file → AlwaysRefuses b (refusal.ReadFault (Some file)) (script_stage file units ticks)
  missing_script file b missing = refused_turn b (refusal.ReadFault (Some file)) (reading file 1048576) judge_it (missing_reading file 1048576 b missing)

  -- what a script's file gave
  pub record WasScript (b n : Held) (file : List ℕ) (events : Events) : Type 0 where
    pub stays : n ≡ b
    pub bytes : List ℕ
    pub file_is : FileIs b.files file bytes
    pub short : length bytes ≤ 1048576
    pub says : script_of false units ticks bytes ≡ Good events

  script_by : (bytes : List ℕ) (events : Events) → ScriptGives units ticks bytes (Ok events) → script_of false units ticks bytes ≡ Good events
  script_by bytes events (Said told ok has) = subst (λ (x : Events). script_of false units ticks bytes ≡ Good x) (sym (ok_once Events events told ok)) has
  script_by bytes events (Faulty n refused bad) = not_err events (refusal.BadScript n) (sym refused)

  pub was_script : (file : List ℕ) (b n : Held) (events : Events) → (script_stage file units ticks).meant b n (Ok events) → WasScript b n file events
  was_script file b n events meant =
      let go = both_gave (reading file 1048576) judge_it meant in
      let read = was_read file 1048576 b go.1 go.0 go.2 in
      record { stays = go.3.0 ∙ read.stays; bytes = go.0; file_is = read.file; short = read.short; says = script_by go.0 events go.3.1 }
