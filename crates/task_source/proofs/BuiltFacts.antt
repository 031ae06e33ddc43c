-- What holds of every run of a source's stages.
use Rattle.std.proofs.Common.{◌≡◌, ◌≤◌, ℕ, List, length, Some, Result, Ok, Err, sym, ap, ◌∙◌, subst}
use Rattle.mc_tree.specs.declared.tree.Task.{Task}
use Rattle.refusals.specs.declared.fault.Fault.{Fault}
use Rattle.refusals.specs.declared.fault.Fault.TheVariants as fault
use Rattle.refusals.specs.declared.refusal.Refusal.{Refusal}
use Rattle.refusals.specs.declared.refusal.Refusal.TheVariants as refusal
use Rattle.stages.specs.Files.{reading, FileIs, IsMissing}
use Rattle.stages.specs.Stage.{Stage, in_turn, judging, giving}
use Rattle.stages.specs.World.{Held}
use Rattle.stages.proofs.Gives.{both_gave, was_read, ok_once}
use Rattle.stages.proofs.MissingFacts.{missing_reading, refused_turn}
use Rattle.stages.proofs.Relations.{AlwaysRefuses, Within, IsKept, Refuses, Passes}
use Rattle.stages.proofs.SoundFacts.{passes_turn, passes_judging, passes_giving, passes_reading}
use Rattle.stages.proofs.Turns.{not_err}
use Rattle.stages.proofs.WithinFacts.{within_turn, within_judging, within_giving, within_reading, refuses_turn, refuses_none, refuses_one, refuses_reading, refuses_giving}
use Rattle.task_source.proofs.Once.{gives_once, bound_once}
use Rattle.task_source.specs.Bound.{IsBound, BoundGives, Bound, CodeTooLong, NoPath, MaxtTooLong, bounding, instructions_of}
use Rattle.task_source.specs.Built.{Built, built}
use Rattle.task_source.specs.Source.{SourceIs, SourceGives, Sound, BadByte, Syntax, Rule, source}

abbrev bound_it : List ℕ → Task → Stage Built
bound_it file t = in_turn (bounding file t) (λ maxt. giving (record { task = t; maxt = maxt }))

-- what is kept from stage to stage is kept by all of a source's
kept_source : (R : Held → Held → Type 0) (file : List ℕ) → IsKept R → Within R (source file)
kept_source R file kept = within_turn R (reading file 65536) (λ bytes. judging (SourceGives file bytes)) kept (within_reading R file 65536 kept) (λ bytes. within_judging R (SourceGives file bytes) kept)

kept_bound : (R : Held → Held → Type 0) (file : List ℕ) (t : Task) → IsKept R → Within R (bound_it file t)
kept_bound R file t kept = within_turn R (bounding file t) (λ maxt. giving (record { task = t; maxt = maxt })) kept (within_judging R (BoundGives file t) kept) (λ maxt. within_giving R (record { task = t; maxt = maxt }) kept)

pub kept_built : (R : Held → Held → Type 0) (file : List ℕ) → IsKept R → Within R (built file)
kept_built R file kept = within_turn R (source file) (bound_it file) kept (kept_source R file kept) (λ t. kept_bound R file t kept)

-- a source refuses by its file's read, by its length, and by a fault
pub refuses_built : (P : Refusal → Type 0) (file : List ℕ) → P (refusal.ReadFault (Some file)) → P (refusal.TooLong (Some file)) → ((f : Fault) → P (refusal.Fault f)) → Refuses P (built file)
refuses_built P file missing long fails =
    refuses_turn P (source file) (bound_it file)
    (refuses_turn P (reading file 65536) (λ bytes. judging (SourceGives file bytes)) (refuses_reading P file 65536 missing long) (λ bytes b n r e meant is. by bytes r e meant.1 is))
    (λ t. refuses_turn P (bounding file t) (λ maxt. giving (record { task = t; maxt = maxt })) (λ b n r e meant is. bound t r e meant.1 is) (λ maxt. refuses_giving P (record { task = t; maxt = maxt })))
  where
    by : (bytes : List ℕ) (r : Result Task Refusal) (e : Refusal) → SourceGives file bytes r → r ≡ Err e → P e
    by bytes r e (Sound t ok text) is = refuses_none P t r e ok is
    by bytes r e (BadByte at refused bad) is = refuses_one P (refusal.Fault (fault.BadByte file at)) r e (fails (fault.BadByte file at)) refused is
    by bytes r e (Syntax ts n refused tokens dies) is = refuses_one P (refusal.Fault (fault.Syntax file n)) r e (fails (fault.Syntax file n)) refused is
    by bytes r e (Rule ts tree span kind refused spelled broken) is = refuses_one P (refusal.Fault (fault.Rule file span kind)) r e (fails (fault.Rule file span kind)) refused is

    bound : (t : Task) (r : Result ℕ Refusal) (e : Refusal) → BoundGives file t r → r ≡ Err e → P e
    bound t r e (Bound maxt ok short greatest low) is = refuses_none P maxt r e ok is
    bound t r e (CodeTooLong refused long) is = refuses_one P (refusal.Fault (fault.CodeTooLong file (instructions_of t))) r e (fails (fault.CodeTooLong file (instructions_of t))) refused is
    bound t r e (NoPath refused short nothing) is = refuses_one P (refusal.Fault (fault.NoPath file)) r e (fails (fault.NoPath file)) refused is
    bound t r e (MaxtTooLong n refused short run far) is = refuses_one P (refusal.Fault (fault.MaxtTooLong file)) r e (fails (fault.MaxtTooLong file)) refused is

-- a source whose file isn't there
pub missing_built : (file : List ℕ) (b : Held) → IsMissing b.files file → AlwaysRefuses b (refusal.ReadFault (Some file)) (built file)
missing_built file b missing =
    refused_turn b (refusal.ReadFault (Some file)) (source file) (bound_it file)
    (refused_turn b (refusal.ReadFault (Some file)) (reading file 65536) (λ bytes. judging (SourceGives file bytes)) (missing_reading file 65536 b missing))

-- what a source gave
pub record WasBuilt (b n : Held) (file : List ℕ) (it : Built) : Type 0 where
  pub stays : n ≡ b
  pub bytes : List ℕ
  pub file_is : FileIs b.files file bytes
  pub short : length bytes ≤ 65536
  pub source_is : SourceIs bytes it.task
  pub bound : IsBound it.task it.maxt

source_by : (file bytes : List ℕ) (t : Task) → SourceGives file bytes (Ok t) → SourceIs bytes t
source_by file bytes t (Sound u ok text) = subst (λ (v : Task). SourceIs bytes v) (sym (ok_once Task t u ok)) text
source_by file bytes t (BadByte at refused bad) = not_err t (refusal.Fault (fault.BadByte file at)) (sym refused)
source_by file bytes t (Syntax ts n refused tokens dies) = not_err t (refusal.Fault (fault.Syntax file n)) (sym refused)
source_by file bytes t (Rule ts tree span kind refused spelled broken) = not_err t (refusal.Fault (fault.Rule file span kind)) (sym refused)

bound_by : (file : List ℕ) (t : Task) (maxt : ℕ) → BoundGives file t (Ok maxt) → IsBound t maxt
bound_by file t maxt (Bound m ok short is low) = subst (λ (n : ℕ). IsBound t n) (sym (ok_once ℕ maxt m ok)) is
bound_by file t maxt (CodeTooLong refused long) = not_err maxt (refusal.Fault (fault.CodeTooLong file (instructions_of t))) (sym refused)
bound_by file t maxt (NoPath refused short nothing) = not_err maxt (refusal.Fault (fault.NoPath file)) (sym refused)
bound_by file t maxt (MaxtTooLong n refused short run far) = not_err maxt (refusal.Fault (fault.MaxtTooLong file)) (sym refused)

pub was_built : (file : List ℕ) (b n : Held) (it : Built) → (built file).meant b n (Ok it) → WasBuilt b n file it
was_built file b n it meant =
    let one = both_gave (source file) (bound_it file) meant in
    let t = one.0 in
    let two = both_gave (reading file 65536) (λ bytes. judging (SourceGives file bytes)) one.2 in
    let three = both_gave (bounding file t) (λ maxt. giving (record { task = t; maxt = maxt })) one.3 in
    let read = was_read file 65536 b two.1 two.0 two.2 in
    let is : it ≡ record { task = t; maxt = three.0 } = ok_once Built it (record { task = t; maxt = three.0 }) three.3.1 in
    record {
      stays = three.3.0 ∙ (three.2.0 ∙ (two.3.0 ∙ read.stays));
      bytes = two.0;
      file_is = read.file;
      short = read.short;
      source_is = subst (λ (x : Built). SourceIs two.0 x.task) (sym is) (source_by file two.0 t two.3.1);
      bound = subst (λ (x : Built). IsBound x.task x.maxt) (sym is) (bound_by file t three.0 three.2.1);
    }

-- a source is sound as a stage
pub passes_built : (file : List ℕ) → Passes (built file)
passes_built file = passes_turn (source file) (bound_it file)
    (passes_turn (reading file 65536) (λ bytes. judging (SourceGives file bytes)) (passes_reading file 65536) (λ bytes. passes_judging (SourceGives file bytes) (gives_once file bytes)))
    (λ t. passes_turn (bounding file t) (λ maxt. giving (record { task = t; maxt = maxt })) (passes_judging (BoundGives file t) (bound_once file t)) (λ maxt. passes_giving (record { task = t; maxt = maxt })))
