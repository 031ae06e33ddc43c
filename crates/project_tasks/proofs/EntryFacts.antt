-- What holds of every reading of a project's tasks.
use Rattle.std.proofs.Common.{◌≡◌, ◌⊎◌, inl, inr, ◌≤◌, ℕ, List, [], ◌∷◌, ◌++◌, length, arith, Some, Ok, Err, sym, ap, ◌∙◌, subst, append_assoc, append-nil}
use Rattle.project_reader.specs.declared.project.TaskEntry.{TaskEntry}
use Rattle.project_tasks.specs.Entries.{entry, entries, StandsIn, AreEntriesIn}
use Rattle.mc_reader.proofs.Spans.{few_tokens}
use Rattle.mc_rules.proofs.Whole.{checked}
use Rattle.mc_tree.proofs.SpelledSize.{task_spellable}
use Rattle.mc_tree.proofs.TokenFacts.{spans_in_order}
use Rattle.mc_tree.specs.CheckedTask.{IsCheckedTask}
use Rattle.mc_tree.specs.declared.tree.Task.{Task}
use Rattle.refusals.specs.Causes.{Counts, Caused}
use Rattle.refusals.specs.declared.fault.Fault.{Fault}
use Rattle.refusals.specs.declared.fault.Fault.TheVariants as fault
use Rattle.refusals.specs.declared.refusal.Refusal.{Refusal}
use Rattle.refusals.specs.declared.refusal.Refusal.TheVariants as refusal
use Rattle.stages.specs.Stage.{Stage, Does, in_turn, judging, giving, all}
use Rattle.stages.specs.World.{Held}
use Rattle.stages.proofs.EachFacts.{passes_all, within_all, refuses_all}
use Rattle.stages.proofs.Gives.{both_gave, ok_once}
use Rattle.stages.proofs.Relations.{Within, IsKept, Refuses, OneAnswer, Passes}
use Rattle.stages.proofs.SoundFacts.{passes_turn, passes_judging}
use Rattle.stages.proofs.Turns.{passes, not_err}
use Rattle.stages.proofs.WithinFacts.{within_turn, within_judging, refuses_turn, refuses_none}
use Rattle.task_source.specs.Bound.{BoundGives, Bound, CodeTooLong, NoPath, MaxtTooLong, bounding, instructions_of}
use Rattle.task_source.specs.Built.{Built, built}
use Rattle.task_source.specs.Source.{SourceIs, source}
use Rattle.task_source.proofs.BuiltFacts.{was_built, kept_built, refuses_built, passes_built}

abbrev keeping : List Built → Built → Stage (List Built)
keeping done it = judging (λ r. r ≡ Ok (done ++ (it ∷ [])))

is_one : (it : List Built) → OneAnswer (λ r. r ≡ Ok it)
is_one it r s one two = one ∙ sym two

passes_entry : (done : List Built) (task : TaskEntry) → Passes (entry done task)
passes_entry done task = passes_turn (built task.file) (keeping done) (passes_built task.file) (λ it. passes_judging (λ r. r ≡ Ok (done ++ (it ∷ []))) (is_one (done ++ (it ∷ []))))

-- the tasks are sound as a stage
pub passes_entries : (tasks : List TaskEntry) → Passes (entries tasks)
passes_entries tasks = passes_all entry [] tasks passes_entry

within_entry : (R : Held → Held → Type 0) (done : List Built) (task : TaskEntry) → IsKept R → Within R (entry done task)
within_entry R done task kept = within_turn R (built task.file) (keeping done) kept (kept_built R task.file kept) (λ it. within_judging R (λ r. r ≡ Ok (done ++ (it ∷ []))) kept)

-- what is kept from stage to stage is kept by all of them
pub kept_entries : (R : Held → Held → Type 0) (tasks : List TaskEntry) → IsKept R → Within R (entries tasks)
kept_entries R tasks kept = within_all R entry [] tasks kept (λ done task. within_entry R done task kept)

refuses_entry : (P : Refusal → Type 0) (done : List Built) (task : TaskEntry) → ((name : List ℕ) → P (refusal.ReadFault (Some name))) → ((name : List ℕ) → P (refusal.TooLong (Some name))) → ((f : Fault) → P (refusal.Fault f)) → Refuses P (entry done task)
refuses_entry P done task missing long fails =
    refuses_turn P (built task.file) (keeping done) (refuses_built P task.file (missing task.file) (long task.file) fails) (λ it b n r e meant is. refuses_none P (done ++ (it ∷ [])) r e meant.1 is)

-- the tasks refuse by a file's read, by its length, and by a fault
pub refuses_entries : (P : Refusal → Type 0) (tasks : List TaskEntry) → ((name : List ℕ) → P (refusal.ReadFault (Some name))) → ((name : List ℕ) → P (refusal.TooLong (Some name))) → ((f : Fault) → P (refusal.Fault f)) → Refuses P (entries tasks)
refuses_entries P tasks missing long fails = refuses_all P entry [] tasks (λ done task. refuses_entry P done task missing long fails)

-- what the tasks gave stands in the files, and nothing changed
pub record WereRead (b n : Held) (tasks : List TaskEntry) (done them : List Built) : Type 0 where
  pub stays : n ≡ b
  pub read : List Built
  pub joined : them ≡ done ++ read
  pub stand : AreEntriesIn b.files tasks read

-- a bound that was given is that of a code that isn't too long
limits_by : (file : List ℕ) (t : Task) (maxt : ℕ) → BoundGives file t (Ok maxt) → (instructions_of t ≤ 65535) × (maxt ≤ 2147483647)
limits_by file t maxt (Bound m ok short is low) = (short, subst (λ n. n ≤ 2147483647) (sym (ok_once ℕ maxt m ok)) low)
limits_by file t maxt (CodeTooLong refused long) = not_err maxt (refusal.Fault (fault.CodeTooLong file (instructions_of t))) (sym refused)
limits_by file t maxt (NoPath refused short nothing) = not_err maxt (refusal.Fault (fault.NoPath file)) (sym refused)
limits_by file t maxt (MaxtTooLong n refused short run far) = not_err maxt (refusal.Fault (fault.MaxtTooLong file)) (sym refused)

limits : (file : List ℕ) (b n : Held) (it : Built) → (built file).meant b n (Ok it) → (instructions_of it.task ≤ 65535) × (it.maxt ≤ 2147483647)
limits file b n it meant =
    let one = both_gave (source file) (λ t. in_turn (bounding file t) (λ maxt. giving (record { task = t; maxt = maxt }))) meant in
    let two = both_gave (bounding file one.0) (λ maxt. giving (record { task = one.0; maxt = maxt })) one.3 in
    let is : it ≡ record { task = one.0; maxt = two.0 } = ok_once Built it (record { task = one.0; maxt = two.0 }) two.3.1 in
    subst (λ (x : Built). (instructions_of x.task ≤ 65535) × (x.maxt ≤ 2147483647)) (sym is) (limits_by file one.0 two.0 two.2.1)

stands : (b n : Held) (file : List ℕ) (it : Built) → (built file).meant b n (Ok it) → StandsIn b.files file it
stands b n file it meant =
    let was = was_built file b n it meant in
    let most = limits file b n it meant in
    record { bytes = was.bytes; file_is = was.file_is; short = was.short; source_is = was.source_is; bound = was.bound; fits = most.0; low = most.1 }

pub were_read : (tasks : List TaskEntry) (done them : List Built) (b n : Held) → (all entry done tasks).meant b n (Ok them) → WereRead b n tasks done them
were_read [] done them b n meant = record { stays = meant.0; read = []; joined = ok_once (List Built) them done meant.1 ∙ sym (append-nil done); stand = tt }
were_read (task ∷ tasks) done them b n meant =
    let go = both_gave (entry done task) (λ more. all entry more tasks) meant in
    let one = both_gave (built task.file) (keeping done) go.2 in
    let was = was_built task.file b one.1 one.0 one.2 in
    let same : go.0 ≡ done ++ (one.0 ∷ []) = ok_once (List Built) go.0 (done ++ (one.0 ∷ [])) one.3.1 in
    let rest = were_read tasks go.0 them go.1 n go.3 in
    let here : go.1 ≡ b = one.3.0 ∙ was.stays in
    record {
      stays = rest.stays ∙ here;
      read = one.0 ∷ rest.read;
      joined = rest.joined ∙ (ap (λ (x : List Built). x ++ rest.read) same ∙ append_assoc done (one.0 ∷ []) rest.read);
      stand = (stands b one.1 task.file one.0 one.2, subst (λ (h : Held). AreEntriesIn h.files tasks rest.read) here rest.stand);
    }

-- the task of a source is checked
pub checked_source : (bytes : List ℕ) (t : Task) → length bytes ≤ 65536 → SourceIs bytes t → IsCheckedTask t
checked_source bytes t short is =
    let few = few_tokens 0 (length bytes) is.tokens (spans_in_order bytes is.spelled.0) in
    subst IsCheckedTask (sym is.checked) (checked is.tree (task_spellable bytes is.tokens is.tree (omega (arith, few, short)) is.spelled.1) is.sound)

-- so is a task that was read
pub read_checked : (file : List ℕ) (it : Built) {b n : Held} {c d : Counts} → Does (built file) b n c d (Ok it) → IsCheckedTask it.task
read_checked file it {b} {n} {c} {d} does = by does.how
  where
    by : (built file).meant b n (Ok it) ⊎ ((e : Refusal) × (passes Built it ≡ Err e) × (built file).cut b n e × Caused c d e) → IsCheckedTask it.task
    by (inl meant) = let was = was_built file b n it meant in checked_source was.bytes it.task was.short was.source_is
    by (inr cut) = not_err it cut.0 (sym cut.1)

-- what all the tasks of a project gave
pub entries_gave : (tasks : List TaskEntry) (them : List Built) (b n : Held) → (entries tasks).meant b n (Ok them) → (n ≡ b) × AreEntriesIn b.files tasks them
entries_gave tasks them b n meant =
    let was = were_read tasks [] them b n meant in
    (was.stays, subst (AreEntriesIn b.files tasks) (sym was.joined) was.stand)
