-- The calls that read the tasks do their stages.
use Rattle.std.proofs.Common.{◌≡◌, inl, inr, ◌<◌, ◌+◌, ◌∷◌, [], ◌++◌, ℕ, List, length, map, drop, get_or, add-one, refl, sym, ap, ◌∙◌, subst, Result, Ok, Err}
use Rattle.std.proofs.Math.Seq.{drop-cons}
use Rattle.std.proofs.lemmas.List.{map-append}
use Rattle.project_reader.specs.declared.project.TaskEntry.{TaskEntry}
use Rattle.project_tasks.specs.Entries.{entry}
use Rattle.refusals.specs.Causes.{Counts}
use Rattle.refusals.specs.declared.refusal.Refusal.{Refusal}
use Rattle.refusals.specs.declared.refusal.Refusal.TheVariants as refusal
use Rattle.stages.specs.Stage.{Stage, Does, judging}
use Rattle.stages.specs.World.{Held}
use Rattle.stages.proofs.Turns.{stopped, went, judged}
use Rattle.task_source.specs.Built.{Built, built, plain_built}
use Rattle.task_source.specs.declared.built.BuiltTask.{BuiltTask}

-- the tasks with one more behind
abbrev pub with_one : List Built → Built → List Built
with_one done it = done ++ (it ∷ [])

abbrev keeping : List Built → Built → Stage (List Built)
keeping done it = judging (λ r. r ≡ Ok (done ++ (it ∷ [])))

-- the file of the task was refused
pub entry_refused : (done : List Built) (task : TaskEntry) (file : List ℕ) {b n : Held} {c d : Counts} {e : Refusal} → file ≡ task.file → Does (built file) b n c d (Err e) → Does (entry done task) b n c d (Err e)
entry_refused done task file {b} {n} {c} {d} {e} is does = stopped (built task.file) (keeping done) (subst (λ (f : List ℕ). Does (built f) b n c d (Err e)) is does)

-- the task was read, and kept or not
pub entry_read : (done : List Built) (task : TaskEntry) (file : List ℕ) (it : Built) (r : Result (List Built) Refusal) {b n : Held} {c d : Counts} → file ≡ task.file → Does (built file) b n c d (Ok it)
    → (r ≡ Ok (with_one done it)) → Does (entry done task) b n c d r
entry_read done task file it r {b} {n} {c} {d} is does kept =
    went (built task.file) (keeping done) (subst (λ (f : List ℕ). Does (built f) b n c d (Ok it)) is does) (judged (λ s. s ≡ Ok (done ++ (it ∷ []))) n d r (inl kept))

pub entry_lost : (done : List Built) (task : TaskEntry) (file : List ℕ) (it : Built) {b n : Held} {c d : Counts} → file ≡ task.file → Does (built file) b n c d (Ok it) → Does (entry done task) b n c d (Err refusal.Memory)
entry_lost done task file it {b} {n} {c} {d} is does =
    went (built task.file) (keeping done) (subst (λ (f : List ℕ). Does (built f) b n c d (Ok it)) is does) (judged (λ s. s ≡ Ok (done ++ (it ∷ []))) n d (Err refusal.Memory) (inr refl))

-- the plain form of tasks with one more behind
pub one_more : (before after : List BuiltTask) (it : BuiltTask) → after ≡ before ++ (it ∷ []) → map plain_built after ≡ with_one (map plain_built before) (plain_built it)
one_more before after it is = ap (map plain_built) is ∙ map-append plain_built before (it ∷ [])

-- the entries that are left at a place
pub left_here : (tasks : List TaskEntry) (i : ℕ) (task : TaskEntry) → i < length tasks → task ≡ get_or tasks i task → drop i tasks ≡ task ∷ drop (i + 1) tasks
left_here tasks i task lt is =
    drop-cons tasks i task lt ∙ (ap (λ n. get_or tasks i task ∷ drop n tasks) (sym (add-one i)) ∙ ap (λ (t : TaskEntry). t ∷ drop (i + 1) tasks) (sym is))
