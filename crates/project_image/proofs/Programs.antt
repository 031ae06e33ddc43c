-- The codes of tasks, taken one after another.
use Rattle.std.proofs.Common.{◌≡◌, suc, List, [], ◌∷◌, ◌++◌, map, Some, refl, sym, ap, ap₂, ◌∙◌, append-nil, arith}
use Rattle.std.specs.Prelude.{All, slice_get, remove}
use Rattle.project_plant.specs.Planned.{code_in}
use Rattle.project_tasks.specs.Entries.{IsRead}
use Rattle.task_source.specs.Built.{plain_built}
use Rattle.task_source.specs.declared.built.BuiltTask.{BuiltTask}
use Rattle.word_code.specs.declared.code.Code.{Code}

abbrev pub code_at : BuiltTask → Code
code_at b = b.code

-- the first task is taken
pub first_taken : (tasks rest : List BuiltTask) (task : BuiltTask) → slice_get tasks 0 ≡ Some task → rest ≡ remove tasks 0 → tasks ≡ task ∷ rest
first_taken [] rest task is left = absurd (cc)
first_taken (t ∷ tasks) rest task is left = let same : t ≡ task = cc in ap₂ (λ (x : BuiltTask) (xs : List BuiltTask). x ∷ xs) same (sym left)

-- the codes are those of the tasks as they were read
pub codes_read : (tasks : List BuiltTask) → All IsRead tasks → map code_at tasks ≡ map code_in (map plain_built tasks)
codes_read [] all = refl
codes_read (t ∷ tasks) all = ap₂ (λ (c : Code) (cs : List Code). c ∷ cs) (all 0 t (omega arith)).built.is_code (codes_read tasks (λ i e le. all (suc i) e (omega (arith, le))))

-- all of them were taken
pub all_taken : (programs : List Code) (left tasks : List BuiltTask) → left ≡ [] → programs ++ map code_at left ≡ map code_at tasks → All IsRead tasks → programs ≡ map code_in (map plain_built tasks)
all_taken programs left tasks none taken read = sym (append-nil programs) ∙ (ap (λ (xs : List BuiltTask). programs ++ map code_at xs) (sym none) ∙ (taken ∙ codes_read tasks read))
