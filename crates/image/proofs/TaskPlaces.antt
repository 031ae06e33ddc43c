-- The fields of the tasks, one place after another.
use Rattle.std.proofs.Common.{◌≡◌, ℕ, zero, suc, ◌+◌, ◌<◌, ◌≤◌, List, [], ◌∷◌, ◌++◌, All, length, take, get_or, Result, Ok, Err, ◌%◌, refl, sym, ◌∙◌, ap, subst, append_assoc, arith}
use Rattle.std.specs.Prelude.{OnOk}
use Rattle.std.specs.List.{flat_map}
use Rattle.std.proofs.lemmas.List.{append-nil, take_all, take_more}
use Rattle.std.proofs.lemmas.List.Concat.{flat_map-append, flat_map-cons}
use Rattle.graph.specs.declared.net.NetTask.{NetTask}
use Rattle.word_code.specs.declared.code.Code.{Code}
use Rattle.image_tasks.specs.declared.parts.TaskPart.{TaskPart}
use Rattle.image_tasks.specs.Task.{task}
use Rattle.image_plant.specs.Fields.{task_parts}
use Rattle.image.specs.Helpers.{part_in}

-- as many as tasks, where each has a bound and code
pub length-task_parts : (ts : List NetTask) (ms : List ℕ) (cs : List Code) → length ms ≡ length ts → length cs ≡ length ts → length (task_parts ts ms cs) ≡ length ts
length-task_parts [] ms cs a b = refl
length-task_parts (t ∷ ts) [] cs a b = absurd (omega (arith, a))
length-task_parts (t ∷ ts) (m ∷ ms) [] a b = absurd (omega (arith, b))
length-task_parts (t ∷ ts) (m ∷ ms) (c ∷ cs) a b = omega (arith, length-task_parts ts ms cs (omega (arith, a)) (omega (arith, b)))

-- the fields of the task at a place are made of what stands there
pub part_at : (ts : List NetTask) (ms : List ℕ) (cs : List Code) (i : ℕ) (d : TaskPart) → length ms ≡ length ts → length cs ≡ length ts → i < length ts → get_or (task_parts ts ms cs) i d ≡ part_in ts ms cs i
part_at [] ms cs i d a b low = absurd (omega (arith, low))
part_at (x ∷ ts) [] cs i d a b low = absurd (omega (arith, a))
part_at (x ∷ ts) (y ∷ ms) [] i d a b low = absurd (omega (arith, b))
part_at (x ∷ ts) (y ∷ ms) (z ∷ cs) zero d a b low = refl
part_at (x ∷ ts) (y ∷ ms) (z ∷ cs) (suc i) d a b low = part_at ts ms cs i d (omega (arith, a)) (omega (arith, b)) (omega (arith, low))

-- each of them fits where all do
pub part_fits : (ts : List NetTask) (ms : List ℕ) (cs : List Code) (i : ℕ) → length ms ≡ length ts → length cs ≡ length ts → i < length ts → All task.fits (task_parts ts ms cs) → task.fits (part_in ts ms cs i)
part_fits ts ms cs i a b low all =
    subst task.fits (part_at ts ms cs i (part_in ts ms cs i) a b low) (all i (part_in ts ms cs i) (omega (arith, low, length-task_parts ts ms cs a b)))

-- the bytes of one task more
pub one_more : (ts : List NetTask) (ms : List ℕ) (cs : List Code) (i : ℕ) → length ms ≡ length ts → length cs ≡ length ts → i < length ts
    → (old now new : List ℕ) → now ≡ old ++ flat_map task.writes (take i (task_parts ts ms cs)) → new ≡ now ++ task.writes (part_in ts ms cs i)
    → new ≡ old ++ flat_map task.writes (take (i + 1) (task_parts ts ms cs))
one_more ts ms cs i a b low old now new before more =
    let parts = task_parts ts ms cs in
    let it = part_in ts ms cs i in
    let inside : i < length parts = omega (arith, low, length-task_parts ts ms cs a b) in
    let step : take (i + 1) parts ≡ take i parts ++ it ∷ [] = take_more parts i it inside ∙ ap (λ (p : TaskPart). take i parts ++ p ∷ []) (part_at ts ms cs i it a b low) in
    let bytes : flat_map task.writes (take (i + 1) parts) ≡ flat_map task.writes (take i parts) ++ task.writes it =
    ap (flat_map task.writes) step ∙ flat_map-append task.writes (take i parts) (it ∷ []) ∙ ap (λ (xs : List ℕ). flat_map task.writes (take i parts) ++ xs) (flat_map-cons task.writes it [] ∙ append-nil (task.writes it)) in
    more ∙ ap (λ (xs : List ℕ). xs ++ task.writes it) before ∙ append_assoc old (flat_map task.writes (take i parts)) (task.writes it) ∙ ap (λ (xs : List ℕ). old ++ xs) (sym bytes)

-- the bytes of all
pub all_put : (ts : List NetTask) (ms : List ℕ) (cs : List Code) (i : ℕ) → length ms ≡ length ts → length cs ≡ length ts → length ts ≤ i → (old now : List ℕ) → now ≡ old ++ flat_map task.writes (take i (task_parts ts ms cs)) → now ≡ old ++ flat_map task.writes (task_parts ts ms cs)
all_put ts ms cs i a b high old now before =
    before ∙ ap (λ (xs : List TaskPart). old ++ flat_map task.writes xs) (take_all i (task_parts ts ms cs) (omega (arith, high, length-task_parts ts ms cs a b)))

-- the count, and then the bytes of all
pub list_put : {E : Type 0} (ts : List NetTask) (ms : List ℕ) (cs : List Code) → length ms ≡ length ts → length cs ≡ length ts → (r : Result (Unit {0}) E) → (old mid new : List ℕ) (b : ℕ) → mid ≡ old ++ (b ∷ []) → b ≡ length ts % 256
    → OnOk r (new ≡ mid ++ flat_map task.writes (task_parts ts ms cs)) → OnOk r (new ≡ old ++ (length (task_parts ts ms cs) % 256 ∷ flat_map task.writes (task_parts ts ms cs)))
list_put ts ms cs a c (Err e) old mid new b front count put = tt
list_put ts ms cs a c (Ok u) old mid new b front count put =
    let parts = flat_map task.writes (task_parts ts ms cs) in
    let same : b ≡ length (task_parts ts ms cs) % 256 = count ∙ ap (λ n. n % 256) (sym (length-task_parts ts ms cs a c)) in
    put ∙ ap (λ (xs : List ℕ). xs ++ parts) front ∙ append_assoc old (b ∷ []) parts ∙ ap (λ (n : ℕ). old ++ (n ∷ parts)) same
