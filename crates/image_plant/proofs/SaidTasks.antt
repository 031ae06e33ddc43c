-- A plant's tasks and their fields say one another.
use Rattle.std.proofs.Common.{◌≡◌, ℕ, List, [], ◌∷◌, length, map, refl, sym, ◌∙◌, ap, arith}
use Rattle.graph.specs.declared.net.NetTask.{NetTask}
use Rattle.word_code.specs.declared.code.Code.{Code}
use Rattle.image_tasks.specs.declared.parts.TaskPart.{TaskPart}
use Rattle.image_sides.specs.Sides.{net_task, code_of, maxt_of}
use Rattle.image_plant.specs.Fields.{task_parts}
use Rattle.image_plant.specs.Image.{task_ins, task_outs, in_cells, out_cells}

-- the tasks' fields from what they say
pub tasks_back : (ps : List TaskPart) → task_parts (map net_task ps) (map maxt_of ps) (map code_of ps) ≡ ps
tasks_back [] = refl
tasks_back (p ∷ ps) = ap (λ (xs : List TaskPart). p ∷ xs) (tasks_back ps)

-- the fields of so many tasks say the tasks, the bounds and the codes
pub record SayTasks (ts : List NetTask) (ms : List ℕ) (cs : List Code) : Type 0 where
  pub tasks : map net_task (task_parts ts ms cs) ≡ ts
  pub maxts : map maxt_of (task_parts ts ms cs) ≡ ms
  pub codes : map code_of (task_parts ts ms cs) ≡ cs
  pub size : length (task_parts ts ms cs) ≡ length ts

abbrev first : List (List ℕ) → List ℕ
first [] = []
first (x ∷ xs) = x

abbrev others : List (List ℕ) → List (List ℕ)
others [] = []
others (x ∷ xs) = xs

abbrev with_ports : NetTask → List ℕ → List ℕ → NetTask
with_ports t ins outs = record { name = t.name; transaction = t.transaction; units = t.units; ins = ins; outs = outs }

same_task : (t : NetTask) (ins outs : List ℕ) → t.ins ≡ ins → t.outs ≡ outs → with_ports t ins outs ≡ t
same_task t ins outs a b = ap (λ (x : List ℕ). with_ports t x outs) (sym a) ∙ ap (λ (x : List ℕ). with_ports t t.ins x) (sym b)

pub say_tasks : (ts : List NetTask) (ms : List ℕ) (cs : List Code) → length ms ≡ length ts → length cs ≡ length ts
    → map task_ins ts ≡ map in_cells cs → map task_outs ts ≡ map out_cells cs → SayTasks ts ms cs
say_tasks [] [] [] a b ins outs = record { tasks = refl; maxts = refl; codes = refl; size = refl }
say_tasks [] [] (c ∷ cs) a b ins outs = absurd (omega (arith, b))
say_tasks [] (m ∷ ms) cs a b ins outs = absurd (omega (arith, a))
say_tasks (t ∷ ts) [] cs a b ins outs = absurd (omega (arith, a))
say_tasks (t ∷ ts) (m ∷ ms) [] a b ins outs = absurd (omega (arith, b))
say_tasks (t ∷ ts) (m ∷ ms) (c ∷ cs) a b ins outs =
    let rest = say_tasks ts ms cs (omega (arith, a)) (omega (arith, b)) (ap others ins) (ap others outs) in
    record {
      tasks = ap (λ (x : NetTask). x ∷ map net_task (task_parts ts ms cs)) (same_task t (in_cells c) (out_cells c) (ap first ins) (ap first outs)) ∙ ap (λ (xs : List NetTask). t ∷ xs) rest.tasks;
      maxts = ap (λ (xs : List ℕ). m ∷ xs) rest.maxts;
      codes = ap (λ (xs : List Code). c ∷ xs) rest.codes;
      size = omega (arith, rest.size);
    }
