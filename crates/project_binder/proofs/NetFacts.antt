-- What the tasks of a project's net are.
use Rattle.std.proofs.Common.{◌≡◌, ℕ, zero, suc, ◌+◌, ◌<◌, ◌≤◌, inl, inr, List, [], ◌∷◌, ◌++◌, length, map, take, Some, None, refl, sym, ◌∙◌, ap, arith}
use Rattle.std.specs.Prelude.{slice_get, All}
use Rattle.std.proofs.lemmas.List.{length-map}
use Rattle.std.proofs.lemmas.Option.{slice_get_cases}
use Rattle.mars_base.specs.declared.shape.Port.{Port}
use Rattle.graph.specs.declared.net.Net.{Net}
use Rattle.graph.specs.declared.net.NetTask.{NetTask}
use Rattle.graph.specs.Net.{ins_of, transaction_of, task_ins, task_transaction}
use Rattle.graph.proofs.Entries.{All_at}
use Rattle.project_reader.specs.declared.project.Project.{Project}
use Rattle.project_reader.specs.declared.project.TaskEntry.{TaskEntry}
use Rattle.project_rules.specs.Kept.{transaction_at, entry_transaction}
use Rattle.task_ports.specs.declared.ports.TaskPorts.{TaskPorts}
use Rattle.task_ports.specs.Ports.{IsTaskPorts}
use Rattle.project_binder.specs.NetOf.{widths_of, net_task, net_tasks, net_of}
use Rattle.port_feeds.specs.Placed.{HasFewPorts}

-- a task of the net is made from the task and the ports of its number
pub record IsMade (ts : List TaskEntry) (ps : List TaskPorts) (i : ℕ) (n : NetTask) : Type 0 where
  pub task : TaskEntry
  pub ports : TaskPorts
  pub task_is : slice_get ts i ≡ Some task
  pub ports_are : slice_get ps i ≡ Some ports
  pub made : n ≡ net_task task ports

pub made_at : (ts : List TaskEntry) (ps : List TaskPorts) (i : ℕ) (n : NetTask) → slice_get (net_tasks ts ps) i ≡ Some n → IsMade ts ps i n
made_at [] ps i n e = let h : None ≡ Some n = e in cc
made_at (t ∷ ts) [] i n e = let h : None ≡ Some n = e in cc
made_at (t ∷ ts) (p ∷ ps) zero n e = let h : Some (net_task t p) ≡ Some n = e in let is : net_task t p ≡ n = cc in record { task = t; ports = p; task_is = refl; ports_are = refl; made = sym is }
made_at (t ∷ ts) (p ∷ ps) (suc i) n e = let m = made_at ts ps i n e in record { task = m.task; ports = m.ports; task_is = m.task_is; ports_are = m.ports_are; made = m.made }

pub tasks_many : (ts : List TaskEntry) (ps : List TaskPorts) → length ps ≡ length ts → length (net_tasks ts ps) ≡ length ts
tasks_many [] ps e = refl
tasks_many (t ∷ ts) [] e = absurd (omega (arith, e))
tasks_many (t ∷ ts) (p ∷ ps) e = ap suc (tasks_many ts ps (omega (arith, e)))

pub task_names : (ts : List TaskEntry) (ps : List TaskPorts) → length ps ≡ length ts → map (λ (n : NetTask). n.name) (net_tasks ts ps) ≡ map (λ (t : TaskEntry). t.name) ts
task_names [] ps e = refl
task_names (t ∷ ts) [] e = absurd (omega (arith, e))
task_names (t ∷ ts) (p ∷ ps) e = ap (λ (l : List (List ℕ)). t.name ∷ l) (task_names ts ps (omega (arith, e)))

-- the task of the net with a number
pub at_number : (ts : List TaskEntry) (ps : List TaskPorts) (i : ℕ) (t : TaskEntry) (p : TaskPorts) → slice_get ts i ≡ Some t → slice_get ps i ≡ Some p → slice_get (net_tasks ts ps) i ≡ Some (net_task t p)
at_number [] ps i t p e f = let h : None ≡ Some t = e in cc
at_number (u ∷ ts) [] i t p e f = let h : None ≡ Some p = f in cc
at_number (u ∷ ts) (q ∷ ps) zero t p e f = let a : u ≡ t = cc in let b : q ≡ p = cc in ap (λ (x : TaskEntry). Some (net_task x q)) a ∙ ap (λ (x : TaskPorts). Some (net_task t x)) b
at_number (u ∷ ts) (q ∷ ps) (suc i) t p e f = at_number ts ps i t p e f

-- one task more
pub tasks_more : (ts : List TaskEntry) (ps : List TaskPorts) (i : ℕ) (t : TaskEntry) (p : TaskPorts) → slice_get ts i ≡ Some t → slice_get ps i ≡ Some p
    → net_tasks (take (i + 1) ts) (take (i + 1) ps) ≡ net_tasks (take i ts) (take i ps) ++ net_task t p ∷ []
tasks_more ts ps i t p e f = let s : i + 1 ≡ suc i = omega arith in ap (λ n. net_tasks (take n ts) (take n ps)) s ∙ up ts ps i e f
  where
    up : (ts : List TaskEntry) (ps : List TaskPorts) (i : ℕ) → slice_get ts i ≡ Some t → slice_get ps i ≡ Some p → net_tasks (take (suc i) ts) (take (suc i) ps) ≡ net_tasks (take i ts) (take i ps) ++ net_task t p ∷ []
    up [] ps i e f = let h : None ≡ Some t = e in cc
    up (u ∷ ts) [] i e f = let h : None ≡ Some p = f in cc
    up (u ∷ ts) (q ∷ ps) zero e f = let a : u ≡ t = cc in let b : q ≡ p = cc in ap (λ (x : TaskEntry). net_task x q ∷ []) a ∙ ap (λ (x : TaskPorts). net_task t x ∷ []) b
    up (u ∷ ts) (q ∷ ps) (suc i) e f = ap (λ (l : List NetTask). net_task u q ∷ l) (up ts ps i e f)

module _ (p : Project) (ports : List TaskPorts) (same : length ports ≡ length p.tasks) where
  abbrev net : Net
  net = net_of p ports

  -- a number of the project's tasks has a task and its ports
  pub both_at : (i : ℕ) → i < length p.tasks → (t : TaskEntry) × (q : TaskPorts) × (slice_get p.tasks i ≡ Some t) × (slice_get ports i ≡ Some q)
  both_at i lt = elim (slice_get_cases p.tasks i).1 [
    | inl w ↦ elim (slice_get_cases ports i).1 [
      | inl v ↦ (w.0, v.0, w.2, v.2)
      | inr v ↦ absurd (omega (arith, lt, same, v.0))
    ]
    | inr w ↦ absurd (omega (arith, lt, w.0))
  ]

  -- the net's transactions of tasks are the project's
  pub transaction_kept : (i : ℕ) → i < length p.tasks → transaction_of net i ≡ transaction_at p i
  transaction_kept i lt =
      let (t, q, at, there) = both_at i lt in
      ap task_transaction (at_number p.tasks ports i t q at there) ∙ sym (ap entry_transaction at)

  few_ins : All IsTaskPorts ports → (i : ℕ) → length (ins_of net i) ≤ 16
  few_ins all i = elim (slice_get_cases net.tasks i).1 [
    | inl w ↦
        let m = made_at p.tasks ports i w.0 w.2 in
        let is : ins_of net i ≡ widths_of m.ports.ins = ap task_ins w.2 ∙ ap (λ (n : NetTask). n.ins) m.made in
        let fine = All_at IsTaskPorts ports i m.ports all m.ports_are in
        omega (arith, ap length is, length-map m.ports.ins (λ (x : Port). x.width), fine.few)
    | inr w ↦ (let is : ins_of net i ≡ task_ins None = ap task_ins w.1 in omega (arith, ap length is))
  ]

  pub few_ports : length p.tasks ≤ 64 → All IsTaskPorts ports → HasFewPorts net
  few_ports few all = record { tasks = omega (arith, few, tasks_many p.tasks ports same); ports = few_ins all }
