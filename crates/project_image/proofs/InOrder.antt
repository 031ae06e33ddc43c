-- The plant of whole parts is in order, and its codes have its ports and its state words.
use Rattle.std.proofs.Common.{◌≡◌, ◌≤◌, ℕ, zero, suc, List, [], ◌∷◌, length, map, refl, sym, ap, ap₂, ◌∙◌, arith}
use Rattle.std.specs.Prelude.{All}
use Rattle.std.proofs.lemmas.List.{length-map}
use Rattle.graph.specs.JobGraph.{JobGraph}
use Rattle.graph.specs.declared.net.Net.{Net}
use Rattle.graph.specs.declared.net.NetTask.{NetTask}
use Rattle.image_plant.specs.Image.{HasPorts, in_cells, out_cells}
use Rattle.image_sides.specs.Sides as sides
use Rattle.mc_compile.proofs.Tasks.{has_widths}
use Rattle.mc_compile.specs.Widths.{HasWidths}
use Rattle.mc_fold.proofs.Within.{task_folded}
use Rattle.mc_fold.specs.Folded.{folded_task}
use Rattle.mc_tree.specs.CheckedTask.{IsCheckedTask}
use Rattle.mc_tree.specs.Instance.{is_in, is_out}
use Rattle.mc_tree.specs.Plain.{plain_task}
use Rattle.mc_tree.specs.declared.tree.Task.{Task}
use Rattle.plant.specs.InOrder.{IsInOrder, IsMaxt}
use Rattle.project_image.proofs.Cells.{code_ins, code_outs}
use Rattle.project_plant.specs.Planned.{task_in, maxt_in, code_in, states_in, plant_in, IsRunnable, IsWhole}
use Rattle.project_source.specs.Project.{widths_of}
use Rattle.tables.specs.declared.table.Tables.{Tables}
use Rattle.task_source.specs.Bound.{code_of, IsBound}
use Rattle.task_source.specs.Built.{Built}
use Rattle.word_code.proofs.Exec.{cost_some}
use Rattle.word_code.specs.Free.{Control, FreeFrom, stops, moves}
use Rattle.word_code.specs.declared.code.Slot.{Slot}

-- a free run takes a cycle
some_cycle : (instrs : List Slot) (c : Control) (n : ℕ) → FreeFrom instrs c n → 1 ≤ n
some_cycle instrs c n (stops e) = omega arith
some_cycle instrs c n (moves i e f r) = omega (arith, cost_some i)

-- so does the bound of a task
bound_some : (t : Task) (maxt : ℕ) → IsBound t maxt → 1 ≤ maxt
bound_some t maxt bound = some_cycle (code_of t).instrs _ maxt bound.reached

-- the state words of a task are those of its code, and at most 4,096
widths : (t : Task) → IsCheckedTask t → HasWidths (plain_task (folded_task t)) (code_of t)
widths t checked = has_widths (plain_task (folded_task t)) (task_folded t checked).tree

maxts_fit : (bs : List Built) → All IsRunnable bs → All IsMaxt (map maxt_in bs)
maxts_fit [] all k d lt = absurd (let x : ⊥ = omega arith in x)
maxts_fit (b ∷ bs) all zero d lt = let r = all 0 b (omega arith) in (bound_some b.task b.maxt r.bound, r.low)
maxts_fit (b ∷ bs) all (suc k) d lt = maxts_fit bs (λ i e le. all (suc i) e (omega (arith, le))) k d (omega (arith, lt))

states_fit : (bs : List Built) → All IsRunnable bs → All (λ words. words ≤ 4096) (map states_in bs)
states_fit [] all k d lt = absurd (let x : ⊥ = omega arith in x)
states_fit (b ∷ bs) all zero d lt = (widths b.task (all 0 b (omega arith)).checked).most
states_fit (b ∷ bs) all (suc k) d lt = states_fit bs (λ i e le. all (suc i) e (omega (arith, le))) k d (omega (arith, lt))

-- as many words as the code's state cells have
pub states_same : (bs : List Built) → All IsRunnable bs → map states_in bs ≡ map sides.state_words (map code_in bs)
states_same [] all = refl
states_same (b ∷ bs) all =
    ap₂ (λ (w : ℕ) (ws : List ℕ). w ∷ ws) (sym (widths b.task (all 0 b (omega arith)).checked).states) (states_same bs (λ i e le. all (suc i) e (omega (arith, le))))

-- the widths of the ports are those of the code's cells
ins_same : (bs : List Built) → map (widths_of is_in) (map task_in bs) ≡ map in_cells (map code_in bs)
ins_same [] = refl
ins_same (b ∷ bs) = ap₂ (λ (ws : List ℕ) (all : List (List ℕ)). ws ∷ all) (code_ins b.task) (ins_same bs)

outs_same : (bs : List Built) → map (widths_of is_out) (map task_in bs) ≡ map out_cells (map code_in bs)
outs_same [] = refl
outs_same (b ∷ bs) = ap₂ (λ (ws : List ℕ) (all : List (List ℕ)). ws ∷ all) (code_outs b.task) (outs_same bs)

module _ (net : Net) (graph : JobGraph) (tables : Tables) (built : List Built) (whole : IsWhole net graph tables built) where
  as_many : length built ≡ length net.tasks
  as_many =
      sym (length-map built task_in) ∙ (sym (length-map (map task_in built) (widths_of is_in)) ∙ (ap length (sym whole.ins) ∙ length-map net.tasks (λ (t : NetTask). t.ins)))

  pub whole_in_order : IsInOrder (plant_in net graph tables built)
  whole_in_order = record {
    sound = record { rules = whole.is_graph.rules; cycle = graph.cycle; limits = whole.is_graph.graph.limits };
    graph = whole.is_graph;
    tables = whole.are_valid;
    programs = length-map built code_in ∙ as_many;
    maxts = length-map built maxt_in ∙ as_many;
    states = length-map built states_in ∙ as_many;
    each_maxt = maxts_fit built whole.runnable;
    each_state = states_fit built whole.runnable;
  }

  pub whole_ports : HasPorts (plant_in net graph tables built)
  whole_ports = record {
    ins = whole.ins ∙ ins_same built;
    outs = whole.outs ∙ outs_same built;
    states = states_same built whole.runnable;
  }
