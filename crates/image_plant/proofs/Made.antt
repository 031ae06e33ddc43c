-- The plant that fields say is in order, and has the ports of its codes.
use Rattle.std.proofs.Common.{◌≡◌, ℕ, ◌≤◌, true, List, [], ◌∷◌, ◌++◌, length, map, All, refl, sym, ◌∙◌, ap, subst}
use Rattle.std.specs.Prelude.{◌||◌, if◌then◌else◌}
use Rattle.std.proofs.lemmas.List.{length-map}
use Rattle.std.proofs.lemmas.List.Elements.{All-cons, All-head, All-map, All-nil, All-same, All-tail, All-weaker}
use Rattle.mars_base.specs.declared.word.Role.{Role}
use Rattle.mars_base.specs.declared.word.Role.TheVariants.{In, Out, State, Local}
use Rattle.graph.specs.declared.net.Net.{Net}
use Rattle.graph.specs.NetGraph.{IsNetGraphFor}
use Rattle.graph.specs.Rules.{IsTask, IsWidth}
use Rattle.graph.specs.Sound.{IsSound}
use Rattle.tables.specs.Valid.{AreValid}
use Rattle.word_code.specs.Cells.{is_in, is_out}
use Rattle.word_code.specs.Typing.{IsVerified}
use Rattle.word_code.specs.declared.code.CellShape.{CellShape}
use Rattle.word_code.specs.declared.code.Code.{Code}
use Rattle.plant.specs.declared.system.Plant.{Plant}
use Rattle.plant.specs.InOrder.{IsInOrder, IsMaxt}
use Rattle.plant.specs.Lengths.{lengths_of}
use Rattle.image_tasks.specs.declared.parts.TaskPart.{TaskPart}
use Rattle.image_fields.specs.declared.parts.Parts.{Parts}
use Rattle.image_fields.specs.Image.{image}
use Rattle.image_sides.specs.Sides.{widths_of, IsNarrow, net_task, code_of, maxt_of, state_words}
use Rattle.image_sides.proofs.Widths.{few_states}
use Rattle.image_plant.specs.Image.{HasPorts, task_ins, task_outs, in_cells, out_cells}
use Rattle.image_plant.specs.Said.{net_of, codes_of, maxts_of, IsSaid}
use Rattle.image_plant.proofs.Back.{All-unmap}
use Rattle.image_plant.proofs.Fitting.{each_maxt}

same_ins : (ps : List TaskPart) → map task_ins (map net_task ps) ≡ map in_cells (map code_of ps)
same_ins [] = refl
same_ins (p ∷ ps) = ap (λ (xs : List (List ℕ)). in_cells p.code ∷ xs) (same_ins ps)

same_outs : (ps : List TaskPart) → map task_outs (map net_task ps) ≡ map out_cells (map code_of ps)
same_outs [] = refl
same_outs (p ∷ ps) = ap (λ (xs : List (List ℕ)). out_cells p.code ∷ xs) (same_outs ps)

pub record IsMade (plant : Plant Code) : Type 0 where
  pub in_order : IsInOrder plant
  pub ports : HasPorts plant

pub made : (p : Parts) (plant : Plant Code) → IsSaid p plant → IsSound (net_of p) → All IsVerified (codes_of p) → image.fits p → AreValid plant.net plant.graph plant.tables → IsMade plant
made p plant said sound codes fits valid =
    let tasks : length plant.net.tasks ≡ length p.tasks = ap (λ (n : Net). length n.tasks) said.net ∙ length-map p.tasks net_task in
    let states : plant.states ≡ map state_words plant.programs = said.states ∙ ap (map state_words) (sym said.programs) in
    record {
      in_order = record {
        sound = subst IsSound (sym said.net) sound;
        graph = subst (λ (n : Net). IsNetGraphFor n (lengths_of plant.maxts n.shape.cycles_per_tick) plant.graph) (sym said.net)
            (subst (λ (ms : List ℕ). IsNetGraphFor (net_of p) (lengths_of ms p.shape.cycles_per_tick) plant.graph) (sym said.maxts) said.graph);
        tables = valid;
        programs = ap length said.programs ∙ length-map p.tasks code_of ∙ sym tasks;
        maxts = ap length said.maxts ∙ length-map p.tasks maxt_of ∙ sym tasks;
        states = ap length said.states ∙ length-map (codes_of p) state_words ∙ length-map p.tasks code_of ∙ sym tasks;
        each_maxt = All-same IsMaxt plant.maxts (maxts_of p) said.maxts (each_maxt p fits);
        each_state = All-same (λ words. words ≤ 4096) plant.states (map state_words (codes_of p)) said.states
            (All-map (λ words. words ≤ 4096) state_words (codes_of p) (All-weaker IsVerified (λ (c : Code). state_words c ≤ 4096) few_states (codes_of p) codes));
      };
      ports = record {
        ins = ap (λ (n : Net). map task_ins n.tasks) said.net ∙ same_ins p.tasks ∙ ap (map in_cells) (sym said.programs);
        outs = ap (λ (n : Net). map task_outs n.tasks) said.net ∙ same_outs p.tasks ∙ ap (map out_cells) (sym said.programs);
        states = states;
      };
    }

-- what a cell's place among the ports says of it
record FrontNarrow (role : Role) (n : ℕ) (ins outs : List ℕ) : Type 0 where
  narrow : (is_in role || is_out role) ≡ true → n ≤ 16
  ins_left : All IsWidth ins
  outs_left : All IsWidth outs

front : (role : Role) (n : ℕ) (ins outs : List ℕ) → All IsWidth ((if is_in role then n ∷ [] else []) ++ ins) → All IsWidth ((if is_out role then n ∷ [] else []) ++ outs) → FrontNarrow role n ins outs
front In n ins outs a b = record { narrow = λ _. (All-head IsWidth n ins a).1; ins_left = All-tail IsWidth n ins a; outs_left = b }
front Out n ins outs a b = record { narrow = λ _. (All-head IsWidth n outs b).1; ins_left = a; outs_left = All-tail IsWidth n outs b }
front State n ins outs a b = record { narrow = λ e. absurd cc; ins_left = a; outs_left = b }
front Local n ins outs a b = record { narrow = λ e. absurd cc; ins_left = a; outs_left = b }

narrow_cells : (cells : List CellShape) → All IsWidth (widths_of is_in cells) → All IsWidth (widths_of is_out cells) → IsNarrow cells
narrow_cells [] a b = All-nil (λ (cell : CellShape). (is_in cell.role || is_out cell.role) ≡ true → cell.width ≤ 16)
narrow_cells (c ∷ cells) a b =
    let f = front c.role c.width (widths_of is_in cells) (widths_of is_out cells) a b in
    All-cons (λ (cell : CellShape). (is_in cell.role || is_out cell.role) ≡ true → cell.width ≤ 16) c cells f.narrow (narrow_cells cells f.ins_left f.outs_left)

-- the tasks of a sound net have narrow cells
pub all_narrow : (p : Parts) → IsSound (net_of p) → All (λ (t : TaskPart). IsNarrow t.code.cells) p.tasks
all_narrow p sound =
    All-weaker (λ (t : TaskPart). IsTask (net_of p) (net_task t)) (λ (t : TaskPart). IsNarrow t.code.cells) (λ t is. narrow_cells t.code.cells is.in_widths is.out_widths) p.tasks
    (All-unmap (IsTask (net_of p)) net_task p.tasks sound.rules.entry_rules.entries.tasks)
