-- What planning a project gave.
use Rattle.std.proofs.Common.{◌≡◌, ℕ, List, map, Ok, sym, ap, ◌∙◌, subst}
use Rattle.graph.specs.declared.net.Net.{Net}
use Rattle.graph.specs.declared.net.NetTask.{NetTask}
use Rattle.mc_tree.specs.Instance.{is_in, is_out}
use Rattle.net_tables.specs.Gives.{TablesGive}
use Rattle.planned_plant.proofs.Widths.{all_runnable, all_ins, all_outs}
use Rattle.planned_plant.specs.Plant.{IsWholePlan, WasPlanned}
use Rattle.project_graph.proofs.GraphedFacts.{was_graphed}
use Rattle.project_graph.specs.Graphed.{GraphedProject, graphed}
use Rattle.project_graph.specs.Source.{IsSourceOf}
use Rattle.project_plant.specs.Planned.{task_in}
use Rattle.project_source.specs.Project.{widths_of}
use Rattle.project_tables.specs.Planned.{PlannedProject, planned, tabled, with_tables}
use Rattle.stages.specs.Stage.{Stage, judging, giving}
use Rattle.stages.specs.World.{Held}
use Rattle.stages.proofs.Gives.{both_gave, ok_once}
use Rattle.tables.specs.Valid.{AreValid}
use Rattle.tables.specs.declared.table.Tables.{Tables}

abbrev give_it : GraphedProject → Tables → Stage PlannedProject
give_it g tables = giving (with_tables g tables)

-- what was planned is the source project of the file's name
pub was_planned : (project : List ℕ) (budget : ℕ) (b n : Held) (p : PlannedProject) → (planned project budget).meant b n (Ok p) → WasPlanned b n project budget p
was_planned project budget b n p meant =
    let one = both_gave (graphed project) (tabled budget) meant in
    let g = one.0 in
    let two = both_gave (judging (TablesGive g.net g.graph budget)) (give_it g) one.3 in
    let read = was_graphed project b one.1 g one.2 in
    let is : p ≡ with_tables g two.0 = ok_once PlannedProject p (with_tables g two.0) two.3.1 in
    subst (λ (q : PlannedProject). WasPlanned b n project budget q) (sym is) (record {
      stays = two.3.0 ∙ (two.2.0 ∙ read.stays);
      source = read.source;
      graph = read.graph;
      tables = two.2.1;
    })

-- where its tables are valid, the parts of its plant are whole
pub was_whole : (project : List ℕ) (budget : ℕ) (b n : Held) (p : PlannedProject) → (planned project budget).meant b n (Ok p) → AreValid p.net p.graph p.tables → IsWholePlan p
was_whole project budget b n p meant valid =
    let was = was_planned project budget b n p meant in
    let s = was.source in
    record {
      runnable = all_runnable b.files s.entries.tasks p.built s.tasks;
      ins = ap (λ (m : Net). map (λ (t : NetTask). t.ins) m.tasks) s.bound.is ∙ all_ins b.files s.entries.tasks p.built s.tasks;
      outs = ap (λ (m : Net). map (λ (t : NetTask). t.outs) m.tasks) s.bound.is ∙ all_outs b.files s.entries.tasks p.built s.tasks;
      is_graph = was.graph;
      are_valid = valid;
    }
