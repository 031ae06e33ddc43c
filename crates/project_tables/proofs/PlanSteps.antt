-- The call that plans a project does its stages.
use Rattle.std.proofs.Common.{◌≡◌, ◌⊎◌, ℕ, Ok, Err}
use Rattle.net_tables.specs.Gives.{TablesGive}
use Rattle.project_graph.specs.Graphed.{GraphedProject}
use Rattle.project_tables.specs.Planned.{PlannedProject, tabled, with_tables}
use Rattle.refusals.specs.Causes.{Counts}
use Rattle.refusals.specs.declared.refusal.Refusal.{Refusal}
use Rattle.refusals.specs.declared.refusal.Refusal.TheVariants as refusal
use Rattle.stages.specs.Stage.{Stage, Does, judging, giving}
use Rattle.stages.specs.World.{Held}
use Rattle.stages.proofs.Turns.{fails, stopped, went, judged, gave}
use Rattle.tables.specs.declared.table.Tables.{Tables}

abbrev give_it : GraphedProject → Tables → Stage PlannedProject
give_it p tables = giving (with_tables p tables)

-- the tables were refused
pub tables_refused : (budget : ℕ) (p : GraphedProject) (e : Refusal) (b : Held) (c : Counts) → TablesGive p.net p.graph budget (Err e) ⊎ (fails Tables e ≡ Err refusal.Memory) → Does (tabled budget p) b b c c (Err e)
tables_refused budget p e b c gives = stopped (judging (TablesGive p.net p.graph budget)) (give_it p) (judged (TablesGive p.net p.graph budget) b c (Err e) gives)

-- the tables were found
pub tables_found : (budget : ℕ) (p : GraphedProject) (tables : Tables) (b : Held) (c : Counts) → TablesGive p.net p.graph budget (Ok tables) ⊎ (Ok tables ≡ Err refusal.Memory) → Does (tabled budget p) b b c c (Ok (with_tables p tables))
tables_found budget p tables b c gives =
    went (judging (TablesGive p.net p.graph budget)) (give_it p) (judged (TablesGive p.net p.graph budget) b c (Ok tables) gives) (gave (with_tables p tables) b c)
