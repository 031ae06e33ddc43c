-- What holds of every planning of a project.
use Rattle.std.proofs.Common.{ℕ, List, Some}
use Rattle.project_graph.specs.Graphed.{GraphedProject, graphed}
use Rattle.project_graph.proofs.GraphedFacts.{passes_graphed, kept_graphed, refuses_graphed, missing_graphed}
use Rattle.net_tables.proofs.OneTable.{tables_once, refuses_tables}
use Rattle.net_tables.specs.Gives.{TablesGive}
use Rattle.project_tables.specs.Planned.{PlannedProject, planned, tabled, with_tables}
use Rattle.refusals.specs.declared.fault.Fault.{Fault}
use Rattle.refusals.specs.declared.refusal.Refusal.{Refusal}
use Rattle.refusals.specs.declared.refusal.Refusal.TheVariants as refusal
use Rattle.stages.specs.Files.{IsMissing}
use Rattle.stages.specs.Stage.{Stage, judging, giving}
use Rattle.stages.specs.World.{Held}
use Rattle.stages.proofs.MissingFacts.{refused_turn}
use Rattle.stages.proofs.Relations.{AlwaysRefuses, Within, IsKept, Refuses, Passes}
use Rattle.stages.proofs.SoundFacts.{passes_turn, passes_judging, passes_giving}
use Rattle.stages.proofs.WithinFacts.{within_turn, within_judging, within_giving, refuses_turn, refuses_giving}
use Rattle.tables.specs.declared.table.Tables.{Tables}

abbrev give_it : GraphedProject → Tables → Stage PlannedProject
give_it p tables = giving (with_tables p tables)

passes_tabled : (budget : ℕ) (p : GraphedProject) → Passes (tabled budget p)
passes_tabled budget p = passes_turn (judging (TablesGive p.net p.graph budget)) (give_it p) (passes_judging (TablesGive p.net p.graph budget) (tables_once p.net p.graph budget)) (λ tables. passes_giving (with_tables p tables))

-- the planning of a project is sound as a stage
pub passes_planned : (project : List ℕ) (budget : ℕ) → Passes (planned project budget)
passes_planned project budget = passes_turn (graphed project) (tabled budget) (passes_graphed project) (passes_tabled budget)

-- what is kept from stage to stage is kept by all of it
pub kept_planned : (R : Held → Held → Type 0) (project : List ℕ) (budget : ℕ) → IsKept R → Within R (planned project budget)
kept_planned R project budget kept =
    within_turn R (graphed project) (tabled budget) kept (kept_graphed R project kept)
    (λ p. within_turn R (judging (TablesGive p.net p.graph budget)) (give_it p) kept (within_judging R (TablesGive p.net p.graph budget) kept) (λ tables. within_giving R (with_tables p tables) kept))

-- it refuses what reading the project refuses, a budget that is spent, and a project without a table
pub refuses_planned : (P : Refusal → Type 0) (project : List ℕ) (budget : ℕ) → ((name : List ℕ) → P (refusal.ReadFault (Some name))) → ((name : List ℕ) → P (refusal.TooLong (Some name))) → ((f : Fault) → P (refusal.Fault f))
    → P (refusal.Spent budget) → P refusal.NoTable → Refuses P (planned project budget)
refuses_planned P project budget missing long fault spent none =
    refuses_turn P (graphed project) (tabled budget) (refuses_graphed P project missing long fault)
    (λ p. refuses_turn P (judging (TablesGive p.net p.graph budget)) (give_it p) (λ b n r e meant is. refuses_tables P p.net p.graph budget spent none r e meant.1 is) (λ tables. refuses_giving P (with_tables p tables)))

-- a project whose file isn't there
pub missing_planned : (project : List ℕ) (budget : ℕ) (b : Held) → IsMissing b.files project → AlwaysRefuses b (refusal.ReadFault (Some project)) (planned project budget)
missing_planned project budget b missing = refused_turn b (refusal.ReadFault (Some project)) (graphed project) (tabled budget) (missing_graphed project b missing)
