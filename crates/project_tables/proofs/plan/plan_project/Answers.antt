use Rattle.std.proofs.Common.{map}
use Rattle.plant.specs.Lengths.{lengths_of}
use Rattle.project_graph.specs.Graphed.{graphed, plain_graphed}
use Rattle.project_tables.proofs.PlanSteps.{tables_refused, tables_found}
use Rattle.project_tables.specs.Planned.{tabled}
use Rattle.stages.proofs.Turns.{stopped, went}
use Rattle.task_source.specs.declared.built.BuiltTask.{BuiltTask}
use Rattle.project_tables.proofs.plan.plan_project.Goals as goal

pub find_tables-requires : goal.find_tables-requires
find_tables-requires g c = record { lengths = lengths_of (map (λ (b : BuiltTask). b.maxt) c.in-Ok.it.tasks) c.in-Ok.it.net.shape.cycles_per_tick; is = (c.in-Ok.ensures {u = tt}).graphed.graph }

pub returns-in-Err-clause-answer : goal.returns-in-Err-clause-answer
returns-in-Err-clause-answer g c left out input output = stopped (graphed c.args.project.now) (tabled c.args.budget) ((c.in-Err.ensures {u = tt}).answer left out input output)

pub returns-in-Err-find_tables-clause-answer : goal.returns-in-Err-find_tables-clause-answer
returns-in-Err-find_tables-clause-answer g c left out input output =
    went (graphed c.args.project.now) (tabled c.args.budget) ((c.in-Ok.ensures {u = tt}).answer left out input output)
    (tables_refused c.args.budget (plain_graphed c.in-Ok.it) c.in-Err-find_tables.refused _ _ (c.in-Err-find_tables.ensures {u = tt}).answer)

pub returns-clause-answer : goal.returns-clause-answer
returns-clause-answer g c left out input output =
    went (graphed c.args.project.now) (tabled c.args.budget) ((c.in-Ok.ensures {u = tt}).answer left out input output)
    (tables_found c.args.budget (plain_graphed c.in-Ok.it) c.in-Ok-find_tables.tables _ _ (c.in-Ok-find_tables.ensures {u = tt}).answer)
