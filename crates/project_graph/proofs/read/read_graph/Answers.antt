use Rattle.std.proofs.Common.{◌∙◌, ap, length, map, sym, subst}
use Rattle.std.specs.List.{All}
use Rattle.project_file.specs.Gives.{project_stage}
use Rattle.project_graph.proofs.GraphSteps.{tasks_refused, tasks_given}
use Rattle.project_graph.specs.Graphed.{tasked}
use Rattle.project_reader.specs.ProjectOf.{IsNamedInUtf8}
use Rattle.stages.proofs.Turns.{stopped, went}
use Rattle.task_source.specs.Built.{plain_built}
use Rattle.project_graph.proofs.read.read_graph.Goals as goal

pub read_tasks-requires : goal.read_tasks-requires
read_tasks-requires g c = subst (All IsNamedInUtf8) (sym c.as_slice.ensures) (c.in-Ok.ensures {u = tt}).named

pub join_tasks-requires-clause-count : goal.join_tasks-requires-clause-count
join_tasks-requires-clause-count g c = (c.in-Ok-read_tasks.ensures {u = tt}).count ∙ ap length c.as_slice.ensures

pub returns-in-Err-clause-answer : goal.returns-in-Err-clause-answer
returns-in-Err-clause-answer g c left out input output = stopped (project_stage c.args.project.now) (tasked c.args.project.now) ((c.in-Err.ensures {u = tt}).answer left out input output)

pub returns-in-Err-read_tasks-clause-answer : goal.returns-in-Err-read_tasks-clause-answer
returns-in-Err-read_tasks-clause-answer g c left out input output =
    went (project_stage c.args.project.now) (tasked c.args.project.now) ((c.in-Ok.ensures {u = tt}).answer left out input output)
    (tasks_refused c.args.project.now c.in-Ok.entries c.as_slice.result.now c.as_slice.ensures ((c.in-Err-read_tasks.ensures {u = tt}).answer left out input output))

pub returns-clause-answer : goal.returns-clause-answer
returns-clause-answer g c left out input output =
    went (project_stage c.args.project.now) (tasked c.args.project.now) ((c.in-Ok.ensures {u = tt}).answer left out input output)
    (tasks_given c.args.project.now c.in-Ok.entries c.as_slice.result.now (map plain_built c.in-Ok-read_tasks.tasks) c.as_slice.ensures ((c.in-Ok-read_tasks.ensures {u = tt}).answer left out input output) (c.join_tasks.ensures.answer _ _))
