use Rattle.std.proofs.Common.{map}
use Rattle.project_graph.proofs.GraphSteps.{all_ports, all_bounds, net_refused, net_given, graph_refused, graph_given}
use Rattle.task_source.specs.Built.{plain_built}
use Rattle.project_graph.proofs.read.join_tasks.Goals as goal

pub returns-in-Err-clause-answer : goal.returns-in-Err-clause-answer
returns-in-Err-clause-answer c b k =
    net_refused c.args.project.now c.args.entries.now (map plain_built c.args.tasks) c.as_slice-2.result.now c.in-Err.refused b k
    (all_ports c.args.tasks c.as_slice.result.now c.in-Ok.ports c.as_slice-2.result.now c.as_slice-2.ensures (c.in-Ok.ensures {u = tt}).ports c.as_slice.ensures) (c.in-Err.ensures {u = tt}).answer

pub returns-in-Err-graph_of-clause-answer : goal.returns-in-Err-graph_of-clause-answer
returns-in-Err-graph_of-clause-answer c b k =
    net_given c.args.project.now c.args.entries.now (map plain_built c.args.tasks) c.as_slice-2.result.now c.in-Ok-bind_project.net _ b k
    (all_ports c.args.tasks c.as_slice.result.now c.in-Ok.ports c.as_slice-2.result.now c.as_slice-2.ensures (c.in-Ok.ensures {u = tt}).ports c.as_slice.ensures) (c.in-Ok-bind_project.ensures {u = tt}).answer
    (graph_refused c.args.project.now (map plain_built c.args.tasks) c.in-Ok-bind_project.net c.as_slice-4.result.now c.in-Err-graph_of.refused b k
    (all_bounds c.args.tasks c.as_slice-3.result.now c.in-Ok-list_bounds.maxts.items c.as_slice-4.result.now c.as_slice-4.ensures.value (c.in-Ok-list_bounds.ensures {u = tt}) c.as_slice-3.ensures) (c.in-Err-graph_of.ensures {u = tt}).answer)

pub returns-clause-answer : goal.returns-clause-answer
returns-clause-answer c b k =
    net_given c.args.project.now c.args.entries.now (map plain_built c.args.tasks) c.as_slice-2.result.now c.in-Ok-bind_project.net _ b k
    (all_ports c.args.tasks c.as_slice.result.now c.in-Ok.ports c.as_slice-2.result.now c.as_slice-2.ensures (c.in-Ok.ensures {u = tt}).ports c.as_slice.ensures) (c.in-Ok-bind_project.ensures {u = tt}).answer
    (graph_given c.args.project.now (map plain_built c.args.tasks) c.in-Ok-bind_project.net c.as_slice-4.result.now c.in-Ok-graph_of.graph b k
    (all_bounds c.args.tasks c.as_slice-3.result.now c.in-Ok-list_bounds.maxts.items c.as_slice-4.result.now c.as_slice-4.ensures.value (c.in-Ok-list_bounds.ensures {u = tt}) c.as_slice-3.ensures) (c.in-Ok-graph_of.ensures {u = tt}).answer)
