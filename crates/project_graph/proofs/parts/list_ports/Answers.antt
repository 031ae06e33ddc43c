use Rattle.std.proofs.Common.{◌++◌, ◌∷◌, [], List, ap₂, sym, subst, ◌∙◌}
use Rattle.std.specs.List.{All}
use Rattle.std.proofs.lemmas.List.Elements.{All-push}
use Rattle.project_graph.proofs.GraphSteps.{ports_more}
use Rattle.project_tasks.specs.Entries.{IsRead}
use Rattle.task_ports.specs.Ports.{IsTaskPorts}
use Rattle.task_ports.specs.declared.ports.TaskPorts.{TaskPorts}
use Rattle.project_graph.proofs.parts.list_ports.Goals as goal

pub loop-task-preserved : goal.loop-task-preserved
loop-task-preserved c =
    let ports = c.in_ok-ports_of.ensures {u = tt} in
    let pushed = (c.in_ok-push.ensures {u = tt}).ok in
    let read : IsRead c.task-item.result = subst IsRead (sym c.task-item.is) (c.requires c.loop-task.task-index c.task-item.result c.loop-task-test.true) in
    record {
      ports = pushed ∙ (ap₂ (λ (xs : List TaskPorts) (x : TaskPorts). xs ++ x ∷ []) c.loop-task.invariant.ports ports.ports ∙ sym (ports_more c.args.tasks.now c.loop-task.task-index c.task-item.result c.loop-task-test.true c.task-item.is));
      kept = subst (All IsTaskPorts) (sym pushed) (All-push IsTaskPorts c.loop-task.list c.in_ok-ports_of.field-0 c.loop-task.invariant.kept (ports.kept read.checked));
    }
