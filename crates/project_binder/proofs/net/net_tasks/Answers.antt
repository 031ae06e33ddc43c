use Rattle.std.proofs.Common.{◌≡◌, ◌++◌, ◌∷◌, [], List, Some, sym, ap, ◌∙◌, arith}
use Rattle.std.specs.Prelude.{slice_get}
use Rattle.std.proofs.lemmas.Option.{slice_get-get_or}
use Rattle.graph.specs.declared.net.NetTask.{NetTask}
use Rattle.project_reader.specs.declared.project.TaskEntry.{TaskEntry}
use Rattle.task_ports.specs.declared.ports.TaskPorts.{TaskPorts}
use Rattle.project_binder.specs.NetOf.{net_task}
use Rattle.project_binder.proofs.NetFacts.{tasks_more}
use Rattle.project_binder.proofs.net.net_tasks.Goals as goal

pub loop-place-preserved : goal.loop-place-preserved
loop-place-preserved c =
    let i = c.loop-place.place in
    let t = c.index-tasks-place.result in
    let q = c.index-ports-place.result in
    let at : slice_get c.args.tasks.now i ≡ Some t = slice_get-get_or c.args.tasks.now i t (omega arith) ∙ ap (λ (x : TaskEntry). Some x) (sym c.index-tasks-place.is) in
    let there : slice_get c.args.ports.now i ≡ Some q = slice_get-get_or c.args.ports.now i q (omega arith) ∙ ap (λ (x : TaskPorts). Some x) (sym c.index-ports-place.is) in
    c.in_ok-push.ensures.ok ∙ ap (λ (n : NetTask). c.loop-place.list ++ n ∷ []) c.in_ok-net_task.ensures ∙ ap (λ (l : List NetTask). l ++ net_task t q ∷ []) c.loop-place.invariant
    ∙ sym (tasks_more c.args.tasks.now c.args.ports.now i t q at there)
