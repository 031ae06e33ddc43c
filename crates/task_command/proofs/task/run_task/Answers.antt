use Rattle.stages.proofs.Turns.{stopped, went}
use Rattle.task_command.specs.Running.{running}
use Rattle.task_command.proofs.TaskFacts.{promises}
use Rattle.task_command.proofs.task.run_task.Goals as goal
use Rattle.mc_tree.specs.Plain.{plain_task}
use Rattle.task_source.specs.Bound.{code_of}
use Rattle.task_source.specs.Built.{Built, built}

pub returns-in-Err : goal.returns-in-Err
returns-in-Err g c =
    let read = c.in-Err.ensures {u = tt} in
    let does = stopped (built c.args.file.now) (λ (b : Built). running (plain_task b.task) (code_of b.task) b.maxt) (read.answer (g.I.Source.left c.args.input.now) (g.O.Sink.holds c.args.out.now) (g.I.Source.faults c.args.input.now) (g.O.Sink.faults c.args.out.now)) in
    record { answer = does; promises = promises c.args.file.now _ _ _ _ _ read.writes does }

pub returns : goal.returns
returns g c =
    let read = c.in-Ok.ensures {u = tt} in
    let does = went (built c.args.file.now) (λ (b : Built). running (plain_task b.task) (code_of b.task) b.maxt) (read.answer (g.I.Source.left c.args.input.now) (g.O.Sink.holds c.args.out.now) (g.I.Source.faults c.args.input.now) (g.O.Sink.faults c.args.out.now))
    (c.run_built.ensures.answer (g.H.Shelf.holds c.read_task.new.shelf) (g.H.Shelf.failed_reads c.read_task.new.shelf) (g.H.Shelf.failed_writes c.read_task.new.shelf)) in
    record { answer = does; promises = promises c.args.file.now _ _ _ _ _ read.writes does }
