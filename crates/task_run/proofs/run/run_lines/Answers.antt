use Rattle.std.specs.Option.{option_map}
use Rattle.lines.specs.Lines.{lines_of}
use Rattle.mc_tree.specs.Instance.{is_in, width_of}
use Rattle.mc_tree.specs.Plain.{plain_task}
use Rattle.task_run.proofs.Steps.{into_nothing}
use Rattle.task_run.proofs.run.run_lines.Goals as goal

pub returns-in_default-clause-answer : goal.returns-in_default-clause-answer
returns-in_default-clause-answer g c =
    into_nothing (plain_task c.args.task.now) c.args.maxt (g.C.Cpu.execution c.args.program.now c.args.maxt) (g.O.Sink.holds c.args.out.now) (option_map (lines_of (width_of is_in (plain_task c.args.task.now).cells)) (g.I.Source.left c.args.input.now))

pub returns-in_default-zeros-clause-answer : goal.returns-in_default-zeros-clause-answer
returns-in_default-zeros-clause-answer g c =
    into_nothing (plain_task c.args.task.now) c.args.maxt (g.C.Cpu.execution c.args.program.now c.args.maxt) (g.O.Sink.holds c.args.out.now) (option_map (lines_of (width_of is_in (plain_task c.args.task.now).cells)) (g.I.Source.left c.args.input.now))

pub returns-in_default-zeros-2-clause-answer : goal.returns-in_default-zeros-2-clause-answer
returns-in_default-zeros-2-clause-answer g c =
    into_nothing (plain_task c.args.task.now) c.args.maxt (g.C.Cpu.execution c.args.program.now c.args.maxt) (g.O.Sink.holds c.args.out.now) (option_map (lines_of (width_of is_in (plain_task c.args.task.now).cells)) (g.I.Source.left c.args.input.now))

pub returns-in_default-new-clause-answer : goal.returns-in_default-new-clause-answer
returns-in_default-new-clause-answer g c =
    into_nothing (plain_task c.args.task.now) c.args.maxt (g.C.Cpu.execution c.args.program.now c.args.maxt) (g.O.Sink.holds c.args.out.now) (option_map (lines_of (width_of is_in (plain_task c.args.task.now).cells)) (g.I.Source.left c.args.input.now))

pub returns-in_default-new-2-clause-answer : goal.returns-in_default-new-2-clause-answer
returns-in_default-new-2-clause-answer g c =
    into_nothing (plain_task c.args.task.now) c.args.maxt (g.C.Cpu.execution c.args.program.now c.args.maxt) (g.O.Sink.holds c.args.out.now) (option_map (lines_of (width_of is_in (plain_task c.args.task.now).cells)) (g.I.Source.left c.args.input.now))
