use Rattle.std.specs.Option.{option_map}
use Rattle.lines.specs.Lines.{lines_of}
use Rattle.cycle_runs.proofs.Steps.{into_nothing}
use Rattle.cycle_runs.proofs.run.run_cycles.Goals as goal

pub returns-in_default-clause-answer : goal.returns-in_default-clause-answer
returns-in_default-clause-answer g c =
    into_nothing (g.C.Cycles.cycling c.args.cycles.now) (g.C.Cycles.now c.args.cycles.now) (g.O.Sink.holds c.args.out.now) (option_map (lines_of (g.C.Cycles.width c.args.cycles.now)) (g.I.Source.left c.args.input.now))

pub returns-in_default-new-clause-answer : goal.returns-in_default-new-clause-answer
returns-in_default-new-clause-answer g c =
    into_nothing (g.C.Cycles.cycling c.args.cycles.now) (g.C.Cycles.now c.args.cycles.now) (g.O.Sink.holds c.args.out.now) (option_map (lines_of (g.C.Cycles.width c.args.cycles.now)) (g.I.Source.left c.args.input.now))

pub returns-in_default-new-2-clause-answer : goal.returns-in_default-new-2-clause-answer
returns-in_default-new-2-clause-answer g c =
    into_nothing (g.C.Cycles.cycling c.args.cycles.now) (g.C.Cycles.now c.args.cycles.now) (g.O.Sink.holds c.args.out.now) (option_map (lines_of (g.C.Cycles.width c.args.cycles.now)) (g.I.Source.left c.args.input.now))
