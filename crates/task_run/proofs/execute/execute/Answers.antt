use Rattle.std.proofs.Common.{◌≡◌, ◌∙◌, sym, subst, max, rules}
use Rattle.processor.specs.Results.{AreWords}
use Rattle.processor.specs.declared.cpu.Turn.TheVariants as turn
use Rattle.task_run.proofs.Fitting.{left_fits}
use Rattle.task_run.proofs.execute.execute.Goals as goal

pub returns-clause-state_fits : goal.returns-clause-state_fits
returns-clause-state_fits g c =
    let state = c.args.state.now in
    let ins = c.args.ins.now in
    let program = c.args.program.now in
    let limit = max 0 c.args.maxt in
    let halted : c.advance.result ≡ turn.Halted = search rules in
    let runs = c.advance.ensures.runs state ins 0 c.load.ensures.runs in
    subst AreWords (sym (c.state.ensures state ins limit runs))
    (left_fits (g.C.Cpu.execution program limit state ins) (sym (c.advance.ensures.turn state ins 0 c.load.ensures.runs) ∙ halted)
    (λ left outs ends. g.met.C.Cpu.words program limit state ins left outs c.load.ensures.words c.requires.state_fits c.requires.ins_fit ends))
