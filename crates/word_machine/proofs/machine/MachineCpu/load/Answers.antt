use Rattle.std.proofs.Common.{◌≡◌, refl, ap, ◌∙◌, replicate}
use Rattle.word_code.specs.Cells.{words_at_start}
use Rattle.word_code.specs.declared.code.Code.{Code}
use Rattle.word_machine.proofs.Turns.{loaded}
use Rattle.word_machine.proofs.machine.MachineCpu.load.Goals as goal

pub returns-clause-runs : goal.returns-clause-runs
returns-clause-runs c =
    let words : c.fill.new.words ≡ words_at_start c.args.program.now c.args.state.now c.args.ins.now =
    c.fill.ensures.words ∙ ap (λ (code : Code). words_at_start code c.args.state.now c.args.ins.now) c.code-code.ensures.value in
    let counters : c.reset.new.self ≡ replicate c.args.program.now.counters 0 =
    c.reset.ensures ∙ ap (λ n. replicate n 0) (c.from.ensures ∙ ap (λ (code : Code). code.counters) c.code-code.ensures.value) in
    loaded c.args.program.now _ c.args.state.now c.args.ins.now c.code-code.ensures.verified c.requires.state c.requires.ins
    words counters c.clear.ensures refl refl refl refl
