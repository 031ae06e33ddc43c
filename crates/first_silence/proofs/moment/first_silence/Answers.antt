use Rattle.std.proofs.Common.{◌∙◌, ap, ◌+◌, take, get_or, Option}
use Rattle.std.proofs.lemmas.List.{take_more}
use Rattle.mars_base.specs.declared.shape.Side.TheVariants.{A}
use Rattle.script.specs.declared.script.Silence.{Silence}
use Rattle.first_silence.specs.Moments.{sooner}
use Rattle.first_silence.specs.declared.moment.Moment.{Moment}
use Rattle.first_silence.proofs.Reached.{first_more}
use Rattle.first_silence.proofs.moment.first_silence.Goals as goal

pub loop-silence-preserved : goal.loop-silence-preserved
loop-silence-preserved c =
    let silences = c.args.silences.now in
    let i = c.loop-silence.silence-index in
    let none : Silence = record { unit = 0; side = A; cycle = 0; tick = 0 } in
    first_more (take (i + 1) silences) (take i silences) (get_or silences i none) c.args.unit c.args.side c.loop-silence.first c.sooner-first.result c.loop-silence.invariant
    (c.sooner-first.ensures ∙ ap (λ (m : Option Moment). sooner c.loop-silence.first m) c.own.ensures) (take_more silences i none c.loop-silence-test.true)
