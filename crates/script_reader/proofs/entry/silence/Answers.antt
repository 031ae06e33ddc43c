use Rattle.std.proofs.Common.{◌∙◌, ap, sym}
use Rattle.std.specs.Option.{option_map}
use Rattle.script_reader.specs.Entry.{Silent}
use Rattle.script_reader.proofs.Behind.{silence_side, silence_cycle, silence_tick, silence_end}
use Rattle.script_reader.proofs.entry.silence.Goals as goal

pub returns-in_err-unit : goal.returns-in_err-unit
returns-in_err-unit c = ap (option_map (λ x. Silent x)) c.from_residual.ensures ∙ sym (c.in_err-unit.ensures (silence_side c.args.ticks))

pub returns-in_err-side : goal.returns-in_err-side
returns-in_err-side c =
    ap (option_map (λ x. Silent x)) c.from_residual-in_err-side.ensures
    ∙ sym (c.in_ok-unit.ensures (silence_side c.args.ticks) ∙ c.in_err-side.ensures (silence_cycle c.args.ticks c.in_ok-unit.unit))

pub returns-in_err-cycle : goal.returns-in_err-cycle
returns-in_err-cycle c =
    ap (option_map (λ x. Silent x)) c.from_residual-in_err-cycle.ensures
    ∙ sym (c.in_ok-unit.ensures (silence_side c.args.ticks) ∙ c.in_ok-side.ensures (silence_cycle c.args.ticks c.in_ok-unit.unit)
    ∙ c.in_err-cycle.ensures (silence_tick c.args.ticks c.in_ok-unit.unit c.in_ok-side.side))

pub returns-in_err-tick : goal.returns-in_err-tick
returns-in_err-tick c =
    ap (option_map (λ x. Silent x)) c.from_residual-in_err-tick.ensures
    ∙ sym (c.in_ok-unit.ensures (silence_side c.args.ticks) ∙ c.in_ok-side.ensures (silence_cycle c.args.ticks c.in_ok-unit.unit)
    ∙ c.in_ok-cycle.ensures (silence_tick c.args.ticks c.in_ok-unit.unit c.in_ok-side.side)
    ∙ c.in_err-tick.ensures (silence_end c.in_ok-unit.unit c.in_ok-side.side c.in_ok-cycle.cycle))

pub returns-in-None : goal.returns-in-None
returns-in-None c =
    sym (c.in_ok-unit.ensures (silence_side c.args.ticks) ∙ c.in_ok-side.ensures (silence_cycle c.args.ticks c.in_ok-unit.unit)
    ∙ c.in_ok-cycle.ensures (silence_tick c.args.ticks c.in_ok-unit.unit c.in_ok-side.side)
    ∙ c.in_ok-tick.ensures (silence_end c.in_ok-unit.unit c.in_ok-side.side c.in_ok-cycle.cycle)
    ∙ ap (silence_end c.in_ok-unit.unit c.in_ok-side.side c.in_ok-cycle.cycle c.in_ok-tick.tick) c.in-None.ensures)

pub returns-in-Some : goal.returns-in-Some
returns-in-Some c =
    sym (c.in_ok-unit.ensures (silence_side c.args.ticks) ∙ c.in_ok-side.ensures (silence_cycle c.args.ticks c.in_ok-unit.unit)
    ∙ c.in_ok-cycle.ensures (silence_tick c.args.ticks c.in_ok-unit.unit c.in_ok-side.side)
    ∙ c.in_ok-tick.ensures (silence_end c.in_ok-unit.unit c.in_ok-side.side c.in_ok-cycle.cycle)
    ∙ ap (silence_end c.in_ok-unit.unit c.in_ok-side.side c.in_ok-cycle.cycle c.in_ok-tick.tick) c.in-Some.ensures)
