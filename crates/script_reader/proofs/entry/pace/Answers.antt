use Rattle.std.proofs.Common.{◌∙◌, ap, sym}
use Rattle.std.specs.Option.{option_map}
use Rattle.script_reader.specs.Entry.{Paced}
use Rattle.script_reader.proofs.Behind.{pace_unit, pace_side, pace_count, pace_end}
use Rattle.script_reader.proofs.entry.pace.Goals as goal

pub returns-in_err-unit : goal.returns-in_err-unit
returns-in_err-unit c =
    ap (option_map (λ x. Paced x)) c.from_residual-in_err-unit.ensures
    ∙ sym (c.in_ok-cycle.ensures (pace_unit c.args.units) ∙ c.in_err-unit.ensures (pace_side c.in_ok-cycle.cycle))

pub returns-in_err-side : goal.returns-in_err-side
returns-in_err-side c =
    ap (option_map (λ x. Paced x)) c.from_residual-in_err-side.ensures
    ∙ sym (c.in_ok-cycle.ensures (pace_unit c.args.units) ∙ c.in_ok-unit.ensures (pace_side c.in_ok-cycle.cycle)
    ∙ c.in_err-side.ensures (pace_count c.in_ok-cycle.cycle c.in_ok-unit.unit))

pub returns-in_err-count : goal.returns-in_err-count
returns-in_err-count c =
    ap (option_map (λ x. Paced x)) c.from_residual-in_err-count.ensures
    ∙ sym (c.in_ok-cycle.ensures (pace_unit c.args.units) ∙ c.in_ok-unit.ensures (pace_side c.in_ok-cycle.cycle)
    ∙ c.in_ok-side.ensures (pace_count c.in_ok-cycle.cycle c.in_ok-unit.unit)
    ∙ c.in_err-count.ensures (pace_end c.in_ok-cycle.cycle c.in_ok-unit.unit c.in_ok-side.side))

pub returns-in-None : goal.returns-in-None
returns-in-None c =
    sym (c.in_ok-cycle.ensures (pace_unit c.args.units) ∙ c.in_ok-unit.ensures (pace_side c.in_ok-cycle.cycle)
    ∙ c.in_ok-side.ensures (pace_count c.in_ok-cycle.cycle c.in_ok-unit.unit)
    ∙ c.in_ok-count.ensures (pace_end c.in_ok-cycle.cycle c.in_ok-unit.unit c.in_ok-side.side)
    ∙ ap (pace_end c.in_ok-cycle.cycle c.in_ok-unit.unit c.in_ok-side.side c.in_ok-count.count) c.in-None.ensures)

pub returns-in-Some : goal.returns-in-Some
returns-in-Some c =
    sym (c.in_ok-cycle.ensures (pace_unit c.args.units) ∙ c.in_ok-unit.ensures (pace_side c.in_ok-cycle.cycle)
    ∙ c.in_ok-side.ensures (pace_count c.in_ok-cycle.cycle c.in_ok-unit.unit)
    ∙ c.in_ok-count.ensures (pace_end c.in_ok-cycle.cycle c.in_ok-unit.unit c.in_ok-side.side)
    ∙ ap (pace_end c.in_ok-cycle.cycle c.in_ok-unit.unit c.in_ok-side.side c.in_ok-count.count) c.in-Some.ensures)
