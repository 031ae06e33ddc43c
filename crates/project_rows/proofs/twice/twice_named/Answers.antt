use Rattle.project_sheet.specs.Sheet.{plain_sheet}
use Rattle.project_rows.specs.Rules.{IsTwiceNamed}
use Rattle.project_sheet.proofs.Firsts.{found_ok, least_at, either_at, nothing}
use Rattle.project_rows.proofs.FirstRepeats.{names_of}
use Rattle.project_rows.proofs.twice.twice_named.Goals as goal

pub returns : goal.returns
returns c = found_ok (IsTwiceNamed (plain_sheet c.args.sheet.now)) _ nothing nothing
    (either_at _ _ _ c.least.ensures (names_of (λ t. t.name) _ _ _ c.deref.ensures.value c.in_ok-task.ensures) (least_at _ _ _ c.first_unit_twice.ensures))
    (names_of (λ t. t.name) _ _ _ c.deref-2.ensures.value c.in_ok-transaction.ensures) nothing
    (names_of (λ o. o.name) _ _ _ c.deref-3.ensures.value c.in_ok-sensor.ensures)
    (names_of (λ o. o.name) _ _ _ c.deref-4.ensures.value c.in_ok-actuator.ensures)
    c.first_place.result c.first_place.ensures
