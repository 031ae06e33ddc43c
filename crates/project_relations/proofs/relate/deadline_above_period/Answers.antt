use Rattle.project_sheet.specs.Sheet.{plain_sheet}
use Rattle.project_relations.specs.Relations.{IsDeadlineAbovePeriod}
use Rattle.project_sheet.proofs.Firsts.{found_ok, least_at, nothing}
use Rattle.project_relations.proofs.relate.deadline_above_period.Goals as goal

pub returns : goal.returns
returns c = found_ok (IsDeadlineAbovePeriod (plain_sheet c.args.sheet.now)) _ nothing nothing nothing (least_at _ _ _ c.first_late.ensures) nothing nothing nothing
    c.first_place.result c.first_place.ensures
