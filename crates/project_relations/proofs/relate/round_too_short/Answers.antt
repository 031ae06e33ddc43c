use Rattle.project_sheet.specs.Sheet.{plain_sheet}
use Rattle.project_relations.specs.Relations.{IsRoundTooShort}
use Rattle.project_sheet.proofs.Firsts.{found_ok, least_at, nothing}
use Rattle.project_relations.proofs.relate.round_too_short.Goals as goal

pub returns : goal.returns
returns c = found_ok (IsRoundTooShort (plain_sheet c.args.sheet.now)) _ nothing (least_at _ _ _ c.first_round_short.ensures) nothing nothing nothing nothing nothing
    c.first_place.result c.first_place.ensures
