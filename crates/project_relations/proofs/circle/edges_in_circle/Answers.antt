use Rattle.project_sheet.specs.Sheet.{plain_sheet}
use Rattle.project_relations.specs.Relations.{IsEdgesInCircle}
use Rattle.project_sheet.proofs.Firsts.{found_ok, nothing}
use Rattle.project_relations.proofs.circle.edges_in_circle.Goals as goal

pub returns : goal.returns
returns c = found_ok (IsEdgesInCircle (plain_sheet c.args.sheet.now)) _ nothing nothing nothing c.in_ok-transaction.ensures nothing nothing nothing
    c.first_place.result c.first_place.ensures
