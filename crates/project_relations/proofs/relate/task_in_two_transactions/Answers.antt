use Rattle.project_sheet.specs.Sheet.{plain_sheet}
use Rattle.project_relations.specs.Relations.{IsTaskInTwoTransactions}
use Rattle.project_sheet.proofs.Firsts.{found_ok, least_at, nothing}
use Rattle.project_relations.proofs.relate.task_in_two_transactions.Goals as goal

pub returns : goal.returns
returns c = found_ok (IsTaskInTwoTransactions (plain_sheet c.args.sheet.now)) _ nothing nothing (least_at _ _ _ c.first_shared.ensures) nothing nothing nothing nothing
    c.first_place.result c.first_place.ensures
