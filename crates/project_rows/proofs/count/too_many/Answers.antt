use Rattle.project_sheet.specs.Sheet.{plain_sheet}
use Rattle.project_rows.specs.Rules.{IsTooMany}
use Rattle.project_sheet.proofs.Firsts.{found_ok, least_at, either_at, nothing}
use Rattle.project_rows.proofs.Crowds.{crowd_at}
use Rattle.project_rows.proofs.count.too_many.Goals as goal

pub returns : goal.returns
returns c = found_ok (IsTooMany (plain_sheet c.args.sheet.now)) _ nothing nothing (crowd_at _ _ _ _ _ c.deref.ensures.value c.crowded.ensures) (either_at _ _ _ c.least.ensures (crowd_at _ _ _ _ _ c.deref-2.ensures.value c.crowded-2.ensures) (least_at _ _ _ c.first_without_task.ensures)) (crowd_at _ _ _ _ _ c.deref-3.ensures.value c.crowded-3.ensures) (crowd_at _ _ _ _ _ c.deref-4.ensures.value c.crowded-4.ensures) (crowd_at _ _ _ _ _ c.deref-5.ensures.value c.crowded-5.ensures)
    c.first_place.result c.first_place.ensures
