use Rattle.std.proofs.Common.{sym, subst}
use Rattle.std.specs.Prelude.{All}
use Rattle.std.proofs.lemmas.List.Elements.{All-push}
use Rattle.project_sheet.specs.Sheet.{HasUtf8File}
use Rattle.project_sheet.proofs.sheet.push_task.Goals as goal

pub returns-in_ok-push-in-Some-clause-utf8 : goal.returns-in_ok-push-in-Some-clause-utf8
returns-in_ok-push-in-Some-clause-utf8 c = λ h. subst (All HasUtf8File) (sym c.in_ok-push-in-Some.ensures.items)
    (All-push HasUtf8File c.args.rows.now.items c.in_ok-task_row-in-Some.field-0 h c.in_ok-task_row-in-Some.ensures.utf8)
