use Rattle.std.proofs.Common.{◌≡◌, ◌∙◌}
use Rattle.task_source.proofs.Bounds.{give_long, give_bound, give_far, is_built}
use Rattle.task_source.proofs.built.bound_task.Goals as goal

pub returns-in-Err-CodeTooLong-clause-answer : goal.returns-in-Err-CodeTooLong-clause-answer
returns-in-Err-CodeTooLong-clause-answer c =
    give_long c.args.file.now c.in-Ok.name c.args.task c.in-Ok-fold.folded _ c.in-Err-CodeTooLong.length (c.in-Ok.ensures {u = tt} ∙ c.as_bytes.ensures.value) (let h = c.in-Err-CodeTooLong.length-is in cc) (c.in-Ok-fold.ensures {u = tt}).folded
    (c.compile.ensures.too_long c.in-Err-CodeTooLong.length (let h = c.in-Err-CodeTooLong.is in let k = c.in-Err-CodeTooLong.field-0-is in cc))

pub returns-in-Ok-maxt-clause-answer : goal.returns-in-Ok-maxt-clause-answer
returns-in-Ok-maxt-clause-answer c =
    give_bound c.args.file.now c.args.task c.in-Ok-fold.folded c.in-Ok-maxt.maxt (c.in-Ok-fold.ensures {u = tt}).folded (c.in-Ok-compile.ensures {u = tt}).short (c.in-Ok-maxt.ensures {u = tt})

pub returns-in-Ok-maxt-clause-built : goal.returns-in-Ok-maxt-clause-built
returns-in-Ok-maxt-clause-built c =
    let fold = c.in-Ok-fold.ensures {u = tt} in
    let code = c.in-Ok-compile.ensures {u = tt} in
    is_built c.args.task c.in-Ok-fold.folded c.in-Ok-compile.code c.in-Ok-maxt.maxt fold.folded c.requires fold.checked fold.same code.code code.widths code.short (c.in-Ok-maxt.ensures {u = tt})

pub returns-clause-answer : goal.returns-clause-answer
returns-clause-answer c =
    give_far c.args.file.now c.in-Ok.name c.args.task c.in-Ok-fold.folded c.in-Err-TooLong.field-0 (c.in-Ok.ensures {u = tt} ∙ c.as_bytes.ensures.value) (let h = c.in-Err-TooLong.field-0-is in cc) (c.in-Ok-fold.ensures {u = tt}).folded (c.in-Ok-compile.ensures {u = tt}).short (c.in-Err-TooLong.ensures {u = tt})
