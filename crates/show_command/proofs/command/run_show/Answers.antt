use Rattle.std.proofs.Common.{[], Some, refl}
use Rattle.image_file.specs.Gives.{image_stage}
use Rattle.show_command.proofs.ShowFacts.{promises, show_it}
use Rattle.stages.proofs.Turns.{stopped, went}
use Rattle.show_command.proofs.command.run_show.Goals as goal

pub returns-in-Err-clause-answer : goal.returns-in-Err-clause-answer
returns-in-Err-clause-answer g c left input = stopped (image_stage c.args.file.now) show_it ((c.in-Err.ensures {u = tt}).answer left _ input _)

pub returns-in-Err-clause-promises : goal.returns-in-Err-clause-promises
returns-in-Err-clause-promises g c left input =
    promises c.args.file.now _ _ _ _ _ (c.in-Err.ensures {u = tt}).writes (refl, refl)
    (stopped (image_stage c.args.file.now) show_it ((c.in-Err.ensures {u = tt}).answer left _ input _))
    (stopped (image_stage c.args.file.now) show_it ((c.in-Err.ensures {u = tt}).answer (Some []) _ input _))

pub returns-clause-answer : goal.returns-clause-answer
returns-clause-answer g c left input = went (image_stage c.args.file.now) show_it ((c.in-Ok.ensures {u = tt}).answer left _ input _) (c.put_image.ensures.answer _ left _ _ input)

pub returns-clause-promises : goal.returns-clause-promises
returns-clause-promises g c left input =
    promises c.args.file.now _ _ _ _ _ (c.in-Ok.ensures {u = tt}).writes (refl, refl)
    (went (image_stage c.args.file.now) show_it ((c.in-Ok.ensures {u = tt}).answer left _ input _) (c.put_image.ensures.answer _ left _ _ input))
    (went (image_stage c.args.file.now) show_it ((c.in-Ok.ensures {u = tt}).answer (Some []) _ input _) (c.put_image.ensures.answer _ (Some []) _ _ input))
