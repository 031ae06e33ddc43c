use Rattle.std.proofs.Common.{[], Some, refl}
use Rattle.build_command.proofs.BuildFacts.{promises}
use Rattle.build_command.proofs.Steps.{no_image, stored_same}
use Rattle.build_command.specs.Build.{stored_plan}
use Rattle.image_build.proofs.MadeFacts.{planned_whole}
use Rattle.planned_plant.specs.Plant.{plant_of}
use Rattle.project_tables.specs.Planned.{planned, plain_planned}
use Rattle.stages.proofs.Turns.{stopped, went}
use Rattle.build_command.proofs.build.run_build.Goals as goal

pub returns-in-Err-clause-answer : goal.returns-in-Err-clause-answer
returns-in-Err-clause-answer g c left input = stopped (planned c.args.project.now c.args.budget) (stored_plan c.args.image.now) ((c.in-Err.ensures {u = tt}).answer left _ input _)

pub returns-in-Err-clause-promises : goal.returns-in-Err-clause-promises
returns-in-Err-clause-promises g c left input =
    promises c.args.project.now c.args.budget c.args.image.now _ _ _ _ _ (refl, refl)
    (stopped (planned c.args.project.now c.args.budget) (stored_plan c.args.image.now) ((c.in-Err.ensures {u = tt}).answer left _ input _))
    (stopped (planned c.args.project.now c.args.budget) (stored_plan c.args.image.now) ((c.in-Err.ensures {u = tt}).answer (Some []) _ input _))

pub image_of-requires-clause-whole : goal.image_of-requires-clause-whole
image_of-requires-clause-whole g c = planned_whole c.args.project.now c.args.budget (plain_planned c.in-Ok.plan) ((c.in-Ok.ensures {u = tt}).answer (Some []) (Some []) 0 0)

pub returns-in_default-clause-answer : goal.returns-in_default-clause-answer
returns-in_default-clause-answer g c left input =
    went (planned c.args.project.now c.args.budget) (stored_plan c.args.image.now) ((c.in-Ok.ensures {u = tt}).answer left _ input _) (no_image c.args.image.now (plant_of (plain_planned c.in-Ok.plan)) _ _)

pub returns-in_default-clause-promises : goal.returns-in_default-clause-promises
returns-in_default-clause-promises g c left input =
    promises c.args.project.now c.args.budget c.args.image.now _ _ _ _ _ (refl, refl)
    (went (planned c.args.project.now c.args.budget) (stored_plan c.args.image.now) ((c.in-Ok.ensures {u = tt}).answer left _ input _) (no_image c.args.image.now (plant_of (plain_planned c.in-Ok.plan)) _ _))
    (went (planned c.args.project.now c.args.budget) (stored_plan c.args.image.now) ((c.in-Ok.ensures {u = tt}).answer (Some []) _ input _) (no_image c.args.image.now (plant_of (plain_planned c.in-Ok.plan)) _ _))

pub returns-clause-answer : goal.returns-clause-answer
returns-clause-answer g c left input =
    went (planned c.args.project.now c.args.budget) (stored_plan c.args.image.now) ((c.in-Ok.ensures {u = tt}).answer left _ input _)
    (stored_same c.args.image.now c.in-Ok-image_of.made (plant_of (plain_planned c.in-Ok.plan)) (c.in-Ok-image_of.ensures {u = tt}).plant (c.store_made.ensures.answer left input))

pub returns-clause-promises : goal.returns-clause-promises
returns-clause-promises g c left input =
    promises c.args.project.now c.args.budget c.args.image.now _ _ _ _ _ (refl, refl)
    (went (planned c.args.project.now c.args.budget) (stored_plan c.args.image.now) ((c.in-Ok.ensures {u = tt}).answer left _ input _)
    (stored_same c.args.image.now c.in-Ok-image_of.made (plant_of (plain_planned c.in-Ok.plan)) (c.in-Ok-image_of.ensures {u = tt}).plant (c.store_made.ensures.answer left input)))
    (went (planned c.args.project.now c.args.budget) (stored_plan c.args.image.now) ((c.in-Ok.ensures {u = tt}).answer (Some []) _ input _)
    (stored_same c.args.image.now c.in-Ok-image_of.made (plant_of (plain_planned c.in-Ok.plan)) (c.in-Ok-image_of.ensures {u = tt}).plant (c.store_made.ensures.answer (Some []) input)))
