use Rattle.std.proofs.Common.{[], Some, refl}
use Rattle.plan_command.proofs.PlanFacts.{promises}
use Rattle.plan_command.proofs.Steps.{no_image, planned_whole, shown_same}
use Rattle.plan_command.specs.Plan.{shown_plan}
use Rattle.planned_plant.specs.Plant.{plant_of}
use Rattle.project_tables.specs.Planned.{planned, plain_planned}
use Rattle.stages.proofs.Turns.{stopped, went}
use Rattle.plan_command.proofs.plan.run_plan.Goals as goal

pub returns-in-Err-clause-answer : goal.returns-in-Err-clause-answer
returns-in-Err-clause-answer g c left input = stopped (planned c.args.project.now c.args.budget) (shown_plan c.args.project.now) ((c.in-Err.ensures {u = tt}).answer left _ input _)

pub returns-in-Err-clause-promises : goal.returns-in-Err-clause-promises
returns-in-Err-clause-promises g c left input =
    promises c.args.project.now c.args.budget _ _ _ _ _ (c.in-Err.ensures {u = tt}).writes (refl, refl)
    (stopped (planned c.args.project.now c.args.budget) (shown_plan c.args.project.now) ((c.in-Err.ensures {u = tt}).answer left _ input _))
    (stopped (planned c.args.project.now c.args.budget) (shown_plan c.args.project.now) ((c.in-Err.ensures {u = tt}).answer (Some []) _ input _))

pub image_of-requires-clause-whole : goal.image_of-requires-clause-whole
image_of-requires-clause-whole g c = planned_whole c.args.project.now c.args.budget (plain_planned c.in-Ok.plan) ((c.in-Ok.ensures {u = tt}).answer (Some []) (Some []) 0 0)

pub returns-in_default-clause-answer : goal.returns-in_default-clause-answer
returns-in_default-clause-answer g c left input =
    went (planned c.args.project.now c.args.budget) (shown_plan c.args.project.now) ((c.in-Ok.ensures {u = tt}).answer left _ input _) (no_image c.args.project.now (plant_of (plain_planned c.in-Ok.plan)) _ _)

pub returns-in_default-clause-promises : goal.returns-in_default-clause-promises
returns-in_default-clause-promises g c left input =
    promises c.args.project.now c.args.budget _ _ _ _ _ (c.in-Ok.ensures {u = tt}).writes (refl, refl)
    (went (planned c.args.project.now c.args.budget) (shown_plan c.args.project.now) ((c.in-Ok.ensures {u = tt}).answer left _ input _) (no_image c.args.project.now (plant_of (plain_planned c.in-Ok.plan)) _ _))
    (went (planned c.args.project.now c.args.budget) (shown_plan c.args.project.now) ((c.in-Ok.ensures {u = tt}).answer (Some []) _ input _) (no_image c.args.project.now (plant_of (plain_planned c.in-Ok.plan)) _ _))

pub returns-clause-answer : goal.returns-clause-answer
returns-clause-answer g c left input =
    went (planned c.args.project.now c.args.budget) (shown_plan c.args.project.now) ((c.in-Ok.ensures {u = tt}).answer left _ input _)
    (shown_same c.args.project.now c.in-Ok-image_of.made (plant_of (plain_planned c.in-Ok.plan)) (c.in-Ok-image_of.ensures {u = tt}).plant (c.show_made.ensures.answer _ left _ _ input))

pub returns-clause-promises : goal.returns-clause-promises
returns-clause-promises g c left input =
    promises c.args.project.now c.args.budget _ _ _ _ _ (c.in-Ok.ensures {u = tt}).writes (refl, refl)
    (went (planned c.args.project.now c.args.budget) (shown_plan c.args.project.now) ((c.in-Ok.ensures {u = tt}).answer left _ input _)
    (shown_same c.args.project.now c.in-Ok-image_of.made (plant_of (plain_planned c.in-Ok.plan)) (c.in-Ok-image_of.ensures {u = tt}).plant (c.show_made.ensures.answer _ left _ _ input)))
    (went (planned c.args.project.now c.args.budget) (shown_plan c.args.project.now) ((c.in-Ok.ensures {u = tt}).answer (Some []) _ input _)
    (shown_same c.args.project.now c.in-Ok-image_of.made (plant_of (plain_planned c.in-Ok.plan)) (c.in-Ok-image_of.ensures {u = tt}).plant (c.show_made.ensures.answer _ (Some []) _ _ input)))
