use Rattle.std.proofs.Common.{[], ℕ, Some, Err, inr, refl}
use Rattle.std.specs.Prelude.{Vec}
use Rattle.std.specs.Global.{Global}
use Rattle.image_build.proofs.MadeFacts.{exactly, made_within, none_there, planned_whole, went_imaged}
use Rattle.image_build.specs.Made.{imaged}
use Rattle.planned_plant.specs.Plant.{plant_of}
use Rattle.project_tables.specs.Planned.{planned, plain_planned}
use Rattle.refusals.specs.declared.refusal.Refusal.TheVariants as refusal
use Rattle.stages.proofs.Turns.{stopped}
use Rattle.image_build.proofs.made.build.Goals as goal

pub returns-in-Err-clause-answer : goal.returns-in-Err-clause-answer
returns-in-Err-clause-answer g c left out input output = stopped (planned c.args.project.now c.args.budget) imaged ((c.in-Err.ensures {u = tt}).answer left out input output)

pub returns-in-Err-clause-exact : goal.returns-in-Err-clause-exact
returns-in-Err-clause-exact g c = exactly c.args.project.now c.args.budget (stopped (planned c.args.project.now c.args.budget) imaged ((c.in-Err.ensures {u = tt}).answer (Some []) (Some []) 0 0))

pub returns-in-Err-clause-missing : goal.returns-in-Err-clause-missing
returns-in-Err-clause-missing g c missing =
    none_there c.args.project.now c.args.budget (stopped (planned c.args.project.now c.args.budget) imaged ((c.in-Err.ensures {u = tt}).answer (Some []) (Some []) 0 0)) missing

pub image_of-requires-clause-whole : goal.image_of-requires-clause-whole
image_of-requires-clause-whole g c = planned_whole c.args.project.now c.args.budget (plain_planned c.in-Ok.plan) ((c.in-Ok.ensures {u = tt}).answer (Some []) (Some []) 0 0)

pub returns-in_default-clause-answer : goal.returns-in_default-clause-answer
returns-in_default-clause-answer g c left out input output =
    went_imaged c.args.project.now c.args.budget (plain_planned c.in-Ok.plan) (plant_of (plain_planned c.in-Ok.plan)) (Err refusal.Memory) ((c.in-Ok.ensures {u = tt}).answer left out input output) refl (inr refl)

pub returns-in_default-clause-exact : goal.returns-in_default-clause-exact
returns-in_default-clause-exact g c =
    exactly c.args.project.now c.args.budget
    (went_imaged c.args.project.now c.args.budget (plain_planned c.in-Ok.plan) (plant_of (plain_planned c.in-Ok.plan)) (Err refusal.Memory) ((c.in-Ok.ensures {u = tt}).answer (Some []) (Some []) 0 0) refl (inr refl))

pub returns-in_default-clause-missing : goal.returns-in_default-clause-missing
returns-in_default-clause-missing g c missing = inr refl

pub returns-clause-made : goal.returns-clause-made
returns-clause-made g c =
    made_within (λ (bytes : Vec ℕ Global). bytes.items) c.args.project.now c.args.budget c.bytes_within.result
    (went_imaged c.args.project.now c.args.budget (plain_planned c.in-Ok.plan) c.in-Ok-image_of.made _ ((c.in-Ok.ensures {u = tt}).answer (Some []) (Some []) 0 0) (c.in-Ok-image_of.ensures {u = tt}).plant c.bytes_within.ensures)

pub returns-clause-answer : goal.returns-clause-answer
returns-clause-answer g c left out input output =
    went_imaged c.args.project.now c.args.budget (plain_planned c.in-Ok.plan) c.in-Ok-image_of.made _ ((c.in-Ok.ensures {u = tt}).answer left out input output) (c.in-Ok-image_of.ensures {u = tt}).plant c.bytes_within.ensures

pub returns-clause-exact : goal.returns-clause-exact
returns-clause-exact g c =
    exactly c.args.project.now c.args.budget
    (went_imaged c.args.project.now c.args.budget (plain_planned c.in-Ok.plan) c.in-Ok-image_of.made _ ((c.in-Ok.ensures {u = tt}).answer (Some []) (Some []) 0 0) (c.in-Ok-image_of.ensures {u = tt}).plant c.bytes_within.ensures)

pub returns-clause-missing : goal.returns-clause-missing
returns-clause-missing g c missing =
    none_there c.args.project.now c.args.budget
    (went_imaged c.args.project.now c.args.budget (plain_planned c.in-Ok.plan) c.in-Ok-image_of.made _ ((c.in-Ok.ensures {u = tt}).answer (Some []) (Some []) 0 0) (c.in-Ok-image_of.ensures {u = tt}).plant c.bytes_within.ensures) missing
