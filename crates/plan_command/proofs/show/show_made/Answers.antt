use Rattle.plan_command.proofs.Steps.{image_refused, image_shown}
use Rattle.plan_command.proofs.show.show_made.Goals as goal

pub returns-in-Ok : goal.returns-in-Ok
returns-in-Ok g c = record {
  answer = λ files left reads writes input.
      image_shown c.args.name.now c.args.made.now c.plant.result.now (c.in-Ok.ensures {u = tt}) c.plant.ensures.value (c.show_plant.ensures.answer files left reads writes input);
}

pub returns-in-Err : goal.returns-in-Err
returns-in-Err g c = record {
  answer = λ files left reads writes input. image_refused c.args.name.now c.args.made.now c.in-Err.refused _ _ (c.in-Err.ensures {u = tt});
}
