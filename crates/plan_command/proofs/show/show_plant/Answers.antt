use Rattle.std.proofs.Common.{inl, refl, Ok}
use Rattle.plan_command.specs.Plan.{IsDone, text_of}
use Rattle.stages.specs.Stage.{judging, printing}
use Rattle.stages.proofs.Turns.{went, judged}
use Rattle.plan_command.proofs.show.show_plant.Goals as goal

pub returns : goal.returns
returns g c = record {
  answer = λ files left reads writes input.
      went (judging IsDone) (λ u. printing (text_of c.args.plant.now)) (judged IsDone _ _ (Ok tt) (inl refl)) (c.write_plant.ensures.answer files left reads writes input);
}
