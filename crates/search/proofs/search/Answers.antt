use Rattle.std.proofs.Common.{length, ap, subst, Err}
use Rattle.decisions.specs.declared.problem.Problem.{Problem}
use Rattle.decisions.specs.Choices.{rules_of}
use Rattle.passes.specs.Answers.{Searched}
use Rattle.placement.specs.Held.{Held}
use Rattle.search.proofs.search.Goals as goal

pub returns-in-Err : goal.returns-in-Err
returns-in-Err c = record {
  answer = subst (λ (pr : Problem). Searched (rules_of pr) (length pr.works) c.args.budget c.args.steps.now c.first.new.steps (Err c.in-Err.fault)) (ap (λ (h : Held). h.problem) c.in-Ok.ensures.empty) c.in-Err.ensures.answer;
}
