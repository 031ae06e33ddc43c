use Rattle.std.proofs.Common.{◌≡◌, ◌⊎◌, List, ℕ, Ok, Err, ap, ◌∙◌, refl, sym, subst}
use Rattle.mc_tree.specs.declared.tree.Task.{Task}
use Rattle.stages.specs.Stage.{Stage, giving, in_turn}
use Rattle.stages.proofs.Turns.{stopped, went}
use Rattle.task_source.specs.Bound.{bounding}
use Rattle.task_source.specs.Built.{Built}
use Rattle.task_source.specs.Source.{source}
use Rattle.task_source.proofs.Bounded.{bounded}
use Rattle.task_source.proofs.built.read_task.Goals as goal

abbrev bound_it : List ℕ → Task → Stage Built
bound_it file t = in_turn (bounding file t) (λ maxt. giving (record { task = t; maxt = maxt }))

pub returns-in-Err-clause-answer : goal.returns-in-Err-clause-answer
returns-in-Err-clause-answer g c left out input output =
    stopped (source c.args.file.now) (bound_it c.args.file.now) ((c.in-Err.ensures {u = tt}).answer left out input output)

pub returns-clause-answer : goal.returns-clause-answer
returns-clause-answer g c left out input output =
    went (source c.args.file.now) (bound_it c.args.file.now) ((c.in-Ok.ensures {u = tt}).answer left out input output)
    (bounded c.args.file.now c.in-Ok.task c.bound_task.result _ _ c.bound_task.ensures.task c.bound_task.ensures.answer)
