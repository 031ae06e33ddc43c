-- The call that bounds a task does the stages of its bound.
use Rattle.std.proofs.Common.{◌≡◌, ◌⊎◌, inl, inr, List, ℕ, Result, Ok, Err, IfOk, refl, sym, ap, ◌∙◌, subst}
use Rattle.mc_tree.specs.declared.tree.Task.{Task}
use Rattle.refusals.specs.Causes.{Counts}
use Rattle.refusals.specs.declared.refusal.Refusal.{Refusal}
use Rattle.refusals.specs.declared.refusal.Refusal.TheVariants as refusal
use Rattle.stages.specs.Stage.{Stage, Does, in_turn, giving, given}
use Rattle.stages.specs.World.{Held}
use Rattle.stages.proofs.Turns.{stopped, went, judged, gave}
use Rattle.task_source.specs.Bound.{BoundGives, bounding}
use Rattle.task_source.specs.Built.{Built, plain_built}
use Rattle.task_source.specs.declared.built.BuiltTask.{BuiltTask}

abbrev built_of : Task → ℕ → Built
built_of t maxt = record { task = t; maxt = maxt }

pub bounded : (file : List ℕ) (t : Task) (r : Result BuiltTask Refusal) (b : Held) (c : Counts) → IfOk r (λ b. b.task ≡ t)
    → BoundGives file t (given (λ (b : BuiltTask). b.maxt) r) ⊎ (given (λ (b : BuiltTask). b.maxt) r ≡ Err refusal.Memory)
    → Does (in_turn (bounding file t) (λ maxt. giving (record { task = t; maxt = maxt }))) b b c c (given plain_built r)
bounded file t (Ok it) b c is gives =
    went (bounding file t) (λ maxt. giving (record { task = t; maxt = maxt })) (judged (BoundGives file t) b c (Ok it.maxt) gives)
    (subst (λ (u : Task). Does (giving (built_of t it.maxt)) b b c c (Ok (built_of u it.maxt))) (sym is) (gave (built_of t it.maxt) b c))
bounded file t (Err e) b c is gives = stopped (bounding file t) (λ maxt. giving (record { task = t; maxt = maxt })) (judged (BoundGives file t) b c (Err e) gives)
