use Rattle.std.proofs.Common.{List, [], ◌∷◌, ◌++◌, sym, ◌∙◌, ap, append_assoc}
use Rattle.graph.specs.declared.job.Job.{Job}
use Rattle.cluster_model.specs.Effects.{out_effects}
use Rattle.cluster_model.specs.PlanOf.{plan_of, fed_by}
use Rattle.cluster_model.specs.declared.effect.Effect.{Effect}
use Rattle.cluster_model.specs.declared.effect.Effect.TheVariants as effect
use Rattle.tick_parts.specs.Shows.{shown_outs}
use Rattle.replica_work.proofs.Shown.{halted_seen}
use Rattle.replica_work.proofs.show.show_end.Goals as goal

pub returns-in-Halted : goal.returns-in-Halted
returns-in-Halted c = λ t words exec cost ran turn_is cycles_is.
    let net = c.args.net.now in let g = c.args.graph.now in let job = c.args.job in let seen = c.args.seen.now in
    let p = plan_of net g t words exec cost in
    c.show_outputs.ensures
    ∙ ap (λ (es : List Effect). es ++ shown_outs c.job_of-of.result.instance (fed_by c.job_of-of.result.task net.actuators 0)) c.push.ensures
    ∙ append_assoc seen (effect.End job c.args.cycles ∷ []) (shown_outs c.job_of-of.result.instance (fed_by c.job_of-of.result.task net.actuators 0))
    ∙ ap (λ (j : Job). seen ++ effect.End job c.args.cycles ∷ shown_outs j.instance (fed_by j.task net.actuators 0)) c.job_of-of.ensures
    ∙ ap (λ n. seen ++ effect.End job n ∷ out_effects p job) cycles_is
    ∙ ap (λ (es : List Effect). seen ++ es) (sym (halted_seen p job ran (sym c.in-Halted.is ∙ turn_is)))
