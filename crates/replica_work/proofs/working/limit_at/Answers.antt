use Rattle.std.proofs.Common.{◌≡◌, ◌+◌, ◌-◌, sym, ◌∙◌, ap, arith}
use Rattle.std.specs.Prelude.{slice_index}
use Rattle.std.proofs.lemmas.Option.{get_or_from_slice_get}
use Rattle.graph.specs.declared.job.Job.{Job}
use Rattle.tables.specs.Named.{entry_at}
use Rattle.tables.specs.declared.table.JobEntry.{JobEntry}
use Rattle.cluster_plan.proofs.Numbers.{is_of}
use Rattle.replica_job.specs.Hand.{limit_of}
use Rattle.replica_desk.proofs.Limits.{limit_below}
use Rattle.replica_work.specs.Works.{task_in, limit_before}
use Rattle.replica_work.proofs.Later.{graph_of}
use Rattle.replica_work.proofs.working.limit_at.Goals as goal

pub maxt-maxt-requires : goal.maxt-maxt-requires
maxt-maxt-requires g c =
    let plant = c.args.plant.now in
    let known = (is_of plant.net plant.graph (graph_of plant c.requires.in_order) c.args.job c.requires.job).task in
    omega (arith, known, ap (λ (j : Job). j.task) c.job_of.ensures, c.requires.in_order.maxts)

pub returns-clause-limit : goal.returns-clause-limit
returns-clause-limit g c =
    let plant = c.args.plant.now in let job = c.args.job in let tick = c.args.tick in let per = plant.net.shape.cycles_per_tick in
    let maxt_is : c.maxt-maxt.result ≡ slice_index plant.maxts (task_in plant job) = sym (get_or_from_slice_get plant.maxts c.job_of.result.task c.maxt-maxt.result 0 c.maxt-maxt.ensures) ∙ ap (λ (j : Job). slice_index plant.maxts j.task) c.job_of.ensures in
    let start : c.entry_at.result.start ≡ (entry_at plant.tables job).start = ap (λ (e : JobEntry). e.start) c.entry_at.ensures ∙ ap (λ k. (entry_at plant.tables k).start) c.from.ensures in
    c.limit_after.ensures
    ∙ ap (λ m. limit_of m (tick + 1 - c.entry_at.result.start) per) maxt_is
    ∙ ap (λ s. limit_of (slice_index plant.maxts (task_in plant job)) (tick + 1 - s) per) start

pub returns-clause-more : goal.returns-clause-more
returns-clause-more g c =
    let plant = c.args.plant.now in let job = c.args.job in let tick = c.args.tick in let per = plant.net.shape.cycles_per_tick in
    let maxt_is : c.maxt-maxt.result ≡ slice_index plant.maxts (task_in plant job) = sym (get_or_from_slice_get plant.maxts c.job_of.result.task c.maxt-maxt.result 0 c.maxt-maxt.ensures) ∙ ap (λ (j : Job). slice_index plant.maxts j.task) c.job_of.ensures in
    let start : c.entry_at.result.start ≡ (entry_at plant.tables job).start = ap (λ (e : JobEntry). e.start) c.entry_at.ensures ∙ ap (λ k. (entry_at plant.tables k).start) c.from.ensures in
    let is : c.limit_after.result ≡ limit_before plant job (tick + 1) = c.limit_after.ensures
    ∙ ap (λ m. limit_of m (tick + 1 - c.entry_at.result.start) per) maxt_is
    ∙ ap (λ s. limit_of (slice_index plant.maxts (task_in plant job)) (tick + 1 - s) per) start in
    let rises = limit_below plant c.requires.in_order job c.requires.job (tick - (entry_at plant.tables job).start) (tick + 1 - (entry_at plant.tables job).start) (omega arith) in
    omega (arith, rises, is)
