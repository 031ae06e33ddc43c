use Rattle.std.proofs.Common.{◌≡◌, ◌+◌, ◌-◌, suc, [], get_or, Some, ap, ◌∙◌, arith}
use Rattle.decisions.specs.declared.problem.Work.{Work}
use Rattle.decisions.specs.Decision.{work_at}
use Rattle.decisions.specs.Place.{first_free, decided}
use Rattle.placement.proofs.Fitting.{start_due}
use Rattle.placement.proofs.Timing.{first_on}
use Rattle.placement.proofs.fits.start_of.Goals as goal

pub overflow_add-start : goal.overflow_add-start
overflow_add-start c =
    let s = c.args.state.now in
    let w : c.work-work.result.now ≡ work_at s.problem c.args.choice.job = c.work-work.ensures ∙ ap (work_at s.problem) c.from.ensures in
    let d = ap (λ (x : Work). x.deadline) w in
    omega (arith, start_due (get_or s.ticks.rows c.args.choice.unit []) c.work-work.result.now.length c.args.pending.wait c.work-work.result.now.deadline c.in-Some.start c.in-Some.ensures, d, (c.requires.holds.is_problem.works c.args.choice.job c.requires.job).deadline, c.requires.holds.is_problem.cycle)

pub returns-in-Some : goal.returns-in-Some
returns-in-Some c =
    let s = c.args.state.now in
    let u = c.args.choice.unit in
    let wait = c.args.pending.wait in
    let w : c.work-work.result.now ≡ work_at s.problem c.args.choice.job = c.work-work.ensures ∙ ap (work_at s.problem) c.from.ensures in
    let z = work_at s.problem c.args.choice.job in
    let h = c.in-Some.ensures ∙ (ap (λ (x : Work). first_free (get_or s.ticks.rows u []) x.length wait (suc x.deadline - (wait + x.length))) w
    ∙ first_on s.problem s.placed.items s.ticks u z.length wait (suc z.deadline - (wait + z.length)) c.requires.holds.ticks c.requires.unit) in
    ap Some c.new.ensures ∙ (ap (λ (x : Work). decided c.args.choice.job u x.length c.args.pending.sent.items (Some c.in-Some.start)) w ∙ ap (decided c.args.choice.job u z.length c.args.pending.sent.items) h)

pub returns-in-None : goal.returns-in-None
returns-in-None c =
    let s = c.args.state.now in
    let u = c.args.choice.unit in
    let wait = c.args.pending.wait in
    let w : c.work-work.result.now ≡ work_at s.problem c.args.choice.job = c.work-work.ensures ∙ ap (work_at s.problem) c.from.ensures in
    let z = work_at s.problem c.args.choice.job in
    let h = c.in-None.ensures ∙ (ap (λ (x : Work). first_free (get_or s.ticks.rows u []) x.length wait (suc x.deadline - (wait + x.length))) w
    ∙ first_on s.problem s.placed.items s.ticks u z.length wait (suc z.deadline - (wait + z.length)) c.requires.holds.ticks c.requires.unit) in
    ap (decided c.args.choice.job u z.length c.args.pending.sent.items) h
