use Rattle.std.proofs.Common.{◌≡◌, length, ◌-◌, ◌≤◌, refl, sym, ap, ◌∙◌, subst, arith}
use Rattle.tdma.specs.Load.{taken_in}
use Rattle.decisions.specs.Place.{words_sent}
use Rattle.placement.specs.Feeding.{one_if}
use Rattle.placement.specs.Loads.{AreInside, IsLoaded}
use Rattle.placement.proofs.Holding.{undone_chosen, sent_inside, undone_taken, undone_late, undo_holds}
use Rattle.placement.specs.Held.{HasTicks}
use Rattle.std.proofs.Common.{min, get_or}
use Rattle.placement.proofs.Timing.{ticks_less}
use Rattle.placement.proofs.moves.undo.Goals as goal

pub overflow_cast-place : goal.overflow_cast-place
overflow_cast-place c =
    let h = undone_chosen c.args.state.now c.pop.new.self.items c.in-Some.placed c.requires c.in-Some.ensures.items in
    omega (arith, h.1.room, c.requires.is_problem.few, c.len-place.ensures)

pub task_of-task-requires : goal.task_of-task-requires
task_of-task-requires c = (undone_chosen c.args.state.now c.pop.new.self.items c.in-Some.placed c.requires c.in-Some.ensures.items).1.choice.is_job

pub is_past-requires : goal.is_past-requires
is_past-requires c = (undone_chosen c.args.state.now c.pop.new.self.items c.in-Some.placed c.requires c.in-Some.ensures.items).1.choice.is_job

pub overflow_sub-late : goal.overflow_sub-late
overflow_sub-late c =
    let l = undone_late c.args.state.now c.pop.new.self.items c.in-Some.placed c.requires c.in-Some.ensures.items in
    let e = c.one_if.ensures ∙ ap one_if c.is_past.ensures in
    omega (arith, l.0, e)

pub set_place-requires : goal.set_place-requires
set_place-requires c =
    let h = undone_chosen c.args.state.now c.pop.new.self.items c.in-Some.placed c.requires c.in-Some.ensures.items in
    omega (arith, h.1.choice.is_job, c.requires.jobs.size)

pub forget-requires : goal.forget-requires
forget-requires c =
    let h = undone_chosen c.args.state.now c.pop.new.self.items c.in-Some.placed c.requires c.in-Some.ensures.items in
    omega (arith, (c.requires.is_problem.works c.in-Some.placed.job h.1.choice.is_job).task, c.requires.tasks.size, c.task_of-task.ensures)

pub give_all-requires-clause-inside : goal.give_all-requires-clause-inside
give_all-requires-clause-inside c =
    let s = c.args.state.now in
    let h = undone_chosen s c.pop.new.self.items c.in-Some.placed c.requires c.in-Some.ensures.items in
    subst (AreInside s.frames.layout) (sym c.sent.ensures.value) (sent_inside s.problem c.in-Some.placed.sent s.frames.layout c.requires.words.layout h.1.sent.framed)

pub give_all-requires-clause-taken : goal.give_all-requires-clause-taken
give_all-requires-clause-taken c = λ unit round u r.
    let s = c.args.state.now in
    subst (λ ms. words_sent ms unit round ≤ taken_in s.frames unit round) (sym c.sent.ensures.value)
    (undone_taken s c.pop.new.self.items c.in-Some.placed c.requires c.in-Some.ensures.items unit round u r)

pub rank_at-requires : goal.rank_at-requires
rank_at-requires c =
    let s = c.args.state.now in
    let h = undone_chosen s c.pop.new.self.items c.in-Some.placed c.requires c.in-Some.ensures.items in
    let size : length c.as_slice.result.now ≡ length s.ranks.items = ap length c.as_slice.ensures.value in
    omega (arith, size, h.1.choice.is_job, c.requires.front.size, c.from-job.ensures, c.job.ensures)

pub give_back-requires : goal.give_back-requires
give_back-requires c =
    let h = undone_chosen c.args.state.now c.pop.new.self.items c.in-Some.placed c.requires c.in-Some.ensures.items in
    omega (arith, h.1.choice.is_unit, c.requires.ticks.units, c.unit.ensures)

pub returns-clause-holds : goal.returns-clause-holds
returns-clause-holds c =
    let s = c.args.state.now in
    let h = undone_chosen s c.pop.new.self.items c.in-Some.placed c.requires c.in-Some.ensures.items in
    let job = c.from-job.ensures ∙ c.job.ensures in
    let rank : c.rank_at.result ≡ get_or s.ranks.items c.in-Some.placed.job 0 = c.rank_at.ensures ∙ (ap (λ xs. get_or xs c.from-job.result 0) c.as_slice.ensures.value ∙ ap (λ j. get_or s.ranks.items j 0) job) in
    let full = subst (λ xs. HasTicks s.problem xs s.ticks) c.in-Some.ensures.items c.requires.ticks in
    undo_holds s _ c.in-Some.placed c.len-place.result c.from-job.result c.task_of-task.result c.requires
    refl c.in-Some.ensures.items (omega (arith, c.in-Some.ensures.capacity)) c.set_place.ensures c.forget.ensures (subst (IsLoaded c.give_all.new.frames s.frames) c.sent.ensures.value c.give_all.ensures)
    (ticks_less s.problem c.pop.new.self.items c.in-Some.placed s.ticks c.give_back.new.self c.unit.result c.start.result full h.1.choice.is_unit c.unit.ensures c.start.ensures c.give_back.ensures.room c.give_back.ensures.rows) refl refl (c.lesser-state.ensures ∙ ap (λ k. min s.first k) rank)
    (ap (λ n. s.late - n) (c.one_if.ensures ∙ ap one_if c.is_past.ensures)) refl (omega (arith, c.len-place.ensures)) (c.from-job.ensures ∙ c.job.ensures) c.task_of-task.ensures
