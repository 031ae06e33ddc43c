use Rattle.std.proofs.Common.{◌≡◌, ◌+◌, ◌≤◌, refl, sym, ap, ◌∙◌, subst, arith}
use Rattle.tdma.specs.Load.{taken_in}
use Rattle.decisions.specs.Place.{words_sent}
use Rattle.placement.specs.Feeding.{one_if}
use Rattle.placement.specs.Loads.{AreInside, IsLoaded}
use Rattle.placement.proofs.Holding.{next_chosen, sent_inside, sent_fits, push_holds}
use Rattle.placement.proofs.Timing.{open_ticks, ticks_more}
use Rattle.std.specs.Prelude.{slice_get, is_some, true}
use Rattle.placement.specs.Feeding.{flat}
use Rattle.placement.proofs.moves.push.Goals as goal

pub overflow_cast-place : goal.overflow_cast-place
overflow_cast-place c =
    let s = c.args.state.now in
    let h = next_chosen s.problem s.placed.items c.args.placed c.requires.holds.reached c.requires.next in
    omega (arith, h.room, c.requires.holds.is_problem.few, c.len-place.ensures)

pub task_of-task-requires : goal.task_of-task-requires
task_of-task-requires c = let s = c.args.state.now in (next_chosen s.problem s.placed.items c.args.placed c.requires.holds.reached c.requires.next).choice.is_job

pub is_past-requires : goal.is_past-requires
is_past-requires c = let s = c.args.state.now in (next_chosen s.problem s.placed.items c.args.placed c.requires.holds.reached c.requires.next).choice.is_job

pub take_all-requires-clause-inside : goal.take_all-requires-clause-inside
take_all-requires-clause-inside c =
    let s = c.args.state.now in
    let h = next_chosen s.problem s.placed.items c.args.placed c.requires.holds.reached c.requires.next in
    subst (AreInside s.frames.layout) (sym c.sent.ensures.value) (sent_inside s.problem c.args.placed.sent s.frames.layout c.requires.holds.words.layout h.sent.framed)

pub take_all-requires-clause-room : goal.take_all-requires-clause-room
take_all-requires-clause-room c = λ unit round u r.
    let s = c.args.state.now in
    let h = next_chosen s.problem s.placed.items c.args.placed c.requires.holds.reached c.requires.next in
    subst (λ ms. taken_in s.frames unit round + words_sent ms unit round ≤ s.frames.layout.slot_words) (sym c.sent.ensures.value)
    (sent_fits s.problem s.placed.items c.args.placed.sent s.frames c.requires.holds.words h.sent unit round u r)

pub take-requires-clause-unit : goal.take-requires-clause-unit
take-requires-clause-unit c =
    let s = c.args.state.now in
    let h = next_chosen s.problem s.placed.items c.args.placed c.requires.holds.reached c.requires.next in
    (open_ticks s.problem s.placed.items c.args.placed s.ticks c.unit.result c.ticks_of.result c.requires.holds.is_problem c.requires.holds.ticks h.choice h.room c.unit.ensures c.ticks_of.ensures).is_unit

pub take-requires-clause-room : goal.take-requires-clause-room
take-requires-clause-room c =
    let s = c.args.state.now in
    let h = next_chosen s.problem s.placed.items c.args.placed c.requires.holds.reached c.requires.next in
    (open_ticks s.problem s.placed.items c.args.placed s.ticks c.unit.result c.ticks_of.result c.requires.holds.is_problem c.requires.holds.ticks h.choice h.room c.unit.ensures c.ticks_of.ensures).room

pub take-requires-clause-some : goal.take-requires-clause-some
take-requires-clause-some c =
    let s = c.args.state.now in
    let h = next_chosen s.problem s.placed.items c.args.placed c.requires.holds.reached c.requires.next in
    (open_ticks s.problem s.placed.items c.args.placed s.ticks c.unit.result c.ticks_of.result c.requires.holds.is_problem c.requires.holds.ticks h.choice h.room c.unit.ensures c.ticks_of.ensures).some

pub take-requires-clause-free : goal.take-requires-clause-free
take-requires-clause-free c =
    let s = c.args.state.now in
    let h = next_chosen s.problem s.placed.items c.args.placed c.requires.holds.reached c.requires.next in
    (open_ticks s.problem s.placed.items c.args.placed s.ticks c.unit.result c.ticks_of.result c.requires.holds.is_problem c.requires.holds.ticks h.choice h.room c.unit.ensures c.ticks_of.ensures).free

pub set_place-requires : goal.set_place-requires
set_place-requires c =
    let s = c.args.state.now in
    let h = next_chosen s.problem s.placed.items c.args.placed c.requires.holds.reached c.requires.next in
    omega (arith, h.choice.is_job, c.requires.holds.jobs.size)

pub note-requires : goal.note-requires
note-requires c =
    let s = c.args.state.now in
    let h = next_chosen s.problem s.placed.items c.args.placed c.requires.holds.reached c.requires.next in
    omega (arith, (c.requires.holds.is_problem.works c.args.placed.job h.choice.is_job).task, c.requires.holds.tasks.size, c.task_of-task.ensures)

pub append-requires : goal.append-requires
append-requires c =
    let s = c.args.state.now in
    let h = next_chosen s.problem s.placed.items c.args.placed c.requires.holds.reached c.requires.next in
    omega (arith, h.room, c.requires.holds.room)

pub returns-clause-holds : goal.returns-clause-holds
returns-clause-holds c =
    let s = c.args.state.now in
    let h = next_chosen s.problem s.placed.items c.args.placed c.requires.holds.reached c.requires.next in
    push_holds s _ c.args.placed c.len-place.result c.from-job.result c.task_of-task.result c.requires.holds c.requires.next
    refl c.append.ensures.items c.append.ensures.room c.set_place.ensures c.note.ensures (subst (IsLoaded s.frames c.take_all.new.frames) c.sent.ensures.value c.take_all.ensures)
    (ticks_more s.problem s.placed.items c.args.placed s.ticks c.take.new.self c.unit.result c.ticks_of.result c.requires.holds.ticks h.choice.is_unit c.unit.ensures c.ticks_of.ensures c.take.ensures.room c.take.ensures.rows) refl refl
    (λ k j at low less. subst (λ xs. is_some (flat (slice_get xs j)) ≡ true) c.as_slice-2.ensures.value (c.placed_to-state.ensures.placed k j (ap (λ xs. slice_get xs k) c.as_slice.ensures.value ∙ at) low less))
    (ap (λ n. s.late + n) (c.one_if.ensures ∙ ap one_if c.is_past.ensures)) refl (omega (arith, c.len-place.ensures)) (c.from-job.ensures ∙ c.job.ensures) c.task_of-task.ensures
