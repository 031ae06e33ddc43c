use Rattle.std.proofs.Common.{◌≡◌, ◌+◌, ◌-◌, ◌<◌, ◌^◌, length, get_or, subst, arith}
use Rattle.graph.specs.TaskRemaining.{HasRemainingFrom, IsGreatestFed}
use Rattle.graph.proofs.Remaining.{remaining_more}
use Rattle.graph.proofs.longest.task_remaining.Goals as goal

pub loop-place-preserved : goal.loop-place-preserved
loop-place-preserved c =
    let p = c.loop-place.place - 1 in
    let whole : c.loop-place.place ≡ c.loop-place.place - 1 + 1 = omega arith in
    let low : c.loop-place.place - 1 < length c.args.tasks.now = omega arith in
    let task = get_or c.args.tasks.now (c.loop-place.place - 1) 0 in
    let short : get_or c.args.lengths.now (get_or c.args.tasks.now (c.loop-place.place - 1) 0) 0 < 2 ^ 32 = omega (arith, c.type_inv.lengths (get_or c.args.tasks.now (c.loop-place.place - 1) 0)) in
    let is : IsGreatestFed c.args.net.now c.loop-place.list.items (get_or c.args.tasks.now (c.loop-place.place - 1) 0) c.greatest_fed-after.result = subst (λ xs. IsGreatestFed c.args.net.now xs (get_or c.args.tasks.now (c.loop-place.place - 1) 0) c.greatest_fed-after.result) c.as_slice.ensures.value c.greatest_fed-after.ensures in
    rw (c.from-in-loop-place.ensures, c.from-in-loop-place-2.ensures, c.from.ensures)
    (remaining_more c.args.net.now c.requires.entries c.args.lengths.now c.args.tasks.now c.loop-place.list.items (c.loop-place.place - 1) c.greatest_fed-after.result c.requires.order low short
    (subst (λ n. HasRemainingFrom c.args.net.now c.args.lengths.now c.args.tasks.now c.loop-place.list.items n) whole c.loop-place.invariant) is)
