use Rattle.std.proofs.Common.{◌∙◌, refl, arith}
use Rattle.placement.proofs.Holding.{empty_holds}
use Rattle.placement.proofs.Timing.{ticks_none}
use Rattle.placement.proofs.Fronts.{front_none}
use Rattle.placement.proofs.moves.empty.Goals as goal

pub returns-clause-holds : goal.returns-clause-holds
returns-clause-holds c =
    empty_holds _ c.len-jobs.result c.in_ok-problem.ensures.limits c.in_ok-placed.ensures.items c.len-jobs.ensures (omega (arith, c.in_ok-placed.ensures.capacity)) c.in_ok-places.ensures c.in_ok-homes.ensures
    c.in_ok-frames.ensures.layout c.in_ok-frames.ensures.taken (ticks_none _ _ (c.in_ok-ticks.ensures.room ∙ c.len-jobs.ensures) (c.in_ok-ticks.ensures.units ∙ c.units.ensures.value) c.in_ok-ticks.ensures.none)
    (front_none _ c.in_ok-ranks.ranks.items c.as_slice.result.now c.len-jobs.result c.len-jobs.ensures (c.as_slice.ensures.value ∙ c.in_ok-order.ensures) c.in_ok-ranks.ensures.size c.in_ok-ranks.ensures.least) c.in_ok-order.ensures refl c.is_hopeless-hopeless.ensures
