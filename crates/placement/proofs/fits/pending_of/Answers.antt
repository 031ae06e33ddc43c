use Rattle.reached.proofs.Good.{good}
use Rattle.placement.proofs.Fitting.{unit_ok}
use Rattle.placement.proofs.fits.pending_of.Goals as goal

pub wait_for-requires-clause-unit : goal.wait_for-requires-clause-unit
wait_for-requires-clause-unit c =
    let s = c.args.state.now in
    unit_ok s.problem s.placed.items _ c.spot_of-producer.result (good s.problem s.placed.items c.requires.holds.reached) c.spot_of-producer.ensures
