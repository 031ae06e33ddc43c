use Rattle.std.proofs.Common.{◌≡◌, ◌≤◌, [], length, drop, Some}
use Rattle.decisions.specs.Decision.{work_at}
use Rattle.decisions.specs.Place.{fed}
use Rattle.placement.specs.Feeding.{waiting_of}
use Rattle.placement.proofs.fits.pending_of.Given as goal

abbrev pub invariant-loop-feed : goal.invariant-loop-feed
invariant-loop-feed l = record {
  rest : fed l.state.problem l.state.placed.items l.unit (drop l.feed-index l.feed-items) (Some (waiting_of l.pending)) ≡ fed l.state.problem l.state.placed.items l.unit (work_at l.state.problem l.job).feeds (Some (record { sent = []; wait = (work_at l.state.problem l.job).release }));
  few : length l.pending.sent.items ≤ l.feed-index;
}
