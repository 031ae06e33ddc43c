use Rattle.std.proofs.Common.{◌≡◌, drop}
use Rattle.std.specs.List.{list_all}
use Rattle.decisions.specs.declared.problem.Feed.{Feed}
use Rattle.decisions.specs.Decision.{work_at}
use Rattle.decisions.specs.Choices.{is_placed}
use Rattle.placement.proofs.fits.is_ready.Given as goal

abbrev pub invariant-loop-feed : goal.invariant-loop-feed
invariant-loop-feed l = list_all (λ (f : Feed). is_placed l.state.placed.items f.producer) (drop l.feed-index l.feed-items) ≡ list_all (λ (f : Feed). is_placed l.state.placed.items f.producer) (work_at l.state.problem l.job).feeds
