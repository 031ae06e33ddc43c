use Rattle.std.proofs.Common.{ℕ, ◌<◌}
use Rattle.port_feeds.specs.Feeds.{IsFedTimes}
use Rattle.port_feeds.proofs.feeds.first_fed_times.Given as goal

abbrev pub invariant-loop-task : goal.invariant-loop-task
invariant-loop-task l = (task : ℕ) → task < l.task → IsFedTimes l.net l.times task → ⊥
