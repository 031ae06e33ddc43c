use Rattle.std.proofs.Common.{◌≡◌, ℕ, ◌<◌, min}
use Rattle.port_feeds.specs.Feeds.{feeds_of}
use Rattle.port_feeds.proofs.feeds.is_fed_times.Given as goal

abbrev pub invariant-loop-port : goal.invariant-loop-port
invariant-loop-port l = (port : ℕ) → port < l.port → min 2 (feeds_of l.net l.task port) ≡ l.times → ⊥
