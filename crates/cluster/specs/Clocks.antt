-- The clock of a replica in its seat.
use Rattle.std.specs.Prelude.{◌≡◌, ℕ, ◌<◌, true, not}
use Rattle.cluster_clocks.specs.declared.clock.Clock.{Clock}
use Rattle.cluster_model.specs.Cluster.{is_silent}
use Rattle.cluster_seats.specs.Seats.{Seated}

abbrev pub clock_seen : Seated → Clock
clock_seen s = record { tick = s.held.clock; is_running = not (is_silent s.mode) }

-- a replica runs before the end of a cycle of so many ticks
abbrev pub RunsOn : (cycle : ℕ) → Clock → Type 0
RunsOn cycle c = (c.is_running ≡ true) × (c.tick < cycle)
