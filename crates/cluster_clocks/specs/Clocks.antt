-- When a replica may have an event, and when a cycle is over, by the clocks of a cluster's replicas.
use Rattle.std.specs.Prelude.{◌≡◌, ℕ, ◌+◌, ◌<◌, ◌≤◌, ◌⊎◌, Bool, true, false, List, All, Any, get_or}
use Rattle.cluster_clocks.specs.declared.clock.Clock.{Clock}

abbrev pub no_clock : Clock
no_clock = record { tick = 0; is_running = false }

-- the clock of a replica
abbrev pub clock_at : List Clock → (replica : ℕ) → Clock
clock_at clocks replica = get_or clocks replica no_clock

-- the tick is less than the greatest difference ahead of this clock, where its replica runs
abbrev pub IsClose : (tick skew : ℕ) → Clock → Type 0
IsClose tick skew clock = (clock.is_running ≡ false) ⊎ (tick < clock.tick + skew)

-- a replica may have an event: it runs, its clock is before the cycle's end, and it is close to all that run
pub record MayAct (clocks : List Clock) (replica cycle skew : ℕ) : Type 0 where
  pub runs : (clock_at clocks replica).is_running ≡ true
  pub below : (clock_at clocks replica).tick < cycle
  pub close : All (IsClose (clock_at clocks replica).tick skew) clocks

-- the replica is silent, or has come to the cycle's end
abbrev pub IsThrough : (cycle : ℕ) → Clock → Type 0
IsThrough cycle clock = (clock.is_running ≡ false) ⊎ (clock.tick ≡ cycle)

-- the cycle is over: some replicas run, and all that run have come to its end
pub record IsOver (clocks : List Clock) (cycle : ℕ) : Type 0 where
  pub some : Any (λ (c : Clock). c.is_running ≡ true) clocks
  pub all : All (IsThrough cycle) clocks
