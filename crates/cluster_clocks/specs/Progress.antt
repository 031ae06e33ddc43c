-- That a cluster never stands still before its cycle is over.
use Rattle.std.specs.Prelude.{◌≡◌, ℕ, ◌<◌, ◌≤◌, true, List, length, All, Any}
use Rattle.cluster_clocks.specs.Clocks.{MayAct, IsOver}
use Rattle.cluster_clocks.specs.declared.clock.Clock.{Clock}

-- while some replicas run, no clock is past the cycle's end and the cycle isn't over, some replica may act
abbrev pub SomeMayAct : Type 0
SomeMayAct = (clocks : List Clock) (cycle skew : ℕ) → 0 < skew → All (λ (c : Clock). c.tick ≤ cycle) clocks → Any (λ (c : Clock). c.is_running ≡ true) clocks → (IsOver clocks cycle → ⊥)
    → (replica : ℕ) × (replica < length clocks) × MayAct clocks replica cycle skew
