-- That the clocks of a cluster's replicas tell which events may come, and when its cycle is over.
use Rattle.std.specs.Prelude.{◌≡◌, ℕ, ◌*◌, ◌<◌, ◌↔◌, true, not, List, length, map}
use Rattle.mars_base.specs.declared.shape.Side.{Side}
use Rattle.cluster_model.specs.Cluster.{is_silent, is_over, IsEnabled}
use Rattle.cluster_model.specs.Plan.{Plan}
use Rattle.cluster_model.specs.State.{Member, replica_number}
use Rattle.cluster_clocks.specs.Clocks.{MayAct, IsOver}
use Rattle.cluster_clocks.specs.declared.clock.Clock.{Clock}

-- the clock of a replica
abbrev pub clock_of : Member → Clock
clock_of m = record { tick = m.held.clock; is_running = not (is_silent m.mode) }

abbrev pub clocks_of : List Member → List Clock
clocks_of members = map clock_of members

-- a replica may act by the clocks exactly where it is enabled
abbrev pub ActsAreEnabled : Type 0
ActsAreEnabled = (p : Plan) (members : List Member) (unit : ℕ) (side : Side) → length members ≡ 2 * p.units → unit < p.units
    → MayAct (clocks_of members) (replica_number unit side) p.cycle p.skew ↔ IsEnabled p members unit side

-- the cycle is over by the clocks exactly where it is
abbrev pub OversAreOver : Type 0
OversAreOver = (p : Plan) (members : List Member) → IsOver (clocks_of members) p.cycle ↔ (is_over p members ≡ true)
