-- The state of the model that a cluster stands for. This project's own.
use Rattle.std.specs.Prelude.{◌≡◌, ℕ, ◌*◌, ◌<◌, List, [], length, map, set, get_or, slice_index, None}
use Rattle.std.specs.List.{All}
use Rattle.mars_base.specs.declared.shape.Side.{Side}
use Rattle.graph.specs.Cycle.{sensor_words}
use Rattle.plant.specs.declared.system.Plant.{Plant}
use Rattle.tables.specs.Valid.{bus_of}
use Rattle.tick_parts.specs.OnBus.{IsBusOf}
use Rattle.first_silence.specs.Moments.{IsFirstSilence}
use Rattle.cluster_model.specs.State.{replica_number, Member, State}
use Rattle.cluster_seats.specs.Seats.{Seated, AreSeated, members_on}
use Rattle.cluster.specs.Clocks.{clock_seen}
use Rattle.cluster.specs.declared.state.Cluster.{Cluster}

-- one replica is another
abbrev pub with_member : (number : ℕ) → Member → State → State
with_member number m s = record { cycle = s.cycle; line = s.line; start = s.start; members = set s.members number m }

module _ {S : Type 0} (seat : S → Seated) where
  abbrev pub seats_of : Cluster S → List Seated
  seats_of c = map seat c.seats.items

  abbrev pub state_of : Cluster S → State
  state_of c = record { cycle = c.cycle; line = c.line.line; start = c.starts; members = members_on c.bus (seats_of c) }

  module _ {P : Type 0} (is_alive : Plant P → S → Type 0) (plant : Plant P) where
    -- the cluster is made for the plant, and all that it keeps belongs together
    pub record StandsFor (c : Cluster S) : Type 0 where
      pub seated : AreSeated plant.net.shape.units (seats_of c)
      pub alive : All (is_alive plant) c.seats.items
      pub clocks : c.clocks.items ≡ map clock_seen (seats_of c)
      pub bus : IsBusOf (bus_of plant.net plant.graph) c.bus
      pub width : c.line.width ≡ sensor_words plant.net plant.graph.cycle
      pub firsts : length c.firsts.items ≡ 2 * plant.net.shape.units
      pub first : (unit : ℕ) (side : Side) → unit < plant.net.shape.units → IsFirstSilence c.script.silences.items unit side (get_or c.firsts.items (replica_number unit side) None)
      pub starts : (task : ℕ) → task < length plant.net.tasks → length (get_or c.starts task []) ≡ slice_index plant.states task
