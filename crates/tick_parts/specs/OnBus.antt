-- The bus as the model's replicas see it, and the slots of one of them. This project's own.
use Rattle.std.specs.Prelude.{◌≡◌, ℕ, ◌+◌, ◌-◌, ◌<◌, ◌≤◌, cond, nat_lt, List, [], length, Option, None, Some}
use Rattle.mars_base.specs.declared.shape.Side.{Side}
use Rattle.bus.specs.Numbers.{BusState, slot_count, slot_of}
use Rattle.bus.specs.SlotState.{SlotState, StandsAt, slot_at}
use Rattle.tdma.specs.Layout.{Layout, slot_start_of}
use Rattle.tdma.specs.declared.round.SlotPlace.{SlotPlace}
use Rattle.replica_parts.specs.Inbox.{HasFullFrames}
use Rattle.cluster_model.specs.Plan.{listed}
use Rattle.cluster_model.specs.State.{Bus}

-- a bus of this layout has each of its slots, and a frame that is whole has all its words
pub record IsBusOf (l : Layout) (b : BusState) : Type 0 where
  pub layout : b.layout ≡ l
  pub slots : length b.slots ≡ slot_count b.layout
  pub frames : HasFullFrames b

-- the slots of a unit's side, by round
abbrev pub slots_on : BusState → (unit : ℕ) → Side → List SlotState
slots_on b unit side = listed b.layout.rounds (λ round. slot_of b round unit side)

-- what each slot holds; Open where there is none
abbrev pub bus_on : BusState → Bus
bus_on b unit side round = slot_at (cond (nat_lt unit b.layout.units) (slots_on b unit side) []) round

-- the tick is one of the words' of the slot of a round
pub record IsInSlot (l : Layout) (unit : ℕ) (side : Side) (tick round : ℕ) : Type 0 where
  pub from : slot_start_of l round unit side ≤ tick
  pub to : tick < slot_start_of l round unit side + l.slot_words

-- the place of the tick's word in the slot of this unit's side
pub record IsOwn (l : Layout) (unit : ℕ) (side : Side) (tick : ℕ) (place : SlotPlace) : Type 0 where
  pub unit_is : place.unit ≡ unit
  pub side_is : place.side ≡ side
  pub round : place.round < l.rounds
  pub word : place.word < l.slot_words
  pub tick_is : slot_start_of l place.round unit side + place.word ≡ tick
  pub only : (round : ℕ) → round < l.rounds → IsInSlot l unit side tick round → round ≡ place.round

-- that place; None where the tick is in no slot of it
abbrev pub OwnPlace : Layout → (unit : ℕ) → Side → (tick : ℕ) → Option SlotPlace → Type 0
OwnPlace l unit side tick None = (round : ℕ) → round < l.rounds → IsInSlot l unit side tick round → ⊥
OwnPlace l unit side tick (Some place) = IsOwn l unit side tick place

-- the slot of this unit's side in which the tick is stands at the tick's word
abbrev pub StandsAtOwn : BusState → (unit : ℕ) → Side → (tick : ℕ) → Type 0
StandsAtOwn b unit side tick = (round : ℕ) → round < b.layout.rounds → IsInSlot b.layout unit side tick round
    → StandsAt (slot_of b round unit side) (tick - slot_start_of b.layout round unit side)
