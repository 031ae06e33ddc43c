-- The slots of a cycle by number: round by round, in each unit by unit, of each unit the A slot and then the B slot.
use Rattle.std.specs.Prelude.{ℕ, ◌+◌, ◌*◌, List}
use Rattle.bus.specs.SlotState.{SlotState, slot_at}
use Rattle.mars_base.specs.declared.shape.Side.{Side}
use Rattle.tdma.specs.Layout.{Layout, side_number}

-- the bus of a cycle: its layout, and what each slot holds
pub record BusState : Type 0 where
  pub layout : Layout
  pub slots : List SlotState

-- how many slots a cycle has
abbrev pub slot_count : Layout → ℕ
slot_count l = l.rounds * l.units * 2

abbrev pub slot_number : Layout → (round unit : ℕ) → Side → ℕ
slot_number l round unit side = (round * l.units + unit) * 2 + side_number side

-- the slot of a unit's side in a round
abbrev pub slot_of : BusState → (round unit : ℕ) → Side → SlotState
slot_of b round unit side = slot_at b.slots (slot_number b.layout round unit side)
