-- The state of a slot as the program holds it.
use Rattle.std.specs.Prelude.{◌≡◌, ℕ, List, [], length, ℤ, true, if◌then◌else◌, ◌==◌}
use Rattle.bus.specs.SlotState.{SlotState, Open, Sending, Whole, Cut, Ended}
use Rattle.bus.specs.declared.slot.Slot.{Slot}
use Rattle.bus.specs.declared.slot.Slot.TheVariants as slot
use Rattle.bus.specs.declared.slot.Sent.{Sent}
use Rattle.bus.specs.declared.slot.Sent.TheVariants as sent_

abbrev pub closed_state : Ended → SlotState
closed_state c = if c.whole then Whole c.words else Cut c.words

abbrev pub slot_state : Slot → SlotState
slot_state (slot.Open width) = Open
slot_state (slot.Sending s) = Sending s.words
slot_state (slot.Closed c) = closed_state c
slot_state slot.Moved = Cut []

-- the slot is there, with room for so many words
abbrev pub HasRoom : ℕ → Slot → Type 0
HasRoom n (slot.Open width) = width ≡ n
HasRoom n (slot.Sending s) = s.width ≡ n
HasRoom n (slot.Closed c) = c.width ≡ n
HasRoom n slot.Moved = ⊥

-- what a slot is after one word more
abbrev pub sent_of : ℕ → List ℤ → Sent
sent_of width words =
    if length words == width
    then sent_.Done (record { width = width; whole = true; words = words })
    else sent_.More (record { width = width; words = words })
