use Rattle.std.proofs.Common.{◌≡◌, ◌<◌, ℕ, length, get_or}
use Rattle.std.specs.List.{All}
use Rattle.bus.specs.SlotState.{Open}
use Rattle.bus.specs.Slots.{slot_state, HasRoom}
use Rattle.bus.specs.declared.slot.Slot.{Slot}
use Rattle.bus.proofs.slots.reopen_all.Given as goal

abbrev pub invariant-loop-i : goal.invariant-loop-i
invariant-loop-i l = record {
  count : length l.slots.items ≡ length l.fn.slots.items;
  room : (n : ℕ) → All (HasRoom n) l.fn.slots.items → All (HasRoom n) l.slots.items;
  opened : (n : ℕ) → All (HasRoom n) l.fn.slots.items → (k : ℕ) (d : Slot) → k < l.i → slot_state (get_or l.slots.items k d) ≡ Open;
}
