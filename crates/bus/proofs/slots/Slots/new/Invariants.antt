use Rattle.std.proofs.Common.{◌≡◌, ◌≤◌, ◌-◌, length}
use Rattle.std.specs.List.{All}
use Rattle.bus.specs.SlotState.{Open}
use Rattle.bus.specs.Slots.{slot_state, HasRoom}
use Rattle.bus.proofs.slots.Slots.new.Given as goal

abbrev pub invariant-fill : goal.invariant-fill
invariant-fill l = record {
  room : All (HasRoom l.width) l.slots.items;
  open_ : All (λ s. slot_state s ≡ Open) l.slots.items;
  few : length l.slots.items ≤ l.count;
}

abbrev pub decreases-fill : goal.decreases-fill
decreases-fill l = l.count - length l.slots.items
