-- When a replica can have its event on the bus. This project's own.
use Rattle.std.specs.Prelude.{◌≡◌, ℕ, ◌<◌}
use Rattle.bus.specs.Numbers.{BusState, slot_of}
use Rattle.bus.specs.SlotState.{IsSending}
use Rattle.tdma.specs.Layout.{Layout}
use Rattle.tick_parts.specs.OnBus.{IsBusOf, IsInSlot, StandsAtOwn}
use Rattle.cluster_model.specs.State.{Running}
use Rattle.cluster_seats.specs.Seats.{Seated}

-- it runs, before the end of a cycle of so many ticks; the slot in which its tick is stands at the tick's word, and it sends no other
pub record CanAct (l : Layout) (cycle : ℕ) (bus : BusState) (s : Seated) : Type 0 where
  pub is_bus : IsBusOf l bus
  pub runs : s.mode ≡ Running
  pub clock : s.held.clock < cycle
  pub stands : StandsAtOwn bus s.unit s.side s.held.clock
  pub sends : (round : ℕ) → round < l.rounds → IsSending (slot_of bus round s.unit s.side) → IsInSlot l s.unit s.side s.held.clock round
