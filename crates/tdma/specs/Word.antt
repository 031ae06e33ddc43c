-- Which word is on the bus at a tick.
use Rattle.std.specs.Prelude.{◌≡◌, ◌≢◌, ℕ, ◌+◌, ◌<◌}
use Rattle.tdma.specs.Layout.{Layout, slot_start_of}
use Rattle.tdma.specs.declared.round.SlotPlace.{SlotPlace}

-- the place is one of the cycle's
pub record IsPlace (l : Layout) (place : SlotPlace) : Type 0 where
  pub round : place.round < l.rounds
  pub unit : place.unit < l.units
  pub word : place.word < l.slot_words

-- the tick of the word at a place: a slot has one word a tick, from its start on
abbrev pub tick_of : Layout → SlotPlace → ℕ
tick_of l place = slot_start_of l place.round place.unit place.side + place.word

-- the word at this place is on the bus at the tick
pub record IsAt (l : Layout) (tick : ℕ) (place : SlotPlace) : Type 0 where
  pub inside : IsPlace l place
  pub tick_is : tick_of l place ≡ tick

-- no slot has a word at the tick
abbrev pub IsIdle : Layout → ℕ → Type 0
IsIdle l tick = (place : SlotPlace) → IsPlace l place → tick_of l place ≢ tick

-- no other slot has a word at the tick
abbrev pub IsAlone : Layout → ℕ → SlotPlace → Type 0
IsAlone l tick place = (other : SlotPlace) → IsAt l tick other → other ≡ place
