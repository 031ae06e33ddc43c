-- What a replica has taken of the messages for its unit. This project's own.
use Rattle.std.specs.Prelude.{◌≡◌, ℕ, ◌+◌, ◌<◌, ◌≤◌, ◌==◌, if◌then◌else◌, List, length, get_or, slice_index, ℤ, Option, None, Some}
use Rattle.bus.specs.Numbers.{BusState, slot_of}
use Rattle.bus.specs.SlotState.{Whole, slot_at, whole}
use Rattle.mars_base.specs.declared.shape.Side.TheVariants.{A, B}
use Rattle.tdma.specs.Layout.{Layout}
use Rattle.tables.specs.declared.table.Message.{Message}
use Rattle.net_run.specs.Words.{with_words}
use Rattle.cluster_model.specs.Frame.{message_in}
use Rattle.cluster_model.specs.Tick.{a_or_b}

-- for each message how many words it has, and what it says where it was taken
pub record Taken : Type 0 where
  pub widths : List ℕ
  pub words : List (Option (List ℤ))

-- what a message says that was taken
abbrev pub taken_at : Taken → (place : ℕ) → Option (List ℤ)
taken_at t place = get_or t.words place None

-- a frame that is whole has all its words
abbrev pub HasFullFrames : BusState → Type 0
HasFullFrames bus = (number : ℕ) (words : List ℤ) → slot_at bus.slots number ≡ Whole words → length words ≡ bus.layout.slot_words

-- a message of so many words goes in a frame of the bus
pub record GoesIn (layout : Layout) (width : ℕ) (m : Message) : Type 0 where
  pub round : m.round < layout.rounds
  pub unit : m.unit < layout.units
  pub fits : m.offset + 1 + width ≤ layout.slot_words

-- the frame of a unit and a round: A's where it is whole, else B's where that is
abbrev pub frame_on : BusState → (unit round : ℕ) → Option (List ℤ)
frame_on bus unit round = a_or_b (whole (slot_of bus round unit A)) (whole (slot_of bus round unit B))

-- what a message of so many words says on the bus; None where it isn't there or no frame is whole
abbrev pub said_on : BusState → (width : ℕ) → Message → Option (List ℤ)
said_on bus width m = with_words (frame_on bus m.unit m.round) (λ frame. message_in m.offset width frame)
