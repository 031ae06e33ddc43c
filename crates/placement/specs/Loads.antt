-- Room for messages in the frames of a load. Only the contracts of this crate cite this.
use Rattle.std.specs.Prelude.{◌≡◌, ℕ, ◌+◌, ◌<◌, ◌≤◌, List, All}
use Rattle.mars_base.specs.declared.shape.Side.TheVariants.{A}
use Rattle.tdma.specs.Layout.{Layout, slot_start_of}
use Rattle.tdma.specs.Load.{Load, taken_in}
use Rattle.decisions.specs.declared.placed.Sent.{Sent}
use Rattle.decisions.specs.Place.{words_sent}

-- a message goes in a frame of the cycle
pub record IsInside (layout : Layout) (m : Sent) : Type 0 where
  pub unit : m.unit < layout.units
  pub round : m.round < layout.rounds

abbrev pub AreInside : Layout → List Sent → Type 0
AreInside layout ms = All (IsInside layout) ms

-- the frame of a round has room behind the messages
pub record HasRoomFor (f : Load) (ms : List Sent) (unit from words round : ℕ) : Type 0 where
  pub exists : round < f.layout.rounds
  pub begins : from ≤ slot_start_of f.layout round unit A
  pub fits : taken_in f unit round + words_sent ms unit round + words ≤ f.layout.slot_words

-- the first such round
pub record IsFirstFor (f : Load) (ms : List Sent) (unit from words round : ℕ) : Type 0 where
  pub room : HasRoomFor f ms unit from words round
  pub least : (k : ℕ) → HasRoomFor f ms unit from words k → round ≤ k

-- the load after the words of messages are taken
pub record IsLoaded (before after : Load) (ms : List Sent) : Type 0 where
  pub layout : after.layout ≡ before.layout
  pub taken : (unit round : ℕ) → unit < before.layout.units → round < before.layout.rounds → taken_in after unit round ≡ taken_in before unit round + words_sent ms unit round
