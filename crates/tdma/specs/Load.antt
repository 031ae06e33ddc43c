-- The words that are taken in the frames of a cycle. Each unit has one frame a round.
use Rattle.std.specs.Prelude.{◌≡◌, ℕ, ◌+◌, ◌*◌, ◌<◌, ◌≤◌, ◌==◌, ◌&&◌, if◌then◌else◌, List, length, slice_index}
use Rattle.mars_base.specs.declared.shape.Side.TheVariants.{A}
use Rattle.tdma.specs.Layout.{Layout, slot_start_of, usable_of}

-- the words taken, unit by unit and round by round
pub record Load : Type 0 where
  pub layout : Layout
  pub words : List ℕ

-- there is a number for each frame
abbrev pub IsLoad : Load → Type 0
IsLoad f = length f.words ≡ f.layout.units * f.layout.rounds

-- the words taken in the unit's frame of the round
abbrev pub taken_in : Load → (unit round : ℕ) → ℕ
taken_in f unit round = slice_index f.words (unit * f.layout.rounds + round)

-- so many words for the one frame, and none for another
abbrev pub words_for : (unit round words : ℕ) → (unit' round' : ℕ) → ℕ
words_for unit round words unit' round' = if (unit == unit') && (round == round') then words else 0

-- the load after words more are taken in a frame: that frame has them more, each other frame has what it had
pub record Takes (before after : Load) (unit round words : ℕ) : Type 0 where
  pub layout : after.layout ≡ before.layout
  pub taken : (v k : ℕ) → v < before.layout.units → k < before.layout.rounds →
      taken_in after v k ≡ taken_in before v k + words_for unit round words v k

-- the round's A slot of the unit begins at the tick or later, and its frame has room for so many words
pub record HasRoom (f : Load) (unit from words round : ℕ) : Type 0 where
  pub exists : round < f.layout.rounds
  pub begins : from ≤ slot_start_of f.layout round unit A
  pub fits : taken_in f unit round + words ≤ f.layout.slot_words

-- the first round with room
pub record IsFirstRoom (f : Load) (unit from words round : ℕ) : Type 0 where
  pub room : HasRoom f unit from words round
  pub least : (k : ℕ) → HasRoom f unit from words k → round ≤ k

-- the first round with room, and its frame may be used by the last tick
pub record IsFirstRoomBy (f : Load) (unit from last words round : ℕ) : Type 0 where
  pub first : IsFirstRoom f unit from words round
  pub usable : usable_of f.layout round unit ≤ last

-- no round with room has a frame that may be used by the last tick
abbrev pub HasNoRoomBy : Load → (unit from last words : ℕ) → Type 0
HasNoRoomBy f unit from last words = (k : ℕ) → HasRoom f unit from words k → last < usable_of f.layout k unit
