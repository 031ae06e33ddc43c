-- What a slot of the bus holds. A slot has room for so many words, its width; the layout of the bus is this project's own.
use Rattle.std.specs.Prelude.{◌≡◌, ℕ, List, [], ◌∷◌, ◌++◌, length, ℤ, Bool, if◌then◌else◌, ◌==◌, Option, Some, None, slice_index_or}

-- nothing was put; some of its words were; all were; it was cut when some were
pub data SlotState : Type 0 where
  Open : SlotState
  Sending : (words : List ℤ) → SlotState
  Whole : (words : List ℤ) → SlotState
  Cut : (words : List ℤ) → SlotState

-- a slot with some of its words
pub record Partly : Type 0 where
  pub width : ℕ
  pub words : List ℤ

-- a slot that is over, whole or cut
pub record Ended : Type 0 where
  pub width : ℕ
  pub whole : Bool
  pub words : List ℤ

-- slots of one width, by number
pub record SlotStates : Type 0 where
  pub width : ℕ
  pub slots : List SlotState

-- the slot with one of these numbers; Open where there is none
abbrev pub slot_at : List SlotState → ℕ → SlotState
slot_at slots n = slice_index_or slots n Open

-- a slot with so many words is whole where these are all
abbrev pub sent : ℕ → List ℤ → SlotState
sent width words = if length words == width then Whole words else Sending words

-- the slot after one word more; a slot that is over stays
abbrev pub put : ℕ → SlotState → ℤ → SlotState
put width Open word = sent width (word ∷ [])
put width (Sending words) word = sent width (words ++ word ∷ [])
put width (Whole words) word = Whole words
put width (Cut words) word = Cut words

-- the slot after its sender fell silent
abbrev pub cut : SlotState → SlotState
cut Open = Open
cut (Sending words) = Cut words
cut (Whole words) = Whole words
cut (Cut words) = Cut words

-- the words that a receiver gets: those of a slot that is whole
abbrev pub whole : SlotState → Option (List ℤ)
whole Open = None
whole (Sending words) = None
whole (Whole words) = Some words
whole (Cut words) = None

-- the next word of the slot is the one of this number: the first of an open slot, else the one behind those that were put
abbrev pub StandsAt : SlotState → ℕ → Type 0
StandsAt Open word = word ≡ 0
StandsAt (Sending words) word = length words ≡ word
StandsAt (Whole words) word = ⊥
StandsAt (Cut words) word = ⊥

-- some of its words were put, and more are to come
abbrev pub IsSending : SlotState → Type 0
IsSending Open = ⊥
IsSending (Sending words) = Unit {0}
IsSending (Whole words) = ⊥
IsSending (Cut words) = ⊥

-- at most one slot is sending
abbrev pub AtMostOneSends : List SlotState → Type 0
AtMostOneSends slots = (a b : ℕ) → IsSending (slot_at slots a) → IsSending (slot_at slots b) → a ≡ b

-- no slot but this one is sending
abbrev pub NoOtherSends : List SlotState → ℕ → Type 0
NoOtherSends slots n = (other : ℕ) → IsSending (slot_at slots other) → other ≡ n
