-- The words of a frame, and what a message says in it. A message has a word that is 1 where its job gave outputs, and then
-- its edge's words; words of no message are 0.
use Rattle.std.specs.Prelude.{ℕ, zero, suc, ◌+◌, ◌-◌, Bool, ◌&&◌, ◌==◌, nat_le, nat_lt, if◌then◌else◌, List, [], ◌∷◌, get_or, ℤ, pos, Option, Some, None}
use Rattle.std.specs.Ordering.{int_eq}
use Rattle.graph.specs.declared.net.Net.{Net}
use Rattle.tables.specs.Named.{words_of}
use Rattle.tables.specs.declared.table.Message.{Message}
use Rattle.net_run.specs.Words.{part}

-- a word of a message that says this
abbrev pub packed : Option (List ℤ) → (word : ℕ) → ℤ
packed None word = pos 0
packed (Some words) zero = pos 1
packed (Some words) (suc word) = get_or words word (pos 0)

module _ (net : Net) (round unit : ℕ) (said : ℕ → Option (List ℤ)) (word : ℕ) where
  -- the word of the frame is one of the message's
  abbrev pub covers : Message → Bool
  covers m = (m.unit == unit && m.round == round) && (nat_le m.offset word && nat_lt word (m.offset + words_of net m))

  -- the word, by the messages from a place on
  abbrev pub word_from : List Message → (place : ℕ) → ℤ
  word_from [] place = pos 0
  word_from (m ∷ messages) place = if covers m then packed (said place) (word - m.offset) else word_from messages (suc place)

-- what a message at this offset and of this width says in a frame
abbrev pub message_in : (offset width : ℕ) → (frame : List ℤ) → Option (List ℤ)
message_in offset width frame = if int_eq (get_or frame offset (pos 0)) (pos 1) then Some (part (offset + 1) width frame) else None
