-- The first line of a text. No public clause of the crate's root cites this.
use Rattle.std.specs.Prelude.{◌≡◌, ℕ, ◌<◌, List, [], ◌∷◌, ◌++◌, length}
use Rattle.lines.specs.Lines.{RawLine, lines_in, text_of}
use Rattle.script_reader.specs.Entry.{Entry, Nothing, Silent, Paced, Restarted}
use Rattle.script_reader.specs.Reading.{Events, Reading, Good, Bad}

-- the first line without its end, and the text behind it
pub record IsFirstLine (text line behind : List ℕ) : Type 0 where
  pub raw : RawLine
  pub lines : lines_in text ≡ raw ∷ lines_in behind
  pub text_is : text_of raw ≡ line
  pub shorter : length behind < length text

-- what one line more says, behind those of before
abbrev pub then_entry : Events → Entry → Events
then_entry events Nothing = events
then_entry events (Silent s) = record { silences = events.silences ++ s ∷ []; paces = events.paces; restarts = events.restarts }
then_entry events (Paced p) = record { silences = events.silences; paces = events.paces ++ p ∷ []; restarts = events.restarts }
then_entry events (Restarted r) = record { silences = events.silences; paces = events.paces; restarts = events.restarts ++ r ∷ [] }

-- what the lines from some one on say, behind those of before
abbrev pub then_reading : Events → Reading → Reading
then_reading events (Good more) = Good (record { silences = events.silences ++ more.silences; paces = events.paces ++ more.paces; restarts = events.restarts ++ more.restarts })
then_reading events (Bad n) = Bad n
