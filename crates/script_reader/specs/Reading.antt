-- A whole script: what its lines say, in their order, or the first line that isn't in the grammar.
use Rattle.std.specs.Prelude.{◌≡◌, ℕ, ◌+◌, Bool, false, List, [], ◌∷◌, ◌++◌, Option, Some, None}
use Rattle.script.specs.declared.script.Script.{Script}
use Rattle.script.specs.declared.script.Silence.{Silence}
use Rattle.script.specs.declared.script.Pace.{Pace}
use Rattle.lines.specs.Lines.{RawLine, lines_in}
use Rattle.script_reader.specs.Entry.{Restart, Entry, Nothing, Silent, Paced, Restarted, line_entry}
use Rattle.script_reader.specs.declared.reader.ScriptFault.{ScriptFault}
use Rattle.script_reader.specs.declared.reader.ScriptFault.TheVariants as fault

-- the silences, paces and restarts of a script, each in their order
pub record Events : Type 0 where
  pub silences : List Silence
  pub paces : List Pace
  pub restarts : List Restart

-- what the lines say; or the number of the first that isn't in the grammar
pub data Reading : Type 0 where
  Good : Events → Reading
  Bad : (n : ℕ) → Reading

abbrev pub with_entry : Entry → Events → Events
with_entry Nothing events = events
with_entry (Silent s) events = record { silences = s ∷ events.silences; paces = events.paces; restarts = events.restarts }
with_entry (Paced p) events = record { silences = events.silences; paces = p ∷ events.paces; restarts = events.restarts }
with_entry (Restarted r) events = record { silences = events.silences; paces = events.paces; restarts = r ∷ events.restarts }

abbrev pub before_rest : Entry → Reading → Reading
before_rest entry (Good events) = Good (with_entry entry events)
before_rest entry (Bad n) = Bad n

-- line n and those after it
abbrev pub onto_reading : ℕ → Option Entry → Reading → Reading
onto_reading n None rest = Bad n
onto_reading n (Some entry) rest = before_rest entry rest

module _ (restarts : Bool) (units ticks : ℕ) where
  abbrev pub reading_from : ℕ → List RawLine → Reading
  reading_from n [] = Good (record { silences = []; paces = []; restarts = [] })
  reading_from n (line ∷ lines) = onto_reading n (line_entry restarts units ticks line) (reading_from (n + 1) lines)

  -- a script by its bytes, for a cluster of so many units and a cycle of so many ticks; lines count from 1
  abbrev pub reading : List ℕ → Reading
  reading text = reading_from 1 (lines_in text)

-- the events of a script without restarts
abbrev pub events_of : Script → Events
events_of s = record { silences = s.silences.items; paces = s.paces.items; restarts = [] }

-- what a refusal says of a reading: nothing where there was no memory
abbrev pub IsFaultOf : Reading → ScriptFault → Type 0
IsFaultOf r (fault.Bad n) = r ≡ Bad n
IsFaultOf r fault.Memory = Unit {0}
