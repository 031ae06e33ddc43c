-- What the bytes of a script's file give.
use Rattle.std.specs.Prelude.{◌≡◌, ℕ, false, List, Result, Ok, Err}
use Rattle.refusals.specs.declared.refusal.Refusal.{Refusal}
use Rattle.refusals.specs.declared.refusal.Refusal.TheVariants as refusal
use Rattle.script_reader.specs.Reading.{Events, Good, Bad, reading as script_of}
use Rattle.script_reader.specs.declared.reader.ScriptFault.{ScriptFault}
use Rattle.script_reader.specs.declared.reader.ScriptFault.TheVariants as fault
use Rattle.stages.specs.Files.{reading}
use Rattle.stages.specs.Stage.{Stage, in_turn, judging}

-- the refusal for a script that wasn't read
abbrev pub refusal_of : ScriptFault → Refusal
refusal_of (fault.Bad n) = refusal.BadScript n
refusal_of fault.Memory = refusal.Memory

-- What bytes give, for a cluster of so many units and a cycle of so many ticks: the silences and the paces that they say, or
-- the number of their first line that isn't in the grammar.
pub data ScriptGives (units ticks : ℕ) (bytes : List ℕ) (answer : Result Events Refusal) : Type 0 where
  Said : (events : Events) → answer ≡ Ok events → script_of false units ticks bytes ≡ Good events → ScriptGives units ticks bytes answer
  Faulty : (n : ℕ) → answer ≡ Err (refusal.BadScript n) → script_of false units ticks bytes ≡ Bad n → ScriptGives units ticks bytes answer

-- the file's read, and then its lines
abbrev pub script_stage : (file : List ℕ) → (units ticks : ℕ) → Stage Events
script_stage file units ticks = in_turn (reading file 1048576) (λ bytes. judging (ScriptGives units ticks bytes))
