-- How a run over lines ended, what it wrote and which state it left.
use Rattle.std.specs.Prelude.{◌≡◌, ℕ, List, Option, IfSome, Result, Ok, Err, ℤ}
use Rattle.std.specs.Io.KnownBytes.{append_known, prepend_known}
use Rattle.lines.specs.Gathered.{HasFront}
use Rattle.lines.specs.Lines.{Lines, whole_lines_of}
use Rattle.run_texts.specs.RunText.{RunEnding, Finished, BadLine, Lost, Broken}
use Rattle.cycle_runs.specs.Cycling.{Cycling, text_from, answers_from, ending_from, state_from}
use Rattle.cycle_runs.specs.declared.fault.RunFault.{RunFault}
use Rattle.cycle_runs.specs.declared.fault.RunFault.TheVariants as fault

module _ {S : Type 0} (c : Cycling S) (first : S) where
  -- where the lines are told: the run ends so, and its whole text stands behind what was there
  abbrev pub RanTo : Option Lines → RunEnding → Option (List ℕ) → Option (List ℕ) → Type 0
  RanTo lines ending old new = IfSome lines (λ told. (ending_from c first told ≡ ending) × (new ≡ append_known old (text_from c first told)))

  -- where the lines are told: a front of the text stands behind what was there
  abbrev pub RanInto : Option Lines → Option (List ℕ) → Option (List ℕ) → Type 0
  RanInto lines old new = IfSome lines (λ told. HasFront old (text_from c first told) new)

  -- where the lines are told: the state is that which the run leaves
  abbrev pub LeftAt : Option Lines → S → Type 0
  LeftAt lines last = IfSome lines (λ told. last ≡ state_from c first told)

  -- Of the input so much was taken, and what was put is the whole text of the cycles of all lines that line feeds end
  -- within it: each is well formed, and each of these cycles was clean.
  pub record HasAnswered (width : ℕ) (input left : Option (List ℕ)) (old new : Option (List ℕ)) : Type 0 where
    pub taken : List ℕ
    pub were : input ≡ prepend_known taken left
    pub ends : ending_from c first (whole_lines_of width taken) ≡ Finished
    pub text : new ≡ append_known old (answers_from c first (whole_lines_of width taken))

  -- what an answer says of the text
  abbrev pub RunAnswers : Option Lines → Option (List ℕ) → Option (List ℕ) → Result (Unit {0}) RunFault → Type 0
  RunAnswers lines old new (Ok u) = RanTo lines Finished old new
  RunAnswers lines old new (Err fault.Memory) = RanInto lines old new
  RunAnswers lines old new (Err fault.Read) = RanInto lines old new
  RunAnswers lines old new (Err fault.Write) = RanInto lines old new
  RunAnswers lines old new (Err (fault.BadLine n)) = RanTo lines (BadLine n) old new
  RunAnswers lines old new (Err fault.Broken) = RanTo lines Broken old new
  RunAnswers lines old new (Err fault.Lost) = RanTo lines Lost old new

  -- what an answer says of the state
  abbrev pub RunLeaves : Option Lines → S → Result (Unit {0}) RunFault → Type 0
  RunLeaves lines last (Ok u) = LeftAt lines last
  RunLeaves lines last (Err fault.Memory) = Unit {0}
  RunLeaves lines last (Err fault.Read) = Unit {0}
  RunLeaves lines last (Err fault.Write) = Unit {0}
  RunLeaves lines last (Err (fault.BadLine n)) = LeftAt lines last
  RunLeaves lines last (Err fault.Broken) = LeftAt lines last
  RunLeaves lines last (Err fault.Lost) = LeftAt lines last
