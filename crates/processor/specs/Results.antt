-- What executions of a program come to. This project's own.
use Rattle.std.specs.Prelude.{◌≡◌, ℤ, List, [], All, FitsSigned}
use Rattle.std.specs.Int.{w32}
use Rattle.processor.specs.Ends.{Halted, Broken, Limited, Over, Cut}
use Rattle.processor.specs.declared.cpu.Turn.{Turn}
use Rattle.processor.specs.declared.cpu.Turn.TheVariants as turn

-- a signed number of 32 bits
abbrev pub IsWord : ℤ → Type 0
IsWord w = FitsSigned w32 w

abbrev pub AreWords : List ℤ → Type 0
AreWords words = All IsWord words

-- what an execution leaves where it halts: its state, and its outputs
abbrev pub Results : Type 0
Results = List ℤ × List ℤ

-- What an execution has come to under a limit: halted with its results; broken; or cut before the step that would pass
-- the limit. Each with its cycles.
abbrev pub Ran : Type 0
Ran = Limited Results

-- how an execution stands under its limit
abbrev pub turn_of : {A : Type 0} → Limited A → Turn
turn_of (Over (Halted left) cycles) = turn.Halted
turn_of (Over Broken cycles) = turn.Broken
turn_of (Cut cycles) = turn.Short

-- the outputs of an execution that halted
abbrev pub outs_in : Ran → List ℤ
outs_in (Over (Halted results) cycles) = results.1
outs_in (Over Broken cycles) = []
outs_in (Cut cycles) = []

-- the state that an execution that halted leaves
abbrev pub state_in : Ran → List ℤ
state_in (Over (Halted results) cycles) = results.0
state_in (Over Broken cycles) = []
state_in (Cut cycles) = []

-- it halted
abbrev pub IsDone : Ran → Type 0
IsDone (Over (Halted results) cycles) = Unit {0}
IsDone (Over Broken cycles) = ⊥
IsDone (Cut cycles) = ⊥
