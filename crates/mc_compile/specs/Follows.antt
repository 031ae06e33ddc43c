-- What a task's instance and an execution under a bound have to do with one another. It stands here so that all who
-- bound code and all who run it speak of the same. This project's own.
use Rattle.std.specs.Prelude.{◌≡◌, ℕ, ◌≤◌, ℤ, List}
use Rattle.mc_tree.specs.Instance.{Outcome, Gives, Breaks, instance_of}
use Rattle.mc_tree.specs.Tree.{Tree}
use Rattle.processor.specs.Ends.{Over, Halted, Broken, Cut}
use Rattle.processor.specs.Results.{Ran}
use Rattle.word_code.specs.Execution.{exec}
use Rattle.word_code.specs.declared.code.Code.{Code}
use Rattle.mc_compile.specs.Correct.{AreGiven}

-- An instance that gives a state and outputs is done with both within the bound. One that breaks is broken, or
-- cut before it breaks; it is never done.
abbrev pub Matches : Outcome → Ran → ℕ → Type 0
Matches (Gives state outs) (Over (Halted (left, given)) cycles) bound = (left ≡ state) × (given ≡ outs) × (cycles ≤ bound)
Matches (Gives state outs) (Over Broken cycles) bound = ⊥
Matches (Gives state outs) (Cut cycles) bound = ⊥
Matches Breaks (Over (Halted (left, given)) cycles) bound = ⊥
Matches Breaks (Over Broken cycles) bound = Unit {0}
Matches Breaks (Cut cycles) bound = Unit {0}

-- from each state and all inputs of the task, which are as many words as its cells have, an execution does what the
-- task's instance does
abbrev pub RunsAs : Tree → ℕ → (List ℤ → List ℤ → Ran) → Type 0
RunsAs t bound run = (state ins : List ℤ) → AreGiven t state ins → Matches (instance_of t state ins) (run state ins) bound

-- under the bound as its limit, the code does what the task does
abbrev pub Follows : Tree → Code → ℕ → Type 0
Follows t code bound = RunsAs t bound (exec code bound)
