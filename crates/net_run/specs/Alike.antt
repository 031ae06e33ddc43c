-- Two meanings of the tasks' programs that agree on all words that fit them.
use Rattle.std.specs.Prelude.{◌≡◌, ℕ, ◌<◌, List, length, slice_index, sum, ℤ, Some, All}
use Rattle.processor.specs.Ends.{Halted}
use Rattle.processor.specs.Results.{AreWords}
use Rattle.graph.specs.Cycle.{sensor_words}
use Rattle.graph.specs.Net.{ins_of, outs_of, instances}
use Rattle.graph.specs.Sound.{KeepsRules}
use Rattle.graph.specs.declared.net.Net.{Net}
use Rattle.net_run.specs.NetRun.{Execution, given_by, result_of, run_of, one_cycle, state_of, first_states}

-- so many words of 32 bits
pub record HasWords (count : ℕ) (words : List ℤ) : Type 0 where
  pub count_is : length words ≡ count
  pub are_words : AreWords words

-- The executions of a task agree from states and inputs that fit it, and what one leaves fits it again. `states` has the
-- number of state words of each task.
pub record FitsTask (net : Net) (states : List ℕ) (f g : Execution) (task : ℕ) : Type 0 where
  pub same : (state ins : List ℤ) → HasWords (slice_index states task) state → HasWords (sum (ins_of net task)) ins → f task state ins ≡ g task state ins
  pub left : (state ins left outs : List ℤ) → HasWords (slice_index states task) state → HasWords (sum (ins_of net task)) ins
      → f task state ins ≡ Halted (left, outs) → HasWords (slice_index states task) left × HasWords (sum (outs_of net task)) outs

-- each task has a state that fits it
pub record AreStates (net : Net) (words : List ℕ) (states : List (List ℤ)) : Type 0 where
  pub count : length states ≡ length net.tasks
  pub each : (task : ℕ) → task < length net.tasks → HasWords (slice_index words task) (state_of states task)

-- the line has the sensor words of one cycle
abbrev pub IsLine : Net → (cycle : ℕ) → (line : List ℤ) → Type 0
IsLine net cycle line = HasWords (sensor_words net cycle) line

-- where the executions agree, so do the runs over any lines
abbrev pub AgreeingRuns : Type 0
AgreeingRuns = (net : Net) (cycle : ℕ) (words : List ℕ) (f g : Execution) → KeepsRules net → ((task : ℕ) → task < length net.tasks → FitsTask net words f g task)
    → (states : List (List ℤ)) → AreStates net words states → (lines : List (List ℤ)) → All (IsLine net cycle) lines
    → run_of net cycle f states lines ≡ run_of net cycle g states lines

-- the states that a cycle leaves fit the tasks again
abbrev pub StatesFit : Type 0
StatesFit = (net : Net) (cycle : ℕ) (words : List ℕ) (f g : Execution) → KeepsRules net → ((task : ℕ) → task < length net.tasks → FitsTask net words f g task)
    → (states : List (List ℤ)) → AreStates net words states → (line : List ℤ) → IsLine net cycle line → AreStates net words (one_cycle net cycle f states line).states

-- states of 0 fit the tasks
abbrev pub FirstStatesFit : Type 0
FirstStatesFit = (net : Net) (words : List ℕ) → length words ≡ length net.tasks → AreStates net words (first_states words)

-- the outputs that a job gives fit its task
abbrev pub OutsFit : Type 0
OutsFit = (net : Net) (cycle : ℕ) (words : List ℕ) (f g : Execution) → KeepsRules net → ((task : ℕ) → task < length net.tasks → FitsTask net words f g task)
    → (states : List (List ℤ)) → AreStates net words states → (line : List ℤ) → IsLine net cycle line → (instance task : ℕ) (outs : List ℤ)
    → task < length net.tasks → instance < instances net cycle task → given_by (result_of net cycle f line states instance task) ≡ Some outs → HasWords (sum (outs_of net task)) outs
