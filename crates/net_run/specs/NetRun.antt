-- What the jobs of a net come to, cycle by cycle, along its edges, for any meaning of the tasks' programs. It knows no
-- table, no order of running, no unit and no clock: a job's result is by its instance, and in that by its depth in the graph.
use Rattle.std.specs.Prelude.{ℕ, zero, suc, ◌++◌, List, [], ◌∷◌, length, map, replicate, get_or, ℤ, pos, Bool, true, false, ◌||◌, if◌then◌else◌, Option, Some, None}
use Rattle.processor.specs.Ends.{End, Halted, Broken as Breaks}
use Rattle.processor.specs.Results.{Results}
use Rattle.graph.specs.Net.{instances}
use Rattle.graph.specs.declared.net.Net.{Net}
use Rattle.net_run.specs.Words.{carried, job_inputs}

-- what a job comes to: done, with the state that it leaves and its outputs; broken; or skipped, since a producer isn't done
pub data JobResult : Type 0 where
  Done : (results : Results) → JobResult
  Broken : JobResult
  Skipped : JobResult

-- what each task's program comes to, from its state words and its input words
abbrev pub Execution : Type 0
Execution = (task : ℕ) → (state ins : List ℤ) → End Results

abbrev pub ended_as : End Results → JobResult
ended_as (Halted results) = Done results
ended_as Breaks = Broken

-- the outputs that a job gives
abbrev pub given_by : JobResult → Option (List ℤ)
given_by (Done results) = Some results.1
given_by Broken = None
given_by Skipped = None

-- the state of a task after a job: a job that isn't done leaves it
abbrev pub kept : (state : List ℤ) → JobResult → List ℤ
kept state (Done results) = results.0
kept state Broken = state
kept state Skipped = state

abbrev pub state_of : (states : List (List ℤ)) → (task : ℕ) → List ℤ
state_of states task = get_or states task []

module _ (net : Net) (cycle : ℕ) (exec : Execution) where
  -- a job with its state, by what it takes
  abbrev pub outcome : (task : ℕ) → (state : List ℤ) → Option (List ℤ) → JobResult
  outcome task state None = Skipped
  outcome task state (Some ins) = ended_as (exec task state ins)

  module _ (line : List ℤ) where
    -- the result of each task's job in an instance, from these states: fewer than `depth` edges lead to it
    abbrev pub by_depth : (states : ℕ → List ℤ) → (instance depth task : ℕ) → JobResult
    by_depth states instance zero task = Skipped
    by_depth states instance (suc depth) task =
        outcome task (states task) (job_inputs net cycle line (carried net (λ from. given_by (by_depth states instance depth from))) instance task)

    module _ (start : List (List ℤ)) where
      -- the state of a task before an instance: what its last done instance before that left
      abbrev pub state_before : (instance task : ℕ) → List ℤ
      state_before zero task = state_of start task
      state_before (suc instance) task = kept (state_before instance task) (by_depth (state_before instance) instance (length net.tasks) task)

      -- the result of a task's job
      abbrev pub result_of : (instance task : ℕ) → JobResult
      result_of instance task = by_depth (state_before instance) instance (length net.tasks) task

      -- what a task's job takes
      abbrev pub inputs_of : (instance task : ℕ) → Option (List ℤ)
      inputs_of instance task = job_inputs net cycle line (carried net (λ from. given_by (result_of instance from))) instance task

      -- the results of the first n instances of a task, and those of the first n tasks, by job number
      abbrev pub task_results : (task n : ℕ) → List JobResult
      task_results task zero = []
      task_results task (suc n) = task_results task n ++ result_of n task ∷ []

      abbrev pub results_to : (n : ℕ) → List JobResult
      results_to zero = []
      results_to (suc n) = results_to n ++ task_results n (instances net cycle n)

      -- the states of the first n tasks after the cycle
      abbrev pub states_to : (n : ℕ) → List (List ℤ)
      states_to zero = []
      states_to (suc n) = states_to n ++ state_before (instances net cycle n) n ∷ []

-- one cycle: what each job came to, by job number, and the states of the tasks after it
pub record CycleRun : Type 0 where
  pub results : List JobResult
  pub states : List (List ℤ)

abbrev pub one_cycle : Net → (cycle : ℕ) → Execution → (states : List (List ℤ)) → (line : List ℤ) → CycleRun
one_cycle net cycle exec states line = record {
  results = results_to net cycle exec line states (length net.tasks);
  states = states_to net cycle exec line states (length net.tasks);
}

abbrev pub is_broken : JobResult → Bool
is_broken (Done results) = false
is_broken Broken = true
is_broken Skipped = false

abbrev pub some_broken : List JobResult → Bool
some_broken [] = false
some_broken (result ∷ results) = is_broken result || some_broken results

-- the cycles of some lines, one after another from these states; the first with a broken job is the last
abbrev pub run_of : Net → (cycle : ℕ) → Execution → (states : List (List ℤ)) → (lines : List (List ℤ)) → List CycleRun
run_of net cycle exec states [] = []
run_of net cycle exec states (line ∷ lines) =
    one_cycle net cycle exec states line ∷
    (if some_broken (one_cycle net cycle exec states line).results then [] else run_of net cycle exec (one_cycle net cycle exec states line).states lines)

-- the states before the first cycle: each task has so many words, all 0
abbrev pub first_states : (words : List ℕ) → List (List ℤ)
first_states words = map (λ (n : ℕ). replicate n (pos 0)) words
