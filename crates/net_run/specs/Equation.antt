-- What the results of a cycle are of each other, and where they stand in its lists.
use Rattle.std.specs.Prelude.{◌≡◌, ℕ, ◌<◌, List, length, get_or, ℤ}
use Rattle.graph.specs.Jobs.{job_number}
use Rattle.graph.specs.Net.{instances}
use Rattle.graph.specs.Sound.{KeepsRules}
use Rattle.graph.specs.declared.net.Net.{Net}
use Rattle.net_run.specs.NetRun.{Skipped, Execution, outcome, result_of, inputs_of, state_of, state_before, one_cycle}

-- each job's result is what its state and what it takes come to
abbrev pub CycleResults : Type 0
CycleResults = (net : Net) (cycle : ℕ) (exec : Execution) (line : List ℤ) (start : List (List ℤ)) → KeepsRules net → (instance task : ℕ) → task < length net.tasks
    → result_of net cycle exec line start instance task ≡ outcome net cycle exec task (state_before net cycle exec line start instance task) (inputs_of net cycle exec line start instance task)

-- the result of a job stands at its number
abbrev pub ResultsByNumber : Type 0
ResultsByNumber = (net : Net) (cycle : ℕ) (exec : Execution) (start : List (List ℤ)) (line : List ℤ) (instance task : ℕ) → task < length net.tasks → instance < instances net cycle task
    → get_or (one_cycle net cycle exec start line).results (job_number net cycle task instance) Skipped ≡ result_of net cycle exec line start instance task

-- there is a state for each task: the one that its last instance leaves
pub record StatesByTask : Type 0 where
  pub count : (net : Net) (cycle : ℕ) (exec : Execution) (start : List (List ℤ)) (line : List ℤ) → length (one_cycle net cycle exec start line).states ≡ length net.tasks
  pub each : (net : Net) (cycle : ℕ) (exec : Execution) (start : List (List ℤ)) (line : List ℤ) (task : ℕ) → task < length net.tasks
      → state_of (one_cycle net cycle exec start line).states task ≡ state_before net cycle exec line start (instances net cycle task) task
