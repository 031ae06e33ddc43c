-- What the jobs of a cycle come to along a plan's edges: an equation that each job's result meets.
use Rattle.std.specs.Prelude.{◌≡◌, ℕ, zero, suc, ◌<◌, List, ℤ, Option, Some, None}
use Rattle.net_run.specs.NetRun.{JobResult, Skipped, kept}
use Rattle.cluster_model.specs.Plan.{Plan}
use Rattle.cluster_model.specs.State.{told}
use Rattle.cluster_model.specs.Tick.{fed, result_from}

module _ (p : Plan) where
  -- a job with its state, by what it takes
  abbrev pub comes_to : (job : ℕ) → (state : List ℤ) → Option (List ℤ) → JobResult
  comes_to job state None = Skipped
  comes_to job state (Some ins) = result_from p job state ins

  module _ (start : ℕ → List ℤ) (res : ℕ → JobResult) where
    -- the state that a task has before an instance: what its last done instance before that left
    abbrev pub before : (task instance : ℕ) → List ℤ
    before task zero = start task
    before task (suc instance) = kept (before task instance) (res (p.number task instance))

    -- the states after the cycle
    abbrev pub after : (task : ℕ) → List ℤ
    after task = before task (p.instances task)

  -- what each edge carries
  abbrev pub along : (res : ℕ → JobResult) → (edge instance : ℕ) → Option (List ℤ)
  along res = fed p (λ job. told (res job))

  -- what a job takes
  abbrev pub takes : (line : List ℤ) → (res : ℕ → JobResult) → (job : ℕ) → Option (List ℤ)
  takes line res job = p.inputs line (λ edge. along res edge (p.instance job)) job

  -- these are the results of a cycle from these states and this line
  abbrev pub AreResults : (start : ℕ → List ℤ) → (line : List ℤ) → (res : ℕ → JobResult) → Type 0
  AreResults start line res = (job : ℕ) → job < p.jobs → res job ≡ comes_to job (before start res (p.task job) (p.instance job)) (takes line res job)
