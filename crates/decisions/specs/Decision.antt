-- Lists of decisions: the latest stands at the end.
use Rattle.std.specs.Prelude.{ℕ, ◌==◌, List, [], find, get_or, Option}
use Rattle.decisions.specs.declared.placed.Sent.{Sent}
use Rattle.decisions.specs.declared.problem.Work.{Work}
use Rattle.decisions.specs.declared.problem.Problem.{Problem}

-- a job on a unit, from a tick up to another, with the messages that it gets from other units
pub record Decision : Type 0 where
  pub job : ℕ
  pub unit : ℕ
  pub start : ℕ
  pub end : ℕ
  pub sent : List Sent

abbrev pub no_work : Work
no_work = record { task = 0; instance = 0; release = 0; deadline = 0; length = 0; remaining = 0; units = 0; feeds = [] }

-- the work of a job
abbrev pub work_at : Problem → (job : ℕ) → Work
work_at pr job = get_or pr.works job no_work

-- the decision on a job; None where it isn't placed
abbrev pub decision_on : List Decision → (job : ℕ) → Option Decision
decision_on l job = find (λ (d : Decision). d.job == job) l

-- the first decision on a job of the task; None where none is placed
abbrev pub first_of_task : Problem → List Decision → (task : ℕ) → Option Decision
first_of_task pr l task = find (λ (d : Decision). (work_at pr d.job).task == task) l
