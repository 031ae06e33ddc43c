-- How the order of the jobs follows from the order of the tasks. A block of an order is a place and the places
-- after it up to the first with a greater number. The jobs of a block's tasks stand instance by instance.
use Rattle.std.specs.Prelude.{ℕ, ◌<◌, ◌≤◌, ◌⊎◌, ◌↔◌, List, length, Contains, slice_index}
use Rattle.graph.specs.declared.net.Net.{Net}
use Rattle.graph.specs.Net.{instances}
use Rattle.graph.specs.Cycle.{job_count}
use Rattle.graph.specs.Order.{IsInOrder}
use Rattle.graph.specs.Jobs.{IsProducer, job_number}

-- the places from `from` up to `to` are a block
pub record IsBlock (tasks : List ℕ) (from to : ℕ) : Type 0 where
  pub some : from < to
  pub inside : to ≤ length tasks
  pub below : (k : ℕ) → from < k → k < to → slice_index tasks k < slice_index tasks from
  pub next : to < length tasks → slice_index tasks from ≤ slice_index tasks to

-- the instance of the task at place k is named: its block is done, or this one has come so far
abbrev pub IsNamed : (from to place instance : ℕ) → (k m : ℕ) → Type 0
IsNamed from to place instance k m = (k < from) ⊎ (((k < place) × (m ≤ instance)) ⊎ ((k < to) × (m < instance)))

-- the jobs named so far are in order, and are those of the blocks before `from`, and of the block up to `to` the
-- earlier instances and this one's places before `place`
pub record HasCome (net : Net) (cycle : ℕ) (tasks jobs : List ℕ) (from to place instance : ℕ) : Type 0 where
  pub in_order : IsInOrder (IsProducer net cycle) (job_count net cycle) jobs
  pub named : (k m : ℕ) → k < length tasks → m < instances net cycle (slice_index tasks k) →
      Contains jobs (job_number net cycle (slice_index tasks k) m) ↔ IsNamed from to place instance k m
