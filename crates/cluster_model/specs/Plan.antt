-- What a cluster is set to do in every cycle: its tables, its net and its bus as functions of the numbers of jobs, edges and
-- messages. Nothing of it changes at run time.
use Rattle.std.specs.Prelude.{ℕ, List, map, ℤ, Option}
use Rattle.std.specs.List.{range_with_len}
use Rattle.processor.specs.Ends.{End}
use Rattle.processor.specs.Results.{Results}
use Rattle.mars_base.specs.declared.shape.Side.{Side}

pub record Plan : Type 0 where
  -- the words of a frame; the greatest difference of two clocks; the ticks, the rounds and the units of a cycle
  pub words : ℕ
  pub skew : ℕ
  pub cycle : ℕ
  pub rounds : ℕ
  pub units : ℕ
  -- how many tasks, jobs and messages there are
  pub tasks : ℕ
  pub jobs : ℕ
  pub messages : ℕ
  -- a job's task, its instance, its unit, the tick at which it starts, and the first tick after it
  pub task : (job : ℕ) → ℕ
  pub instance : (job : ℕ) → ℕ
  pub unit : (job : ℕ) → ℕ
  pub starts : (job : ℕ) → ℕ
  pub ends : (job : ℕ) → ℕ
  -- the number of the job of a task and an instance, how many instances a task has, its unit, and its number of state words
  pub number : (task instance : ℕ) → ℕ
  pub instances : (task : ℕ) → ℕ
  pub home : (task : ℕ) → ℕ
  pub state_words : (task : ℕ) → ℕ
  -- the actuators that a task's outputs feed, in order
  pub actuators : (task : ℕ) → List ℕ
  -- the task that gives an edge's words, and what the edge carries by what each task gives
  pub from : (edge : ℕ) → ℕ
  pub carried : (given : ℕ → Option (List ℤ)) → (edge : ℕ) → Option (List ℤ)
  -- a message's edge and instance, the unit that sends it, the round in whose frame it goes, and the unit that it is for
  pub edge_of : (message : ℕ) → ℕ
  pub instance_of : (message : ℕ) → ℕ
  pub sender : (message : ℕ) → ℕ
  pub round_of : (message : ℕ) → ℕ
  pub receiver : (message : ℕ) → ℕ
  -- the message of an edge and an instance
  pub message : (edge instance : ℕ) → ℕ
  -- the tick at which a slot begins, and the first tick from which on a unit's frame of a round may be used
  pub slot : (round unit : ℕ) → Side → ℕ
  pub usable : (round unit : ℕ) → ℕ
  -- a word of a unit's frame of a round, by what each message says; and what a message says in a frame
  pub frame_word : (round unit : ℕ) → (said : ℕ → Option (List ℤ)) → (word : ℕ) → ℤ
  pub read : (message : ℕ) → (frame : List ℤ) → Option (List ℤ)
  -- what a job takes, by the cycle's line and what each edge brings
  pub inputs : (line : List ℤ) → (look : ℕ → Option (List ℤ)) → (job : ℕ) → Option (List ℤ)
  -- what a task's program comes to from its state and its inputs, and the cycles that this takes
  pub exec : (task : ℕ) → (state ins : List ℤ) → End Results
  pub cost : (task : ℕ) → (state ins : List ℤ) → ℕ

-- the first n values of a function
abbrev pub listed : {X : Type 0} → (n : ℕ) → (ℕ → X) → List X
listed n f = map f (range_with_len 0 n)
