-- A task with its code and its bound.
use Rattle.std.specs.Prelude.{◌≡◌, ◌^◌, ◌<◌, ◌≤◌, ℕ, List, length}
use Rattle.mc_compile.specs.Follows.{Follows}
use Rattle.mc_tree.specs.Instance.{is_in, is_out, is_state, width_of}
use Rattle.mc_tree.specs.Plain.{plain_task}
use Rattle.mc_tree.specs.declared.tree.Task.{Task}
use Rattle.stages.specs.Stage.{Stage, in_turn, giving}
use Rattle.task_source.specs.Bound.{code_of, bounding}
use Rattle.task_source.specs.Source.{source}
use Rattle.task_source.specs.declared.built.BuiltTask.{BuiltTask}
use Rattle.word_code.specs.Cells as machine

-- a task and its bound
pub record Built : Type 0 where
  pub task : Task
  pub maxt : ℕ

abbrev pub plain_built : BuiltTask → Built
plain_built b = record { task = b.task; maxt = b.maxt }

-- the code is the task's, takes and gives as many words, and does under the bound what the task means
pub record IsBuilt (b : BuiltTask) : Type 0 where
  pub is_code : b.code ≡ code_of b.task
  pub follows : Follows (plain_task b.task) b.code b.maxt
  pub small : b.maxt < 2 ^ 31
  pub cells : length b.task.cells < 2 ^ 40
  pub few : width_of is_out b.task.cells ≤ 256
  pub in_words : machine.width_of machine.is_in b.code.cells ≡ width_of is_in b.task.cells
  pub out_words : machine.width_of machine.is_out b.code.cells ≡ width_of is_out b.task.cells
  pub state_words : machine.width_of machine.is_state b.code.cells ≡ width_of is_state b.task.cells

-- the source, and then the bound of its code
abbrev pub built : List ℕ → Stage Built
built file = in_turn (source file) (λ t. in_turn (bounding file t) (λ maxt. giving (record { task = t; maxt = maxt })))
