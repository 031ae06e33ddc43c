-- When programs fit the tasks of a plant.
use Rattle.std.specs.Prelude.{◌≡◌, ℕ, sum, slice_get, slice_index, Some}
use Rattle.graph.specs.Net.{ins_of, outs_of}
use Rattle.plant.specs.declared.system.Plant.{Plant}

-- each program takes the words of its task's in ports, gives those of its out ports, and has its state words; how many a
-- program takes, gives and has is its processor's to say
pub record ProgramsFit {P : Type 0} (takes gives has : P → ℕ) (plant : Plant P) : Type 0 where
  pub ins : (task : ℕ) (program : P) → slice_get plant.programs task ≡ Some program → takes program ≡ sum (ins_of plant.net task)
  pub outs : (task : ℕ) (program : P) → slice_get plant.programs task ≡ Some program → gives program ≡ sum (outs_of plant.net task)
  pub states : (task : ℕ) (program : P) → slice_get plant.programs task ≡ Some program → has program ≡ slice_index plant.states task
