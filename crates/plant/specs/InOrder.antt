-- When a plant is in order.
use Rattle.std.specs.Prelude.{◌≡◌, ℕ, ◌≤◌, All, length}
use Rattle.graph.specs.NetGraph.{IsNetGraphFor}
use Rattle.graph.specs.Sound.{IsSound}
use Rattle.tables.specs.Valid.{AreValid}
use Rattle.plant.specs.declared.system.Plant.{Plant}
use Rattle.plant.specs.Lengths.{lengths_of}

-- a number of cycles that a task may take
abbrev pub IsMaxt : ℕ → Type 0
IsMaxt maxt = (1 ≤ maxt) × (maxt ≤ 2147483647)

-- the net is sound, the graph is the net's for the lengths of its jobs, the tables are valid, and each task has a
-- program, a greatest number of cycles and a number of state words
pub record IsInOrder {P : Type 0} (plant : Plant P) : Type 0 where
  pub sound : IsSound plant.net
  pub graph : IsNetGraphFor plant.net (lengths_of plant.maxts plant.net.shape.cycles_per_tick) plant.graph
  pub tables : AreValid plant.net plant.graph plant.tables
  pub programs : length plant.programs ≡ length plant.net.tasks
  pub maxts : length plant.maxts ≡ length plant.net.tasks
  pub states : length plant.states ≡ length plant.net.tasks
  pub each_maxt : All IsMaxt plant.maxts
  pub each_state : All (λ words. words ≤ 4096) plant.states
