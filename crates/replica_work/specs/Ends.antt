-- The fifth part of a tick as lists. This project's own.
use Rattle.std.specs.Prelude.{ℕ, suc, nat_eq, List, [], ℤ, get_or, if◌then◌else◌}
use Rattle.std.specs.List.{flat_map, range_with_len}
use Rattle.cluster_model.specs.Plan.{Plan, listed}
use Rattle.cluster_model.specs.State.{Status}
use Rattle.cluster_model.specs.Tick.{state_after}
use Rattle.cluster_model.specs.Effects.{ending}
use Rattle.cluster_model.specs.declared.effect.Effect.{Effect}

module _ (p : Plan) (tick : ℕ) (given : ℕ → Status) where
  -- the states of the tasks after the tick
  abbrev pub states_at : (states : List (List ℤ)) → List (List ℤ)
  states_at states = listed p.tasks (λ task. state_after p tick given task (get_or states task []) (p.instances task))

  -- what is seen of the jobs that end
  abbrev pub ends_at : List Effect
  ends_at = flat_map (λ job. if nat_eq (p.ends job) (suc tick) then ending p job (given job) else []) (range_with_len 0 p.jobs)
