-- What is seen of a job's outputs. This project's own.
use Rattle.std.specs.Prelude.{ℕ, List, [], ◌∷◌, length, map}
use Rattle.std.specs.List.{flat_map}
use Rattle.graph.specs.declared.net.Net.{Net}
use Rattle.graph.specs.declared.net.Plug.{Plug}
use Rattle.agenda.specs.Due.{Agenda}
use Rattle.cluster_model.specs.declared.effect.Effect.{Effect}
use Rattle.cluster_model.specs.declared.effect.Effect.TheVariants as effect

-- the actuators by the tasks whose outputs they get
abbrev pub outputs_in : Net → Agenda
outputs_in net = record { numbers = length net.tasks; due = map (λ (plug : Plug). plug.task) net.actuators }

-- each of some actuators gets its words
abbrev pub shown_outs : (instance : ℕ) → (actuators : List ℕ) → List Effect
shown_outs instance actuators = flat_map (λ actuator. effect.Out actuator instance ∷ []) actuators
