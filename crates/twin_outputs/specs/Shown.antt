-- What is shown of a replica's effects beside its twin, one after the other. This project's own.
use Rattle.std.specs.Prelude.{Bool, false, ◌&&◌, cond, ℕ, List, [], ◌∷◌, ◌++◌, Option, None, Some}
use Rattle.cluster_model.specs.Effects.{is_output}
use Rattle.cluster_model.specs.State.{given, Held, status_in}
use Rattle.cluster_model.specs.declared.effect.Effect.{Effect}
use Rattle.cluster_model.specs.declared.effect.Effect.TheVariants as effect
use Rattle.event_effects.specs.Effects.{is_given}

-- the job of the last end, this effect's included
abbrev pub ended_last : (last : Option ℕ) → Effect → Option ℕ
ended_last last (effect.Take from side round) = last
ended_last last (effect.Miss from round) = last
ended_last last (effect.Put word) = last
ended_last last (effect.Start job) = last
ended_last last (effect.Skip job) = last
ended_last last (effect.End job cycles) = Some job
ended_last last (effect.Break job) = last
ended_last last (effect.Out actuator instance) = last
ended_last last effect.Fell = last
ended_last last effect.Cut = last

-- the twin has given the outputs of that job
abbrev pub has_given : (twin : Held) → (last : Option ℕ) → Bool
has_given twin None = false
has_given twin (Some job) = is_given (given (status_in twin job))

-- an output isn't shown again
abbrev pub shown : (twin : Held) → (last : Option ℕ) → Effect → List Effect
shown twin last e = cond (is_output e && has_given twin last) [] (e ∷ [])

abbrev pub shown_beside : (twin : Held) → (last : Option ℕ) → List Effect → List Effect
shown_beside twin last [] = []
shown_beside twin last (e ∷ effects) = shown twin (ended_last last e) e ++ shown_beside twin (ended_last last e) effects
