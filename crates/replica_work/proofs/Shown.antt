-- What is seen of an execution that is over, or was cut.
use Rattle.std.proofs.Common.{◌≡◌, ℕ, [], ◌∷◌, refl}
use Rattle.processor.specs.Ends.{Halted, Broken, Over, Cut, cycles_in, end_under}
use Rattle.processor.specs.Results.{Ran, turn_of}
use Rattle.processor.specs.declared.cpu.Turn.TheVariants as turn
use Rattle.net_run.specs.NetRun.{ended_as}
use Rattle.cluster_model.specs.Effects.{ending_as, out_effects}
use Rattle.cluster_model.specs.Plan.{Plan}
use Rattle.cluster_model.specs.declared.effect.Effect.TheVariants as effect

pub halted_seen : (p : Plan) (job : ℕ) (ran : Ran) → turn.Halted ≡ turn_of ran → ending_as p job (cycles_in ran) (ended_as (end_under ran)) ≡ effect.End job (cycles_in ran) ∷ out_effects p job
halted_seen p job (Over (Halted left) cycles) e = refl
halted_seen p job (Over Broken cycles) e = let clash : ⊥ = cc in absurd clash
halted_seen p job (Cut cycles) e = let clash : ⊥ = cc in absurd clash

pub broken_seen : (p : Plan) (job : ℕ) (ran : Ran) → turn.Broken ≡ turn_of ran → ending_as p job (cycles_in ran) (ended_as (end_under ran)) ≡ effect.Break job ∷ []
broken_seen p job (Over (Halted left) cycles) e = let clash : ⊥ = cc in absurd clash
broken_seen p job (Over Broken cycles) e = refl
broken_seen p job (Cut cycles) e = let clash : ⊥ = cc in absurd clash

pub short_seen : (p : Plan) (job : ℕ) (ran : Ran) → turn.Short ≡ turn_of ran → ending_as p job (cycles_in ran) (ended_as (end_under ran)) ≡ effect.Break job ∷ []
short_seen p job (Over (Halted left) cycles) e = let clash : ⊥ = cc in absurd clash
short_seen p job (Over Broken cycles) e = let clash : ⊥ = cc in absurd clash
short_seen p job (Cut cycles) e = refl
