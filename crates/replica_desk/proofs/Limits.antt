-- A job's ticks are enough for its greatest number of cycles.
use Rattle.std.proofs.Common.{◌≡◌, ℕ, zero, suc, ◌+◌, ◌*◌, ◌/◌, ◌%◌, ◌<◌, ◌≤◌, length, get_or, sym, ◌∙◌, ap, arith}
use Rattle.std.specs.Prelude.{slice_index, min, max}
use Rattle.std.proofs.lemmas.Grind.{div_ceil_times}
use Rattle.std.proofs.lemmas.List.{get_or-map}
use Rattle.std.proofs.lemmas.List.Elements.{All-get_or}
use Rattle.graph.specs.Length.{length_of}
use Rattle.graph.specs.NetGraph.{IsNetGraph}
use Rattle.graph.specs.declared.job.Job.{Job}
use Rattle.tables.specs.Named.{job_at, entry_at}
use Rattle.tables.specs.declared.rule.TableRule.TheVariants as rule
use Rattle.plant.specs.InOrder.{IsInOrder, IsMaxt}
use Rattle.plant.specs.Lengths.{lengths_of}
use Rattle.plant.specs.declared.system.Plant.{Plant}
use Rattle.cluster_plan.proofs.Numbers.{is_of}
use Rattle.replica_job.specs.Hand.{limit_of}

enough : (maxt per : ℕ) → 1 ≤ maxt → 1 ≤ per → maxt ≤ length_of maxt per * per
enough maxt per some pos =
    let q : ℕ = maxt / per + min 1 (maxt % per) in
    let d : maxt ≤ q * per = (div_ceil_times maxt per pos).0 in
    let big : 1 ≤ q = positive q per maxt d some in
    let e : q ≡ max 1 q = omega (arith, big) in
    omega (arith, d, ap (λ x. x * per) e)
  where
    positive : (q per maxt : ℕ) → maxt ≤ q * per → 1 ≤ maxt → 1 ≤ q
    positive zero per maxt d some = absurd (omega (arith, d, some))
    positive (suc q) per maxt d some = omega arith

module _ {P : Type 0} (plant : Plant P) (order : IsInOrder plant) (job : ℕ) (low : job < length plant.graph.jobs) where
  -- with all its ticks a job may take its greatest number of cycles
  pub whole_limit : (ticks : ℕ) → (entry_at plant.tables job).start + ticks ≡ (entry_at plant.tables job).end
      → limit_of (slice_index plant.maxts (job_at plant.graph job).task) ticks plant.net.shape.cycles_per_tick ≡ slice_index plant.maxts (job_at plant.graph job).task
  whole_limit ticks all =
      let n : IsNetGraph plant.net plant.graph = record { lengths = lengths_of plant.maxts plant.net.shape.cycles_per_tick; is = order.graph } in
      let h = is_of plant.net plant.graph n job low in
      let task = (job_at plant.graph job).task in
      let maxt = slice_index plant.maxts task in
      let per = plant.net.shape.cycles_per_tick in
      let known : task < length plant.maxts = omega (arith, h.task, order.maxts) in
      let long : (job_at plant.graph job).length ≡ length_of maxt per =
      ap (λ (j : Job). j.length) h.is ∙ get_or-map (λ maxt. length_of maxt per) plant.maxts task 0 0 known in
      let some = All-get_or IsMaxt plant.maxts task 0 known order.each_maxt in
      let pos = order.graph.rules.entry_rules.shape.cycles_per_tick.0 in
      let is : ticks ≡ length_of maxt per = omega (arith, all, order.tables rule.Lengths job low, long) in
      let room = enough maxt per some.0 pos in
      let times : ticks * per ≡ length_of maxt per * per = ap (λ x. x * per) is in
      omega (arith, room, times)

  -- and with some of them at most as many
  pub limit_below : (ticks more : ℕ) → ticks ≤ more
      → limit_of (slice_index plant.maxts (job_at plant.graph job).task) ticks plant.net.shape.cycles_per_tick ≤ limit_of (slice_index plant.maxts (job_at plant.graph job).task) more plant.net.shape.cycles_per_tick
  limit_below ticks more few = rises (slice_index plant.maxts (job_at plant.graph job).task) ticks more plant.net.shape.cycles_per_tick few
    where
      times_le : (ticks more per : ℕ) → ticks ≤ more → ticks * per ≤ more * per
      times_le zero more per few = omega arith
      times_le (suc ticks) zero per few = absurd (omega (arith, few))
      times_le (suc ticks) (suc more) per few = omega (arith, times_le ticks more per (omega (arith, few)))

      rises : (maxt ticks more per : ℕ) → ticks ≤ more → min maxt (ticks * per) ≤ min maxt (more * per)
      rises maxt ticks more per few = omega (arith, times_le ticks more per few)
