-- Cycles have ticks, and clocks may differ.
use Rattle.std.proofs.Common.{ℕ, ◌<◌, List, length, ℤ, arith}
use Rattle.graph.specs.JobGraph.{JobGraph}
use Rattle.graph.specs.declared.net.Net.{Net}
use Rattle.tables.specs.declared.table.Tables.{Tables}
use Rattle.net_run.specs.NetRun.{Execution}
use Rattle.cluster_agreement.specs.Agreement.{IsSet}
use Rattle.cluster_model.specs.Plan.{Plan}
use Rattle.cluster_model.specs.PlanOf.{plan_of}
use Rattle.cluster_plan.proofs.Whole.{sound_plans}

module _ (net : Net) (g : JobGraph) (t : Tables) (words : List ℕ) (exec : Execution) (cost : ℕ → List ℤ → List ℤ → ℕ) (is : IsSet net g t words exec) where
  abbrev plan : Plan
  plan = plan_of net g t words exec cost

  pub some_skew : 0 < plan.skew
  some_skew = (let z = is.graph.is.rules.entry_rules.shape.precision in omega (arith, z.0))

  pub some_ticks : 0 < plan.cycle
  some_ticks =
      let sound = sound_plans net g t words exec cost is.graph is.tables in
      let some_task : 0 < length net.tasks = (let z = is.graph.is.rules.entry_rules.counts.some_task in omega (arith, z)) in
      let n = sound.numbered 0 0 some_task (sound.every 0 some_task) in
      omega (arith, sound.long (plan.number 0 0) n.0, sound.within (plan.number 0 0) n.0)
