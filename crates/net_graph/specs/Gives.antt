-- What a net and the bounds of its tasks give: a graph, or the limit that is passed.
use Rattle.std.specs.Prelude.{◌≡◌, ℕ, List, Result, Ok, Err}
use Rattle.graph.specs.declared.net.Net.{Net}
use Rattle.graph.specs.declared.job.GraphFault.{GraphFault}
use Rattle.graph.specs.declared.job.GraphFault.TheVariants.{CycleTooLong, TooManyJobs, TooManySensorWords, Memory}
use Rattle.graph.specs.Faults.{PassesLimit}
use Rattle.graph.specs.JobGraph.{JobGraph, IsJobGraph}
use Rattle.graph.specs.NetGraph.{IsNetGraphFor}
use Rattle.graph.specs.Sound.{KeepsRules}
use Rattle.plant.specs.Lengths.{lengths_of}
use Rattle.refusals.specs.declared.fault.Fault.TheVariants as fault
use Rattle.refusals.specs.declared.refusal.Refusal.{Refusal}
use Rattle.refusals.specs.declared.refusal.Refusal.TheVariants as refusal

-- the refusal for a limit that the net of a project passes
abbrev pub past_limit : List ℕ → GraphFault → Refusal
past_limit project (CycleTooLong ticks) = refusal.Fault (fault.Cycle project ticks)
past_limit project (TooManyJobs count) = refusal.Fault (fault.Jobs project count)
past_limit project (TooManySensorWords count) = refusal.Fault (fault.SensorWords project count)
past_limit project Memory = refusal.Memory

-- What a net that keeps the rules gives whose tasks have these bounds, in cycles: the graph of its jobs; or the first limit that it passes, of a
-- cycle's ticks, of its jobs and of its sensor words.
pub data GraphGives (project : List ℕ) (net : Net) (maxts : List ℕ) (answer : Result JobGraph Refusal) : Type 0 where
  Whole : (g : JobGraph) → answer ≡ Ok g → IsJobGraph g → IsNetGraphFor net (lengths_of maxts net.shape.cycles_per_tick) g → GraphGives project net maxts answer
  Past : (f : GraphFault) → answer ≡ Err (past_limit project f) → KeepsRules net → PassesLimit net f → GraphGives project net maxts answer
