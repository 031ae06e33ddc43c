-- A net gives one answer.
use Rattle.std.proofs.Common.{◌≡◌, ℕ, List, Result, Ok, Err, sym, ap, ◌∙◌}
use Rattle.graph.specs.declared.net.Net.{Net}
use Rattle.graph.specs.declared.job.GraphFault.{GraphFault}
use Rattle.graph.specs.declared.job.GraphFault.TheVariants.{CycleTooLong, TooManyJobs, TooManySensorWords, Memory}
use Rattle.graph.specs.JobGraph.{JobGraph}
use Rattle.net_graph.specs.Gives.{GraphGives, Whole, Past, past_limit}
use Rattle.one_graph.proofs.OneCycle.{one_fault}
use Rattle.one_graph.proofs.Whole.{one_graph, no_graph}
use Rattle.plant.specs.Lengths.{lengths_of}
use Rattle.refusals.specs.declared.fault.Fault.{Fault}
use Rattle.refusals.specs.declared.fault.Fault.TheVariants as fault
use Rattle.refusals.specs.declared.refusal.Refusal.{Refusal}
use Rattle.refusals.specs.declared.refusal.Refusal.TheVariants as refusal
use Rattle.stages.proofs.Relations.{OneAnswer}
use Rattle.stages.proofs.Turns.{fails}
use Rattle.stages.proofs.WithinFacts.{refuses_none, refuses_one}

pub graph_once : (project : List ℕ) (net : Net) (maxts : List ℕ) → OneAnswer (GraphGives project net maxts)
graph_once project net maxts r s (Whole g ok good is) (Whole h fine well too) =
    ok ∙ (ap (λ z. Ok z) (one_graph net (lengths_of maxts net.shape.cycles_per_tick) g h good well is.graph too.graph) ∙ sym fine)
graph_once project net maxts r s (Whole g ok good is) (Past f refused rules past) = absurd (no_graph net (lengths_of maxts net.shape.cycles_per_tick) rules f g past is.graph)
graph_once project net maxts r s (Past f refused rules past) (Whole g ok good is) = absurd (no_graph net (lengths_of maxts net.shape.cycles_per_tick) rules f g past is.graph)
graph_once project net maxts r s (Past f refused rules past) (Past g also too over) = refused ∙ (ap (λ (z : GraphFault). fails JobGraph (past_limit project z)) (one_fault net rules f g past over) ∙ sym also)

-- a net refuses by a fault
pub refuses_graph : (P : Refusal → Type 0) (project : List ℕ) (net : Net) (maxts : List ℕ) → ((f : Fault) → P (refusal.Fault f)) → (r : Result JobGraph Refusal) (e : Refusal) → GraphGives project net maxts r → r ≡ Err e → P e
refuses_graph P project net maxts fails r e (Whole g ok good it) is = refuses_none P g r e ok is
refuses_graph P project net maxts fails r e (Past (CycleTooLong n) refused rules past) is = refuses_one P (refusal.Fault (fault.Cycle project n)) r e (fails (fault.Cycle project n)) refused is
refuses_graph P project net maxts fails r e (Past (TooManyJobs n) refused rules past) is = refuses_one P (refusal.Fault (fault.Jobs project n)) r e (fails (fault.Jobs project n)) refused is
refuses_graph P project net maxts fails r e (Past (TooManySensorWords n) refused rules past) is = refuses_one P (refusal.Fault (fault.SensorWords project n)) r e (fails (fault.SensorWords project n)) refused is
refuses_graph P project net maxts fails r e (Past Memory refused rules past) is = absurd past
