-- A graph that was given.
use Rattle.std.proofs.Common.{◌≡◌, ◌⊎◌, inl, inr, ℕ, List, Result, Ok, Err, refl, sym, ap, ◌∙◌, subst}
use Rattle.graph.specs.declared.net.Net.{Net}
use Rattle.graph.specs.declared.job.GraphFault.{GraphFault}
use Rattle.graph.specs.declared.job.GraphFault.TheVariants.{CycleTooLong, TooManyJobs, TooManySensorWords, Memory}
use Rattle.graph.specs.GraphOf.{IsFaultOf}
use Rattle.graph.specs.JobGraph.{JobGraph, IsJobGraph}
use Rattle.graph.specs.NetGraph.{IsNetGraphFor}
use Rattle.graph.specs.Sound.{KeepsRules}
use Rattle.net_graph.specs.Gives.{GraphGives, Whole, Past, past_limit}
use Rattle.plant.specs.Lengths.{lengths_of}
use Rattle.refusals.specs.declared.refusal.Refusal.{Refusal}
use Rattle.refusals.specs.declared.refusal.Refusal.TheVariants as refusal
use Rattle.stages.proofs.Gives.{ok_once}
use Rattle.stages.proofs.Turns.{fails, not_err}

abbrev pub Gives : List ℕ → Net → List ℕ → Result JobGraph Refusal → Type 0
Gives project net maxts r = GraphGives project net maxts r ⊎ (r ≡ Err refusal.Memory)

-- a graph for these lengths
pub give_graph : (project : List ℕ) (net : Net) (maxts lengths : List ℕ) (g : JobGraph) → lengths ≡ lengths_of maxts net.shape.cycles_per_tick → IsJobGraph g → IsNetGraphFor net lengths g
    → Gives project net maxts (Ok g)
give_graph project net maxts lengths g is good graph = inl (Whole g refl good (subst (λ (l : List ℕ). IsNetGraphFor net l g) is graph))

-- a limit that is passed, or no memory
pub give_past : (project name : List ℕ) (net : Net) (maxts : List ℕ) (f : GraphFault) (e : Refusal) → name ≡ project → e ≡ past_limit name f → KeepsRules net → IsFaultOf net f → Gives project net maxts (Err e)
give_past project name net maxts (CycleTooLong n) e same is rules past = inl (Past (CycleTooLong n) (ap (fails JobGraph) (is ∙ ap (λ (m : List ℕ). past_limit m (CycleTooLong n)) same)) rules past)
give_past project name net maxts (TooManyJobs n) e same is rules past = inl (Past (TooManyJobs n) (ap (fails JobGraph) (is ∙ ap (λ (m : List ℕ). past_limit m (TooManyJobs n)) same)) rules past)
give_past project name net maxts (TooManySensorWords n) e same is rules past = inl (Past (TooManySensorWords n) (ap (fails JobGraph) (is ∙ ap (λ (m : List ℕ). past_limit m (TooManySensorWords n)) same)) rules past)
give_past project name net maxts Memory e same is rules past = inr (ap (fails JobGraph) is)

-- a graph that was given is the net's
pub graph_is : (project : List ℕ) (net : Net) (maxts : List ℕ) (g : JobGraph) → GraphGives project net maxts (Ok g) → IsNetGraphFor net (lengths_of maxts net.shape.cycles_per_tick) g
graph_is project net maxts g (Whole h ok good is) = subst (λ (x : JobGraph). IsNetGraphFor net (lengths_of maxts net.shape.cycles_per_tick) x) (sym (ok_once JobGraph g h ok)) is
graph_is project net maxts g (Past f refused rules past) = not_err g (past_limit project f) (sym refused)
