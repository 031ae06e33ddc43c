-- A net has one graph for its lengths.
use Rattle.std.proofs.Common.{◌≡◌, ℕ, List, length, Option, refl, sym, ◌∙◌, ap, subst}
use Rattle.graph.specs.declared.net.Net.{Net}
use Rattle.graph.specs.declared.job.GraphFault.{GraphFault}
use Rattle.graph.specs.declared.job.Job.{Job}
use Rattle.graph.specs.declared.feeder.Feeder.{Feeder}
use Rattle.graph.specs.Cycle.{first_job}
use Rattle.graph.specs.Faults.{PassesLimit}
use Rattle.graph.specs.Feeders.{feeder_of}
use Rattle.graph.specs.GraphOf.{IsGraphOf}
use Rattle.graph.specs.JobGraph.{JobGraph, IsJobGraph}
use Rattle.graph.specs.Jobs.{jobs_of, IsProducer, IsRemaining}
use Rattle.graph.specs.Order.{IsOrder}
use Rattle.graph.specs.Sound.{KeepsRules}
use Rattle.one_graph.proofs.OneCycle.{one_cycle, not_within}
use Rattle.one_graph.proofs.OneList.{one_order, one_list, one_table}

fields_same : (c : ℕ) (jobs jobs' : List Job) (order order' remaining remaining' firsts firsts' : List ℕ) (feeders feeders' : List (Option Feeder)) → jobs ≡ jobs' → order ≡ order' → remaining ≡ remaining' → firsts ≡ firsts' → feeders ≡ feeders' → (g h : JobGraph)
    → g ≡ record { cycle = c; jobs = jobs; order = order; remaining = remaining; first_jobs = firsts; feeders = feeders } → h ≡ record { cycle = c; jobs = jobs'; order = order'; remaining = remaining'; first_jobs = firsts'; feeders = feeders' } → g ≡ h
fields_same c jobs jobs' order order' remaining remaining' firsts firsts' feeders feeders' a b d e f g h is is' = cc

abbrev with_ticks : ℕ → JobGraph → JobGraph
with_ticks c h = record h { cycle = c }

-- where the cycles are one number
with_cycle : (net : Net) (lengths : List ℕ) (g h : JobGraph) → IsJobGraph g → IsJobGraph h → IsGraphOf net lengths g → IsGraphOf net lengths h → h.cycle ≡ g.cycle → g ≡ h
with_cycle net lengths g h good good' one two same =
    let jobs : g.jobs ≡ h.jobs = one.jobs ∙ (ap (λ c. jobs_of net c lengths (length net.tasks)) (sym same) ∙ sym two.jobs) in
    let size : length h.jobs ≡ length g.jobs = ap length (sym jobs) in
    let order : g.order ≡ h.order = one_order (IsProducer net g.cycle) (length g.jobs) g.order h.order one.order
    (subst (λ c. IsOrder (IsProducer net c) (length g.jobs) h.order) same (subst (λ n. IsOrder (IsProducer net h.cycle) n h.order) size two.order)) in
    let remaining : h.remaining ≡ g.remaining = one.only h.remaining (two.size ∙ size) (subst (λ c. IsRemaining net c g.jobs h.remaining) same (subst (λ (js : List Job). IsRemaining net h.cycle js h.remaining) (sym jobs) two.remaining)) in
    let firsts : g.first_jobs ≡ h.first_jobs = one_list (length net.tasks) (first_job net g.cycle) g.first_jobs h.first_jobs one.tasks two.tasks one.first_jobs (λ i low. two.first_jobs i low ∙ ap (λ c. first_job net c i) same) in
    let feeders : g.feeders ≡ h.feeders = one_table (feeder_of net) g.feeders h.feeders good.ports good'.ports one.feeders two.feeders in
    fields_same g.cycle g.jobs h.jobs g.order h.order g.remaining h.remaining g.first_jobs h.first_jobs g.feeders h.feeders jobs order (sym remaining) firsts feeders g h refl (ap (λ c. with_ticks c h) same)

pub one_graph : (net : Net) (lengths : List ℕ) (g h : JobGraph) → IsJobGraph g → IsJobGraph h → IsGraphOf net lengths g → IsGraphOf net lengths h → g ≡ h
one_graph net lengths g h good good' one two = with_cycle net lengths g h good good' one two (one_cycle net h.cycle g.cycle two.limits.is_cycle one.limits.is_cycle)

pub no_graph : (net : Net) (lengths : List ℕ) → KeepsRules net → (f : GraphFault) (g : JobGraph) → PassesLimit net f → IsGraphOf net lengths g → ⊥
no_graph net lengths rules f g past is = not_within net g.cycle f rules past is.limits
