-- The tasks of edges.
use Rattle.std.proofs.Common.{◌≡◌, ℕ, ◌<◌, length, arith, inl, inr, subst, sym}
use Rattle.std.proofs.lemmas.Bool.{cases_lt}
use Rattle.std.proofs.lemmas.List.{get_or_past}
use Rattle.std.proofs.lemmas.List.Elements.{All-get_or}
use Rattle.graph.specs.declared.net.Edge.{Edge}
use Rattle.graph.specs.declared.net.Net.{Net}
use Rattle.graph.specs.JobGraph.{JobGraph}
use Rattle.graph.specs.NetGraph.{IsNetGraph}
use Rattle.graph.specs.Rules.{IsEdge}
use Rattle.tables.specs.Named.{no_edge, edge_at}

-- an edge, or one of zeros, has tasks of the net
pub record HasTasks (net : Net) (edge : Edge) : Type 0 where
  pub from : edge.from_task < length net.tasks
  pub to : edge.to_task < length net.tasks

pub edge_tasks : (net : Net) (g : JobGraph) (n : ℕ) → IsNetGraph net g → HasTasks net (edge_at net n)
edge_tasks net g n h = elim (cases_lt n (length net.edges)) [
  | inl low ↦ (let e = All-get_or (IsEdge net) net.edges n no_edge low h.is.rules.entry_rules.entries.edges in record { from = e.from_task; to = e.to_task })
  | inr past ↦ (let some = h.is.rules.entry_rules.counts.some_task in let e : edge_at net n ≡ no_edge = get_or_past net.edges n no_edge past in
      subst (HasTasks net) (sym e) (record { from = omega arith; to = omega arith }))
]
