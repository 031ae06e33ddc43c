-- The edges of a net and the jobs that give their words.
use Rattle.std.proofs.Common.{◌≡◌, ℕ, ◌<◌, List, length, ℤ, Option, None, Some, ◌∙◌, ap}
use Rattle.std.specs.Prelude.{slice_get, sum, slice_index}
use Rattle.std.proofs.lemmas.List.Elements.{All-get_or}
use Rattle.std.proofs.lemmas.Option.{slice_get-get_or}
use Rattle.graph.specs.JobGraph.{JobGraph}
use Rattle.graph.specs.Jobs.{job_number}
use Rattle.graph.specs.Net.{outs_of, instances}
use Rattle.graph.specs.NetGraph.{IsNetGraph}
use Rattle.graph.specs.Rules.{IsEdge}
use Rattle.graph.specs.declared.job.Job.{Job}
use Rattle.graph.specs.declared.net.Edge.{Edge}
use Rattle.graph.specs.declared.net.Net.{Net}
use Rattle.tables.specs.Named.{no_edge, edge_at}
use Rattle.net_run.specs.Words.{port_words, with_words, edge_words, carried}
use Rattle.job_book.specs.Known.{Book}
use Rattle.cluster_plan.proofs.Numbers.{at_number, inside}
use Rattle.carried_words.specs.Says.{IsBookOf}

-- an edge stands in its net, and its producer has a job of this instance, with room in the book for its outputs
pub record Joins (net : Net) (g : JobGraph) (book : Book) (edge instance : ℕ) : Type 0 where
  pub stands : slice_get net.edges edge ≡ Some (edge_at net edge)
  pub from_port : (edge_at net edge).from_port < length (outs_of net (edge_at net edge).from_task)
  pub job : job_number net g.cycle (edge_at net edge).from_task instance < length g.jobs
  pub room : slice_index book.rooms (job_number net g.cycle (edge_at net edge).from_task instance) ≡ sum (outs_of net (edge_at net edge).from_task)

pub joins : (net : Net) (g : JobGraph) (book : Book) (edge instance : ℕ) → IsNetGraph net g → IsBookOf net g book → edge < length net.edges → instance < instances net g.cycle (edge_at net edge).from_task → Joins net g book edge instance
joins net g book edge instance n b low run =
    let is : IsEdge net (edge_at net edge) = All-get_or (IsEdge net) net.edges edge no_edge low n.is.rules.entry_rules.entries.edges in
    let job = inside net g n (edge_at net edge).from_task instance is.from_task run in
    record {
      stands = slice_get-get_or net.edges edge no_edge low;
      from_port = is.from_port;
      job = job;
      room = b.rooms (job_number net g.cycle (edge_at net edge).from_task instance) job
          ∙ ap (λ (j : Job). sum (outs_of net j.task)) (at_number net g n (edge_at net edge).from_task instance is.from_task run);
    }

-- what an edge carries, where its task gives words and where it gives none
pub carries_some : (net : Net) (given : ℕ → Option (List ℤ)) (edge : ℕ) (e : Edge) (outs : List ℤ) → slice_get net.edges edge ≡ Some e → given e.from_task ≡ Some outs
    → carried net given edge ≡ Some (port_words (outs_of net e.from_task) e.from_port outs)
carries_some net given edge e outs stands is =
    ap (edge_words net given) stands ∙ ap (λ o. with_words o (λ (words : List ℤ). Some (port_words (outs_of net e.from_task) e.from_port words))) is

pub carries_none : (net : Net) (given : ℕ → Option (List ℤ)) (edge : ℕ) (e : Edge) → slice_get net.edges edge ≡ Some e → given e.from_task ≡ None → carried net given edge ≡ None
carries_none net given edge e stands is =
    ap (edge_words net given) stands ∙ ap (λ o. with_words o (λ (words : List ℤ). Some (port_words (outs_of net e.from_task) e.from_port words))) is
