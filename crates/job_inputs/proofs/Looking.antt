-- What a job of a unit finds on an edge.
use Rattle.std.proofs.Common.{◌≡◌, ℕ, ◌<◌, length, Bool, cond, sym, ◌∙◌, ap}
use Rattle.std.specs.List.{position_or_len}
use Rattle.std.proofs.lemmas.Bool.{ne_eqb}
use Rattle.std.proofs.lemmas.Option.{slice_get-get_or}
use Rattle.graph.specs.Feeders.{from_task_of, from_task_in}
use Rattle.graph.specs.JobGraph.{JobGraph}
use Rattle.graph.specs.Jobs.{job_number}
use Rattle.graph.specs.declared.net.Net.{Net}
use Rattle.tables.specs.Named.{no_edge, edge_at, entry_at}
use Rattle.tables.specs.declared.table.Tables.{Tables}
use Rattle.tables.specs.declared.table.JobEntry.{JobEntry}
use Rattle.job_book.specs.Known.{Book}
use Rattle.replica_parts.specs.Inbox.{Taken, taken_at}
use Rattle.carried_words.specs.Says.{edge_says}
use Rattle.job_inputs.specs.Look.{looked_up, is_of}

module _ (net : Net) (g : JobGraph) (t : Tables) (unit : ℕ) (book : Book) (taken : Taken) (instance edge : ℕ) (low : edge < length net.edges) where
  from : from_task_of net edge ≡ (edge_at net edge).from_task
  from = ap from_task_in (slice_get-get_or net.edges edge no_edge low)

  -- the producer's entry
  pub producer : (number : ℕ) → number ≡ job_number net g.cycle (edge_at net edge).from_task instance → (entry : JobEntry) → entry ≡ entry_at t number
      → (entry_at t (job_number net g.cycle (from_task_of net edge) instance)).unit ≡ entry.unit
  producer number e entry is = ap (λ x. (entry_at t (job_number net g.cycle x instance)).unit) from ∙ ap (λ n. (entry_at t n).unit) (sym e) ∙ ap (λ (x : JobEntry). x.unit) (sym is)

  -- another unit's producer
  pub found_there : (entry : JobEntry) → (entry_at t (job_number net g.cycle (from_task_of net edge) instance)).unit ≡ entry.unit → (entry.unit ≡ unit → ⊥)
      → looked_up net g t unit book taken instance edge ≡ taken_at taken (position_or_len (is_of edge instance) t.messages)
  found_there entry e differ =
      ap (λ (b : Bool). cond b (edge_says net g.cycle book edge instance) (taken_at taken (position_or_len (is_of edge instance) t.messages)))
      (ne_eqb (entry_at t (job_number net g.cycle (from_task_of net edge) instance)).unit unit (λ h. differ (sym e ∙ h)))
