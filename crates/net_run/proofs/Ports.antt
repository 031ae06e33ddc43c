-- What a job takes is the same where the edges to its ports carry the same.
use Rattle.std.proofs.Common.{◌≡◌, ℕ, zero, suc, ◌<◌, List, ◌++◌, length, ℤ, Option, Some, None, refl, sym, ◌∙◌, ap, arith}
use Rattle.std.proofs.lemmas.Option.{slice_get_within, get_or_from_slice_get}
use Rattle.graph.specs.Feeders.{EdgeFeeds, feeder_of}
use Rattle.graph.specs.Net.{ins_of, Feeds}
use Rattle.graph.specs.declared.feeder.Feeder.{Feeder}
use Rattle.graph.specs.declared.feeder.Feeder.TheVariants as feeder
use Rattle.graph.specs.declared.net.Net.{Net}
use Rattle.graph.proofs.Nets.{feeder_feeds}
use Rattle.net_run.specs.Words.{with_words, edge_words, carried, brought, ports_to, job_inputs}

pub with_same : (o : Option (List ℤ)) (go on : List ℤ → Option (List ℤ)) → ((words : List ℤ) → go words ≡ on words) → with_words o go ≡ with_words o on
with_same None go on h = refl
with_same (Some words) go on h = h words

module _ (net : Net) (cycle : ℕ) (line : List ℤ) (look other : ℕ → Option (List ℤ)) (instance : ℕ) where
  brought_same : (o : Option Feeder) → ((edge : ℕ) → o ≡ Some (feeder.Edge edge) → look edge ≡ other edge) → brought net cycle line look instance o ≡ brought net cycle line other instance o
  brought_same None h = refl
  brought_same (Some (feeder.Edge edge)) h = h edge refl
  brought_same (Some (feeder.Sensor sensor)) h = refl

  ports_same : (task n : ℕ) → ((port edge : ℕ) → port < n → feeder_of net task port ≡ Some (feeder.Edge edge) → look edge ≡ other edge)
      → ports_to net cycle line look instance task n ≡ ports_to net cycle line other instance task n
  ports_same task zero h = refl
  ports_same task (suc n) h =
      ap (λ o. with_words o (λ before. with_words (brought net cycle line look instance (feeder_of net task n)) (λ words. Some (before ++ words))))
      (ports_same task n (λ port edge low e. h port edge (omega (arith, low)) e))
      ∙ with_same (ports_to net cycle line other instance task n)
      (λ before. with_words (brought net cycle line look instance (feeder_of net task n)) (λ words. Some (before ++ words)))
      (λ before. with_words (brought net cycle line other instance (feeder_of net task n)) (λ words. Some (before ++ words)))
      (λ before. ap (λ o. with_words o (λ words. Some (before ++ words))) (brought_same (feeder_of net task n) (λ edge e. h n edge (omega arith) e)))

  -- it looks at the edges to the task's ports alone
  pub inputs_same : (task : ℕ) → ((port edge : ℕ) → port < length (ins_of net task) → feeder_of net task port ≡ Some (feeder.Edge edge) → look edge ≡ other edge)
      → job_inputs net cycle line look instance task ≡ job_inputs net cycle line other instance task
  inputs_same task h = ports_same task (length (ins_of net task)) h

-- an edge that stands carries what its task gives
pub carried_at : (net : Net) (given : ℕ → Option (List ℤ)) (task port edge : ℕ) (f : EdgeFeeds net task port edge) → carried net given edge ≡ edge_words net given (Some f.edge)
carried_at net given task port edge f = ap (edge_words net given) f.stands

-- it carries the same where its task gives the same
pub carried_same : (net : Net) (given other : ℕ → Option (List ℤ)) (task port edge : ℕ) (f : EdgeFeeds net task port edge) → given f.edge.from_task ≡ other f.edge.from_task
    → carried net given edge ≡ carried net other edge
carried_same net given other task port edge f e =
    carried_at net given task port edge f
    ∙ ap (λ o. edge_words net (λ from. o) (Some f.edge)) e
    ∙ sym (carried_at net other task port edge f)

-- the edge that feeds a port of a task goes to it
pub edge_feeds : (net : Net) (task port edge : ℕ) → feeder_of net task port ≡ Some (feeder.Edge edge) → EdgeFeeds net task port edge
edge_feeds net task port edge e = feeder_feeds net task port (feeder.Edge edge) e

pub feeds : (net : Net) (task port edge : ℕ) (f : EdgeFeeds net task port edge) → Feeds net f.edge.from_task task
feeds net task port edge f = (edge, f.edge, slice_get_within net.edges edge f.edge f.stands, get_or_from_slice_get net.edges edge f.edge f.edge f.stands, (refl, f.to_task))
