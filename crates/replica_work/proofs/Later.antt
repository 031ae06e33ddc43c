-- A desk one tick later, where the job in hand goes on, ends, or none is in hand.
use Rattle.std.proofs.Common.{◌≡◌, ◌≢◌, ℕ, ◌+◌, ◌-◌, ◌<◌, ◌≤◌, inl, inr, List, [], length, get_or, map, ℤ, None, Some, sym, ◌∙◌, ap, subst, arith}
use Rattle.std.specs.Prelude.{slice_get, slice_index}
use Rattle.std.proofs.lemmas.List.{ext_get_or}
use Rattle.std.proofs.lemmas.Option.{slice_get_cases}
use Rattle.processor.specs.Ends.{cycles_in, end_under}
use Rattle.processor.specs.Results.{Ran}
use Rattle.graph.specs.JobGraph.{JobGraph}
use Rattle.graph.specs.NetGraph.{IsNetGraph}
use Rattle.graph.specs.declared.net.Net.{Net}
use Rattle.tables.specs.Named.{entry_at}
use Rattle.tables.specs.Valid.{AreValid}
use Rattle.tables.specs.declared.table.Tables.{Tables}
use Rattle.net_run.specs.NetRun.{Execution}
use Rattle.plant.specs.InOrder.{IsInOrder}
use Rattle.plant.specs.Lengths.{lengths_of}
use Rattle.plant.specs.declared.system.Plant.{Plant}
use Rattle.plant_run.specs.PlantRun.{end_at, cycles_at, plant_execution, plant_cost}
use Rattle.job_book.specs.Known.{Book, InHand, known_in, status_of}
use Rattle.carried_words.specs.Says.{IsBookOf}
use Rattle.replica_job.specs.Hand.{limit_of}
use Rattle.cluster_plan.specs.Follows.{out_count}
use Rattle.cluster_plan.proofs.Whole.{sound_plans}
use Rattle.cluster_model.specs.Plan.{listed}
use Rattle.cluster_model.specs.PlanOf.{plan_of}
use Rattle.cluster_model.specs.State as status
use Rattle.cluster_model.specs.State.{Status}
use Rattle.cluster_model.specs.Tick.{closes}
use Rattle.tick_parts.proofs.Lists.{listed_at, length_listed}
use Rattle.replica_desk.specs.Desk.{IsInHand, HasInHand, IsDesk}
use Rattle.replica_desk.specs.declared.desk.Desk.{Desk}
use Rattle.replica_desk.proofs.Ended.{jobs_stay, none_seen, states_stay}
use Rattle.replica_desk.proofs.Limits.{whole_limit}
use Rattle.replica_work.specs.Ends.{ends_at, states_at}
use Rattle.replica_work.specs.Works.{task_in, limit_before}

pub graph_of : {P : Type 0} (plant : Plant P) → IsInOrder plant → IsNetGraph plant.net plant.graph
graph_of plant order = record { lengths = lengths_of plant.maxts plant.net.shape.cycles_per_tick; is = order.graph }

-- a list is that of its elements
pub listed_self : (xs : List Status) (n : ℕ) → length xs ≡ n → xs ≡ listed n (λ k. get_or xs k status.Waiting)
listed_self xs n e = ext_get_or status.Waiting xs (listed n (λ k. get_or xs k status.Waiting)) (e ∙ sym (length_listed n (λ k. get_or xs k status.Waiting)))
    (λ k low. sym (listed_at n (λ k. get_or xs k status.Waiting) k status.Waiting (omega (arith, low, e))))

-- there is an element below the length
pub found : {X : Type 0} (xs : List X) (i : ℕ) → i < length xs → (x : X) × (slice_get xs i ≡ Some x)
found xs i low = elim (slice_get_cases xs i).1 [
  | inl here ↦ (here.0, here.2)
  | inr past ↦ (let high = past.0 in absurd (omega (arith, low, high)))
]

module _ (net : Net) (g : JobGraph) (t : Tables) (unit : ℕ) (d : Desk) (h : IsDesk net g t unit 0 d) where
  pub hand_is : (job : ℕ) → d.hand ≡ Some job → IsInHand net g t unit 0 d job
  hand_is job e = subst (HasInHand net g t unit 0 d) e h.hand

  pub only_it : (job k : ℕ) → d.hand ≡ Some job → known_in d.book k ≡ InHand → k ≡ job
  only_it job k e i = let w : Some k ≡ Some job = sym (h.only k i) ∙ e in cc

  -- the job in hand goes on
  pub goes_on : (job : ℕ) → d.hand ≡ Some job → (entry_at t job).end ≢ d.clock + 1 → d.clock < g.cycle
      → IsDesk net g t unit 1 (record { clock = d.clock + 1; hand = d.hand; book = d.book; states = d.states; inbox = d.inbox; ins = d.ins })
  goes_on job e differ low =
      let w = hand_is job e in
      record {
        clock = omega (arith, low);
        book = h.book;
        inbox = h.inbox;
        widths = h.widths;
        states = h.states;
        hand = subst (HasInHand net g t unit 1 (record { clock = d.clock + 1; hand = d.hand; book = d.book; states = d.states; inbox = d.inbox; ins = d.ins })) (sym e) (record {
          known = w.known;
          unit_is = w.unit_is;
          begun = omega (arith, w.begun);
          going = omega (arith, w.going, differ);
          in_hand = w.in_hand;
          ins = w.ins;
        });
        only = h.only;
      }

  -- none is in hand
  pub idles : d.hand ≡ None → d.clock < g.cycle
      → IsDesk net g t unit 1 (record { clock = d.clock + 1; hand = d.hand; book = d.book; states = d.states; inbox = d.inbox; ins = d.ins })
  idles e low = record {
    clock = omega (arith, low);
    book = h.book;
    inbox = h.inbox;
    widths = h.widths;
    states = h.states;
    hand = subst (HasInHand net g t unit 1 (record { clock = d.clock + 1; hand = d.hand; book = d.book; states = d.states; inbox = d.inbox; ins = d.ins })) (sym e) tt;
    only = h.only;
  }

  -- the job in hand has ended
  pub ends : d.clock < g.cycle → (book : Book) (states : List (List ℤ)) → IsBookOf net g book → length states ≡ length net.tasks → ((k : ℕ) → known_in book k ≢ InHand)
      → IsDesk net g t unit 1 (record { clock = d.clock + 1; hand = None; book = book; states = states; inbox = d.inbox; ins = d.ins })
  ends low book states is count free = record {
    clock = omega (arith, low);
    book = is;
    inbox = h.inbox;
    widths = h.widths;
    states = count;
    hand = tt;
    only = λ k e. absurd (free k e);
  }

  pub none_quiet : d.hand ≡ None → (k : ℕ) → known_in d.book k ≡ InHand → (entry_at t k).end ≢ d.clock + 1
  none_quiet e k i = let w : None ≡ Some k = sym e ∙ h.only k i in let clash : ⊥ = cc in absurd clash

  pub one_quiet : (job : ℕ) → d.hand ≡ Some job → (entry_at t job).end ≢ d.clock + 1 → (k : ℕ) → known_in d.book k ≡ InHand → (entry_at t k).end ≢ d.clock + 1
  one_quiet job e differ k i = subst (λ x. (entry_at t x).end ≢ d.clock + 1) (sym (only_it job k e i)) differ

  module _ (n : IsNetGraph net g) (v : AreValid net g t) (words : List ℕ) (exec : Execution) (cost : ℕ → List ℤ → List ℤ → ℕ) (quiet : (k : ℕ) → known_in d.book k ≡ InHand → (entry_at t k).end ≢ d.clock + 1)
      (state : List ℤ) (given : ℕ → Status) (held : map (status_of state d.ins) d.book.jobs ≡ listed (length g.jobs) given) where
    -- where no job in hand ends all stays, and nothing is seen
    pub same_jobs : map (status_of state d.ins) d.book.jobs ≡ listed (length g.jobs) (λ k. closes (plan_of net g t words exec cost) d.clock k (given k))
    same_jobs = jobs_stay (plan_of net g t words exec cost) d.clock given d.book state d.ins h.book.jobs held (λ k low i e. quiet k i (omega (arith, e)))

    pub same_states : d.states ≡ states_at (plan_of net g t words exec cost) d.clock given d.states
    same_states = states_stay (plan_of net g t words exec cost) d.clock given d.book state d.ins h.book.jobs held (λ k low i e. quiet k i (omega (arith, e)))
        (out_count net) (sound_plans net g t words exec cost n v) d.states h.states

    pub unseen : ends_at (plan_of net g t words exec cost) d.clock given ≡ []
    unseen = none_seen (plan_of net g t words exec cost) d.clock given d.book state d.ins h.book.jobs held (λ k low i e. quiet k i (omega (arith, e)))

module _ {P : Type 0} (execution : P → ℕ → List ℤ → List ℤ → Ran) (plant : Plant P) (order : IsInOrder plant) (d : Desk) (job : ℕ) (low : job < length plant.graph.jobs)
    (begun : (entry_at plant.tables job).start ≤ d.clock) (over : (entry_at plant.tables job).end ≡ d.clock + 1) (program : P) (is : slice_get plant.programs (task_in plant job) ≡ Some program) (state ins : List ℤ) where
  whole : limit_before plant job (d.clock + 1) ≡ slice_index plant.maxts (task_in plant job)
  whole = whole_limit plant order job low (d.clock + 1 - (entry_at plant.tables job).start) (omega (arith, begun, over))

  -- at its end a job has run as far as its greatest number of cycles allows
  pub exec_is : plant_execution execution plant (task_in plant job) state ins ≡ end_under (execution program (limit_before plant job (d.clock + 1)) state ins)
  exec_is = ap (λ o. end_at execution o (slice_index plant.maxts (task_in plant job)) state ins) is ∙ ap (λ m. end_under (execution program m state ins)) (sym whole)

  pub cost_is : plant_cost execution plant (task_in plant job) state ins ≡ cycles_in (execution program (limit_before plant job (d.clock + 1)) state ins)
  cost_is = ap (λ o. cycles_at execution o (slice_index plant.maxts (task_in plant job)) state ins) is ∙ ap (λ m. cycles_in (execution program m state ins)) (sym whole)

-- before its first tick a job may have taken no cycles
pub no_ticks : {P : Type 0} (plant : Plant P) (job tick : ℕ) → (entry_at plant.tables job).start ≡ tick → limit_before plant job tick ≡ 0
no_ticks plant job tick e =
    let z : tick - (entry_at plant.tables job).start ≡ 0 = omega (arith, e) in
    ap (λ n. limit_of (slice_index plant.maxts (task_in plant job)) n plant.net.shape.cycles_per_tick) z
    ∙ (let w : limit_of (slice_index plant.maxts (task_in plant job)) 0 plant.net.shape.cycles_per_tick ≡ 0 = omega arith in w)
