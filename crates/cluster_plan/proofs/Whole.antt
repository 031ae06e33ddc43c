-- The plan of valid tables is sound.
use Rattle.std.proofs.Common.{◌≡◌, ℕ, suc, ◌+◌, ◌-◌, ◌*◌, ◌/◌, ◌%◌, ◌<◌, List, length, get_or, map, take, drop, ℤ, Option, Some, None, refl, sym, ◌∙◌, ap, subst, arith, length-drop}
use Rattle.std.specs.Prelude.{slice_index, sum}
use Rattle.std.proofs.Math.Nat.{div-add-mod'}
use Rattle.std.proofs.lemmas.List.{get_or-map, length-take-le, length-map}
use Rattle.std.proofs.lemmas.List.Sums.{sum_by_more_le}
use Rattle.std.proofs.lemmas.Option.{slice_get-get_or, get_or_from_slice_get}
use Rattle.std.proofs.lemmas.List.Elements.{All-get_or}
use Rattle.mars_base.specs.Shape.{IsShape}
use Rattle.graph.specs.Cycle.{first_job}
use Rattle.graph.specs.Feeders.{from_task_of, from_task_in}
use Rattle.graph.specs.JobGraph.{JobGraph}
use Rattle.graph.specs.Jobs.{job_number}
use Rattle.graph.specs.Net.{instances, outs_of, width_of, period_of, transaction_of, transaction_period}
use Rattle.graph.specs.NetGraph.{IsNetGraph}
use Rattle.graph.specs.Rules.{IsEdge}
use Rattle.graph.specs.declared.job.Job.{Job}
use Rattle.graph.specs.declared.net.Edge.{Edge}
use Rattle.graph.specs.declared.net.Net.{Net}
use Rattle.graph.specs.declared.net.Transaction.{Transaction}
use Rattle.graph.proofs.Entries.{transaction_at}
use Rattle.graph.proofs.Within.{cycle_some}
use Rattle.tables.specs.Named.{no_edge, job_at, entry_at, edge_at, message_at, producer_in, HasWord}
use Rattle.tables.specs.Rules.{GetsInputs, FitsFrames}
use Rattle.tables.specs.Valid.{AreValid, bus_of}
use Rattle.tables.specs.declared.rule.TableRule.TheVariants as rule
use Rattle.tables.specs.declared.table.JobEntry.{JobEntry}
use Rattle.tables.specs.declared.table.Tables.{Tables}
use Rattle.tables.proofs.FewUnits.{few_units}
use Rattle.tables.proofs.FirstJobs.{has_first}
use Rattle.net_run.specs.NetRun.{Execution}
use Rattle.net_run.specs.Words.{port_words, with_words, edge_words}
use Rattle.cluster_model.specs.Frame.{packed}
use Rattle.cluster_model.specs.Plan.{Plan, listed}
use Rattle.cluster_model.specs.PlanOf.{plan_of}
use Rattle.cluster_model.specs.Sound.{maker_of, Crosses, AreGiven, IsSlot, IsSoundPlan}
use Rattle.cluster_model.specs.State.{Status, given}
use Rattle.cluster_model.specs.Tick.{fed}
use Rattle.cluster_plan.specs.Follows.{out_count, SoundPlans}
use Rattle.cluster_plan.proofs.Frames.{words_same, word_of, read_again}
use Rattle.cluster_plan.proofs.Inputs.{carries, serves}
use Rattle.cluster_plan.proofs.Messages.{IsKey, of_message}
use Rattle.cluster_plan.proofs.Numbers.{at_number, inside, is_of, ends_after, ends_within, one_by_one}
use Rattle.cluster_plan.proofs.Ticks.{slot_inside, goes_into}

module _ (net : Net) (g : JobGraph) (t : Tables) (words : List ℕ) (exec : Execution) (cost : ℕ → List ℤ → List ℤ → ℕ) (n : IsNetGraph net g) (v : AreValid net g t) where
  abbrev plan : Plan
  plan = plan_of net g t words exec cost

  shape : IsShape net.shape
  shape = n.is.rules.entry_rules.shape

  -- a cycle is a whole number of rounds
  rounds : g.cycle / net.shape.round * net.shape.round ≡ g.cycle
  rounds = let whole : g.cycle % net.shape.round ≡ 0 = n.is.graph.limits.is_cycle.common 0 0 (omega arith) in omega (arith, div-add-mod' g.cycle net.shape.round, whole)

  slots : (round unit : ℕ) → round < plan.rounds → unit < plan.units → IsSlot plan round unit
  slots round unit low in_units =
      let room = slot_inside (g.cycle / net.shape.round) round net.shape.units unit net.shape.round (net.shape.slot_words + net.shape.precision) low in_units shape.fits in
      record {
        a_first = omega arith;
        a_usable = omega arith;
        b_usable = omega arith;
        inside = omega (arith, room, rounds);
      }

  -- each period goes into the cycle
  every : (task : ℕ) → task < length net.tasks → 0 < instances net g.cycle task
  every task low =
      let w = transaction_at net n.is.rules.entry_rules.entries task low in
      let k = transaction_of net task in
      let inside : k < length net.transactions = Rattle.std.proofs.lemmas.Option.slice_get_within net.transactions k w.0 w.1 in
      let at : get_or (map (λ (x : Transaction). x.period) net.transactions) k 0 ≡ period_of net task =
      get_or-map (λ (x : Transaction). x.period) net.transactions k w.0 0 inside
      ∙ ap (λ (x : Transaction). x.period) (get_or_from_slice_get net.transactions k w.0 w.0 w.1) ∙ ap transaction_period (sym w.1) in
      let divides : g.cycle % get_or (map (λ (x : Transaction). x.period) net.transactions) k 0 ≡ 0 =
      n.is.graph.limits.is_cycle.common (suc k) 0 (omega (arith, inside, length-map net.transactions (λ (x : Transaction). x.period))) in
      goes_into g.cycle (period_of net task) (cycle_some net n.is.rules.entry_rules g.cycle n.is.graph.limits.is_cycle) (subst (λ x. g.cycle % x ≡ 0) at divides)

  numbered : (task instance : ℕ) → task < length net.tasks → instance < instances net g.cycle task →
      (job_number net g.cycle task instance < length g.jobs) × ((job_at g (job_number net g.cycle task instance)).task ≡ task) × ((job_at g (job_number net g.cycle task instance)).instance ≡ instance)
  numbered task instance low run =
      let e = at_number net g n task instance low run in
      (inside net g n task instance low run, ap (λ (j : Job). j.task) e, ap (λ (j : Job). j.instance) e)

  home : (job : ℕ) → job < length g.jobs → (entry_at t (first_job net g.cycle (job_at g job).task)).unit ≡ (entry_at t job).unit
  home job low = let f = has_first net g job n low in (v rule.Units).same (first_job net g.cycle (job_at g job).task) job f.inside low f.same

  gets : GetsInputs net g (bus_of net g) t
  gets = v rule.Inputs

  module _ (m : ℕ) (low : m < length t.messages) where
    key : IsKey net g t (length net.edges) ((message_at t m).edge, (message_at t m).instance)
    key = of_message net g t gets.messages m low

    from : from_task_of net (message_at t m).edge ≡ (edge_at net (message_at t m).edge).from_task
    from = ap from_task_in (slice_get-get_or net.edges (message_at t m).edge no_edge key.0)

    edge_fits : IsEdge net (edge_at net (message_at t m).edge)
    edge_fits = All-get_or (IsEdge net) net.edges (message_at t m).edge no_edge key.0 n.is.rules.entry_rules.entries.edges

    made : maker_of plan m < length g.jobs
    made = subst (λ x. job_number net g.cycle x (message_at t m).instance < length g.jobs) (sym from)
        (inside net g n (edge_at net (message_at t m).edge).from_task (message_at t m).instance edge_fits.from_task key.1)

    producer : producer_in net g t (message_at t m).edge (message_at t m).instance ≡ entry_at t (maker_of plan m)
    producer = ap (λ x. entry_at t (job_number net g.cycle x (message_at t m).instance)) (sym from)

    crosses : Crosses plan m
    crosses = let h = gets.in_time m low in record {
      round = h.round;
      made = made;
      sender = h.unit ∙ ap (λ (x : JobEntry). x.unit) producer;
      early = omega (arith, h.after, ap (λ (x : JobEntry). x.end) producer);
    }

    -- what the message's edge carries is as long as the message's part for it
    module _ (statuses : ℕ → Status) (fits : AreGiven plan (out_count net) statuses) where
      says : Option (List ℤ)
      says = fed plan statuses (message_at t m).edge (message_at t m).instance

      width_right : (said : List ℤ) → fed plan statuses (message_at t m).edge (message_at t m).instance ≡ Some said → length said ≡ width_of net (edge_at net (message_at t m).edge)
      width_right said e =
          by (given (statuses (job_number net g.cycle (edge_at net (message_at t m).edge).from_task (message_at t m).instance))) refl
          (sym (ap (edge_words net (λ task. given (statuses (job_number net g.cycle task (message_at t m).instance)))) (slice_get-get_or net.edges (message_at t m).edge no_edge key.0)) ∙ e)
        where
          edge : Edge
          edge = edge_at net (message_at t m).edge

          by : (o : Option (List ℤ)) → given (statuses (job_number net g.cycle (edge_at net (message_at t m).edge).from_task (message_at t m).instance)) ≡ o
              → with_words o (λ outs. Some (port_words (outs_of net (edge_at net (message_at t m).edge).from_task) (edge_at net (message_at t m).edge).from_port outs)) ≡ Some said
              → length said ≡ width_of net (edge_at net (message_at t m).edge)
          by None is f = absurd (let z : None ≡ Some said = f in cc)
          by (Some outs) is f =
              let widths : List ℕ = outs_of net (edge_at net (message_at t m).edge).from_task in
              let port : ℕ = (edge_at net (message_at t m).edge).from_port in
              let low2 = inside net g n (edge_at net (message_at t m).edge).from_task (message_at t m).instance edge_fits.from_task key.1 in
              let task : (job_at g (job_number net g.cycle (edge_at net (message_at t m).edge).from_task (message_at t m).instance)).task ≡ (edge_at net (message_at t m).edge).from_task =
              ap (λ (j : Job). j.task) (at_number net g n (edge_at net (message_at t m).edge).from_task (message_at t m).instance edge_fits.from_task key.1) in
              let count : length outs ≡ sum (outs_of net (edge_at net (message_at t m).edge).from_task) =
              fits (job_number net g.cycle (edge_at net (message_at t m).edge).from_task (message_at t m).instance) outs low2 is ∙ ap (out_count net) task in
              let room = sum_by_more_le (λ (x : ℕ). x) widths port 0 edge_fits.from_port in
              let same : port_words widths port outs ≡ said = (let z : Some (port_words widths port outs) ≡ Some said = f in cc) in
              ap length (sym same) ∙ length-take-le (slice_index widths port) (drop (sum (take port widths)) outs) (omega (arith, length-drop (sum (take port widths)) outs, count, room))

      read : plan.read m (listed plan.words (plan.frame_word (plan.round_of m) (plan.sender m) (λ k. fed plan statuses (plan.edge_of k) (plan.instance_of k)))) ≡ fed plan statuses (plan.edge_of m) (plan.instance_of m)
      read =
          let frames : FitsFrames net (bus_of net g) t = v rule.Frames in
          let said : ℕ → Option (List ℤ) = λ k. fed plan statuses (plan.edge_of k) (plan.instance_of k) in
          read_again (message_at t m).offset (width_of net (edge_at net (message_at t m).edge)) net.shape.slot_words
          (plan.frame_word (plan.round_of m) (plan.sender m) said) (said m) (frames.fits m low) width_right
          (λ i less.
          let has : HasWord net (message_at t m) ((message_at t m).offset + i) = (omega arith, omega (arith, less)) in
          let at : (message_at t m).offset + i - (message_at t m).offset ≡ i = omega arith in
          let z : 0 + m ≡ m = omega arith in
          word_of net (message_at t m).round (message_at t m).unit ((message_at t m).offset + i) said t.messages 0 m low refl refl has
          (λ k within other. frames.apart k m within low other)
          ∙ ap (λ k. packed (said k) ((message_at t m).offset + i - (message_at t m).offset)) z
          ∙ ap (packed (said m)) at)

  frame_same : (round unit : ℕ) (one other : ℕ → Option (List ℤ)) → ((m : ℕ) → m < length t.messages → (message_at t m).round ≡ round → (message_at t m).unit ≡ unit → one m ≡ other m)
      → (word : ℕ) → plan.frame_word round unit one word ≡ plan.frame_word round unit other word
  frame_same round unit one other h word =
      words_same net round unit word one other t.messages 0
      (λ k low a b. let z : 0 + k ≡ k = omega arith in ap one z ∙ h k low a b ∙ ap other (sym z))

  pub sound : IsSoundPlan plan (out_count net)
  sound = record {
    wide = omega (arith, shape.slot_words);
    slots = slots;
    long = ends_after net g n t v;
    within = ends_within net g n t v;
    placed = λ job low. few_units net g t n (v rule.Jobs) (v rule.Units) job;
    task = λ job low. (is_of net g n job low).task;
    instance = λ job low. (is_of net g n job low).instance;
    number = λ job low. (is_of net g n job low).number;
    numbered = numbered;
    every = every;
    home = home;
    later = one_by_one net g n t v;
    serves = λ job line look other low h. serves net g t words exec cost n v job low line look other h;
    carries = carries net g t words exec cost;
    crosses = crosses;
    frame_same = frame_same;
    frame_read = λ m statuses low fits. read m low statuses fits;
  }

pub sound_plans : SoundPlans
sound_plans net g t words exec cost n v = sound net g t words exec cost n v
