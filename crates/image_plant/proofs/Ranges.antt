-- The numbers in valid tables fit their fields.
use Rattle.std.proofs.Common.{◌≡◌, ℕ, ◌+◌, ◌*◌, ◌/◌, ◌^◌, ◌<◌, ◌≤◌, List, length, map, get_or, sym, ◌∙◌, ap, subst, arith, mul-le-mul_right}
use Rattle.std.proofs.Math.ListN.{get_or-map}
use Rattle.std.proofs.Math.Nat.{div-add-mod'}
use Rattle.std.proofs.lemmas.List.{length-map, get_or_default}
use Rattle.std.proofs.lemmas.Option.{slice_get-get_or}
use Rattle.mars_base.specs.declared.shape.ClusterShape.{ClusterShape}
use Rattle.mars_base.specs.Shape.{IsShape}
use Rattle.graph.specs.declared.net.Net.{Net}
use Rattle.graph.specs.declared.job.Job.{Job}
use Rattle.graph.specs.JobGraph.{JobGraph, IsJobGraph}
use Rattle.graph.specs.Jobs.{job_number, job_of}
use Rattle.graph.specs.Net.{period_of}
use Rattle.graph.specs.NetGraph.{IsNetGraphFor}
use Rattle.graph.specs.Rules.{IsEdge}
use Rattle.graph.proofs.Entries.{period_limits}
use Rattle.graph.proofs.NetGraphs.{number_inside, number_is, job_is}
use Rattle.tdma.specs.Layout.{IsLayout, layout_of}
use Rattle.tables.specs.declared.table.Message.{Message}
use Rattle.tables.specs.declared.table.Tables.{Tables}
use Rattle.tables.specs.declared.rule.TableRule.TheVariants as rule
use Rattle.tables.specs.Named.{job_at, no_job, entry_at, edge_at, no_edge, message_at, no_message, HasWord}
use Rattle.tables.specs.Progress.{tick_in, IsInFrame}
use Rattle.tables.specs.Valid.{AreValid, bus_of}
use Rattle.tables.proofs.FewUnits.{few_units}
use Rattle.tables.proofs.Sharing.{one_word}
use Rattle.image_plant.proofs.MessageKeys.{keys_there}
use Rattle.image_plant.proofs.Pigeons.{few_distinct}

-- a round has ticks
pub round_some : (s : ClusterShape) → IsShape s → 1 ≤ s.round
round_some s is =
    let one : 1 * (s.slot_words + s.precision) ≤ 2 * s.units * (s.slot_words + s.precision) = mul-le-mul_right (s.slot_words + s.precision) (omega (arith, is.units)) in
    omega (arith, one, is.fits, is.slot_words)

-- the rounds of a cycle are at most its ticks
rounds_within : (c r : ℕ) → c / r * r ≤ c
rounds_within c r = omega (arith, div-add-mod' c r)

few_rounds : (c r : ℕ) → 1 ≤ r → c / r ≤ c
few_rounds c r some = let more : 1 * (c / r) ≤ r * (c / r) = mul-le-mul_right (c / r) some in omega (arith, more, rounds_within c r)

is_layout : (net : Net) (c : ℕ) → IsShape net.shape → c ≤ 65536 → IsLayout (layout_of net.shape c)
is_layout net c is low = record {
  some_unit = is.units.0;
  few_units = is.units.1;
  some_words = is.slot_words.0;
  few_words = is.slot_words.1;
  some_idle = is.precision.0;
  few_idle = is.precision.1;
  fits = is.fits;
  cycle = omega (arith, rounds_within c net.shape.round, low);
}

-- what the entry of a job says
pub record EntryFits (net : Net) (g : JobGraph) (t : Tables) (job : ℕ) : Type 0 where
  pub task : (job_at g job).task < length net.tasks
  pub instance : (job_at g job).instance < 512
  pub unit : (entry_at t job).unit < 8
  pub start : (entry_at t job).start < 2 ^ 32
  pub end : (entry_at t job).end < 2 ^ 32

pub entry_fits : (net : Net) (lengths : List ℕ) (g : JobGraph) (t : Tables) → IsNetGraphFor net lengths g → IsJobGraph g → AreValid net g t → (job : ℕ) → job < length g.jobs → EntryFits net g t job
entry_fits net lengths g t is whole valid job low =
    let n = number_is net lengths g is.graph job low in
    let there = number_inside net lengths g is.graph n.0 n.1 n.2 n.3 in
    let some : job_at g (job_number net g.cycle n.0 n.1) ≡ job_of net lengths n.0 n.1 =
    (let e = sym (slice_get-get_or g.jobs (job_number net g.cycle n.0 n.1) no_job there) ∙ job_is net lengths g is.graph n.0 n.1 n.2 n.3 in cc) in
    let j : job_at g job ≡ job_of net lengths n.0 n.1 = ap (job_at g) n.4 ∙ some in
    let few : n.1 < 512 = omega (arith, there, whole.few_jobs) in
    let limits = period_limits net is.rules.entry_rules.entries n.0 n.2 in
    let more : n.1 * period_of net n.0 ≤ 512 * period_of net n.0 = mul-le-mul_right (period_of net n.0) (omega (arith, few)) in
    let due = ap (λ (x : Job). x.deadline) j in
    let end : (entry_at t job).end < 2 ^ 32 = omega (arith, valid rule.Deadlines job low, due, more, limits.1, limits.2) in
    let units = few_units net g t (record { lengths = lengths; is = is }) (valid rule.Jobs) (valid rule.Units) job in
    record {
      task = subst (λ (x : Job). x.task < length net.tasks) (sym j) n.2;
      instance = subst (λ (x : Job). x.instance < 512) (sym j) few;
      unit = omega (arith, units, is.rules.entry_rules.shape.units);
      start = omega (arith, valid rule.Lengths job low, end);
      end = end;
    }

-- what a message says
pub record MessageFits (m : Message) : Type 0 where
  pub edge : m.edge < 1024
  pub instance : m.instance < 512
  pub unit : m.unit < 8
  pub round : m.round < 65536
  pub offset : m.offset < 64

module _ (net : Net) (lengths : List ℕ) (g : JobGraph) (t : Tables) (is : IsNetGraphFor net lengths g) (whole : IsJobGraph g) (valid : AreValid net g t) where
  shape_is : IsShape net.shape
  shape_is = is.rules.entry_rules.shape

  in_frame : (i : ℕ) → i < length t.messages → IsInFrame net (bus_of net g) (message_at t i)
  in_frame i low =
      let in_time = (valid rule.Inputs).in_time i low in
      let m = message_at t i in
      let from = job_number net g.cycle (edge_at net m.edge).from_task m.instance in
      let units = few_units net g t (record { lengths = lengths; is = is }) (valid rule.Jobs) (valid rule.Units) from in
      record { round = in_time.round; unit = subst (λ u. u < net.shape.units) (sym in_time.unit) units; fits = (valid rule.Frames).fits i low }

  edge_is : (n : ℕ) → n < length net.edges → IsEdge net (edge_at net n)
  edge_is n low = is.rules.entry_rules.entries.edges n no_edge low

  pub message_fits : (i : ℕ) → i < length t.messages → MessageFits (message_at t i)
  message_fits i low =
      let m = message_at t i in
      let key = keys_there net g t (valid rule.Inputs).messages i no_message low in
      let frame = in_frame i low in
      let number = number_inside net lengths g is.graph (edge_at net m.edge).from_task m.instance (edge_is m.edge key.0).from_task key.1 in
      record {
        edge = omega (arith, key.0, is.rules.entry_rules.counts.edges);
        instance = omega (arith, number, whole.few_jobs);
        unit = omega (arith, frame.unit, shape_is.units);
        round = omega (arith, frame.round, few_rounds g.cycle net.shape.round (round_some net.shape shape_is), is.graph.limits.ticks);
        offset = omega (arith, frame.fits, shape_is.slot_words);
      }

  -- the tick of a message's first word
  abbrev tick_of : Message → ℕ
  tick_of m = tick_in (bus_of net g) m m.offset

  tick_low : (i : ℕ) → i < length t.messages → tick_of (message_at t i) < 65535
  tick_low i low =
      let m = message_at t i in
      let frame = in_frame i low in
      let width = net.shape.slot_words + net.shape.precision in
      let rounds : (m.round + 1) * net.shape.round ≤ g.cycle / net.shape.round * net.shape.round = mul-le-mul_right net.shape.round (omega (arith, frame.round)) in
      let slots : (2 * m.unit + 1) * width ≤ 2 * net.shape.units * width = mul-le-mul_right width (omega (arith, frame.unit)) in
      omega (arith, rounds, slots, rounds_within g.cycle net.shape.round, is.graph.limits.ticks, shape_is.fits, shape_is.precision, frame.fits)

  first_word : (m : Message) → HasWord net m m.offset
  first_word m = (omega arith, omega arith)

  tick_at : (k : ℕ) → k < length t.messages → get_or (map tick_of t.messages) k 0 ≡ tick_of (message_at t k)
  tick_at k low = get_or_default (map tick_of t.messages) k 0 (tick_of no_message) (omega (arith, length-map t.messages tick_of, low)) ∙ get_or-map tick_of t.messages k no_message

  -- there are at most 65,535 messages, since each has a tick of its own, and the cycle's last tick is idle
  pub few_messages : length t.messages ≤ 65535
  few_messages =
      let size = length-map t.messages tick_of in
      let few = few_distinct 65535 (map tick_of t.messages)
      (λ i low. let inside : i < length t.messages = omega (arith, size, low) in omega (arith, tick_at i inside, tick_low i inside))
      (λ i k before low e. let inside : k < length t.messages = omega (arith, size, low) in let earlier : i < length t.messages = omega (arith, before, inside) in
      (valid rule.Frames).apart i k earlier inside (λ same. absurd (omega (arith, same, before)))
      (one_word net (bus_of net g) (message_at t i) (message_at t k) (message_at t i).offset (message_at t k).offset
      (is_layout net g.cycle shape_is is.graph.limits.ticks) (in_frame i earlier) (in_frame k inside) (first_word (message_at t i)) (first_word (message_at t k))
      (sym (tick_at i earlier) ∙ e ∙ tick_at k inside))) in
      omega (arith, few, size)
