-- At most one slot of the cluster is sending.
use Rattle.std.proofs.Common.{◌≡◌, ℕ, ◌+◌, ◌*◌, ◌<◌, ◌≤◌, inl, inr, List, ℤ, refl, sym, ap, subst, arith}
use Rattle.std.proofs.lemmas.Bool.{cases_lt, cases_order}
use Rattle.mars_base.specs.declared.shape.Side.{Side}
use Rattle.bus.specs.SlotState.{slot_at, IsSending}
use Rattle.script.specs.declared.script.Silence.{Silence}
use Rattle.cluster_agreement.specs.Keeps.{partly}
use Rattle.cluster_model.specs.Plan.{Plan}
use Rattle.cluster_model.specs.State.{Mode, Running, Silent, Member, member_of}
use Rattle.cluster_plan.proofs.Ticks.{times_le}
use Rattle.cluster_slots.proofs.Shapes.{Said, ShapeIn, ShapesIn}

-- slots whose starts are less than a slot apart are one
abbrev pub IsSpaced : Plan → Type 0
IsSpaced p = (u : ℕ) (x : Side) (k : ℕ) (v : ℕ) (y : Side) (n : ℕ) → u < p.units → v < p.units
    → p.slot n v y < p.slot k u x + p.words + p.skew → p.slot k u x < p.slot n v y + p.words + p.skew → (u ≡ v) × (x ≡ y) × (k ≡ n)

sending_runs : (mode : Mode) (words : List ℤ) → IsSending (partly mode words) → mode ≡ Running
sending_runs Running words h = refl
sending_runs Silent words h = absurd h

module _ (p : Plan) (silences : List Silence) (cycle : ℕ) (said : Said) where
  -- a slot that is sending has had some of its words, and its replica runs
  sending_when : (u : ℕ) (x : Side) (m : Member) (k : ℕ) → k < p.rounds → ShapeIn p silences cycle said u x m → IsSending (slot_at m.slots k)
      → (m.mode ≡ Running) × (p.slot k u x < m.held.clock) × (m.held.clock < p.slot k u x + p.words)
  sending_when u x m k b h s = elim (cases_lt (p.slot k u x) m.held.clock) [
    | inr l ↦ absurd (subst IsSending (h.ahead k b l) s)
    | inl l ↦ elim (cases_lt m.held.clock (p.slot k u x + p.words)) [
      | inl o ↦ let a = h.amid k b l o in (sending_runs m.mode a.0 (subst IsSending a.2 s), l, o)
      | inr o ↦ let a = h.past k b o in absurd (subst IsSending a.2 s)
    ]
  ]

  pub one_sends : (spaced : (u : ℕ) (x : Side) (k : ℕ) (v : ℕ) (y : Side) (n : ℕ) → u < p.units → v < p.units
      → p.slot n v y < p.slot k u x + p.words + p.skew → p.slot k u x < p.slot n v y + p.words + p.skew → (u ≡ v) × (x ≡ y) × (k ≡ n))
      (members : List Member) → ShapesIn p silences cycle said members → (u : ℕ) (x : Side) (k : ℕ) (v : ℕ) (y : Side) (n : ℕ) → u < p.units → v < p.units → k < p.rounds → n < p.rounds
      → IsSending (slot_at (member_of members u x).slots k) → IsSending (slot_at (member_of members v y).slots n) → (u ≡ v) × (x ≡ y) × (k ≡ n)
  one_sends spaced members h u x k v y n lu lv bk bn a b =
      let s = sending_when u x (member_of members u x) k bk (h.each u x lu) a in
      let t = sending_when v y (member_of members v y) n bn (h.each v y lv) b in
      let d = h.skew v y u x lv lu t.0 s.0 in
      let e = h.skew u x v y lu lv s.0 t.0 in
      spaced u x k v y n lu lv (omega (arith, s, t, d)) (omega (arith, s, t, e))

-- where slots stand in rounds of at least all of them
module _ (round step places : ℕ) (room : places * step ≤ round) where
  before_round : (k n q r : ℕ) → q < places → k < n → k * round + q * step + step ≤ n * round + r * step
  before_round k n q r b l =
      let e : (q + 1) * step ≤ places * step = times_le (q + 1) places step (omega (arith, b)) in
      let f : (k + 1) * round ≤ n * round = times_le (k + 1) n round (omega (arith, l)) in
      omega (arith, e, f, room)

  before_place : (k q r : ℕ) → q < r → k * round + q * step + step ≤ k * round + r * step
  before_place k q r l = let e : (q + 1) * step ≤ r * step = times_le (q + 1) r step (omega (arith, l)) in omega (arith, e)

  pub one_place : (k n q r : ℕ) → q < places → r < places → n * round + r * step < k * round + q * step + step → k * round + q * step < n * round + r * step + step → (k ≡ n) × (q ≡ r)
  one_place k n q r b c l m = elim (cases_order k n) [
    | inl same ↦ elim (cases_order q r) [
      | inl e ↦ (same, e)
      | inr o ↦ elim o [
        | inl less ↦ (let z : n * round ≡ k * round = ap (λ j. j * round) (sym same) in let d = before_place k q r less in absurd (omega (arith, d, l, z)))
        | inr more ↦ (let z : n * round ≡ k * round = ap (λ j. j * round) (sym same) in let d = before_place k r q more in absurd (omega (arith, d, m, z)))
      ]
    ]
    | inr o ↦ elim o [
      | inl less ↦ (let d = before_round k n q r b less in absurd (omega (arith, d, l)))
      | inr more ↦ (let d = before_round n k r q c more in absurd (omega (arith, d, m)))
    ]
  ]
