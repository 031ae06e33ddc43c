-- One event of a replica that is enabled in a state within a cycle.
use Rattle.std.proofs.Common.{◌≡◌, ℕ, zero, suc, ◌+◌, ◌-◌, ◌<◌, ◌≤◌, ◌⊎◌, inl, inr, List, [], ◌∷◌, ◌++◌, length, get_or, ℤ, Bool, true, false, cond, not, ◌&&◌, nat_eq, nat_lt, refl, sym, ◌∙◌, ap, subst, arith}
use Rattle.std.specs.List.{list_any, list_all}
use Rattle.std.proofs.lemmas.Bool.{cases_Bool, cases_lt, and_parts, and_from, or_cases, or_left, or_right, true≢false, eqb-true, ltb-true, lt-ltb, false_from_ne_true}
use Rattle.std.proofs.lemmas.List.{get_or_past}
use Rattle.mars_base.specs.declared.shape.Side.{Side}
use Rattle.mars_base.specs.declared.shape.Side.TheVariants.{A, B}
use Rattle.script.specs.declared.script.Silence.{Silence}
use Rattle.cluster_model.specs.Cluster.{is_silent, is_through, is_over, fallen, after_tick, event, turn, settled, IsEnabled}
use Rattle.cluster_model.specs.Plan.{Plan}
use Rattle.cluster_model.specs.Silences.{falls}
use Rattle.cluster_model.specs.State.{Mode, Running, Silent, Member, no_member, replica_number, member_of, State}
use Rattle.cycle_events.specs.Events.{Replica, replica, replicas, is_close, is_enabled}

pub running_silent : Running ≡ Silent → ⊥
running_silent e = cc

pub silent_running : Silent ≡ Running → ⊥
silent_running e = cc

pub mode_cases : (mode : Mode) → (mode ≡ Running) ⊎ (mode ≡ Silent)
mode_cases Running = inl refl
mode_cases Silent = inr refl

not_true : (mode : Mode) → not (is_silent mode) ≡ true → mode ≡ Running
not_true Running e = refl
not_true Silent e = absurd (true≢false (sym e))

pub runs_true : (mode : Mode) → mode ≡ Running → not (is_silent mode) ≡ true
runs_true mode e = ap (λ m. not (is_silent m)) e

-- a test of all replicas, and of each
all_more : (test : Replica → Bool) (xs ys : List Replica) → list_all test xs ≡ true → list_all test ys ≡ true → list_all test (xs ++ ys) ≡ true
all_more test [] ys a b = b
all_more test (x ∷ xs) ys a b = let w = and_parts (test x) (list_all test xs) a in and_from (test x) (list_all test (xs ++ ys)) w.0 (all_more test xs ys w.1 b)

all_less : (test : Replica → Bool) (xs ys : List Replica) → list_all test (xs ++ ys) ≡ true → (list_all test xs ≡ true) × (list_all test ys ≡ true)
all_less test [] ys a = (refl, a)
all_less test (x ∷ xs) ys a =
    let w = and_parts (test x) (list_all test (xs ++ ys)) a in
    let v = all_less test xs ys w.1 in
    (and_from (test x) (list_all test xs) w.0 v.0, v.1)

pub all_close : (test : Replica → Bool) (units : ℕ) → ((u : ℕ) (x : Side) → u < units → test (replica u x) ≡ true) → list_all test (replicas units) ≡ true
all_close test zero h = refl
all_close test (suc n) h =
    all_more test (replicas n) (replica n A ∷ replica n B ∷ []) (all_close test n (λ u x low. h u x (omega (arith, low))))
    (and_from (test (replica n A)) (test (replica n B) && true) (h n A (omega arith)) (and_from (test (replica n B)) true (h n B (omega arith)) refl))

pub close_at : (test : Replica → Bool) (units u : ℕ) (x : Side) → u < units → list_all test (replicas units) ≡ true → test (replica u x) ≡ true
close_at test zero u x low e = absurd (omega (arith, low))
close_at test (suc n) u x low e =
    let w = all_less test (replicas n) (replica n A ∷ replica n B ∷ []) e in
    elim (cases_lt u n) [
      | inl less ↦ close_at test n u x less w.0
      | inr more ↦
          let same : n ≡ u = omega (arith, low, more) in
          let v = and_parts (test (replica n A)) (test (replica n B) && true) w.1 in
          subst (λ k. test (replica k x) ≡ true) same (by x v.0 (and_parts (test (replica n B)) true v.1).0)
    ]
  where
    by : (x : Side) → test (replica n A) ≡ true → test (replica n B) ≡ true → test (replica n x) ≡ true
    by A a b = a
    by B a b = b

module _ (p : Plan) where
  -- the tests of an event are its conditions
  pub enabled_is : (members : List Member) (r : Replica) → is_enabled p members r ≡ true → IsEnabled p members r.unit r.side
  enabled_is members r e =
      let m : Member = member_of members r.unit r.side in
      let close : Bool = list_all (λ (o : Replica). is_close m.held.clock p.skew (member_of members o.unit o.side)) (replicas p.units) in
      let a = and_parts (nat_lt r.unit p.units) (not (is_silent m.mode) && (nat_lt m.held.clock p.cycle && close)) e in
      let b = and_parts (not (is_silent m.mode)) (nat_lt m.held.clock p.cycle && close) a.1 in
      let c = and_parts (nat_lt m.held.clock p.cycle) close b.1 in
      record {
        unit_is = ltb-true r.unit p.units a.0;
        runs = not_true m.mode b.0;
        below = ltb-true m.held.clock p.cycle c.0;
        close = λ v y low runs.
            elim (or_cases (is_silent (member_of members v y).mode) (nat_lt m.held.clock ((member_of members v y).held.clock + p.skew))
            (close_at (λ (o : Replica). is_close m.held.clock p.skew (member_of members o.unit o.side)) p.units v y low c.1)) [
              | inl s ↦ absurd (true≢false (sym s ∙ ap is_silent runs))
              | inr t ↦ ltb-true m.held.clock ((member_of members v y).held.clock + p.skew) t
            ];
      }

  -- a replica with the least clock is enabled
  pub least_is_enabled : (members : List Member) (r : Replica) → 0 < p.skew → r.unit < p.units → (member_of members r.unit r.side).mode ≡ Running
      → (member_of members r.unit r.side).held.clock < p.cycle
      → ((v : ℕ) (y : Side) → v < p.units → (member_of members v y).mode ≡ Running → (member_of members r.unit r.side).held.clock ≤ (member_of members v y).held.clock)
      → is_enabled p members r ≡ true
  least_is_enabled members r some low runs below least =
      let m : Member = member_of members r.unit r.side in
      let close : Bool = list_all (λ (o : Replica). is_close m.held.clock p.skew (member_of members o.unit o.side)) (replicas p.units) in
      and_from (nat_lt r.unit p.units) (not (is_silent m.mode) && (nat_lt m.held.clock p.cycle && close)) (lt-ltb r.unit p.units low)
      (and_from (not (is_silent m.mode)) (nat_lt m.held.clock p.cycle && close) (runs_true m.mode runs)
      (and_from (nat_lt m.held.clock p.cycle) close (lt-ltb m.held.clock p.cycle below)
      (all_close (λ (o : Replica). is_close m.held.clock p.skew (member_of members o.unit o.side)) p.units (λ v y l.
      elim (mode_cases (member_of members v y).mode) [
        | inr s ↦ or_left (is_silent (member_of members v y).mode) (nat_lt m.held.clock ((member_of members v y).held.clock + p.skew)) (ap is_silent s)
        | inl q ↦ or_right (is_silent (member_of members v y).mode) (nat_lt m.held.clock ((member_of members v y).held.clock + p.skew))
            (lt-ltb m.held.clock ((member_of members v y).held.clock + p.skew) (omega (arith, least v y l q, some)))
      ]))))

  through_at : (members : List Member) (i : ℕ) → list_all (is_through p) members ≡ true → i < length members → is_through p (get_or members i no_member) ≡ true
  through_at [] i e low = absurd (omega (arith, low))
  through_at (m ∷ members) zero e low = (and_parts (is_through p m) (list_all (is_through p) members) e).0
  through_at (m ∷ members) (suc i) e low = through_at members i (and_parts (is_through p m) (list_all (is_through p) members) e).1 (omega (arith, low))

  -- while a replica runs before the cycle's end, the cycle isn't over
  still_open : (members : List Member) (u : ℕ) (x : Side) → (member_of members u x).mode ≡ Running → (member_of members u x).held.clock < p.cycle → is_over p members ≡ true → ⊥
  still_open members u x runs below o =
      let all = (and_parts (list_any (λ (m : Member). not (is_silent m.mode)) members) (list_all (is_through p) members) o).1 in
      elim (cases_lt (replica_number u x) (length members)) [
        | inl low ↦
            elim (or_cases (is_silent (member_of members u x).mode) (nat_eq (member_of members u x).held.clock p.cycle) (through_at members (replica_number u x) all low)) [
              | inl s ↦ true≢false (sym s ∙ ap is_silent runs)
              | inr e ↦ omega (arith, below, eqb-true (member_of members u x).held.clock p.cycle e)
            ]
        | inr past ↦ silent_running (sym (ap (λ (m : Member). m.mode) (get_or_past members (replica_number u x) no_member past)) ∙ runs)
      ]

  pub open_settled : (s : State) (u : ℕ) (x : Side) → IsEnabled p s.members u x → settled p s ≡ s
  open_settled s u x e =
      let n : is_over p s.members ≡ false = false_from_ne_true (is_over p s.members) (still_open s.members u x e.runs e.below) in
      ap (λ b. cond b (turn p s) s) n

  -- what is left to do of a replica: the ticks to the cycle's end
  abbrev pub left : Member → ℕ
  left m = cond (is_silent m.mode) 0 (p.cycle - m.held.clock)

  module _ (silences : List Silence) (cycle : ℕ) (line : List ℤ) (members : List Member) (u : ℕ) (x : Side) (m : Member) where
    abbrev pub now : Member
    now = event p silences cycle line members u x m

    -- a replica that runs after its event made a tick, and one that is silent after it fell
    by_event : (P : Member → Type 0) → (falls silences u x cycle m.held.clock ≡ true → P (fallen m)) → P (after_tick p line members u x m) → P now
    by_event P a b = elim (cases_Bool (falls silences u x cycle m.held.clock)) [ inl t ↦ rw t (a t) | inr f ↦ rw f b ]

    pub now_clock : m.held.clock < p.cycle → now.held.clock ≤ p.cycle
    now_clock low = by_event (λ n. n.held.clock ≤ p.cycle) (λ t. omega (arith, low)) (omega (arith, low))

    pub now_up : (k : ℕ) → k ≤ m.held.clock → now.mode ≡ Running → k < now.held.clock
    now_up k low = by_event (λ n. n.mode ≡ Running → k < n.held.clock) (λ t e. absurd (silent_running e)) (λ e. omega (arith, low))

    pub now_fell : m.mode ≡ Running → m.held.clock < p.cycle → now.mode ≡ Silent → (falls silences u x cycle now.held.clock ≡ true) × (now.held.clock < p.cycle)
    now_fell runs low = by_event (λ n. n.mode ≡ Silent → (falls silences u x cycle n.held.clock ≡ true) × (n.held.clock < p.cycle)) (λ t e. (t, low))
        (λ e. absurd (running_silent (sym runs ∙ e)))

    pub now_left : m.mode ≡ Running → m.held.clock < p.cycle → left now < left m
    now_left runs low =
        let was : left m ≡ p.cycle - m.held.clock = ap (λ mode. cond (is_silent mode) 0 (p.cycle - m.held.clock)) runs in
        by_event (λ n. left n < left m) (λ t. omega (arith, was, low))
        (let is : left (after_tick p line members u x m) ≡ p.cycle - suc m.held.clock = ap (λ mode. cond (is_silent mode) 0 (p.cycle - suc m.held.clock)) runs in omega (arith, was, is, low))
