-- Each pass brings every clock that runs on by a tick, so as many passes as the cycle has ticks end it.
use Rattle.std.proofs.Common.{◌≡◌, ℕ, zero, suc, ◌+◌, ◌*◌, ◌<◌, ◌≤◌, ◌⊎◌, inl, inr, List, [], ◌∷◌, ◌++◌, length, get_or, ℤ, Bool, true, false, cond, nat_eq, refl, sym, ◌∙◌, ap, subst, arith}
use Rattle.std.specs.List.{list_all}
use Rattle.std.proofs.lemmas.Bool.{cases_Bool, cases_lt, and_from, or_left, or_right, true≢false, eq-eqb}
use Rattle.mars_base.specs.declared.shape.Side.{Side}
use Rattle.mars_base.specs.declared.shape.Side.TheVariants.{A, B}
use Rattle.script.specs.declared.script.Pace.{Pace}
use Rattle.script.specs.declared.script.Silence.{Silence}
use Rattle.cluster_model.specs.Cluster.{is_silent, is_through}
use Rattle.cluster_model.specs.Plan.{Plan}
use Rattle.cluster_model.specs.State.{Member, no_member, replica_number, member_of, State}
use Rattle.cluster_agreement.specs.Runs.{Event, steps}
use Rattle.cycle_events.specs.Events.{Replica, replica, replicas, is_enabled, event_of, acted, by_paces, in_turn, passes, events_from}
use Rattle.cycle_events.specs.Order.{Stands}
use Rattle.cycle_events.proofs.Acting.{mode_cases, enabled_is, least_is_enabled}
use Rattle.cycle_events.proofs.Lists.{steps_append, Up, Goes, steps_go, step_goes, step_up, turn_here, passes_here, paces_here}

-- what holds of each of some replicas
abbrev pub Each : (Replica → Type 0) → List Replica → Type 0
Each P [] = Unit {0}
Each P (r ∷ rs) = P r × Each P rs

each_less : (P : Replica → Type 0) (xs ys : List Replica) → Each P (xs ++ ys) → Each P xs × Each P ys
each_less P [] ys h = (tt, h)
each_less P (x ∷ xs) ys h = let w = each_less P xs ys h.1 in ((h.0, w.0), w.1)

each_at : (P : Replica → Type 0) (units u : ℕ) (x : Side) → u < units → Each P (replicas units) → P (replica u x)
each_at P zero u x low h = absurd (omega (arith, low))
each_at P (suc n) u x low h =
    let w = each_less P (replicas n) (replica n A ∷ replica n B ∷ []) h in
    elim (cases_lt u n) [
      | inl less ↦ each_at P n u x less w.0
      | inr more ↦ let same : n ≡ u = omega (arith, low, more) in subst (λ k. P (replica k x)) same (by x w.1)
    ]
  where
    by : (x : Side) → Each P (replica n A ∷ replica n B ∷ []) → P (replica n x)
    by A q = q.0
    by B q = q.1.0

half_of : (k : ℕ) → (u : ℕ) × ((k ≡ 2 * u) ⊎ (k ≡ 2 * u + 1))
half_of zero = (0, inl refl)
half_of (suc k) = let h = half_of k in elim h.1 [ inl e ↦ (h.0, inr (omega (arith, e))) | inr e ↦ (suc h.0, inl (omega (arith, e))) ]

-- each number is some replica's
replica_of : (units k : ℕ) → k < 2 * units → (u : ℕ) × (x : Side) × (u < units) × (k ≡ replica_number u x)
replica_of units k low = let h = half_of k in elim h.1 [
  | inl e ↦ (h.0, A, omega (arith, low, e), omega (arith, e))
  | inr e ↦ (h.0, B, omega (arith, low, e), omega (arith, e))
]

all_from : (test : Member → Bool) (members : List Member) → ((i : ℕ) → i < length members → test (get_or members i no_member) ≡ true) → list_all test members ≡ true
all_from test [] h = refl
all_from test (m ∷ members) h = and_from (test m) (list_all test members) (h zero (omega arith)) (all_from test members (λ i low. h (suc i) (omega (arith, low))))

module _ (p : Plan) (silences : List Silence) (line : List ℤ) (some : 0 < p.skew) where
  -- every running replica's clock is at least so far
  abbrev pub AllUp : (k : ℕ) → State → Type 0
  AllUp k s = (u : ℕ) (x : Side) → u < p.units → Up k (member_of s.members u x)

  abbrev UpAt : (k : ℕ) → State → Replica → Type 0
  UpAt k s r = r.unit < p.units → Up k (member_of s.members r.unit r.side)

  -- a replica that isn't enabled is already past the least clock
  not_enabled : (k : ℕ) (s : State) (r : Replica) → k < p.cycle → AllUp k s → is_enabled p s.members r ≡ false → UpAt (suc k) s r
  not_enabled k s r low h n l runs = elim (cases_lt k (member_of s.members r.unit r.side).held.clock) [
    | inl more ↦ omega (arith, more)
    | inr less ↦
        let at : k ≤ (member_of s.members r.unit r.side).held.clock = h r.unit r.side l runs in
        absurd (true≢false (sym (least_is_enabled p s.members r some l runs (omega (arith, low, less))
        (λ v y l2 q. let z : k ≤ (member_of s.members v y).held.clock = h v y l2 q in omega (arith, less, z))) ∙ n))
  ]

  each_goes : (k : ℕ) (s t : State) (rs : List Replica) → Goes p silences line s t → Each (UpAt k s) rs → Each (UpAt k t) rs
  each_goes k s t [] g h = tt
  each_goes k s t (r ∷ rs) g h = (λ l. g.up k r.unit r.side l (h.0 l), each_goes k s t rs g h.1)

  -- a pass over some replicas brings each of them on
  raised : (k : ℕ) → k < p.cycle → (rs : List Replica) (s : State) → Stands p silences s → AllUp k s → Each (UpAt (suc k) (steps p silences s (in_turn p silences line s rs))) rs
  raised k low [] s st h = tt
  raised k low (r ∷ rs) s st h =
      let some_events : List Event = event_of p silences line r ∷ in_turn p silences line (acted p silences line r s) rs in
      let no_event : List Event = in_turn p silences line s rs in
      elim (cases_Bool (is_enabled p s.members r)) [
        | inl t ↦
            let e = enabled_is p s.members r t in
            let g = step_goes p silences line s r.unit r.side st e in
            let end = steps_go p silences line (in_turn p silences line (acted p silences line r s) rs) (acted p silences line r s) g.stands (turn_here p silences line (acted p silences line r s) rs) in
            subst (λ es. Each (UpAt (suc k) (steps p silences s es)) (r ∷ rs)) (sym (ap (λ b. cond b some_events no_event) t)) (
              λ l. end.up (suc k) r.unit r.side l (step_up p silences line s r.unit r.side st e k (h r.unit r.side l)),
              raised k low rs (acted p silences line r s) g.stands (λ u x l. g.up k u x l (h u x l)),
            )
        | inr n ↦
            let end = steps_go p silences line no_event s st (turn_here p silences line s rs) in
            subst (λ es. Each (UpAt (suc k) (steps p silences s es)) (r ∷ rs)) (sym (ap (λ b. cond b some_events no_event) n))
            (λ l. end.up (suc k) r.unit r.side l (not_enabled k s r low h n l), raised k low rs s st h)
      ]

  passed : (n k : ℕ) (s : State) → k + n ≤ p.cycle → Stands p silences s → AllUp k s → AllUp (k + n) (steps p silences s (passes p silences line s n))
  passed zero k s low st h = λ u x l r. (let z : k ≤ (member_of s.members u x).held.clock = h u x l r in omega (arith, z))
  passed (suc n) k s low st h =
      let pass : List Event = in_turn p silences line s (replicas p.units) in
      let t : State = steps p silences s pass in
      let g = steps_go p silences line pass s st (turn_here p silences line s (replicas p.units)) in
      let each = raised k (omega (arith, low)) (replicas p.units) s st h in
      let more : AllUp (suc k) t = λ u x l. each_at (UpAt (suc k) t) p.units u x l each l in
      λ u x l r.
      let eq = steps_append p silences s pass (passes p silences line t n) in
      let same = ap (λ (w : State). member_of w.members u x) eq in
      let z : suc k + n ≤ (member_of (steps p silences t (passes p silences line t n)).members u x).held.clock =
      passed n (suc k) t (omega (arith, low)) g.stands more u x l (sym (ap (λ (m : Member). m.mode) same) ∙ r) in
      omega (arith, z, ap (λ (m : Member). m.held.clock) same)

  -- after the paces and as many passes as the cycle has ticks, each replica is silent or at the end
  pub ends_through : (s : State) (paces : List Pace) → Stands p silences s → list_all (is_through p) (steps p silences s (events_from p silences line s paces)).members ≡ true
  ends_through s paces st =
      let first : List Event = by_paces p silences line s paces in
      let t : State = steps p silences s first in
      let w : State = steps p silences t (passes p silences line t p.cycle) in
      let g = steps_go p silences line first s st (paces_here p silences line s paces) in
      let f = steps_go p silences line (passes p silences line t p.cycle) t g.stands (passes_here p silences line t p.cycle) in
      let up : AllUp (0 + p.cycle) w = passed p.cycle 0 t (omega arith) g.stands (λ u x l r. omega arith) in
      subst (λ (z : State). list_all (is_through p) z.members ≡ true) (sym (steps_append p silences s first (passes p silences line t p.cycle)))
      (all_from (is_through p) w.members (λ i low.
      let q = replica_of p.units i (omega (arith, low, f.stands.size)) in
      subst (λ k. is_through p (get_or w.members k no_member) ≡ true) (sym q.3)
      (elim (mode_cases (member_of w.members q.0 q.1).mode) [
        | inr s ↦ or_left (is_silent (member_of w.members q.0 q.1).mode) (nat_eq (member_of w.members q.0 q.1).held.clock p.cycle) (ap is_silent s)
        | inl r ↦ or_right (is_silent (member_of w.members q.0 q.1).mode) (nat_eq (member_of w.members q.0 q.1).held.clock p.cycle)
            (eq-eqb (member_of w.members q.0 q.1).held.clock p.cycle
            (let a : 0 + p.cycle ≤ (member_of w.members q.0 q.1).held.clock = up q.0 q.1 q.2 r in
            let b : (member_of w.members q.0 q.1).held.clock ≤ p.cycle = f.stands.clock q.0 q.1 q.2 in
            omega (arith, a, b)))
      ])))
