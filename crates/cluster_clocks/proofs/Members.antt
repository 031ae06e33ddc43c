-- The clocks of a cluster's replicas against what is said of the replicas.
use Rattle.std.proofs.Common.{◌≡◌, ℕ, zero, suc, ◌+◌, ◌*◌, ◌<◌, ◌≤◌, ◌⊎◌, ◌↔◌, inl, inr, List, [], ◌∷◌, length, get_or, map, Bool, true, false, not, ◌&&◌, ◌||◌, nat_eq, refl, sym, ◌∙◌, ap, subst, arith}
use Rattle.std.specs.Prelude.{All, Any}
use Rattle.std.specs.List.{list_any, list_all}
use Rattle.std.proofs.lemmas.Bool.{and_parts, and_from, or_cases, or_left, or_right, true≢false, eqb-true, eq-eqb}
use Rattle.std.proofs.lemmas.List.{get_or-map, length-map}
use Rattle.std.proofs.lemmas.List.Elements.{All-get_or, All-from_get_or}
use Rattle.mars_base.specs.declared.shape.Side.{Side}
use Rattle.mars_base.specs.declared.shape.Side.TheVariants.{A, B}
use Rattle.cluster_model.specs.Cluster.{is_silent, is_through, is_over, IsEnabled}
use Rattle.cluster_model.specs.Plan.{Plan}
use Rattle.cluster_model.specs.State.{Mode, Running, Silent, Member, no_member, replica_number, member_of}
use Rattle.cluster_clocks.specs.Clocks.{no_clock, clock_at, IsClose, MayAct, IsThrough, IsOver}
use Rattle.cluster_clocks.specs.Members.{clock_of, clocks_of, ActsAreEnabled, OversAreOver}
use Rattle.cluster_clocks.specs.declared.clock.Clock.{Clock}

runs_true : (mode : Mode) → mode ≡ Running → not (is_silent mode) ≡ true
runs_true mode e = ap (λ m. not (is_silent m)) e

true_runs : (mode : Mode) → not (is_silent mode) ≡ true → mode ≡ Running
true_runs Running e = refl
true_runs Silent e = absurd (true≢false (sym e))

false_silent : (mode : Mode) → not (is_silent mode) ≡ false → mode ≡ Running → ⊥
false_silent mode e r = true≢false (sym (runs_true mode r) ∙ e)

mode_cases : (mode : Mode) → (mode ≡ Running) ⊎ (not (is_silent mode) ≡ false)
mode_cases Running = inl refl
mode_cases Silent = inr refl

within : (units u : ℕ) (x : Side) → u < units → replica_number u x < 2 * units
within units u A low = omega (arith, low)
within units u B low = omega (arith, low)

half_of : (k : ℕ) → (u : ℕ) × ((k ≡ 2 * u) ⊎ (k ≡ 2 * u + 1))
half_of zero = (0, inl refl)
half_of (suc k) = let h = half_of k in elim h.1 [ inl e ↦ (h.0, inr (omega (arith, e))) | inr e ↦ (suc h.0, inl (omega (arith, e))) ]

-- each number is some replica's
replica_of : (units k : ℕ) → k < 2 * units → (u : ℕ) × (x : Side) × (u < units) × (k ≡ replica_number u x)
replica_of units k low = let h = half_of k in elim h.1 [
  | inl e ↦ (h.0, A, omega (arith, low, e), omega (arith, e))
  | inr e ↦ (h.0, B, omega (arith, low, e), omega (arith, e))
]

-- the clock at a replica's number is its clock
clock_is : (members : List Member) (k : ℕ) → k < length members → (d : Clock) → get_or (clocks_of members) k d ≡ clock_of (get_or members k no_member)
clock_is members k low d = get_or-map clock_of members k no_member d low

module _ (p : Plan) (members : List Member) (unit : ℕ) (side : Side) (size : length members ≡ 2 * p.units) (low : unit < p.units) where
  number : replica_number unit side < length members
  number = omega (arith, within p.units unit side low, size)

  own : clock_at (clocks_of members) (replica_number unit side) ≡ clock_of (member_of members unit side)
  own = clock_is members (replica_number unit side) number no_clock

  enabled : MayAct (clocks_of members) (replica_number unit side) p.cycle p.skew → IsEnabled p members unit side
  enabled h = record {
    unit_is = low;
    runs = true_runs (member_of members unit side).mode (ap (λ (c : Clock). c.is_running) (sym own) ∙ h.runs);
    below = omega (arith, h.below, ap (λ (c : Clock). c.tick) own);
    close = λ v y l r.
        let k : replica_number v y < length members = omega (arith, within p.units v y l, size) in
        let c = All-get_or (IsClose (clock_at (clocks_of members) (replica_number unit side)).tick p.skew) (clocks_of members) (replica_number v y) no_clock (omega (arith, k, length-map members clock_of)) h.close in
        let at = clock_is members (replica_number v y) k no_clock in
        elim c [
          | inl s ↦ absurd (false_silent (member_of members v y).mode (ap (λ (c : Clock). c.is_running) (sym at) ∙ s) r)
          | inr t ↦ omega (arith, t, ap (λ (c : Clock). c.tick) at, ap (λ (c : Clock). c.tick) own)
        ];
  }

  acts : IsEnabled p members unit side → MayAct (clocks_of members) (replica_number unit side) p.cycle p.skew
  acts h = record {
    runs = ap (λ (c : Clock). c.is_running) own ∙ runs_true (member_of members unit side).mode h.runs;
    below = omega (arith, h.below, ap (λ (c : Clock). c.tick) own);
    close = All-from_get_or (IsClose (clock_at (clocks_of members) (replica_number unit side)).tick p.skew) (clocks_of members) no_clock (λ k inside.
        let k_low : k < length members = omega (arith, inside, length-map members clock_of) in
        let w = replica_of p.units k (omega (arith, k_low, size)) in
        let at : get_or (clocks_of members) k no_clock ≡ clock_of (member_of members w.0 w.1) = clock_is members k k_low no_clock ∙ ap (λ j. clock_of (get_or members j no_member)) w.3 in
        elim (mode_cases (member_of members w.0 w.1).mode) [
          | inl r ↦ inr (omega (arith, h.close w.0 w.1 w.2 r, ap (λ (c : Clock). c.tick) at, ap (λ (c : Clock). c.tick) own))
          | inr s ↦ inl (ap (λ (c : Clock). c.is_running) at ∙ s)
        ]);
  }

pub acts_are_enabled : ActsAreEnabled
acts_are_enabled p members unit side size low = (enabled p members unit side size low, acts p members unit side size low)

some_clock : (members : List Member) → Any (λ (c : Clock). c.is_running ≡ true) (clocks_of members) → list_any (λ (m : Member). not (is_silent m.mode)) members ≡ true
some_clock [] w = absurd (let low : w.0 < 0 = w.2 in omega (arith, low))
some_clock (m ∷ members) w = at (some_clock members) w.0 w.1 w.2 w.3 w.4
  where
    at : (Any (λ (c : Clock). c.is_running ≡ true) (clocks_of members) → list_any (λ (m : Member). not (is_silent m.mode)) members ≡ true) → (k : ℕ) (c : Clock) → k < length (clocks_of (m ∷ members)) → get_or (clocks_of (m ∷ members)) k c ≡ c → c.is_running ≡ true → list_any (λ (m : Member). not (is_silent m.mode)) (m ∷ members) ≡ true
    at rest zero c low e r = or_left (not (is_silent m.mode)) (list_any (λ (m : Member). not (is_silent m.mode)) members) (ap (λ (c : Clock). c.is_running) e ∙ r)
    at rest (suc k) c low e r = or_right (not (is_silent m.mode)) (list_any (λ (m : Member). not (is_silent m.mode)) members) (rest (k, c, omega (arith, low), e, r))

clock_some : (members : List Member) → list_any (λ (m : Member). not (is_silent m.mode)) members ≡ true → Any (λ (c : Clock). c.is_running ≡ true) (clocks_of members)
clock_some [] e = absurd (true≢false (sym e))
clock_some (m ∷ members) e = elim (or_cases (not (is_silent m.mode)) (list_any (λ (m : Member). not (is_silent m.mode)) members) e) [
  | inl a ↦ (0, clock_of m, omega arith, refl, a)
  | inr b ↦ (let w = clock_some members b in (suc w.0, w.1, omega (arith, w.2), w.3, w.4))
]

through : (p : Plan) (m : Member) → IsThrough p.cycle (clock_of m) → is_through p m ≡ true
through p m (inl s) = by m.mode s
  where
    by : (mode : Mode) → not (is_silent mode) ≡ false → (is_silent mode || nat_eq m.held.clock p.cycle) ≡ true
    by Running e = absurd (true≢false e)
    by Silent e = refl
through p m (inr e) = or_right (is_silent m.mode) (nat_eq m.held.clock p.cycle) (eq-eqb m.held.clock p.cycle e)

is_through_at : (p : Plan) (m : Member) → is_through p m ≡ true → IsThrough p.cycle (clock_of m)
is_through_at p m e = elim (or_cases (is_silent m.mode) (nat_eq m.held.clock p.cycle) e) [
  | inl s ↦ inl (ap not s)
  | inr c ↦ inr (eqb-true m.held.clock p.cycle c)
]

all_through : (p : Plan) (members : List Member) → All (IsThrough p.cycle) (clocks_of members) → list_all (is_through p) members ≡ true
all_through p [] h = refl
all_through p (m ∷ members) h =
    and_from (is_through p m) (list_all (is_through p) members) (through p m (h 0 no_clock (omega arith))) (all_through p members (λ k d low. h (suc k) d (omega (arith, low))))

through_all : (p : Plan) (members : List Member) → list_all (is_through p) members ≡ true → (k : ℕ) → k < length (clocks_of members) → IsThrough p.cycle (get_or (clocks_of members) k no_clock)
through_all p [] e k low = absurd (omega (arith, low))
through_all p (m ∷ members) e zero low = is_through_at p m (and_parts (is_through p m) (list_all (is_through p) members) e).0
through_all p (m ∷ members) e (suc k) low = through_all p members (and_parts (is_through p m) (list_all (is_through p) members) e).1 k (omega (arith, low))

pub overs_are_over : OversAreOver
overs_are_over p members = (
  λ h. and_from (list_any (λ (m : Member). not (is_silent m.mode)) members) (list_all (is_through p) members) (some_clock members h.some) (all_through p members h.all),
  λ e.
      let w = and_parts (list_any (λ (m : Member). not (is_silent m.mode)) members) (list_all (is_through p) members) e in
      record { some = clock_some members w.0; all = All-from_get_or (IsThrough p.cycle) (clocks_of members) no_clock (through_all p members w.1) },
)
