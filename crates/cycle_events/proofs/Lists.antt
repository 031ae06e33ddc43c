-- Lists of events that are enabled where they come, all in one cycle.
use Rattle.std.proofs.Common.{◌≡◌, ℕ, zero, suc, ◌+◌, ◌*◌, ◌<◌, ◌≤◌, inl, inr, List, [], ◌∷◌, ◌++◌, length, ℤ, Bool, true, false, cond, refl, sym, ◌∙◌, ap, subst, arith}
use Rattle.std.proofs.lemmas.Bool.{cases_lt}
use Rattle.std.proofs.lemmas.List.{length-set}
use Rattle.mars_base.specs.declared.shape.Side.{Side}
use Rattle.mars_base.specs.declared.shape.Side.TheVariants.{A, B}
use Rattle.script.specs.declared.script.Pace.{Pace}
use Rattle.script.specs.declared.script.Silence.{Silence}
use Rattle.cluster_model.specs.Cluster.{happens, step, IsEnabled}
use Rattle.cluster_model.specs.Plan.{Plan}
use Rattle.cluster_model.specs.Silences.{falls}
use Rattle.cluster_model.specs.State.{Running, Silent, Member, replica_number, member_of, State}
use Rattle.cluster_agreement.specs.Runs.{Event, steps}
use Rattle.cluster_agreement.proofs.Reading.{number_within, put_here, put_cases}
use Rattle.cycle_events.specs.Events.{Replica, replica, replicas, is_enabled, event_of, acted, paced, by_paces, in_turn, passes, events_from}
use Rattle.cycle_events.specs.Order.{Stands}
use Rattle.cycle_events.proofs.Acting.{mode_cases, enabled_is, open_settled, left, now, now_clock, now_up, now_fell, now_left}

pub steps_append : (p : Plan) (silences : List Silence) (s : State) (xs ys : List Event) → steps p silences s (xs ++ ys) ≡ steps p silences (steps p silences s xs) ys
steps_append p silences s [] ys = refl
steps_append p silences s (e ∷ xs) ys = steps_append p silences (step p silences e.line e.unit e.side s) xs ys

-- a running replica's clock is at least so far
abbrev pub Up : (k : ℕ) → Member → Type 0
Up k m = m.mode ≡ Running → k ≤ m.held.clock

module _ (p : Plan) (silences : List Silence) (line : List ℤ) where
  -- each event is enabled where it comes, in the cycle of the first
  abbrev pub AllHere : State → List Event → Type 0
  AllHere s [] = Unit {0}
  AllHere s (e ∷ events) = IsEnabled p s.members e.unit e.side × (e.line ≡ line) × AllHere (step p silences e.line e.unit e.side s) events

  pub here_append : (s : State) (xs ys : List Event) → AllHere s xs → AllHere (steps p silences s xs) ys → AllHere s (xs ++ ys)
  here_append s [] ys a b = b
  here_append s (e ∷ xs) ys a b = (a.0, a.1, here_append (step p silences e.line e.unit e.side s) xs ys a.2 b)

  here_if : (s : State) (r : Replica) (b : Bool) (some none : List Event) → is_enabled p s.members r ≡ b → AllHere (acted p silences line r s) some → AllHere s none
      → AllHere s (cond b (event_of p silences line r ∷ some) none)
  here_if s r true some none e a n = (enabled_is p s.members r e, refl, a)
  here_if s r false some none e a n = n

  pub paced_here : (s : State) (r : Replica) (n : ℕ) → AllHere s (paced p silences line s r n)
  paced_here s r zero = tt
  paced_here s r (suc n) = here_if s r (is_enabled p s.members r) (paced p silences line (acted p silences line r s) r n) [] refl (paced_here (acted p silences line r s) r n) tt

  pub paces_here : (s : State) (paces : List Pace) → AllHere s (by_paces p silences line s paces)
  paces_here s [] = tt
  paces_here s (pace ∷ paces) =
      here_append s (paced p silences line s (replica pace.unit pace.side) pace.count)
      (by_paces p silences line (steps p silences s (paced p silences line s (replica pace.unit pace.side) pace.count)) paces)
      (paced_here s (replica pace.unit pace.side) pace.count)
      (paces_here (steps p silences s (paced p silences line s (replica pace.unit pace.side) pace.count)) paces)

  pub turn_here : (s : State) (rs : List Replica) → AllHere s (in_turn p silences line s rs)
  turn_here s [] = tt
  turn_here s (r ∷ rs) = here_if s r (is_enabled p s.members r) (in_turn p silences line (acted p silences line r s) rs) (in_turn p silences line s rs) refl
      (turn_here (acted p silences line r s) rs) (turn_here s rs)

  pub passes_here : (s : State) (n : ℕ) → AllHere s (passes p silences line s n)
  passes_here s zero = tt
  passes_here s (suc n) =
      here_append s (in_turn p silences line s (replicas p.units)) (passes p silences line (steps p silences s (in_turn p silences line s (replicas p.units))) n)
      (turn_here s (replicas p.units)) (passes_here (steps p silences s (in_turn p silences line s (replicas p.units))) n)

  pub all_here : (s : State) (paces : List Pace) → AllHere s (events_from p silences line s paces)
  all_here s paces =
      here_append s (by_paces p silences line s paces) (passes p silences line (steps p silences s (by_paces p silences line s paces)) p.cycle)
      (paces_here s paces) (passes_here (steps p silences s (by_paces p silences line s paces)) p.cycle)

  -- what is left of the first units' replicas
  abbrev pub total : (members : List Member) → (units : ℕ) → ℕ
  total members zero = 0
  total members (suc u) = total members u + (left p (member_of members u A) + left p (member_of members u B))

  total_most : (members : List Member) (units : ℕ) → total members units ≤ units * (2 * p.cycle)
  total_most members zero = omega arith
  total_most members (suc u) =
      let a : left p (member_of members u A) ≤ p.cycle = most (member_of members u A) in
      let b : left p (member_of members u B) ≤ p.cycle = most (member_of members u B) in
      let c : suc u * (2 * p.cycle) ≡ u * (2 * p.cycle) + 2 * p.cycle = grind arith in
      omega (arith, total_most members u, a, b, c)
    where
      most : (m : Member) → left p m ≤ p.cycle
      most m = elim (mode_cases m.mode) [ inl r ↦ rw r (omega arith) | inr s ↦ rw s (omega arith) ]

  total_le : (old new : List Member) → ((v : ℕ) (y : Side) → left p (member_of new v y) ≤ left p (member_of old v y)) → (units : ℕ) → total new units ≤ total old units
  total_le old new h zero = omega arith
  total_le old new h (suc u) = omega (arith, total_le old new h u, h u A, h u B)

  total_lt : (old new : List Member) → ((v : ℕ) (y : Side) → left p (member_of new v y) ≤ left p (member_of old v y)) → (u : ℕ) (x : Side)
      → left p (member_of new u x) < left p (member_of old u x) → (units : ℕ) → u < units → total new units < total old units
  total_lt old new h u x less zero low = absurd (omega (arith, low))
  total_lt old new h u x less (suc n) low = elim (cases_lt u n) [
    | inl l ↦ omega (arith, total_lt old new h u x less n l, h n A, h n B)
    | inr m ↦
        let same : u ≡ n = omega (arith, low, m) in
        let more : left p (member_of new n x) < left p (member_of old n x) = subst (λ k. left p (member_of new k x) < left p (member_of old k x)) same less in
        by x more
  ]
    where
      by : (x : Side) → left p (member_of new n x) < left p (member_of old n x) → total new (suc n) < total old (suc n)
      by A q = omega (arith, total_le old new h n, q, h n B)
      by B q = omega (arith, total_le old new h n, q, h n A)

  -- what an event, or several, leave of a state
  pub record Goes (s t : State) : Type 0 where
    pub stands : Stands p silences t
    pub up : (k u : ℕ) (x : Side) → u < p.units → Up k (member_of s.members u x) → Up k (member_of t.members u x)
    pub cycle_is : t.cycle ≡ s.cycle
    pub start_is : t.start ≡ s.start

  pub stays : (s : State) → Stands p silences s → Goes s s
  stays s h = record { stands = h; up = λ k u x l q. q; cycle_is = refl; start_is = refl }

  goes_on : (s t w : State) → Goes s t → Goes t w → Goes s w
  goes_on s t w a b = record { stands = b.stands; up = λ k u x l q. b.up k u x l (a.up k u x l q); cycle_is = b.cycle_is ∙ a.cycle_is; start_is = b.start_is ∙ a.start_is }

  module _ (s : State) (u : ℕ) (x : Side) (h : Stands p silences s) (e : IsEnabled p s.members u x) where
    abbrev pub new : Member
    new = now p silences s.cycle line s.members u x (member_of s.members u x)

    abbrev pub next : State
    next = happens p silences line u x s

    inside : replica_number u x < length s.members
    inside = omega (arith, number_within p.units u x e.unit_is, h.size)

    pub happened : step p silences line u x s ≡ next
    happened = ap (happens p silences line u x) (open_settled p s u x e)

    pub happens_goes : Goes s next
    happens_goes = record {
      stands = record {
        size = length-set s.members (replica_number u x) new ∙ h.size;
        clock = put_cases (λ v y m. v < p.units → m.held.clock ≤ p.cycle) s.members u x new inside
            (λ l. now_clock p silences s.cycle line s.members u x (member_of s.members u x) e.below) h.clock;
        fell = put_cases (λ v y m. v < p.units → m.mode ≡ Silent → (falls silences v y s.cycle m.held.clock ≡ true) × (m.held.clock < p.cycle)) s.members u x new inside
            (λ l. now_fell p silences s.cycle line s.members u x (member_of s.members u x) e.runs e.below) h.fell;
      };
      up = λ k. put_cases (λ v y m. v < p.units → Up k (member_of s.members v y) → Up k m) s.members u x new inside
          (λ l q r. let z = q e.runs in omega (arith, now_up p silences s.cycle line s.members u x (member_of s.members u x) k z r)) (λ v y l q. q);
      cycle_is = refl;
      start_is = refl;
    }

    happens_up : (k : ℕ) → Up k (member_of s.members u x) → Up (suc k) (member_of next.members u x)
    happens_up k q = subst (Up (suc k)) (sym (put_here s.members u x new inside))
        (λ r. omega (arith, now_up p silences s.cycle line s.members u x (member_of s.members u x) k (q e.runs) r))

    happens_total : total next.members p.units < total s.members p.units
    happens_total =
        let less = now_left p silences s.cycle line s.members u x (member_of s.members u x) e.runs e.below in
        total_lt s.members next.members
        (put_cases (λ v y m. left p m ≤ left p (member_of s.members v y)) s.members u x new inside (omega (arith, less)) (λ v y. omega arith))
        u x (subst (λ m. left p m < left p (member_of s.members u x)) (sym (put_here s.members u x new inside)) less) p.units e.unit_is

    pub step_goes : Goes s (step p silences line u x s)
    step_goes = subst (Goes s) (sym happened) happens_goes

    pub step_up : (k : ℕ) → Up k (member_of s.members u x) → Up (suc k) (member_of (step p silences line u x s).members u x)
    step_up k q = subst (λ (t : State). Up (suc k) (member_of t.members u x)) (sym happened) (happens_up k q)

    pub step_total : total (step p silences line u x s).members p.units < total s.members p.units
    step_total = subst (λ (t : State). total t.members p.units < total s.members p.units) (sym happened) happens_total

  same_line : (s : State) (e : Event) → e.line ≡ line → step p silences e.line e.unit e.side s ≡ step p silences line e.unit e.side s
  same_line s e q = ap (λ l. step p silences l e.unit e.side s) q

  pub steps_go : (events : List Event) (s : State) → Stands p silences s → AllHere s events → Goes s (steps p silences s events)
  steps_go [] s h a = stays s h
  steps_go (e ∷ events) s h a =
      let g : Goes s (step p silences e.line e.unit e.side s) = subst (Goes s) (sym (same_line s e a.1)) (step_goes s e.unit e.side h a.0) in
      goes_on s (step p silences e.line e.unit e.side s) (steps p silences s (e ∷ events)) g (steps_go events (step p silences e.line e.unit e.side s) g.stands a.2)

  pub steps_total : (events : List Event) (s : State) → Stands p silences s → AllHere s events → length events + total (steps p silences s events).members p.units ≤ total s.members p.units
  steps_total [] s h a = omega arith
  steps_total (e ∷ events) s h a =
      let g : Goes s (step p silences e.line e.unit e.side s) = subst (Goes s) (sym (same_line s e a.1)) (step_goes s e.unit e.side h a.0) in
      let l : total (step p silences e.line e.unit e.side s).members p.units < total s.members p.units =
      subst (λ (t : State). total t.members p.units < total s.members p.units) (sym (same_line s e a.1)) (step_total s e.unit e.side h a.0) in
      omega (arith, l, steps_total events (step p silences e.line e.unit e.side s) g.stands a.2)

  pub few_events : (events : List Event) (s : State) → Stands p silences s → AllHere s events → length events ≤ p.units * (2 * p.cycle)
  few_events events s h a = omega (arith, steps_total events s h a, total_most s.members p.units)
