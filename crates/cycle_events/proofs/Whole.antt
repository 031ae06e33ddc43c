-- The events of a cycle from the state between two cycles.
use Rattle.std.proofs.Common.{◌≡◌, ℕ, zero, suc, ◌*◌, ◌/◌, ◌<◌, inl, inr, List, [], ◌∷◌, length, map, get_or, ℤ, Bool, true, false, cond, not, nat_eq, None, Some, refl, sym, ◌∙◌, ap, subst, arith}
use Rattle.std.specs.List.{list_any, list_all}
use Rattle.std.proofs.lemmas.Bool.{cases_Bool, and_parts, and_from, or_cases, or_left, or_right, true≢false, eqb-true}
use Rattle.std.proofs.lemmas.List.{length-map, get_or-map}
use Rattle.mars_base.specs.declared.shape.Side.{Side}
use Rattle.mars_base.specs.declared.shape.Side.TheVariants.{A, B}
use Rattle.script.specs.declared.script.Pace.{Pace}
use Rattle.script.specs.declared.script.Silence.{Silence}
use Rattle.cluster_model.specs.Cluster.{is_silent, is_through, is_over, turned, turn, settled, step, happens, IsEnabled, IsLineOf, fresh_member, first_state}
use Rattle.cluster_model.specs.Plan.{Plan}
use Rattle.cluster_model.specs.Silences.{falls}
use Rattle.cluster_model.specs.State.{Member, no_member, replica_number, member_of, State}
use Rattle.cluster_agreement.specs.Runs.{Event, steps, AllMay}
use Rattle.cluster_agreement.proofs.Losses.{stays_silent, one_runs}
use Rattle.cluster_agreement.proofs.Reading.{listed_at, number_within}
use Rattle.cluster_agreement.proofs.Slots.{length_listed}
use Rattle.cycle_events.specs.Events.{paces_of, cycle_events}
use Rattle.cycle_events.specs.Order.{Stands, IsStart, SomeIsKept, Ends, OfCycle, CycleOrder}
use Rattle.cycle_events.proofs.Acting.{mode_cases, running_silent, runs_true, open_settled}
use Rattle.cycle_events.proofs.Lists.{AllHere, all_here, Goes, steps_go, few_events}
use Rattle.cycle_events.proofs.Passes.{ends_through}

-- a cycle that has ticks isn't over where it begins
not_through : (p : Plan) (members : List Member) → 0 < p.cycle → list_any (λ (m : Member). not (is_silent m.mode)) members ≡ true → list_all (is_through p) (map (turned p) members) ≡ true → ⊥
not_through p [] some a t = true≢false (sym a)
not_through p (m ∷ members) some a t =
    let w = and_parts (is_through p (turned p m)) (list_all (is_through p) (map (turned p) members)) t in
    elim (or_cases (not (is_silent m.mode)) (list_any (λ (m : Member). not (is_silent m.mode)) members) a) [
      | inl r ↦ elim (or_cases (is_silent m.mode) (nat_eq 0 p.cycle) w.0) [
        | inl s ↦ true≢false (sym r ∙ ap not s)
        | inr e ↦ omega (arith, some, eqb-true 0 p.cycle e)
      ]
      | inr r ↦ not_through p members some r w.1
    ]

any_at : (test : Member → Bool) (members : List Member) (i : ℕ) → i < length members → test (get_or members i no_member) ≡ true → list_any test members ≡ true
any_at test [] i low e = absurd (omega (arith, low))
any_at test (m ∷ members) zero low e = or_left (test m) (list_any test members) e
any_at test (m ∷ members) (suc i) low e = or_right (test m) (list_any test members) (any_at test members i (omega (arith, low)) e)

-- what has a silence at its clock has one at the next cycle's start
turned_stands : (p : Plan) (silences : List Silence) (s : State) → 0 < p.cycle → Stands p silences s → Stands p silences (turn p s)
turned_stands p silences s some h = record {
  size = length-map s.members (turned p) ∙ h.size;
  clock = λ u x l. (let e = ap (λ (m : Member). m.held.clock) (at u x l) in omega (arith, e));
  fell = λ u x l q.
      let f = h.fell u x l (sym (ap (λ (m : Member). m.mode) (at u x l)) ∙ q) in
      let e : (member_of (turn p s).members u x).held.clock ≡ 0 = ap (λ (m : Member). m.held.clock) (at u x l) in
      (subst (λ k. falls silences u x (suc s.cycle) k ≡ true) (sym e) (stays_silent u x silences s.cycle (member_of s.members u x).held.clock f.0), omega (arith, e, some));
}
  where
    at : (u : ℕ) (x : Side) → u < p.units → member_of (turn p s).members u x ≡ turned p (member_of s.members u x)
    at u x l = get_or-map (turned p) s.members (replica_number u x) no_member no_member (omega (arith, number_within p.units u x l, h.size))

settled_stands : (p : Plan) (silences : List Silence) (s : State) → 0 < p.cycle → Stands p silences s → Stands p silences (settled p s)
settled_stands p silences s some h = elim (cases_Bool (is_over p s.members)) [ inl t ↦ rw t (turned_stands p silences s some h) | inr f ↦ rw f h ]

settled_fresh : (p : Plan) (s : State) → is_over p s.members ≡ true → (settled p s).line ≡ None
settled_fresh p s o = ap (λ b. (cond b (turn p s) s).line) o

module _ (p : Plan) (silences : List Silence) (line : List ℤ) where
  -- events that are enabled within a cycle may come there
  may_from : (events : List Event) (s : State) → IsLineOf s line → AllHere p silences line s events → AllMay p silences (λ other. other ≡ line) s events
  may_from [] s is a = tt
  may_from (e ∷ events) s is a =
      let same = open_settled p s e.unit e.side a.0 in (
        (
          record {
            enabled = subst (λ (t : State). IsEnabled p t.members e.unit e.side) (sym same) a.0;
            line_is = λ other q. is other (sym (ap (λ (t : State). t.line) same) ∙ q) ∙ sym a.1;
          },
          a.1,
        ),
        may_from events (step p silences e.line e.unit e.side s) (λ other q. (let z : Some e.line ≡ Some other = q in some_same e.line other z) ∙ a.1) a.2,
      )
    where
      some_same : (x y : List ℤ) → Some x ≡ Some y → y ≡ x
      some_same x y e = cc

  -- and in the state between two cycles
  may_settled : (events : List Event) (s : State) → AllHere p silences line (settled p s) events → AllMay p silences (λ other. other ≡ line) (settled p s) events
      → AllMay p silences (λ other. other ≡ line) s events
  may_settled [] s a m = tt
  may_settled (e ∷ events) s a m =
      let same = open_settled p (settled p s) e.unit e.side a.0 in (
        (
          record {
            enabled = a.0;
            line_is = λ other q. m.0.0.line_is other (ap (λ (t : State). t.line) same ∙ q);
          },
          m.0.1,
        ),
        subst (λ (t : State). AllMay p silences (λ other. other ≡ line) (happens p silences e.line e.unit e.side t) events) same m.1,
      )

  -- the states after them are the same
  steps_settled : (events : List Event) (s : State) → AllHere p silences line (settled p s) events → (events ≡ [] → settled p s ≡ s) → steps p silences s events ≡ steps p silences (settled p s) events
  steps_settled [] s a n = sym (n refl)
  steps_settled (e ∷ events) s a n = ap (λ (t : State). steps p silences (happens p silences e.line e.unit e.side t) events) (sym (open_settled p (settled p s) e.unit e.side a.0))

  -- the line of some events
  line_after : (events : List Event) (s : State) → AllHere p silences line s events → (events ≡ [] → s.line ≡ Some line) → (steps p silences s events).line ≡ Some line
  line_after [] s a n = n refl
  line_after (e ∷ events) s a n = line_after events (step p silences e.line e.unit e.side s) a.2 (λ q. ap Some a.1)

module _ (p : Plan) (silences : List Silence) (paces : List Pace) (some : 0 < p.skew) (ticks : 0 < p.cycle) (line : List ℤ) (s : State) (h : IsStart p silences s) where
  abbrev begin : State
  begin = settled p s

  abbrev events : List Event
  events = cycle_events p silences paces line s

  here : AllHere p silences line begin events
  here = all_here p silences line begin (paces_of paces begin.cycle)

  goes : Goes p silences line begin (steps p silences begin events)
  goes = steps_go p silences line events begin h.stands here

  through : list_all (is_through p) (steps p silences begin events).members ≡ true
  through = ends_through p silences line some begin (paces_of paces begin.cycle) h.stands

  -- without an event the state was no cycle's end
  none : events ≡ [] → settled p s ≡ s
  none e = elim (cases_Bool (is_over p s.members)) [
    | inr f ↦ ap (λ b. cond b (turn p s) s) f
    | inl t ↦
        let was : settled p s ≡ turn p s = ap (λ b. cond b (turn p s) s) t in
        let still : list_all (is_through p) (settled p s).members ≡ true = subst (λ es. list_all (is_through p) (steps p silences begin es).members ≡ true) e through in
        absurd (not_through p s.members ticks (and_parts (list_any (λ (m : Member). not (is_silent m.mode)) s.members) (list_all (is_through p) s.members) t).0
        (subst (λ (w : State). list_all (is_through p) w.members ≡ true) was still))
  ]

  same : steps p silences s events ≡ steps p silences begin events
  same = steps_settled p silences line events s here none

  fits : IsLineOf begin line
  fits other e = absurd (let z : None ≡ Some other = sym h.fresh ∙ e in cc)

  abbrev end : State
  end = steps p silences begin events

  -- a replica of a unit that isn't lost runs at the end, so the cycle is over
  over : SomeIsKept p silences begin.cycle → is_over p end.members ≡ true
  over k =
      let r = one_runs silences p.cycle begin.cycle k.unit k.kept in
      and_from (list_any (λ (m : Member). not (is_silent m.mode)) end.members) (list_all (is_through p) end.members)
      (any_at (λ (m : Member). not (is_silent m.mode)) end.members (replica_number k.unit r.0) (omega (arith, number_within p.units k.unit r.0 k.within, goes.stands.size))
      (elim (mode_cases (member_of end.members k.unit r.0).mode) [
        | inl q ↦ runs_true (member_of end.members k.unit r.0).mode q
        | inr q ↦
            let f = goes.stands.fell k.unit r.0 k.within q in
            let g : falls silences k.unit r.0 begin.cycle (member_of end.members k.unit r.0).held.clock ≡ true =
            subst (λ c. falls silences k.unit r.0 c (member_of end.members k.unit r.0).held.clock ≡ true) goes.cycle_is f.0 in
            absurd (true≢false (sym g ∙ r.1 (member_of end.members k.unit r.0).held.clock f.1))
      ])) through

  some_event : is_over p end.members ≡ true → events ≡ [] → ⊥
  some_event o e =
      let kept : settled p s ≡ s = none e in
      let o2 : is_over p s.members ≡ true = subst (λ (w : State). is_over p w.members ≡ true) kept (subst (λ es. is_over p (steps p silences begin es).members ≡ true) e o) in
      let turns : settled p s ≡ turn p s = ap (λ b. cond b (turn p s) s) o2 in
      let c : s.cycle ≡ suc s.cycle = ap (λ (w : State). w.cycle) (sym kept ∙ turns) in
      omega (arith, c)

  end_ends : is_over p end.members ≡ true → Ends p silences line end
  end_ends o = record {
    over = o;
    line_is = line_after p silences line events begin here (λ e. absurd (some_event o e));
    next = record { stands = settled_stands p silences end ticks goes.stands; fresh = settled_fresh p end o };
  }

  pub of_cycle : OfCycle p silences paces line s
  of_cycle = record {
    may = may_settled p silences line events s here (may_from p silences line events begin fits here);
    few = few_events p silences line events begin h.stands here;
    through = subst (λ (w : State). list_all (is_through p) w.members ≡ true) (sym same) through;
    cycle_is = ap (λ (w : State). w.cycle) same ∙ goes.cycle_is;
    start_is = ap (λ (w : State). w.start) same ∙ goes.start_is;
    ends = λ k. subst (Ends p silences line) (sym same) (end_ends (over k));
  }

half : (u : ℕ) (x : Side) → replica_number u x / 2 ≡ u
half u A = omega arith
half u B = omega arith

first_stands : (p : Plan) (silences : List Silence) → Stands p silences (first_state p)
first_stands p silences = record {
  size = length_listed (2 * p.units) (λ n. fresh_member p (n / 2));
  clock = λ u x l. (let e = ap (λ (m : Member). m.held.clock) (at u x l) in omega (arith, e));
  fell = λ u x l q. absurd (running_silent (sym (ap (λ (m : Member). m.mode) (at u x l)) ∙ q));
}
  where
    at : (u : ℕ) (x : Side) → u < p.units → member_of (first_state p).members u x ≡ fresh_member p u
    at u x l = listed_at (2 * p.units) (λ n. fresh_member p (n / 2)) (replica_number u x) no_member (number_within p.units u x l) ∙ ap (fresh_member p) (half u x)

first_fresh : (p : Plan) (b : Bool) → (cond b (turn p (first_state p)) (first_state p)).line ≡ None
first_fresh p true = refl
first_fresh p false = refl

pub cycle_order : CycleOrder
cycle_order = record {
  first = λ p silences ticks. record { stands = settled_stands p silences (first_state p) ticks (first_stands p silences); fresh = first_fresh p (is_over p (first_state p).members) };
  each = λ p silences paces some ticks line s h. of_cycle p silences paces some ticks line s h;
}
