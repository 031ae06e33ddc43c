-- A replica's event is the model's.
use Rattle.std.proofs.Common.{◌≡◌, ℕ, ◌*◌, ◌<◌, List, length, map, get_or, ℤ, Bool, true, false, cond, Option, Some, None, sym, ◌∙◌, ap, arith}
use Rattle.std.proofs.lemmas.List.{get_or-map}
use Rattle.std.proofs.lemmas.Option.{slice_get-get_or, get_or_from_slice_get}
use Rattle.mars_base.specs.declared.shape.Side.{Side}
use Rattle.bus.specs.Numbers.{BusState}
use Rattle.script.specs.declared.script.Silence.{Silence}
use Rattle.first_silence.specs.Moments.{IsFirstSilence, is_reached}
use Rattle.first_silence.specs.declared.moment.Moment.{Moment}
use Rattle.cluster_agreement.proofs.Reading.{number_within}
use Rattle.cluster_clocks.specs.declared.clock.Clock.{Clock}
use Rattle.cluster_model.specs.Cluster.{after_tick, fallen, event, happens}
use Rattle.cluster_model.specs.Plan.{Plan}
use Rattle.cluster_model.specs.Silences.{falls}
use Rattle.cluster_model.specs.State.{Member, replica_number, member_of}
use Rattle.cluster_seats.proofs.Members.{seat_of, member_at}
use Rattle.cluster_seats.specs.Seats.{Seated, no_seat, seat_at, AreSeated, member_on, members_on}
use Rattle.cluster_starts.specs.Left.{state_with}
use Rattle.cluster.specs.Clocks.{clock_seen}
use Rattle.cluster.specs.Stands.{with_member}

-- within a list what stands where there is nothing doesn't matter
other_default : {X : Type 0} (xs : List X) (n : ℕ) (a b : X) → n < length xs → get_or xs n a ≡ get_or xs n b
other_default xs n a b low = get_or_from_slice_get xs n (get_or xs n b) a (slice_get-get_or xs n b low)

module _ (p : Plan) (silences : List Silence) (line : List ℤ) (u : ℕ) (x : Side) (cycle : ℕ) (old : Option (List ℤ)) (start : List (List ℤ)) (bus : BusState) (seats : List Seated) (is : AreSeated p.units seats)
    (low : u < p.units) (n : ℕ) (e : n ≡ replica_number u x) (kept : Option (List ℤ)) (k : kept ≡ Some line) where
  abbrev ms : List Member
  ms = members_on bus seats

  abbrev one : Member
  one = member_on bus (seat_at seats (replica_number u x))

  event_at : (b : Bool) → falls silences u x cycle (seat_at seats n).held.clock ≡ b → event p silences cycle line ms u x (member_of ms u x) ≡ cond b (fallen one) (after_tick p line ms u x one)
  event_at b f =
      ap (event p silences cycle line ms u x) (member_at p.units bus seats is u x low)
      ∙ ap (λ c. cond c (fallen one) (after_tick p line ms u x one)) (sym (ap (λ i. falls silences u x cycle (seat_at seats i).held.clock) e) ∙ f)

  pub falls_happens : falls silences u x cycle (seat_at seats n).held.clock ≡ true
      → with_member n (fallen (member_on bus (seat_at seats n))) (state_with cycle kept start ms) ≡ happens p silences line u x (state_with cycle old start ms)
  falls_happens f =
      ap (λ l. with_member n (fallen (member_on bus (seat_at seats n))) (state_with cycle l start ms)) k
      ∙ ap (λ i. with_member i (fallen (member_on bus (seat_at seats i))) (state_with cycle (Some line) start ms)) e
      ∙ ap (λ (m : Member). with_member (replica_number u x) m (state_with cycle (Some line) start ms)) (sym (event_at true f))

  pub ticks_happens : falls silences u x cycle (seat_at seats n).held.clock ≡ false
      → with_member n (after_tick p line ms (seat_at seats n).unit (seat_at seats n).side (member_on bus (seat_at seats n))) (state_with cycle kept start ms) ≡ happens p silences line u x (state_with cycle old start ms)
  ticks_happens f =
      ap (λ l. with_member n (after_tick p line ms (seat_at seats n).unit (seat_at seats n).side (member_on bus (seat_at seats n))) (state_with cycle l start ms)) k
      ∙ ap (λ i. with_member i (after_tick p line ms (seat_at seats i).unit (seat_at seats i).side (member_on bus (seat_at seats i))) (state_with cycle (Some line) start ms)) e
      ∙ ap (λ v. with_member (replica_number u x) (after_tick p line ms v (seat_at seats (replica_number u x)).side one) (state_with cycle (Some line) start ms)) (seat_of p.units seats is u x low).0
      ∙ ap (λ y. with_member (replica_number u x) (after_tick p line ms u y one) (state_with cycle (Some line) start ms)) (seat_of p.units seats is u x low).1
      ∙ ap (λ (m : Member). with_member (replica_number u x) m (state_with cycle (Some line) start ms)) (sym (event_at false f))

  -- the first silence answers at the clock whether the script names a silence there
  pub falls_by : (b : Bool) (firsts : List (Option Moment)) (first : Option Moment) (clocks : List Clock) (c : Clock) → length firsts ≡ 2 * p.units → IsFirstSilence silences u x (get_or firsts (replica_number u x) None)
      → first ≡ get_or firsts n first → clocks ≡ map clock_seen seats → c ≡ get_or clocks n c → b ≡ is_reached first cycle c.tick → falls silences u x cycle (seat_at seats n).held.clock ≡ b
  falls_by b firsts first clocks c count h f clocks_are g r =
      let within = number_within p.units u x low in
      let tick : c ≡ clock_seen (seat_at seats n) = g ∙ ap (λ (cs : List Clock). get_or cs n c) clocks_are ∙ get_or-map clock_seen seats n no_seat c (omega (arith, within, e, is.count)) in
      let one_first : first ≡ get_or firsts (replica_number u x) None = f ∙ other_default firsts n first None (omega (arith, within, e, count)) ∙ ap (λ i. get_or firsts i None) e in
      sym (h.falls_then cycle (seat_at seats n).held.clock)
      ∙ ap (λ m. is_reached m cycle (seat_at seats n).held.clock) (sym one_first)
      ∙ ap (λ (j : Clock). is_reached first cycle j.tick) (sym tick)
      ∙ sym r
