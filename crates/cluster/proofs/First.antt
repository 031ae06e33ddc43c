-- A cluster before its first event.
use Rattle.std.proofs.Common.{◌≡◌, ◌⊎◌, inl, inr, ℕ, ◌+◌, ◌*◌, ◌/◌, ◌%◌, ◌<◌, ◌≤◌, ◌≢◌, ◌++◌, List, [], ◌∷◌, length, map, get_or, replicate, ℤ, pos, slice_index, cond, Option, None, sym, ◌∙◌, ap, subst, arith, length-append}
use Rattle.std.specs.List.{range_with_len}
use Rattle.std.proofs.lemmas.Bool.{cases_eq, cases_lt, eq-eqb, ne_eqb}
use Rattle.std.proofs.lemmas.List.{ext_get_or, get_or-map, length-map, length-replicate, get_or_append_left, get_or_push}
use Rattle.std.proofs.lemmas.Simd.{map-map}
use Rattle.mars_base.specs.declared.shape.Side.{Side}
use Rattle.mars_base.specs.declared.shape.Side.TheVariants.{A, B}
use Rattle.script.specs.declared.script.Silence.{Silence}
use Rattle.bus.specs.Numbers.{BusState, slot_number, slot_of}
use Rattle.bus.specs.SlotState.{Open, slot_at}
use Rattle.task_words.specs.States.{first_states}
use Rattle.tick_parts.specs.OnBus.{slots_on}
use Rattle.cluster_agreement.proofs.Reading.{listed_at, number_within}
use Rattle.cluster_agreement.proofs.Slots.{length_listed}
use Rattle.cluster_model.specs.Cluster.{fresh_held, fresh_slots, first_held_states, fresh_member, first_state}
use Rattle.cluster_model.specs.Plan.{Plan, listed}
use Rattle.cluster_model.specs.State.{Running, Member, replica_number}
use Rattle.cluster_seats.specs.Seats.{Seated, no_seat, member_on, members_on, AreSeated}
use Rattle.cluster_starts.specs.Left.{state_with}
use Rattle.first_silence.specs.Moments.{IsFirstSilence}
use Rattle.first_silence.specs.declared.moment.Moment.{Moment}
use Rattle.cluster.specs.First.{side_of, first_seated, first_seats, AreFirsts}

-- a number is that of its unit and its side
number_is : (n : ℕ) → replica_number (n / 2) (side_of n) ≡ n
number_is n = by (cases_eq (n % 2) 0)
  where
    by : (n % 2 ≡ 0) ⊎ (n % 2 ≢ 0) → replica_number (n / 2) (side_of n) ≡ n
    by (inl e) = ap (λ b. replica_number (n / 2) (cond b A B)) (eq-eqb (n % 2) 0 e) ∙ omega (arith, e)
    by (inr o) = ap (λ b. replica_number (n / 2) (cond b A B)) (ne_eqb (n % 2) 0 o) ∙ omega (arith, o)

-- each replica is in the seat of its number
pub first_are_seated : (p : Plan) (units : ℕ) → AreSeated units (first_seats p units)
first_are_seated p units = record {
  count = length_listed (2 * units) (first_seated p);
  number = λ n low.
      let l : n < 2 * units = omega (arith, low, length_listed (2 * units) (first_seated p)) in
      ap (λ (s : Seated). replica_number s.unit s.side) (listed_at (2 * units) (first_seated p) n no_seat l) ∙ number_is n;
}

-- with every slot open they are the model's members
pub first_members : (p : Plan) (bus : BusState) (units : ℕ) → bus.layout.rounds ≡ p.rounds → ((n : ℕ) → slot_at bus.slots n ≡ Open)
    → members_on bus (first_seats p units) ≡ listed (2 * units) (λ r. fresh_member p (r / 2))
first_members p bus units rounds opened =
    map-map (member_on bus) (first_seated p) (range_with_len 0 (2 * units))
    ∙ ap (λ (f : ℕ → Member). map f (range_with_len 0 (2 * units))) (λ i n. same n i)
  where
    slots_open : (n : ℕ) → slots_on bus (n / 2) (side_of n) ≡ fresh_slots p
    slots_open n = ap (λ k. listed k (λ round. slot_of bus round (n / 2) (side_of n))) rounds
        ∙ ap (listed p.rounds) (λ i round. opened (slot_number bus.layout round (n / 2) (side_of n)) i)

    same : (n : ℕ) → member_on bus (first_seated p n) ≡ fresh_member p (n / 2)
    same n = ap (λ slots. (let m : Member = record { mode = Running; held = fresh_held p (first_held_states p (n / 2)); slots = slots } in m)) (slots_open n)

-- the states of the tasks, all 0
pub first_starts : (words : List ℕ) (tasks : ℕ) → length words ≡ tasks → first_states words ≡ listed tasks (λ task. replicate (slice_index words task) (pos 0))
first_starts words tasks count =
    ext_get_or [] (first_states words) (listed tasks (λ task. replicate (slice_index words task) (pos 0)))
    (length-map words (λ (n : ℕ). replicate n (pos 0)) ∙ count ∙ sym (length_listed tasks (λ task. replicate (slice_index words task) (pos 0))))
    (λ task low.
    let l : task < tasks = omega (arith, low, count, length-map words (λ (n : ℕ). replicate n (pos 0))) in
    get_or-map (λ (n : ℕ). replicate n (pos 0)) words task 0 [] (omega (arith, l, count))
    ∙ sym (listed_at tasks (λ task. replicate (slice_index words task) (pos 0)) task [] l))

pub first_sizes : (words : List ℕ) (task : ℕ) → task < length words → length (get_or (first_states words) task []) ≡ slice_index words task
first_sizes words task low =
    ap length (get_or-map (λ (n : ℕ). replicate n (pos 0)) words task 0 [] low) ∙ length-replicate (slice_index words task) (pos 0)

-- the first state by its parts
pub first_state_is : (p : Plan) (line : Option (List ℤ)) (start : List (List ℤ)) (members : List Member)
    → line ≡ None → start ≡ (first_state p).start → members ≡ (first_state p).members → state_with 0 line start members ≡ first_state p
first_state_is p line start members a b c =
    ap (λ l. state_with 0 l start members) a ∙ ap (λ xs. state_with 0 None xs members) b ∙ ap (λ (ms : List Member). state_with 0 None (first_state p).start ms) c

-- the moments of one unit more
pub firsts_more : (silences : List Silence) (unit : ℕ) (firsts now : List (Option Moment)) (a b : Option Moment) → AreFirsts silences unit firsts
    → IsFirstSilence silences unit A a → IsFirstSilence silences unit B b → now ≡ (firsts ++ a ∷ []) ++ b ∷ [] → AreFirsts silences (unit + 1) now
firsts_more silences unit firsts now a b h is_a is_b e = record {
  count = ap length e ∙ omega (arith, length-append (firsts ++ a ∷ []) (b ∷ []), length-append firsts (a ∷ []), h.count);
  each = λ u x low. subst (λ xs. IsFirstSilence silences u x (get_or xs (replica_number u x) None)) (sym e) (by u x (cases_lt u unit) low);
}
  where
    size : length (firsts ++ a ∷ []) ≡ 2 * unit + 1
    size = omega (arith, length-append firsts (a ∷ []), h.count)

    old : (n : ℕ) → n < length firsts → get_or ((firsts ++ a ∷ []) ++ b ∷ []) n None ≡ get_or firsts n None
    old n low = get_or_append_left (firsts ++ a ∷ []) (b ∷ []) None n (omega (arith, low, size, h.count)) ∙ get_or_append_left firsts (a ∷ []) None n low

    here : (x : Side) → IsFirstSilence silences unit x (get_or ((firsts ++ a ∷ []) ++ b ∷ []) (replica_number unit x) None)
    here A = subst (IsFirstSilence silences unit A)
        (sym (get_or_append_left (firsts ++ a ∷ []) (b ∷ []) None (replica_number unit A) (omega (arith, size))
        ∙ get_or_push firsts a None (replica_number unit A) (omega (arith, h.count)))) is_a
    here B = subst (IsFirstSilence silences unit B)
        (sym (get_or_push (firsts ++ a ∷ []) b None (replica_number unit B) (omega (arith, size)))) is_b

    by : (u : ℕ) (x : Side) → (u < unit) ⊎ (unit ≤ u) → u < unit + 1 → IsFirstSilence silences u x (get_or ((firsts ++ a ∷ []) ++ b ∷ []) (replica_number u x) None)
    by u x (inl before) low = subst (IsFirstSilence silences u x) (sym (old (replica_number u x) (omega (arith, number_within unit u x before, h.count)))) (h.each u x before)
    by u x (inr high) low =
        let e : unit ≡ u = omega (arith, high, low) in
        subst (λ v. IsFirstSilence silences v x (get_or ((firsts ++ a ∷ []) ++ b ∷ []) (replica_number v x) None)) e (here x)
