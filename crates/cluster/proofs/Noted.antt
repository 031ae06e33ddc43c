-- The clocks of replicas in their seats.
use Rattle.std.proofs.Common.{◌≡◌, inl, inr, ℕ, ◌+◌, ◌<◌, List, [], ◌∷◌, length, map, set, get_or, refl, sym, ◌∙◌, ap, arith}
use Rattle.std.proofs.lemmas.Bool.{cases_eq}
use Rattle.std.proofs.lemmas.List.{ext_get_or, get_or-map, length-map, length-set, map-set, get_or-set_same, get_or-set_other}
use Rattle.bus.specs.Numbers.{BusState}
use Rattle.cluster_clocks.specs.Clocks.{no_clock, clock_at}
use Rattle.cluster_clocks.specs.Members.{clock_of, clocks_of}
use Rattle.cluster_clocks.specs.declared.clock.Clock.{Clock}
use Rattle.cluster_model.specs.State.{Member, no_member}
use Rattle.cluster_seats.proofs.Members.{on_at}
use Rattle.cluster_seats.specs.Seats.{Seated, no_seat, seat_at, member_on, members_on}
use Rattle.cluster.specs.Clocks.{clock_seen}

-- they are those of the members
pub seen_clocks : (bus : BusState) (seats : List Seated) → map clock_seen seats ≡ clocks_of (members_on bus seats)
seen_clocks bus [] = refl
seen_clocks bus (s ∷ seats) = ap (λ (cs : List Clock). clock_seen s ∷ cs) (seen_clocks bus seats)

-- the first ones are noted
pub record AreNoted (count : ℕ) (seats : List Seated) (clocks : List Clock) : Type 0 where
  pub count_is : length clocks ≡ length seats
  pub done : (k : ℕ) → k < count → clock_at clocks k ≡ clock_seen (seat_at seats k)

pub none_noted : (seats : List Seated) (clocks : List Clock) → length clocks ≡ length seats → AreNoted 0 seats clocks
none_noted seats clocks e = record { count_is = e; done = λ k b. absurd (omega (arith, b)) }

pub one_noted : (i : ℕ) (seats : List Seated) (clocks : List Clock) (c : Clock) → i < length seats → c ≡ clock_seen (seat_at seats i) → AreNoted i seats clocks → AreNoted (i + 1) seats (set clocks i c)
one_noted i seats clocks c low e h = record {
  count_is = length-set clocks i c ∙ h.count_is;
  done = λ k b. elim (cases_eq k i) [
    | inl f ↦ ap (clock_at (set clocks i c)) f ∙ get_or-set_same clocks i c no_clock (omega (arith, low, h.count_is)) ∙ e ∙ ap (λ j. clock_seen (seat_at seats j)) (sym f)
    | inr o ↦ get_or-set_other clocks i k c no_clock o ∙ h.done k (omega (arith, b, o))
  ];
}

pub all_noted : (seats : List Seated) (clocks : List Clock) → AreNoted (length seats) seats clocks → clocks ≡ map clock_seen seats
all_noted seats clocks h = ext_get_or no_clock clocks (map clock_seen seats) (h.count_is ∙ sym (length-map seats clock_seen))
    (λ k low. let b : k < length seats = omega (arith, low, h.count_is) in h.done k b ∙ sym (get_or-map clock_seen seats k no_seat no_clock b))

-- one replica is another, and its clock is noted
pub clocks_again : (old now : BusState) (seats others : List Seated) (n : ℕ) (m : Member) (clocks : List Clock) (c : Clock) → n < length seats → length others ≡ length seats
    → clocks ≡ map clock_seen seats → members_on now others ≡ set (members_on old seats) n m → c ≡ clock_seen (seat_at others n) → set clocks n c ≡ map clock_seen others
clocks_again old now seats others n m clocks c low count is made e =
    ap (λ (cs : List Clock). set cs n c) (is ∙ seen_clocks old seats)
    ∙ ap (set (clocks_of (members_on old seats)) n)
    (e ∙ ap clock_of (sym (on_at now others n (omega (arith, low, count))) ∙ ap (λ (ms : List Member). get_or ms n no_member) made
    ∙ get_or-set_same (members_on old seats) n m no_member (omega (arith, low, length-map seats (member_on old)))))
    ∙ sym (map-set clock_of (members_on old seats) n m)
    ∙ ap clocks_of (sym made)
    ∙ sym (seen_clocks now others)
