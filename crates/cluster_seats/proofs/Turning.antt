-- The next cycle begins for one replica after another.
use Rattle.std.proofs.Common.{◌≡◌, ◌⊎◌, inl, inr, ℕ, ◌+◌, ◌<◌, ◌≤◌, List, length, map, set, get_or, refl, sym, ◌∙◌, ap, subst, arith}
use Rattle.std.specs.List.{All}
use Rattle.std.proofs.lemmas.Bool.{cases_eq}
use Rattle.std.proofs.lemmas.List.{ext_get_or, get_or-map, length-map, length-set, map-set, get_or-set_same, get_or-set_other}
use Rattle.cluster_model.specs.Plan.{Plan}
use Rattle.cluster_seats.specs.Fresh.{fresh, all_fresh}
use Rattle.cluster_seats.specs.Seats.{Seated, no_seat, seat_at}

module _ {S : Type 0} (seat : S → Seated) (p : Plan) where
  -- the first ones are at the cycle's start, and the others as they were
  pub record IsTurning (count : ℕ) (old now : List S) : Type 0 where
    pub count_is : length now ≡ length old
    pub done : (k : ℕ) → k < count → k < length old → seat_at (map seat now) k ≡ fresh p (seat_at (map seat old) k)
    pub rest : (k : ℕ) → count ≤ k → seat_at (map seat now) k ≡ seat_at (map seat old) k

  pub one_more : (i : ℕ) (old now : List S) (was next : S) → i < length now → was ≡ get_or now i was → seat next ≡ fresh p (seat was) → IsTurning i old now → IsTurning (i + 1) old (set now i next)
  one_more i old now was next low is made h = record {
    count_is = length-set now i next ∙ h.count_is;
    done = λ k b c. ap (λ (xs : List Seated). seat_at xs k) (map-set seat now i next) ∙ (elim (cases_eq k i) [
      | inl e ↦
          ap (λ n. seat_at (set (map seat now) i (seat next)) n) e
          ∙ get_or-set_same (map seat now) i (seat next) no_seat (omega (arith, low, length-map now seat))
          ∙ made
          ∙ ap (fresh p) (ap seat is ∙ sym (get_or-map seat now i was no_seat low) ∙ h.rest i (omega arith) ∙ ap (seat_at (map seat old)) (sym e))
      | inr o ↦ get_or-set_other (map seat now) i k (seat next) no_seat o ∙ h.done k (omega (arith, b, o)) c
    ]);
    rest = λ k b.
        ap (λ (xs : List Seated). seat_at xs k) (map-set seat now i next)
        ∙ get_or-set_other (map seat now) i k (seat next) no_seat (λ e. absurd (omega (arith, b, e))) ∙ h.rest k (omega (arith, b));
  }

  pub all_turned : (old now : List S) → IsTurning (length old) old now → map seat now ≡ all_fresh p (map seat old)
  all_turned old now h = ext_get_or no_seat (map seat now) (all_fresh p (map seat old))
      (length-map now seat ∙ h.count_is ∙ sym (length-map old seat) ∙ sym (length-map (map seat old) (fresh p)))
      (λ k low. let b : k < length old = omega (arith, low, length-map now seat, h.count_is) in
      h.done k b b ∙ sym (get_or-map (fresh p) (map seat old) k no_seat no_seat (omega (arith, b, length-map old seat))))
