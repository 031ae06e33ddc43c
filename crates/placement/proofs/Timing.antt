-- The ticks that are kept for each unit.
use Rattle.std.proofs.Common.{◌≡◌, ℕ, suc, ◌-◌, ◌<◌, ◌≤◌, inl, inr, Bool, true, false, if◌then◌else◌, List, [], ◌∷◌, ◌++◌, length, get_or, refl, sym, ap, ◌∙◌, subst, arith}
use Rattle.std.specs.Prelude.{◌==◌, slice_set}
use Rattle.std.proofs.lemmas.Bool.{cases_eq}
use Rattle.std.proofs.lemmas.List.{length-set, get_or-set_same, get_or-set_other}
use Rattle.decisions.specs.declared.placed.Ticks.{Ticks}
use Rattle.decisions.specs.declared.problem.Problem.{Problem}
use Rattle.decisions.specs.Decision.{Decision, work_at}
use Rattle.decisions.specs.Place.{ticks_on, is_free, first_free}
use Rattle.decisions.specs.IsProblem.{IsProblem}
use Rattle.reached.proofs.Good.{IsChoiceOf}
use Rattle.unit_ticks.specs.Busy.{Busy, put_ticks, drop_ticks, by_time}
use Rattle.unit_ticks.proofs.Times.{time_free, time_first, time_more, time_count, drop_put}
use Rattle.placement.specs.Held.{ticks_of, HasTicks}

more_by : (b : Bool) (t : Ticks) (xs ys zs : List Ticks) → xs ≡ ys ++ zs → (if b then t ∷ [] else []) ++ xs ≡ ((if b then t ∷ [] else []) ++ ys) ++ zs
more_by true t xs ys zs h = ap (λ ts. t ∷ ts) h
more_by false t xs ys zs h = h

one_by : (b : Bool) (t : Ticks) → (if b then t ∷ [] else []) ++ [] ≡ (if b then t ∷ [] else [])
one_by true t = refl
one_by false t = refl

-- the ticks on a unit, where one decision more is made
ticks_append : (l : List Decision) (d : Decision) (unit : ℕ) → ticks_on (l ++ d ∷ []) unit ≡ ticks_on l unit ++ (if d.unit == unit then ticks_of d ∷ [] else [])
ticks_append [] d unit = one_by (d.unit == unit) (ticks_of d)
ticks_append (x ∷ l) d unit = more_by (x.unit == unit) (ticks_of x) (ticks_on (l ++ d ∷ []) unit) (ticks_on l unit) (if d.unit == unit then ticks_of d ∷ [] else []) (ticks_append l d unit)

same_test : (n : ℕ) → (n == n) ≡ true
same_test n = grind arith

other_test : (a b : ℕ) → (a ≡ b → ⊥) → (a == b) ≡ false
other_test a b h = grind arith

and_none : (ts : List Ticks) → ts ++ [] ≡ ts
and_none [] = refl
and_none (t ∷ ts) = ap (λ xs. t ∷ xs) (and_none ts)

ticks_here : (l : List Decision) (d : Decision) → ticks_on (l ++ d ∷ []) d.unit ≡ ticks_on l d.unit ++ ticks_of d ∷ []
ticks_here l d = let e = same_test d.unit in ticks_append l d d.unit ∙ ap (λ (b : Bool). ticks_on l d.unit ++ (if b then ticks_of d ∷ [] else [])) e

ticks_there : (l : List Decision) (d : Decision) (unit : ℕ) → (unit ≡ d.unit → ⊥) → ticks_on (l ++ d ∷ []) unit ≡ ticks_on l unit
ticks_there l d unit ne =
    let e : (d.unit == unit) ≡ false = other_test d.unit unit (λ s. ne (sym s)) in
    ticks_append l d unit ∙ (ap (λ (b : Bool). ticks_on l unit ++ (if b then ticks_of d ∷ [] else [])) e ∙ and_none (ticks_on l unit))

-- one row is another's
row_other : (pr : Problem) (l m : List Decision) (b n : Busy) (unit : ℕ) (ts : List Ticks) → HasTicks pr l b → unit < pr.round.units → n.room ≡ b.room → n.rows ≡ slice_set b.rows unit ts → ts ≡ by_time (ticks_on m unit)
    → ((u : ℕ) → (u ≡ unit → ⊥) → ticks_on m u ≡ ticks_on l u) → HasTicks pr m n
row_other pr l m b n unit ts h low room rows here other = record {
  room = room ∙ h.room;
  units = ap length rows ∙ (length-set b.rows unit ts ∙ h.units);
  each = λ u less. elim (cases_eq u unit) [
    | inl s ↦ subst (λ x. get_or n.rows x [] ≡ by_time (ticks_on m x)) (sym s) (ap (λ r. get_or r unit []) rows ∙ (get_or-set_same b.rows unit ts [] (omega (arith, h.units)) ∙ here))
    | inr ne ↦ ap (λ r. get_or r u []) rows ∙ (get_or-set_other b.rows unit u ts [] ne ∙ (h.each u less ∙ ap by_time (sym (other u ne))))
  ];
}

pub ticks_more : (pr : Problem) (l : List Decision) (d : Decision) (b n : Busy) (unit : ℕ) (t : Ticks) → HasTicks pr l b → d.unit < pr.round.units → unit ≡ d.unit → t ≡ ticks_of d → n.room ≡ b.room → n.rows ≡ slice_set b.rows unit (put_ticks t (get_or b.rows unit [])) → HasTicks pr (l ++ d ∷ []) n
ticks_more pr l d b n unit t h low u e room rows =
    let here : put_ticks t (get_or b.rows unit []) ≡ by_time (ticks_on (l ++ d ∷ []) unit) =
    ap (put_ticks t) (h.each unit (omega arith)) ∙ (sym (time_more (ticks_on l unit) t [])
    ∙ ap by_time (ap (λ x. ticks_on l unit ++ x ∷ []) e ∙ subst (λ x. ticks_on l x ++ ticks_of d ∷ [] ≡ ticks_on (l ++ d ∷ []) x) (sym u) (sym (ticks_here l d)))) in
    row_other pr l (l ++ d ∷ []) b n unit (put_ticks t (get_or b.rows unit [])) h (omega arith) room rows here (λ k ne. ticks_there l d k (λ s. ne (s ∙ sym u)))

pub ticks_less : (pr : Problem) (l : List Decision) (d : Decision) (b n : Busy) (unit start : ℕ) → HasTicks pr (l ++ d ∷ []) b → d.unit < pr.round.units → unit ≡ d.unit → start ≡ d.start → n.room ≡ b.room → n.rows ≡ slice_set b.rows unit (drop_ticks start (get_or b.rows unit [])) → HasTicks pr l n
ticks_less pr l d b n unit start h low u s room rows =
    let full : get_or b.rows unit [] ≡ put_ticks (ticks_of d) (by_time (ticks_on l unit)) =
    h.each unit (omega arith) ∙ (ap by_time (subst (λ x. ticks_on (l ++ d ∷ []) x ≡ ticks_on l x ++ ticks_of d ∷ []) (sym u) (ticks_here l d)) ∙ time_more (ticks_on l unit) (ticks_of d) []) in
    let here : drop_ticks start (get_or b.rows unit []) ≡ by_time (ticks_on l unit) =
    ap (drop_ticks start) full ∙ (ap (λ k. drop_ticks k (put_ticks (ticks_of d) (by_time (ticks_on l unit)))) s ∙ drop_put (ticks_of d) (by_time (ticks_on l unit))) in
    row_other pr (l ++ d ∷ []) l b n unit (drop_ticks start (get_or b.rows unit [])) h (omega arith) room rows here (λ k ne. sym (ticks_there l d k (λ e. ne (e ∙ sym u))))

-- no ticks yet
pub ticks_none : (pr : Problem) (b : Busy) → b.room ≡ length pr.works → length b.rows ≡ pr.round.units → ((unit : ℕ) → get_or b.rows unit [] ≡ []) → HasTicks pr [] b
ticks_none pr b room units none = record { room = room; units = units; each = λ unit low. none unit }

few_by : (b : Bool) (t : Ticks) (ts : List Ticks) (n : ℕ) → length ts ≤ n → length ((if b then t ∷ [] else []) ++ ts) ≤ suc n
few_by true t ts n h = omega arith
few_by false t ts n h = omega arith

ticks_few : (l : List Decision) (unit : ℕ) → length (ticks_on l unit) ≤ length l
ticks_few [] unit = omega arith
ticks_few (d ∷ l) unit = few_by (d.unit == unit) (ticks_of d) (ticks_on l unit) (length l) (ticks_few l unit)

-- the ticks of a choice are free, and there is room for them
pub record AreOpen (pr : Problem) (l : List Decision) (b : Busy) (unit : ℕ) (t : Ticks) : Type 0 where
  pub is_unit : unit < length b.rows
  pub room : length (get_or b.rows unit []) < b.room
  pub some : t.start < t.end
  pub free : is_free (get_or b.rows unit []) t.start (t.end - t.start) ≡ true

pub open_ticks : (pr : Problem) (l : List Decision) (d : Decision) (b : Busy) (unit : ℕ) (t : Ticks) → IsProblem pr → HasTicks pr l b → IsChoiceOf pr l d → length l < length pr.works → unit ≡ d.unit → t ≡ ticks_of d → AreOpen pr l b unit t
open_ticks pr l d b unit t p h c few u e =
    let n = (work_at pr d.job).length in
    let start : t.start ≡ d.start = ap (λ (x : Ticks). x.start) e in
    let end : t.end ≡ d.end = ap (λ (x : Ticks). x.end) e in
    let span : t.end - t.start ≡ n = omega (arith, c.decided.span) in
    let held : get_or b.rows unit [] ≡ by_time (ticks_on l unit) = h.each unit (omega (arith, c.is_unit)) in
    let count : length (get_or b.rows unit []) ≡ length (ticks_on l unit) = ap length held ∙ time_count (ticks_on l unit) in
    let free : is_free (ticks_on l unit) d.start n ≡ true = subst (λ x. is_free (ticks_on l x) d.start n ≡ true) (sym u) c.decided.free in
    record {
      is_unit = omega (arith, h.units, c.is_unit);
      room = omega (arith, count, ticks_few l unit, h.room);
      some = omega (arith, c.decided.span, (p.works d.job c.is_job).ticks);
      free = ap (λ ts. is_free ts t.start (t.end - t.start)) held ∙ (ap (λ s. is_free (by_time (ticks_on l unit)) s (t.end - t.start)) start ∙ (ap (λ k. is_free (by_time (ticks_on l unit)) d.start k) span ∙ (time_free (ticks_on l unit) d.start n ∙ free)));
    }

-- the first free ticks are those that the decisions leave
pub first_on : (pr : Problem) (l : List Decision) (b : Busy) (unit n s m : ℕ) → HasTicks pr l b → unit < pr.round.units → first_free (get_or b.rows unit []) n s m ≡ first_free (ticks_on l unit) n s m
first_on pr l b unit n s m h low = ap (λ ts. first_free ts n s m) (h.each unit low) ∙ time_first (ticks_on l unit) n s m
