-- A replica falls silent from the soonest of its silences on.
use Rattle.std.proofs.Common.{◌≡◌, ℕ, ◌+◌, Bool, true, false, ◌&&◌, ◌||◌, nat_eq, nat_lt, nat_le, List, [], ◌∷◌, ◌++◌, Option, Some, None, refl, sym, ap, ◌∙◌, arith, cond}
use Rattle.std.proofs.lemmas.Bool.Decides.{nat_tests}
use Rattle.mars_base.specs.declared.shape.Side.{Side}
use Rattle.script.specs.declared.script.Silence.{Silence}
use Rattle.cluster_model.specs.Silences.{same_side, names, falls}
use Rattle.first_silence.specs.Moments.{is_reached, is_sooner, sooner, own, IsFirstSilence}
use Rattle.first_silence.specs.declared.moment.Moment.{Moment}

or_none : (a : Bool) → a ≡ (a || false)
or_none true = refl
or_none false = refl

two_reached : (m n : Moment) (cycle tick : ℕ) → is_reached (sooner (Some m) (Some n)) cycle tick ≡ (is_reached (Some m) cycle tick || is_reached (Some n) cycle tick)
two_reached m n cycle tick = by (is_sooner n m) refl
  where
    by : (b : Bool) → is_sooner n m ≡ b → is_reached (cond b (Some n) (Some m)) cycle tick ≡ (is_reached (Some m) cycle tick || is_reached (Some n) cycle tick)
    by true is = grind (arith, nat_tests)
    by false is = grind (arith, nat_tests)

-- the sooner of two is reached where one of them is
sooner_reached : (a b : Option Moment) (cycle tick : ℕ) → is_reached (sooner a b) cycle tick ≡ (is_reached a cycle tick || is_reached b cycle tick)
sooner_reached None b cycle tick = refl
sooner_reached (Some m) None cycle tick = or_none (is_reached (Some m) cycle tick)
sooner_reached (Some m) (Some n) cycle tick = two_reached m n cycle tick

-- the moment of a silence is reached where that names the replica
own_reached : (u : ℕ) (x : Side) (s : Silence) (cycle tick : ℕ) → is_reached (own u x s) cycle tick ≡ names u x cycle tick s
own_reached u x s cycle tick = by (nat_eq s.unit u && same_side s.side x)
  where
    by : (b : Bool) → is_reached (cond b (Some (record { cycle = s.cycle; tick = s.tick })) None) cycle tick ≡ (b && (nat_lt s.cycle cycle || (nat_eq s.cycle cycle && nat_le s.tick tick)))
    by true = refl
    by false = refl

or_assoc : (a b c : Bool) → ((a || b) || c) ≡ (a || (b || c))
or_assoc true b c = refl
or_assoc false b c = refl

falls_more : (u : ℕ) (x : Side) (cycle tick : ℕ) (silences : List Silence) (s : Silence) → falls (silences ++ s ∷ []) u x cycle tick ≡ (falls silences u x cycle tick || names u x cycle tick s)
falls_more u x cycle tick [] s = sym (or_none (names u x cycle tick s))
falls_more u x cycle tick (t ∷ silences) s =
    ap (λ (b : Bool). names u x cycle tick t || b) (falls_more u x cycle tick silences s)
    ∙ sym (or_assoc (names u x cycle tick t) (falls silences u x cycle tick) (names u x cycle tick s))

-- one silence more
pub first_more : (silences front : List Silence) (s : Silence) (u : ℕ) (x : Side) (first new : Option Moment) → IsFirstSilence front u x first → new ≡ sooner first (own u x s) → silences ≡ front ++ s ∷ []
    → IsFirstSilence silences u x new
first_more silences front s u x first new before is all = record {
  falls_then = λ cycle tick.
      ap (λ (m : Option Moment). is_reached m cycle tick) is
      ∙ sooner_reached first (own u x s) cycle tick
      ∙ ap (λ (b : Bool). b || is_reached (own u x s) cycle tick) (before.falls_then cycle tick)
      ∙ ap (λ (b : Bool). falls front u x cycle tick || b) (own_reached u x s cycle tick)
      ∙ sym (falls_more u x cycle tick front s)
      ∙ ap (λ (l : List Silence). falls l u x cycle tick) (sym all);
}
