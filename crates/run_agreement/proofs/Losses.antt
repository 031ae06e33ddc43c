-- The units that a text calls lost are lost.
use Rattle.std.proofs.Common.{◌≡◌, ℕ, zero, suc, ◌+◌, ◌<◌, ◌≤◌, inl, inr, List, [], ◌∷◌, Bool, true, false, ◌&&◌, ◌||◌, nat_eq, nat_lt, nat_le, refl, sym, ◌∙◌, ap, arith}
use Rattle.std.specs.List.{range_with_len, list_any}
use Rattle.std.proofs.lemmas.Bool.{cases_Bool, cases_eq, and_parts, and_from, and_cases, or_cases, or_parts, or_left, or_right, true≢false, eqb-true, eqb-false, ltb-true, ltb-false, leb-true, leb-false}
use Rattle.std.proofs.lemmas.List.Elements.{All-cons, All-nil, All-head, All-tail}
use Rattle.mars_base.specs.declared.shape.Side.{Side}
use Rattle.mars_base.specs.declared.shape.Side.TheVariants.{A, B}
use Rattle.script.specs.Running.{IsBefore, LeavesRunning, IsRunning}
use Rattle.script.specs.declared.script.Silence.{Silence}
use Rattle.cluster_model.specs.Silences.{same_side, names, falls}
use Rattle.run_agreement.specs.Agreement.{LostUnits}

pub any_from : (f : ℕ → Bool) (a n j : ℕ) → a ≤ j → j < a + n → f j ≡ true → list_any f (range_with_len a n) ≡ true
any_from f a zero j low high e = absurd (omega (arith, low, high))
any_from f a (suc n) j low high e = elim (cases_eq a j) [
  | inl same ↦ or_left (f a) (list_any f (range_with_len (a + 1) n)) (ap f same ∙ e)
  | inr other ↦ or_right (f a) (list_any f (range_with_len (a + 1) n)) (any_from f (a + 1) n j (omega (arith, low, other)) (omega (arith, high)) e)
]

any_at : (f : ℕ → Bool) (a n : ℕ) → list_any f (range_with_len a n) ≡ true → (j : ℕ) × (a ≤ j) × (j < a + n) × (f j ≡ true)
any_at f a zero e = absurd (true≢false (sym e))
any_at f a (suc n) e = elim (or_cases (f a) (list_any f (range_with_len (a + 1) n)) e) [
  | inl t ↦ (a, omega arith, omega arith, t)
  | inr r ↦ (let w = any_at f (a + 1) n r in (w.0, omega (arith, w.1), omega (arith, w.2), w.3))
]

own_side : (x : Side) → same_side x x ≡ true
own_side A = refl
own_side B = refl

one_side : (x y : Side) → same_side x y ≡ true → x ≡ y
one_side A A e = refl
one_side A B e = absurd (true≢false (sym e))
one_side B A e = absurd (true≢false (sym e))
one_side B B e = refl

module _ (u : ℕ) (x : Side) (c t : ℕ) where
  abbrev whose : Silence → Bool
  whose s = nat_eq s.unit u && same_side s.side x

  abbrev came : Silence → Bool
  came s = nat_lt s.cycle c || (nat_eq s.cycle c && nat_le s.tick t)

  before_it : (s : Silence) → came s ≡ false → IsBefore c t s.cycle s.tick
  before_it s e =
      let w = or_parts (nat_lt s.cycle c) (nat_eq s.cycle c && nat_le s.tick t) e in
      let late : c ≤ s.cycle = ltb-false s.cycle c w.0 in
      elim (and_cases (nat_eq s.cycle c) (nat_le s.tick t) w.1) [
        | inl n ↦ inl (omega (arith, late, eqb-false s.cycle c n))
        | inr n ↦ elim (cases_eq c s.cycle) [ inl same ↦ inr (same, leb-false s.tick t n) | inr other ↦ inl (omega (arith, late, other)) ]
      ]

  leaves_unless : (s : Silence) → names u x c t s ≡ false → LeavesRunning s u x c t
  leaves_unless s e = elim (and_cases (whose s) (came s) e) [
    | inl n ↦ elim (and_cases (nat_eq s.unit u) (same_side s.side x) n) [
      | inl m ↦ inl (eqb-false s.unit u m)
      | inr m ↦ inr (inl (λ same. true≢false (sym (ap (λ y. same_side y x) same ∙ own_side x) ∙ m)))
    ]
    | inr n ↦ inr (inr (before_it s n))
  ]

  runs_unless : (silences : List Silence) → falls silences u x c t ≡ false → IsRunning silences u x c t
  runs_unless [] e = All-nil (λ s. LeavesRunning s u x c t)
  runs_unless (s ∷ silences) e =
      let w = or_parts (names u x c t s) (falls silences u x c t) e in
      All-cons (λ s. LeavesRunning s u x c t) s silences (leaves_unless s w.0) (runs_unless silences w.1)

  not_before : (s : Silence) → came s ≡ true → IsBefore c t s.cycle s.tick → ⊥
  not_before s e b = elim (or_cases (nat_lt s.cycle c) (nat_eq s.cycle c && nat_le s.tick t) e) [
    | inl l ↦ (let z : s.cycle < c = ltb-true s.cycle c l in elim b [ inl q ↦ omega (arith, z, q) | inr q ↦ omega (arith, z, q.0) ])
    | inr l ↦
        let w = and_parts (nat_eq s.cycle c) (nat_le s.tick t) l in
        let same : s.cycle ≡ c = eqb-true s.cycle c w.0 in
        let z : s.tick ≤ t = leb-true s.tick t w.1 in
        elim b [ inl q ↦ omega (arith, same, q) | inr q ↦ omega (arith, z, q.1) ]
  ]

  names_ends : (s : Silence) → names u x c t s ≡ true → LeavesRunning s u x c t → ⊥
  names_ends s e leaves =
      let w = and_parts (whose s) (came s) e in
      let v = and_parts (nat_eq s.unit u) (same_side s.side x) w.0 in
      elim leaves [
        | inl a ↦ a (eqb-true s.unit u v.0)
        | inr b ↦ elim b [ inl q ↦ q (one_side s.side x v.1) | inr q ↦ not_before s w.1 q ]
      ]

  falls_ends : (silences : List Silence) → falls silences u x c t ≡ true → IsRunning silences u x c t → ⊥
  falls_ends [] e runs = true≢false (sym e)
  falls_ends (s ∷ silences) e runs = elim (or_cases (names u x c t s) (falls silences u x c t) e) [
    | inl a ↦ names_ends s a (All-head (λ s. LeavesRunning s u x c t) s silences runs)
    | inr b ↦ falls_ends silences b (All-tail (λ s. LeavesRunning s u x c t) s silences runs)
  ]

  falls_unless : (silences : List Silence) → (IsRunning silences u x c t → ⊥) → falls silences u x c t ≡ true
  falls_unless silences n = elim (cases_Bool (falls silences u x c t)) [ inl e ↦ e | inr e ↦ absurd (n (runs_unless silences e)) ]

pub lost_units : LostUnits
lost_units s cycle unit = (
  λ e.
      let w = any_at (λ tick. falls s.silences unit A cycle tick && falls s.silences unit B cycle tick) 0 s.graph.cycle e in
      let v = and_parts (falls s.silences unit A cycle w.0) (falls s.silences unit B cycle w.0) w.3 in
      record { tick = w.0; within = omega (arith, w.2); a = falls_ends unit A cycle w.0 s.silences v.0; b = falls_ends unit B cycle w.0 s.silences v.1 },
  λ h. any_from (λ tick. falls s.silences unit A cycle tick && falls s.silences unit B cycle tick) 0 s.graph.cycle h.tick (omega arith) (omega (arith, h.within))
      (and_from (falls s.silences unit A cycle h.tick) (falls s.silences unit B cycle h.tick) (falls_unless unit A cycle h.tick s.silences h.a) (falls_unless unit B cycle h.tick s.silences h.b)),
)
