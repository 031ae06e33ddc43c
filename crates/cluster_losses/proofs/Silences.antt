-- A silence names a moment for a replica exactly where it doesn't leave it running there.
use Rattle.std.proofs.Common.{◌≡◌, ℕ, ◌-◌, ◌<◌, inl, inr, List, [], ◌∷◌, Bool, true, false, ◌&&◌, ◌||◌, nat_eq, nat_lt, nat_le, refl, sym, ◌∙◌, arith}
use Rattle.std.proofs.lemmas.Bool.{cases_lt, cases_Bool, and_parts, and_from, or_cases, or_left, or_right, eqb-true, ltb-true, leb-true, eq-eqb, lt-ltb, le-leb, true≢false}
use Rattle.std.proofs.lemmas.List.Elements.{All-head, All-tail, All-cons, All-nil}
use Rattle.mars_base.specs.declared.shape.Side.{Side}
use Rattle.mars_base.specs.declared.shape.Side.TheVariants.{A, B}
use Rattle.script.specs.Running.{IsBefore, LeavesRunning, IsRunning, IsLost}
use Rattle.script.specs.declared.script.Silence.{Silence}
use Rattle.script.proofs.Shrinks.{lost_at, lost_a, lost_b}
use Rattle.cluster_model.specs.Silences.{same_side, names, falls}

one_side : (x y : Side) → same_side x y ≡ true → x ≡ y
one_side A A e = refl
one_side A B e = absurd (true≢false (sym e))
one_side B A e = absurd (true≢false (sym e))
one_side B B e = refl

other_side : (x y : Side) → same_side x y ≡ false → x ≡ y → ⊥
other_side A A e is = true≢false e
other_side A B e is = cc
other_side B A e is = cc
other_side B B e is = true≢false e

-- the silence is at the moment or before it
abbrev at_moment : Silence → (cycle tick : ℕ) → Bool
at_moment s cycle tick = nat_lt s.cycle cycle || (nat_eq s.cycle cycle && nat_le s.tick tick)

moment_before : (s : Silence) (cycle tick : ℕ) → at_moment s cycle tick ≡ false → IsBefore cycle tick s.cycle s.tick
moment_before s cycle tick e = elim (cases_lt cycle s.cycle) [
  | inl a ↦ inl a
  | inr a ↦ elim (cases_lt s.cycle cycle) [
    | inl b ↦ absurd (true≢false (sym (or_left (nat_lt s.cycle cycle) (nat_eq s.cycle cycle && nat_le s.tick tick) (lt-ltb s.cycle cycle b)) ∙ e))
    | inr b ↦ let same : s.cycle ≡ cycle = omega (arith, a, b) in elim (cases_lt tick s.tick) [
      | inl c ↦ inr (sym same, c)
      | inr c ↦ absurd (true≢false (sym (or_right (nat_lt s.cycle cycle) (nat_eq s.cycle cycle && nat_le s.tick tick) (and_from (nat_eq s.cycle cycle) (nat_le s.tick tick) (eq-eqb s.cycle cycle same) (le-leb s.tick tick c))) ∙ e))
    ]
  ]
]

moment_reached : (s : Silence) (cycle tick : ℕ) → at_moment s cycle tick ≡ true → IsBefore cycle tick s.cycle s.tick → ⊥
moment_reached s cycle tick e before = elim (or_cases (nat_lt s.cycle cycle) (nat_eq s.cycle cycle && nat_le s.tick tick) e) [
  | inl a ↦ let lt = ltb-true s.cycle cycle a in elim before [ inl b ↦ omega (arith, lt, b) | inr b ↦ omega (arith, lt, b.0) ]
  | inr a ↦
      let w = and_parts (nat_eq s.cycle cycle) (nat_le s.tick tick) a in
      let same = eqb-true s.cycle cycle w.0 in
      let le = leb-true s.tick tick w.1 in
      elim before [ inl b ↦ omega (arith, same, b) | inr b ↦ omega (arith, le, b.1) ]
]

module _ (u : ℕ) (x : Side) (cycle tick : ℕ) where
  leaves : (s : Silence) → names u x cycle tick s ≡ false → LeavesRunning s u x cycle tick
  leaves s e = elim (cases_Bool (nat_eq s.unit u)) [
    | inr a ↦ inl (λ is. true≢false (sym (eq-eqb s.unit u is) ∙ a))
    | inl a ↦ elim (cases_Bool (same_side s.side x)) [
      | inr b ↦ inr (inl (other_side s.side x b))
      | inl b ↦ inr (inr (moment_before s cycle tick (elim (cases_Bool (at_moment s cycle tick)) [
        | inr c ↦ c
        | inl c ↦ absurd (true≢false (sym (and_from (nat_eq s.unit u && same_side s.side x) (at_moment s cycle tick) (and_from (nat_eq s.unit u) (same_side s.side x) a b) c) ∙ e))
      ])))
    ]
  ]

  ends : (s : Silence) → names u x cycle tick s ≡ true → LeavesRunning s u x cycle tick → ⊥
  ends s e leaving =
      let w = and_parts (nat_eq s.unit u && same_side s.side x) (at_moment s cycle tick) e in
      let v = and_parts (nat_eq s.unit u) (same_side s.side x) w.0 in
      elim leaving [
        | inl a ↦ a (eqb-true s.unit u v.0)
        | inr b ↦ elim b [ inl c ↦ c (one_side s.side x v.1) | inr c ↦ moment_reached s cycle tick w.1 c ]
      ]

  -- a replica that falls doesn't run
  falls_ends : (silences : List Silence) → falls silences u x cycle tick ≡ true → IsRunning silences u x cycle tick → ⊥
  falls_ends [] e runs = true≢false (sym e)
  falls_ends (s ∷ silences) e runs = elim (or_cases (names u x cycle tick s) (falls silences u x cycle tick) e) [
    | inl a ↦ ends s a (All-head (λ s. LeavesRunning s u x cycle tick) s silences runs)
    | inr b ↦ falls_ends silences b (All-tail (λ s. LeavesRunning s u x cycle tick) s silences runs)
  ]

  or_false : (a b : Bool) → (a || b) ≡ false → (a ≡ false) × (b ≡ false)
  or_false true b e = absurd (true≢false e)
  or_false false b e = (refl, e)

  -- one that doesn't fall runs
  pub still_runs : (silences : List Silence) → falls silences u x cycle tick ≡ false → IsRunning silences u x cycle tick
  still_runs [] e = All-nil (λ s. LeavesRunning s u x cycle tick)
  still_runs (s ∷ silences) e =
      let w = or_false (names u x cycle tick s) (falls silences u x cycle tick) e in
      All-cons (λ s. LeavesRunning s u x cycle tick) s silences (leaves s w.0) (still_runs silences w.1)

  pub falls_not : (silences : List Silence) → IsRunning silences u x cycle tick → falls silences u x cycle tick ≡ false
  falls_not silences runs = elim (cases_Bool (falls silences u x cycle tick)) [
    | inl a ↦ absurd (falls_ends silences a runs)
    | inr a ↦ a
  ]

  pub must_fall : (silences : List Silence) → (IsRunning silences u x cycle tick → ⊥) → falls silences u x cycle tick ≡ true
  must_fall silences ended = elim (cases_Bool (falls silences u x cycle tick)) [
    | inl a ↦ a
    | inr a ↦ absurd (ended (still_runs silences a))
  ]

pub falls_where : (silences : List Silence) (u : ℕ) (x : Side) (cycle tick : ℕ)
    → ((falls silences u x cycle tick ≡ false) → IsRunning silences u x cycle tick) × (IsRunning silences u x cycle tick → falls silences u x cycle tick ≡ false)
falls_where silences u x cycle tick = (still_runs u x cycle tick silences, falls_not u x cycle tick silences)

pub lost_where : (silences : List Silence) (ticks u cycle : ℕ) → 0 < ticks
    → (IsLost silences ticks u cycle → (falls silences u A cycle (ticks - 1) ≡ true) × (falls silences u B cycle (ticks - 1) ≡ true))
    × ((falls silences u A cycle (ticks - 1) ≡ true) × (falls silences u B cycle (ticks - 1) ≡ true) → IsLost silences ticks u cycle)
lost_where silences ticks u cycle some = (
  λ lost. (must_fall u A cycle (ticks - 1) silences (lost_a silences ticks u cycle (ticks - 1) refl lost), must_fall u B cycle (ticks - 1) silences (lost_b silences ticks u cycle (ticks - 1) refl lost)),
  λ both. lost_at silences ticks u cycle (ticks - 1) some refl (falls_ends u A cycle (ticks - 1) silences both.0) (falls_ends u B cycle (ticks - 1) silences both.1),
)
