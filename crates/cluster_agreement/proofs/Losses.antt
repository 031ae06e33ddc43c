-- What a script's silences say of a cycle: a replica that falls stays silent, and a unit that isn't lost has a replica that runs.
use Rattle.std.proofs.Common.{◌≡◌, ℕ, suc, ◌-◌, ◌<◌, ◌≤◌, ◌⊎◌, inl, inr, List, [], ◌∷◌, true, false, ◌&&◌, ◌||◌, nat_eq, nat_lt, nat_le, refl, sym, ◌∙◌, arith}
use Rattle.std.proofs.lemmas.Bool.{cases_lt, cases_Bool, and_parts, and_from, or_cases, or_left, or_right, eqb-true, ltb-true, leb-true, eq-eqb, lt-ltb, le-leb, true≢false}
use Rattle.std.proofs.lemmas.List.Elements.{All-head, All-tail}
use Rattle.mars_base.specs.declared.shape.Side.{Side}
use Rattle.mars_base.specs.declared.shape.Side.TheVariants.{A, B}
use Rattle.script.specs.Running.{LeavesRunning, IsRunning, IsLost}
use Rattle.script.specs.declared.script.Silence.{Silence}
use Rattle.cluster_model.specs.Silences.{same_side, names, falls}

one_side : (x y : Side) → same_side x y ≡ true → x ≡ y
one_side A A e = refl
one_side A B e = absurd (true≢false (sym e))
one_side B A e = absurd (true≢false (sym e))
one_side B B e = refl

-- the moment of a silence
at_or_before : (s : Silence) (cycle tick : ℕ) → (nat_lt s.cycle cycle || (nat_eq s.cycle cycle && nat_le s.tick tick)) ≡ true → (s.cycle < cycle) ⊎ ((s.cycle ≡ cycle) × (s.tick ≤ tick))
at_or_before s cycle tick e = elim (or_cases (nat_lt s.cycle cycle) (nat_eq s.cycle cycle && nat_le s.tick tick) e) [
  | inl a ↦ inl (ltb-true s.cycle cycle a)
  | inr b ↦ let w = and_parts (nat_eq s.cycle cycle) (nat_le s.tick tick) b in inr (eqb-true s.cycle cycle w.0, leb-true s.tick tick w.1)
]

reaches : (s : Silence) (cycle tick : ℕ) → (s.cycle < cycle) ⊎ ((s.cycle ≡ cycle) × (s.tick ≤ tick)) → (nat_lt s.cycle cycle || (nat_eq s.cycle cycle && nat_le s.tick tick)) ≡ true
reaches s cycle tick (inl a) = or_left (nat_lt s.cycle cycle) (nat_eq s.cycle cycle && nat_le s.tick tick) (lt-ltb s.cycle cycle a)
reaches s cycle tick (inr b) = or_right (nat_lt s.cycle cycle) (nat_eq s.cycle cycle && nat_le s.tick tick) (and_from (nat_eq s.cycle cycle) (nat_le s.tick tick) (eq-eqb s.cycle cycle b.0) (le-leb s.tick tick b.1))

module _ (u : ℕ) (x : Side) where
  -- a silence that names a moment names each later one
  later_names : (cycle tick cycle' tick' : ℕ) → (cycle < cycle') ⊎ ((cycle ≡ cycle') × (tick ≤ tick')) → (s : Silence) → names u x cycle tick s ≡ true → names u x cycle' tick' s ≡ true
  later_names cycle tick cycle' tick' later s e =
      let w = and_parts (nat_eq s.unit u && same_side s.side x) (nat_lt s.cycle cycle || (nat_eq s.cycle cycle && nat_le s.tick tick)) e in
      and_from (nat_eq s.unit u && same_side s.side x) (nat_lt s.cycle cycle' || (nat_eq s.cycle cycle' && nat_le s.tick tick')) w.0
      (reaches s cycle' tick' (elim (at_or_before s cycle tick w.1) [
        | inl a ↦ elim later [ inl c ↦ inl (omega (arith, a, c)) | inr c ↦ inl (omega (arith, a, c.0)) ]
        | inr b ↦ elim later [ inl c ↦ inl (omega (arith, b.0, c)) | inr c ↦ inr (b.0 ∙ c.0, omega (arith, b.1, c.1)) ]
      ]))

  later_falls : (cycle tick cycle' tick' : ℕ) → (cycle < cycle') ⊎ ((cycle ≡ cycle') × (tick ≤ tick')) → (silences : List Silence) → falls silences u x cycle tick ≡ true → falls silences u x cycle' tick' ≡ true
  later_falls cycle tick cycle' tick' later [] e = e
  later_falls cycle tick cycle' tick' later (s ∷ silences) e = elim (or_cases (names u x cycle tick s) (falls silences u x cycle tick) e) [
    | inl a ↦ or_left (names u x cycle' tick' s) (falls silences u x cycle' tick') (later_names cycle tick cycle' tick' later s a)
    | inr b ↦ or_right (names u x cycle' tick' s) (falls silences u x cycle' tick') (later_falls cycle tick cycle' tick' later silences b)
  ]

  -- a silence stays
  pub stays_silent : (silences : List Silence) (cycle tick : ℕ) → falls silences u x cycle tick ≡ true → falls silences u x (suc cycle) 0 ≡ true
  stays_silent silences cycle tick e = later_falls cycle tick (suc cycle) 0 (inl (omega arith)) silences e

  names_ends : (cycle tick : ℕ) (s : Silence) → names u x cycle tick s ≡ true → LeavesRunning s u x cycle tick → ⊥
  names_ends cycle tick s e leaves =
      let w = and_parts (nat_eq s.unit u && same_side s.side x) (nat_lt s.cycle cycle || (nat_eq s.cycle cycle && nat_le s.tick tick)) e in
      let v = and_parts (nat_eq s.unit u) (same_side s.side x) w.0 in
      elim leaves [
        | inl a ↦ a (eqb-true s.unit u v.0)
        | inr b ↦ elim b [
          | inl c ↦ c (one_side s.side x v.1)
          | inr c ↦ elim (at_or_before s cycle tick w.1) [
            | inl f ↦ elim c [ inl g ↦ omega (arith, f, g) | inr g ↦ omega (arith, f, g.0) ]
            | inr f ↦ elim c [ inl g ↦ omega (arith, f.0, g) | inr g ↦ omega (arith, f.1, g.1) ]
          ]
        ]
      ]

  -- a replica that falls doesn't run
  falls_ends : (silences : List Silence) (cycle tick : ℕ) → falls silences u x cycle tick ≡ true → IsRunning silences u x cycle tick → ⊥
  falls_ends [] cycle tick e runs = true≢false (sym e)
  falls_ends (s ∷ silences) cycle tick e runs = elim (or_cases (names u x cycle tick s) (falls silences u x cycle tick) e) [
    | inl a ↦ names_ends cycle tick s a (All-head (λ s. LeavesRunning s u x cycle tick) s silences runs)
    | inr b ↦ falls_ends silences cycle tick b (All-tail (λ s. LeavesRunning s u x cycle tick) s silences runs)
  ]

  -- one that doesn't fall at the last tick falls at none
  never_falls : (silences : List Silence) (cycle ticks : ℕ) → falls silences u x cycle (ticks - 1) ≡ false → (t : ℕ) → t < ticks → falls silences u x cycle t ≡ false
  never_falls silences cycle ticks e t low = elim (cases_Bool (falls silences u x cycle t)) [
    | inl f ↦ absurd (true≢false (sym (later_falls cycle t cycle (ticks - 1) (inr (refl, omega (arith, low))) silences f) ∙ e))
    | inr f ↦ f
  ]

-- a unit that isn't lost in a cycle has a replica that falls at no tick of it
pub one_runs : (silences : List Silence) (ticks cycle u : ℕ) → (IsLost silences ticks u cycle → ⊥) → (x : Side) × ((t : ℕ) → t < ticks → falls silences u x cycle t ≡ false)
one_runs silences ticks cycle u kept = elim (cases_lt 0 ticks) [
  | inr none ↦ (A, λ t low. absurd (omega (arith, low, none)))
  | inl some ↦ elim (cases_Bool (falls silences u A cycle (ticks - 1))) [
    | inr a ↦ (A, never_falls u A silences cycle ticks a)
    | inl a ↦ elim (cases_Bool (falls silences u B cycle (ticks - 1))) [
      | inr b ↦ (B, never_falls u B silences cycle ticks b)
      | inl b ↦ absurd (kept (record { tick = ticks - 1; within = omega (arith, some); a = falls_ends u A silences cycle (ticks - 1) a; b = falls_ends u B silences cycle (ticks - 1) b }))
    ]
  ]
]
