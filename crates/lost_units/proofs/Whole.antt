-- A unit is lost exactly where its replicas are silent at the last tick.
use Rattle.std.proofs.Common.{◌≡◌, ℕ, zero, suc, ◌+◌, ◌-◌, ◌*◌, ◌<◌, ◌≤◌, inl, inr, List, [], ◌∷◌, ◌++◌, get_or, Option, None, Bool, true, false, cond, ◌&&◌, ◌||◌, nat_eq, nat_lt, nat_le, Some, refl, sym, ◌∙◌, ap, subst, arith}
use Rattle.std.specs.List.{range_with_len, list_any, flat_map}
use Rattle.std.proofs.lemmas.Bool.{cases_Bool, cases_eq, and_parts, and_from, and_cases, or_cases, or_parts, or_left, or_right, true≢false, eqb-true, eqb-false, eq-eqb, ltb-true, ltb-false, leb-true, leb-false}
use Rattle.mars_base.specs.declared.shape.Side.{Side}
use Rattle.mars_base.specs.declared.shape.Side.TheVariants.{A, B}
use Rattle.cluster_model.specs.Silences.{falls}
use Rattle.first_silence.specs.Moments.{is_reached, IsFirstSilence}
use Rattle.first_silence.specs.declared.moment.Moment.{Moment}
use Rattle.run_texts.specs.Lines.{lost_line}
use Rattle.run_texts.specs.Setting.{Setting, is_lost, some_lost}
use Rattle.lost_units.specs.Lost.{is_lost_by}
use Rattle.lost_units.specs.Laws.{AreFirsts, LossesAreText}

pub any_none : (f : ℕ → Bool) (a n : ℕ) → ((j : ℕ) → a ≤ j → j < a + n → f j ≡ false) → list_any f (range_with_len a n) ≡ false
any_none f a zero h = refl
any_none f a (suc n) h =
    ap (λ b. b || list_any f (range_with_len (a + 1) n)) (h a (omega arith) (omega arith))
    ∙ any_none f (a + 1) n (λ j low high. h j (omega (arith, low)) (omega (arith, high)))

pub any_one : (f : ℕ → Bool) (a n j : ℕ) → a ≤ j → j < a + n → f j ≡ true → list_any f (range_with_len a n) ≡ true
any_one f a zero j low high e = absurd (omega (arith, low, high))
any_one f a (suc n) j low high e = elim (cases_eq a j) [
  | inl same ↦ or_left (f a) (list_any f (range_with_len (a + 1) n)) (ap f same ∙ e)
  | inr other ↦ or_right (f a) (list_any f (range_with_len (a + 1) n)) (any_one f (a + 1) n j (omega (arith, low, other)) (omega (arith, high)) e)
]

any_same : (f h : ℕ → Bool) (a n : ℕ) → ((j : ℕ) → a ≤ j → j < a + n → f j ≡ h j) → list_any f (range_with_len a n) ≡ list_any h (range_with_len a n)
any_same f h a zero e = refl
any_same f h a (suc n) e =
    ap (λ b. b || list_any f (range_with_len (a + 1) n)) (e a (omega arith) (omega arith))
    ∙ ap (λ b. h a || b) (any_same f h (a + 1) n (λ j low high. e j (omega (arith, low)) (omega (arith, high))))

flat_same : (f h : ℕ → List ℕ) (a n : ℕ) → ((j : ℕ) → a ≤ j → j < a + n → f j ≡ h j) → flat_map f (range_with_len a n) ≡ flat_map h (range_with_len a n)
flat_same f h a zero e = refl
flat_same f h a (suc n) e =
    ap (λ x. x ++ flat_map f (range_with_len (a + 1) n)) (e a (omega arith) (omega arith))
    ∙ ap (λ x. h a ++ x) (flat_same f h (a + 1) n (λ j low high. e j (omega (arith, low)) (omega (arith, high))))

-- a moment that is reached stays so within the cycle
reached_later : (first : Option Moment) (cycle t u : ℕ) → t ≤ u → is_reached first cycle t ≡ true → is_reached first cycle u ≡ true
reached_later None cycle t u low e = absurd (true≢false (sym e))
reached_later (Some m) cycle t u low e = elim (or_cases (nat_lt m.cycle cycle) (nat_eq m.cycle cycle && nat_le m.tick t) e) [
  | inl before ↦ or_left (nat_lt m.cycle cycle) (nat_eq m.cycle cycle && nat_le m.tick u) before
  | inr same ↦
      let w = and_parts (nat_eq m.cycle cycle) (nat_le m.tick t) same in
      let at : m.tick ≤ t = leb-true m.tick t w.1 in
      or_right (nat_lt m.cycle cycle) (nat_eq m.cycle cycle && nat_le m.tick u)
      (and_from (nat_eq m.cycle cycle) (nat_le m.tick u) w.0
      (elim (cases_Bool (nat_le m.tick u)) [ inl y ↦ y | inr n ↦ absurd (let z : u < m.tick = leb-false m.tick u n in omega (arith, z, at, low)) ]))
]

module _ (s : Setting) (firsts : List (Option Moment)) (cycle : ℕ) (some : 0 < s.graph.cycle) (are : AreFirsts s.silences s.net.shape.units firsts) (unit : ℕ) (low : unit < s.net.shape.units) where
  abbrev last : ℕ
  last = s.graph.cycle - 1

  abbrev first_a : Option Moment
  first_a = get_or firsts (2 * unit) None

  abbrev first_b : Option Moment
  first_b = get_or firsts (2 * unit + 1) None

  at_a : IsFirstSilence s.silences unit A first_a
  at_a = subst (λ k. IsFirstSilence s.silences unit A (get_or firsts k None)) (let z : 2 * unit + 0 ≡ 2 * unit = omega arith in z) (are unit A low)

  at_b : IsFirstSilence s.silences unit B first_b
  at_b = are unit B low

  -- neither runs at a tick
  abbrev down : (tick : ℕ) → Bool
  down tick = falls s.silences unit A cycle tick && falls s.silences unit B cycle tick

  down_last : down last ≡ is_lost_by firsts s.graph.cycle cycle unit
  down_last = sym (ap (λ b. b && is_reached first_b cycle last) (at_a.falls_then cycle last) ∙ ap (λ b. falls s.silences unit A cycle last && b) (at_b.falls_then cycle last))

  down_later : (tick : ℕ) → tick < s.graph.cycle → down tick ≡ true → down last ≡ true
  down_later tick high e =
      let w = and_parts (falls s.silences unit A cycle tick) (falls s.silences unit B cycle tick) e in
      and_from (falls s.silences unit A cycle last) (falls s.silences unit B cycle last)
      (sym (at_a.falls_then cycle last) ∙ reached_later first_a cycle tick last (omega (arith, high)) (at_a.falls_then cycle tick ∙ w.0))
      (sym (at_b.falls_then cycle last) ∙ reached_later first_b cycle tick last (omega (arith, high)) (at_b.falls_then cycle tick ∙ w.1))

  one : is_lost_by firsts s.graph.cycle cycle unit ≡ is_lost s cycle unit
  one = sym down_last ∙ elim (cases_Bool (down last)) [
    | inl y ↦ y ∙ sym (any_one down 0 s.graph.cycle last (omega arith) (omega (arith, some)) y)
    | inr n ↦ n ∙ sym (any_none down 0 s.graph.cycle
        (λ tick a high. elim (cases_Bool (down tick)) [ inr w ↦ w | inl all ↦ absurd (true≢false (sym (down_later tick (omega (arith, high)) all) ∙ n)) ]))
  ]

pub losses_are_text : LossesAreText
losses_are_text s firsts cycle some are = record {
  one = λ unit low. one s firsts cycle some are unit low;
  some = any_same (is_lost_by firsts s.graph.cycle cycle) (is_lost s cycle) 0 s.net.shape.units (λ unit a high. one s firsts cycle some are unit (omega (arith, high)));
  text = flat_same (λ unit. cond (is_lost_by firsts s.graph.cycle cycle unit) (lost_line cycle unit) []) (λ unit. cond (is_lost s cycle unit) (lost_line cycle unit) []) 0 s.net.shape.units
      (λ unit a high. ap (λ b. cond b (lost_line cycle unit) []) (one s firsts cycle some are unit (omega (arith, high))));
}
