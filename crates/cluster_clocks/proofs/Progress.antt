-- The replica with the least clock may act until the cycle is over.
use Rattle.std.proofs.Common.{◌≡◌, ℕ, zero, suc, ◌+◌, ◌<◌, ◌≤◌, ◌⊎◌, inl, inr, List, [], ◌∷◌, length, get_or, Bool, true, false, refl, sym, ◌∙◌, ap, subst, arith}
use Rattle.std.specs.Prelude.{All, Any}
use Rattle.std.proofs.lemmas.Bool.{cases_Bool, cases_lt, cases_eq, true≢false}
use Rattle.std.proofs.lemmas.List.Elements.{All-get_or, All-from_get_or}
use Rattle.std.proofs.lemmas.List.{get_or_default}
use Rattle.cluster_clocks.specs.Clocks.{no_clock, clock_at, IsClose, MayAct, IsThrough, IsOver}
use Rattle.cluster_clocks.specs.Progress.{SomeMayAct}
use Rattle.cluster_clocks.specs.declared.clock.Clock.{Clock}

-- a replica that runs with a clock that is no later than any other that runs
record IsLeast (clocks : List Clock) (k : ℕ) : Type 0 where
  within : k < length clocks
  runs : (clock_at clocks k).is_running ≡ true
  least : (j : ℕ) → j < length clocks → (clock_at clocks j).is_running ≡ true → (clock_at clocks k).tick ≤ (clock_at clocks j).tick

-- the first clock is the least, or the least of the others is
here_first : (c : Clock) (clocks : List Clock) → c.is_running ≡ true → ((j : ℕ) → j < length clocks → (clock_at clocks j).is_running ≡ true → c.tick ≤ (clock_at clocks j).tick) → IsLeast (c ∷ clocks) 0
here_first c clocks r h = record { within = omega arith; runs = r; least = by }
  where
    by : (j : ℕ) → j < length (c ∷ clocks) → (clock_at (c ∷ clocks) j).is_running ≡ true → c.tick ≤ (clock_at (c ∷ clocks) j).tick
    by zero low s = omega arith
    by (suc j) low s = h j (omega (arith, low)) s

there_least : (c : Clock) (clocks : List Clock) (k : ℕ) → IsLeast clocks k → (c.is_running ≡ true → (clock_at clocks k).tick ≤ c.tick) → IsLeast (c ∷ clocks) (suc k)
there_least c clocks k h first = record { within = omega (arith, h.within); runs = h.runs; least = by }
  where
    by : (j : ℕ) → j < length (c ∷ clocks) → (clock_at (c ∷ clocks) j).is_running ≡ true → (clock_at clocks k).tick ≤ (clock_at (c ∷ clocks) j).tick
    by zero low s = first s
    by (suc j) low s = h.least j (omega (arith, low)) s

find : (clocks : List Clock) → ((k : ℕ) × IsLeast clocks k) ⊎ ((j : ℕ) → j < length clocks → (clock_at clocks j).is_running ≡ true → ⊥)
find [] = inr (λ j low s. omega (arith, low))
find (c ∷ clocks) = elim (cases_Bool c.is_running) [
  | inl r ↦ elim (find clocks) [
    | inl w ↦ elim (cases_lt (clock_at clocks w.0).tick c.tick) [
      | inl less ↦ inl (suc w.0, there_least c clocks w.0 w.1 (λ s. omega (arith, less)))
      | inr more ↦ inl (0, here_first c clocks r (λ j low s. omega (arith, w.1.least j low s, more)))
    ]
    | inr none ↦ inl (0, here_first c clocks r (λ j low s. absurd (none j low s)))
  ]
  | inr silent ↦ elim (find clocks) [
    | inl w ↦ inl (suc w.0, there_least c clocks w.0 w.1 (λ s. absurd (true≢false (sym s ∙ silent))))
    | inr none ↦ inr (by c clocks silent none)
  ]
]
  where
    by : (c : Clock) (clocks : List Clock) → c.is_running ≡ false → ((j : ℕ) → j < length clocks → (clock_at clocks j).is_running ≡ true → ⊥) → (j : ℕ) → j < length (c ∷ clocks) → (clock_at (c ∷ clocks) j).is_running ≡ true → ⊥
    by c clocks silent none zero low s = true≢false (sym s ∙ silent)
    by c clocks silent none (suc j) low s = none j (omega (arith, low)) s

-- where the least clock is at the cycle's end, all are
at_end : (clocks : List Clock) (cycle k : ℕ) → All (λ (c : Clock). c.tick ≤ cycle) clocks → IsLeast clocks k → (clock_at clocks k).tick ≡ cycle → All (IsThrough cycle) clocks
at_end clocks cycle k bounded h e = All-from_get_or (IsThrough cycle) clocks no_clock (λ j low.
    elim (cases_Bool (clock_at clocks j).is_running) [
      | inl r ↦ inr (omega (arith, h.least j low r, e, All-get_or (λ (c : Clock). c.tick ≤ cycle) clocks j no_clock low bounded))
      | inr s ↦ inl s
    ])

pub some_may_act : SomeMayAct
some_may_act clocks cycle skew some bounded runs not_over = elim (find clocks) [
  | inr none ↦ absurd (none runs.0 runs.2 (ap (λ (c : Clock). c.is_running) (get_or_default clocks runs.0 no_clock runs.1 runs.2 ∙ runs.3) ∙ runs.4))
  | inl w ↦ elim (cases_eq (clock_at clocks w.0).tick cycle) [
    | inl e ↦ absurd (not_over (record { some = runs; all = at_end clocks cycle w.0 bounded w.1 e }))
    | inr before ↦ (
      w.0,
      w.1.within,
      record {
        runs = w.1.runs;
        below = omega (arith, before, All-get_or (λ (c : Clock). c.tick ≤ cycle) clocks w.0 no_clock w.1.within bounded);
        close = All-from_get_or (IsClose (clock_at clocks w.0).tick skew) clocks no_clock (λ j low.
            elim (cases_Bool (clock_at clocks j).is_running) [
              | inl r ↦ inr (omega (arith, w.1.least j low r, some))
              | inr s ↦ inl s
            ]);
      },
    )
  ]
]
