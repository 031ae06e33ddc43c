-- One turn of a loop, and of a loop in a sequence.
use Rattle.std.proofs.Common.{◌≡◌, ◌≢◌, ℕ, zero, suc, ◌-◌, ℤ, pos, negsuc, List, Option, Some, None, true, false, refl, sym, ap, ◌∙◌, arith}
use Rattle.std.specs.Prelude.{is_some}
use Rattle.mars_base.specs.Word.{is_zero}
use Rattle.mars_base.specs.Store.{count_up}
use Rattle.mc_tree.specs.Meaning.{After, Done, with_value, with_count, by_test, then_do, turns, series_turns}
use Rattle.mc_meaning.specs.Run.{after_of}

pub not_zero : (w : ℤ) → w ≢ pos 0 → is_zero w ≡ false
not_zero (pos zero) h = absurd (h refl)
not_zero (pos (suc n)) h = refl
not_zero (negsuc n) h = refl

pub none_if : (o : Option ℕ) → is_some o ≡ false → o ≡ None
none_if None h = refl
none_if (Some m) h = absurd (let x : ⊥ = cc in x)

pub some_if : (o : Option ℕ) → is_some o ≡ true → (m : ℕ) × (o ≡ Some m)
some_if None h = absurd (let x : ⊥ = cc in x)
some_if (Some m) h = (m, refl)

-- one turn of a loop
pub turn : (test : List ℤ → Option ℤ) (body : List ℤ → ℕ → After) (left : ℕ) (words new : List ℤ) (count next : ℕ) (w : ℤ)
    → left ≢ 0 → Some w ≡ test words → w ≢ pos 0 → Done new next ≡ body words count → turns left test body words count ≡ turns (left - 1) test body new next
turn test body zero words new count next w l t z b = absurd (l refl)
turn test body (suc n) words new count next w l t z b =
    let m : n ≡ suc n - 1 = omega arith in
    ap (λ o. with_value o (λ v. by_test (is_zero v) (Done words count) (then_do (body words count) (turns n test body)))) (sym t)
    ∙ ap (λ q. by_test q (Done words count) (then_do (body words count) (turns n test body))) (not_zero w z)
    ∙ ap (λ o. then_do o (turns n test body)) (sym b)
    ∙ ap (λ k. turns k test body new next) m

-- one turn of a loop in a sequence
pub series_turn : (test : List ℤ → Option ℤ) (body : List ℤ → After) (left most : ℕ) (words new : List ℤ) (total next : ℕ) (w : ℤ) (o : Option ℕ)
    → left ≢ 0 → Some w ≡ test words → w ≢ pos 0 → Some next ≡ count_up total most → is_some o ≡ true → after_of new o ≡ body words
    → series_turns left most test body words total ≡ series_turns (left - 1) most test body new next
series_turn test body zero most words new total next w o l t z c s b = absurd (l refl)
series_turn test body (suc n) most words new total next w o l t z c s b =
    let m : n ≡ suc n - 1 = omega arith in
    let x = some_if o s in
    ap (λ p. with_value p (λ v. by_test (is_zero v) (Done words total) (with_count (count_up total most) (λ j. then_do (body words) (λ ds y. series_turns n most test body ds j))))) (sym t)
    ∙ ap (λ q. by_test q (Done words total) (with_count (count_up total most) (λ j. then_do (body words) (λ ds y. series_turns n most test body ds j)))) (not_zero w z)
    ∙ ap (λ p. with_count p (λ j. then_do (body words) (λ ds y. series_turns n most test body ds j))) (sym c)
    ∙ ap (λ p. then_do p (λ ds y. series_turns n most test body ds next)) (sym b)
    ∙ ap (λ p. then_do (after_of new p) (λ ds y. series_turns n most test body ds next)) (x.1)
    ∙ ap (λ k. series_turns k most test body new next) m
