-- Digits one by one.
use Rattle.std.proofs.Common.{◌≡◌, ◌⊎◌, ◌<◌, ◌≤◌, ◌+◌, ◌-◌, ◌*◌, ℕ, suc, List, [], ◌∷◌, length, drop, get_or, Bool, true, false, ◌&&◌, nat_le, None, refl, sym, ap, ◌∙◌, add-one, arith}
use Rattle.std.proofs.Math.Seq.{drop-cons}
use Rattle.std.proofs.lemmas.Bool.Decides.{nat_tests}
use Rattle.lines.specs.Grammar.{◌>>=◌, number_after}
use Rattle.budgets.specs.Budget.{in_limits}

-- a number above the limit stays above it
pub too_much : (n : ℕ) (ds : List ℕ) → 10000000 < n → (number_after n ds >>= in_limits) ≡ None
too_much n [] h = grind (arith, nat_tests)
too_much n (d ∷ ds) h = by (nat_le 48 d && nat_le d 57) refl (too_much (n * 10 + (d - 48)) ds (omega (arith, h)))
  where
    by : (b : Bool) → nat_le 48 d && nat_le d 57 ≡ b → (number_after (n * 10 + (d - 48)) ds >>= in_limits) ≡ None → (number_after n (d ∷ ds) >>= in_limits) ≡ None
    by true is more = rw is more
    by false is more = rw is refl

-- one digit more
pub digit_more : (n : ℕ) (ds : List ℕ) (i : ℕ) → i < length ds → 48 ≤ get_or ds i 0 → get_or ds i 0 ≤ 57 → number_after n (drop i ds) ≡ number_after (n * 10 + (get_or ds i 0 - 48)) (drop (i + 1) ds)
digit_more n ds i low from to =
    ap (number_after n) (drop-cons ds i 0 low)
    ∙ (digit n (get_or ds i 0) (drop (suc i) ds) from to ∙ ap (λ k. number_after (n * 10 + (get_or ds i 0 - 48)) (drop k ds)) (sym (add-one i)))
  where
    digit : (n d : ℕ) (rest : List ℕ) → 48 ≤ d → d ≤ 57 → number_after n (d ∷ rest) ≡ number_after (n * 10 + (d - 48)) rest
    digit n d rest a b = grind (arith, nat_tests)

-- no digit
pub no_digit : (n : ℕ) (ds : List ℕ) (i : ℕ) → i < length ds → (get_or ds i 0 < 48) ⊎ (57 < get_or ds i 0) → number_after n (drop i ds) ≡ None
no_digit n ds i low out = ap (number_after n) (drop-cons ds i 0 low) ∙ none n (get_or ds i 0) (drop (suc i) ds) out
  where
    none : (n d : ℕ) (rest : List ℕ) → (d < 48) ⊎ (57 < d) → number_after n (d ∷ rest) ≡ None
    none n d rest out = grind (arith, nat_tests)
