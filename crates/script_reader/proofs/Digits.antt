-- Digits one by one.
use Rattle.std.proofs.Common.{◌≡◌, ◌⊎◌, ◌<◌, ◌≤◌, ◌+◌, ◌-◌, ◌*◌, ◌^◌, ℕ, suc, List, [], ◌∷◌, length, drop, get_or, nat_le, None, sym, ap, ◌∙◌, add-one, arith}
use Rattle.std.proofs.Math.Nat.{pow-le-pow_right, pow-suc}
use Rattle.std.proofs.Math.Seq.{drop-cons}
use Rattle.std.proofs.lemmas.Bool.Decides.{nat_tests}
use Rattle.lines.specs.Grammar.{number_after}

-- one digit more
pub digit_more : (n : ℕ) (ds : List ℕ) (i : ℕ) → i < length ds → 48 ≤ get_or ds i 0 → get_or ds i 0 ≤ 57
    → number_after n (drop i ds) ≡ number_after (n * 10 + (get_or ds i 0 - 48)) (drop (i + 1) ds)
digit_more n ds i low from to =
    ap (number_after n) (drop-cons ds i 0 low)
    ∙ (digit n (get_or ds i 0) (drop (suc i) ds) from to ∙ ap (λ k. number_after (n * 10 + (get_or ds i 0 - 48)) (drop k ds)) (sym (add-one i)))
  where
    digit : (n d : ℕ) (rest : List ℕ) → 48 ≤ d → d ≤ 57 → number_after n (d ∷ rest) ≡ number_after (n * 10 + (d - 48)) rest
    digit n d rest a b = grind (arith, nat_tests)

-- no digit
pub no_digit : (n : ℕ) (ds : List ℕ) (i : ℕ) → i < length ds → (get_or ds i 0 < 48) ⊎ (57 < get_or ds i 0) → number_after n (drop i ds) ≡ None
no_digit n ds i low out = ap (number_after n) (drop-cons ds i 0 low) ∙ none n (get_or ds i 0) (drop (suc i) ds) out
  where
    none : (n d : ℕ) (rest : List ℕ) → (d < 48) ⊎ (57 < d) → number_after n (d ∷ rest) ≡ None
    none n d rest out = grind (arith, nat_tests)

-- a number of at most ten digits stays small
pub record StaysSmall (k n d : ℕ) : Type 0 where
  pub small : n * 10 + d < 10 ^ (k + 1)
  pub fits : n * 10 + d < 10000000000

pub stays_small : (k n d : ℕ) → k ≤ 9 → n < 10 ^ k → d < 10 → StaysSmall k n d
stays_small k n d few small one =
    let most : 10 ^ k ≤ 10 ^ 9 = pow-le-pow_right (omega arith) few in
    let next : 10 ^ (k + 1) ≡ 10 ^ k * 10 = ap (λ (j : ℕ). 10 ^ j) (add-one k) ∙ pow-suc 10 k in
    record { small = omega (arith, next, small, one); fits = omega (arith, most, small, one) }
