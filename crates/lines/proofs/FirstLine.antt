-- The first line of a text, byte by byte, and its first part.
use Rattle.std.proofs.Common.{◌≡◌, ◌≢◌, ℕ, suc, ◌+◌, ◌-◌, ◌*◌, ◌^◌, ◌%◌, ◌<◌, ◌≤◌, ◌&&◌, ◌⊎◌, inl, inr, Bool, true, false, cond, List, [], ◌∷◌, length, get_or, drop, drop-cons, refl, sym, subst, ap, ◌∙◌, arith, eqb, leb, add-one, None}
use Rattle.std.proofs.lemmas.Bool.{false_from_ne_true, eqb-true}
use Rattle.std.specs.List.{onto_first}
use Rattle.lines.specs.Grammar.{is_blank, parts, words_in, number_after}
use Rattle.lines.specs.First.{at_feed, line_text, first_part, after_part}
use Rattle.lines.specs.Found.{NoFeedBelow}
use Rattle.std.proofs.Math.Nat.{pow-le-pow_right, pow-suc, mod-eq_of_lt}
use Rattle.std.proofs.lemmas.Bool.{le-leb}
use Rattle.std.proofs.lemmas.List.{get_or-drop, length-drop}

line_cons : (b : ℕ) (bs : List ℕ) → (b ≡ 10 → ⊥) → (b ≡ 13 → ⊥) → line_text (b ∷ bs) ≡ b ∷ line_text bs
line_cons b bs no_feed no_return =
    ap (λ (t : Bool). cond t [] (cond (eqb b 13 && at_feed bs) [] (b ∷ line_text bs))) (false_from_ne_true (eqb b 10) (λ t. no_feed (eqb-true b 10 t)))
    ∙ ap (λ (t : Bool). cond (t && at_feed bs) [] (b ∷ line_text bs)) (false_from_ne_true (eqb b 13) (λ t. no_return (eqb-true b 13 t)))

-- a byte that ends no line stands before the line behind it
pub line_more : (text : List ℕ) (at : ℕ) → at < length text → get_or text at 0 ≢ 10 → get_or text at 0 ≢ 13
    → line_text (drop at text) ≡ get_or text at 0 ∷ line_text (drop (at + 1) text)
line_more text at lt no_feed no_return =
    ap line_text (drop-cons text at 0 lt)
    ∙ line_cons (get_or text at 0) (drop (suc at) text) no_feed no_return
    ∙ ap (λ (n : ℕ). get_or text at 0 ∷ line_text (drop n text)) (sym (add-one at))

-- one byte more without a line feed
pub below_next : (text : List ℕ) (at : ℕ) → NoFeedBelow at text → get_or text at 0 ≢ 10 → NoFeedBelow (at + 1) text
below_next text at none here k lt = grind (arith, none k, here)

blank_words : (b : ℕ) (bs : List ℕ) → is_blank b ≡ true → words_in (parts (b ∷ bs)) ≡ words_in (parts bs)
blank_words b bs e = ap (λ (t : Bool). words_in (cond t ([] ∷ parts bs) (onto_first b (parts bs)))) e

is_blank_of : (b : ℕ) → (b ≡ 32) ⊎ (b ≡ 9) → is_blank b ≡ true
is_blank_of b (inl e) = ap is_blank e
is_blank_of b (inr e) = ap is_blank e

-- a blank adds no word
pub blank_more : (text : List ℕ) (at : ℕ) → at < length text → (get_or text at 0 ≡ 32) ⊎ (get_or text at 0 ≡ 9)
    → words_in (parts (line_text (drop at text))) ≡ words_in (parts (line_text (drop (at + 1) text)))
blank_more text at lt is =
    ap (λ (t : List ℕ). words_in (parts t)) (line_more text at lt (grind arith) (grind arith))
    ∙ blank_words (get_or text at 0) (line_text (drop (at + 1) text)) (is_blank_of (get_or text at 0) is)

digit_is_no_blank : (b : ℕ) → 48 ≤ b → is_blank b ≡ false
digit_is_no_blank b low = false_from_ne_true (is_blank b) (λ t. no_digit (eqb b 32) (eqb b 9) refl refl t) where
  no_digit : (s t : Bool) → eqb b 32 ≡ s → eqb b 9 ≡ t → is_blank b ≡ true → ⊥
  no_digit true t e f h = let is = eqb-true b 32 e in omega (arith, is)
  no_digit false true e f h = let is = eqb-true b 9 f in omega (arith, is)
  no_digit false false e f h = cc (e, f, h)

-- a digit and the number that it leads on to
number_digit : (n b : ℕ) (bs : List ℕ) → 48 ≤ b → b ≤ 57 → number_after n (b ∷ bs) ≡ number_after (n * 10 + (b - 48)) bs
number_digit n b bs low high =
    ap (λ (t : Bool). cond (t && leb b 57) (number_after (n * 10 + (b - 48)) bs) None) (le-leb 48 b low)
    ∙ ap (λ (t : Bool). cond t (number_after (n * 10 + (b - 48)) bs) None) (le-leb b 57 high)

-- what a digit at a place adds to the first part
pub record DigitMore (text : List ℕ) (at n m : ℕ) : Type 0 where
  pub long : length (first_part (line_text (drop at text))) ≡ 1 + length (first_part (line_text (drop (at + 1) text)))
  pub behind : after_part (line_text (drop at text)) ≡ after_part (line_text (drop (at + 1) text))
  pub value : number_after n (first_part (line_text (drop at text))) ≡ number_after m (first_part (line_text (drop (at + 1) text)))

digit_first : (b : ℕ) (bs : List ℕ) → 48 ≤ b → first_part (b ∷ bs) ≡ b ∷ first_part bs
digit_first b bs low = ap (λ (t : Bool). cond t [] (b ∷ first_part bs)) (digit_is_no_blank b low)

digit_after : (b : ℕ) (bs : List ℕ) → 48 ≤ b → after_part (b ∷ bs) ≡ after_part bs
digit_after b bs low = ap (λ (t : Bool). cond t bs (after_part bs)) (digit_is_no_blank b low)

pub digit_more : (text : List ℕ) (at n m : ℕ) → at < length text → 48 ≤ get_or text at 0 → get_or text at 0 ≤ 57 → m ≡ n * 10 + (get_or text at 0 - 48) → DigitMore text at n m
digit_more text at n m lt low high is =
    let line = line_more text at lt (λ e. omega (arith, e)) (λ e. omega (arith, e)) in
    let b = get_or text at 0 in
    let rest = line_text (drop (at + 1) text) in
    record {
      long = ap (λ (t : List ℕ). length (first_part t)) line ∙ ap length (digit_first b rest low) ∙ omega arith;
      behind = ap after_part line ∙ digit_after b rest low;
      value = ap (λ (t : List ℕ). number_after n (first_part t)) line ∙ ap (number_after n) (digit_first b rest low) ∙ number_digit n b (first_part rest) low high
          ∙ ap (λ (k : ℕ). number_after k (first_part rest)) (sym is);
    }

-- a number of at most ten digits is computed without loss
pub record Exactly (k n d m : ℕ) : Type 0 where
  pub value : m ≡ n * 10 + d
  pub small : m < 10 ^ (k + 1)

pub digit_fits : (k n d : ℕ) → k ≤ 9 → n < 10 ^ k → d < 10 → Exactly k n d ((n * 10 % 18446744073709551616 + d) % 18446744073709551616)
digit_fits k n d few small one =
    let most : 10 ^ k ≤ 10 ^ 9 = pow-le-pow_right (omega arith) few in
    let next : 10 ^ (k + 1) ≡ 10 ^ k * 10 = ap (λ (j : ℕ). 10 ^ j) (add-one k) ∙ pow-suc 10 k in
    let first : n * 10 % 18446744073709551616 ≡ n * 10 = mod-eq_of_lt (omega (arith, most, small)) in
    let both : (n * 10 + d) % 18446744073709551616 ≡ n * 10 + d = mod-eq_of_lt (omega (arith, most, small, one)) in
    let value : (n * 10 % 18446744073709551616 + d) % 18446744073709551616 ≡ n * 10 + d = ap (λ (j : ℕ). (j + d) % 18446744073709551616) first ∙ both in
    record { value = value; small = omega (arith, value, next, small, one) }

-- one digit more of a number of at most ten
pub record NumberStep (text : List ℕ) (from at n d : ℕ) : Type 0 where
  pub small : (n * 10 % 18446744073709551616 + d) % 18446744073709551616 < 10 ^ (at + 1 - from)
  pub value : number_after n (first_part (line_text (drop at text))) ≡ number_after ((n * 10 % 18446744073709551616 + d) % 18446744073709551616) (first_part (line_text (drop (at + 1) text)))

pub number_step : (text : List ℕ) (from at n d : ℕ) → from ≤ at → at < length text → 48 ≤ get_or text at 0 → get_or text at 0 ≤ 57 → d ≡ get_or text at 0 - 48
    → at + 1 - from ≤ 10 → n < 10 ^ (at - from) → NumberStep text from at n d
number_step text from at n d le lt low high is few small =
    let fits = digit_fits (at - from) n d (omega arith) small (omega arith) in
    let same : at - from + 1 ≡ at + 1 - from = omega arith in
    record {
      small = subst (λ (k : ℕ). (n * 10 % 18446744073709551616 + d) % 18446744073709551616 < 10 ^ k) same fits.small;
      value = (digit_more text at n ((n * 10 % 18446744073709551616 + d) % 18446744073709551616) lt low high (fits.value ∙ ap (λ (k : ℕ). n * 10 + k) is)).value;
    }

-- what is so of a byte at a place, where one stands there, is so of the first behind that place
pub first_behind : (P : ℕ → Type 0) (text : List ℕ) (from : ℕ) → (from < length text → P (get_or text from 0)) → 0 < length (drop from text) → P (get_or (drop from text) 0 0)
first_behind P text from h some =
    let long = length-drop from text in
    let same : from + 0 ≡ from = omega arith in
    subst P (sym (get_or-drop from text 0 0 ∙ ap (λ (n : ℕ). get_or text n 0) same)) (h (omega (arith, long, some)))
