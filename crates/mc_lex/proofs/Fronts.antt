-- Which lexeme is the longest, by the first bytes of the rest.
use Rattle.std.proofs.Common.{◌≡◌, ◌≢◌, ℕ, zero, suc, ◌+◌, ◌-◌, ◌^◌, ◌<◌, ◌≤◌, List, [], ◌∷◌, length, take, drop, min, get_or, arith, Bool, true, false, ◌&&◌, Some, None, refl, ap, ◌∙◌, sym, ◌==◌, subst, ◌⊎◌}
use Rattle.std.specs.Prelude.{nat_lt, nat_le, nat_eq, Option, if◌then◌else◌}
use Rattle.std.specs.List.{list_all, prefix_len}
use Rattle.std.specs.Char.{is_ascii_digit}
use Rattle.std.specs.Str.{bytes_eq}
use Rattle.std.proofs.lemmas.List.{get_or-take, length-take-le, drop-take, length-drop}
use Rattle.std.proofs.lemmas.List.Folds.{list_all_at}
use Rattle.std.proofs.lemmas.List.Sums.{prefix_len-le-length, prefix_len_stops}
use Rattle.std.proofs.lemmas.Bool.Decides.{nat_tests}
use Rattle.mc_tree.specs.declared.token.Sign.{Sign}
use Rattle.mc_tree.specs.declared.token.TokenKind.TheVariants as T
use Rattle.mc_tree.specs.Lexeme.{Lexeme, Gap, Spelled, Malformed, lexeme_of, when, is_blank, is_letter, is_word_byte, is_in_line, number_of, value, word_kind, comment_of, in_table, signs, sign_or_none}
use Rattle.mc_tree.specs.Tokens.{Longest, NothingBegins}
use Rattle.mc_lex.specs.Scan.{closes, IsOther, BeginsNoComment}

first_of_take : (rest : List ℕ) (m : ℕ) → 0 < m → get_or (take m rest) 0 0 ≡ get_or rest 0 0
first_of_take rest m h = get_or-take m rest 0 0 h

second_of_take : (rest : List ℕ) (m : ℕ) → 1 < m → get_or (take m rest) 1 0 ≡ get_or rest 1 0
second_of_take rest m h = get_or-take m rest 1 0 h

-- every byte of a run passes
pub run_passes : (p : ℕ → Bool) (rest : List ℕ) → list_all p (take (prefix_len p rest) rest) ≡ true
run_passes p [] = refl
run_passes p (b ∷ rest) = run_by (p b) p b rest refl (run_passes p rest)
  where
    run_by : (t : Bool) (p : ℕ → Bool) (b : ℕ) (rest : List ℕ) → p b ≡ t → list_all p (take (prefix_len p rest) rest) ≡ true → list_all p (take (prefix_len p (b ∷ rest)) (b ∷ rest)) ≡ true
    run_by true p b rest e h = let n : 1 + prefix_len p rest ≡ suc (prefix_len p rest) = omega arith in rw (e, n, e) h
    run_by false p b rest e h = rw e refl

-- a longer front has the byte that ended the run
past : (p : ℕ → Bool) (rest : List ℕ) (m : ℕ) → prefix_len p rest < m → m ≤ length rest → list_all p (take m rest) ≡ false
past p rest m lt le =
    let n = prefix_len p rest in
    let at : get_or (take m rest) n 0 ≡ get_or rest n 0 = get_or-take m rest n 0 lt in
    let long : n < length (take m rest) = omega (arith, length-take-le m rest le) in
    list_all_at p (take m rest) n 0 long (ap p at ∙ prefix_len_stops p rest 0 (omega arith))

-- a run whose first byte passes has it
some_in_run : (p : ℕ → Bool) (rest : List ℕ) → 0 < length rest → p (get_or rest 0 0) ≡ true → 0 < prefix_len p rest
some_in_run p rest long first = by (prefix_len p rest) refl
  where
    by : (n : ℕ) → prefix_len p rest ≡ n → 0 < n
    by zero e = let h = prefix_len_stops p rest 0 (omega arith) in let f : true ≡ false = sym first ∙ subst (λ k. p (get_or rest k 0) ≡ false) e h in cc
    by (suc n) e = omega arith

-- lexemes that are runs, all of what s gives
run_longest : (p : ℕ → Bool) (s : List ℕ → Lexeme) (rest : List ℕ)
    → ((m : ℕ) → prefix_len p rest ≤ m → m ≤ length rest → lexeme_of (take m rest) ≡ when (list_all p (take m rest)) (s (take m rest)))
    → 0 < prefix_len p rest → Longest rest (prefix_len p rest) (s (take (prefix_len p rest) rest))
run_longest p s rest is pos = record {
  some = pos;
  within = prefix_len-le-length p rest;
  here = is (prefix_len p rest) (omega arith) (prefix_len-le-length p rest) ∙ ap (λ b. when b (s (take (prefix_len p rest) rest))) (run_passes p rest);
  longest = λ m lt le. is m (omega arith) le ∙ ap (λ b. when b (s (take m rest))) (past p rest m lt le);
}

-- what the first bytes say
blank_is : (w : List ℕ) → is_blank (get_or w 0 0) ≡ true → lexeme_of w ≡ when (list_all is_blank w) Gap
unfolding lexeme_of
blank_is w e = rw e refl

number_is : (w : List ℕ) → is_blank (get_or w 0 0) ≡ false → is_ascii_digit (get_or w 0 0) ≡ true → lexeme_of w ≡ when (list_all is_ascii_digit w) (number_of w)
unfolding lexeme_of
number_is w e f = rw (e, f) refl

-- the third of three tests, and none of them
third : (a b c : Bool) (x y z r : Option Lexeme) → a ≡ false → b ≡ false → c ≡ true → (if a then x else if b then y else if c then z else r) ≡ z
third a b c x y z r e f g = rw (e, f, g) refl

none_of_three : (a b c : Bool) (x y z r : Option Lexeme) → a ≡ false → b ≡ false → c ≡ false → (if a then x else if b then y else if c then z else r) ≡ r
none_of_three a b c x y z r e f g = rw (e, f, g) refl

word_is : (w : List ℕ) → is_blank (get_or w 0 0) ≡ false → is_ascii_digit (get_or w 0 0) ≡ false → is_letter (get_or w 0 0) ≡ true → lexeme_of w ≡ when (list_all is_word_byte w) (Spelled (word_kind w))
unfolding lexeme_of
word_is w e f g = third _ _ _ _ _ _ _ e f g

line_is : (w : List ℕ) → get_or w 0 0 ≡ 47 → get_or w 1 0 ≡ 47 → lexeme_of w ≡ when (list_all is_in_line w) Gap
unfolding lexeme_of
line_is w e f = rw (e, f) refl

comment_is : (w : List ℕ) → get_or w 0 0 ≡ 47 → get_or w 1 0 ≡ 42 → lexeme_of w ≡ comment_of (drop 2 w)
unfolding lexeme_of
comment_is w e f = rw (e, f) refl

sign_is : (w : List ℕ) → IsOther (get_or w 0 0) → (get_or w 0 0 == 47) && (get_or w 1 0 == 47) ≡ false → (get_or w 0 0 == 47) && (get_or w 1 0 == 42) ≡ false
    → lexeme_of w ≡ sign_or_none (in_table signs w)
unfolding lexeme_of
sign_is w o p q = none_of_three _ _ _ _ _ _ _ o.0 o.1 o.2 ∙ rw (p, q) refl

-- a letter is a word byte
letter_continues : (b : ℕ) → is_letter b ≡ true → is_word_byte b ≡ true
letter_continues b h = grind (arith, nat_tests)

pub blank_longest : (rest : List ℕ) → 0 < length rest → is_blank (get_or rest 0 0) ≡ true → Longest rest (prefix_len is_blank rest) Gap
blank_longest rest long first =
    let pos = some_in_run is_blank rest long first in
    run_longest is_blank (λ w. Gap) rest (λ m le in_rest. blank_is (take m rest) (ap is_blank (first_of_take rest m (omega arith)) ∙ first)) pos

pub number_longest : (rest : List ℕ) → 0 < length rest → is_blank (get_or rest 0 0) ≡ false → is_ascii_digit (get_or rest 0 0) ≡ true
    → Longest rest (prefix_len is_ascii_digit rest) (number_of (take (prefix_len is_ascii_digit rest) rest))
number_longest rest long blank first =
    let pos = some_in_run is_ascii_digit rest long first in
    run_longest is_ascii_digit number_of rest
    (λ m le in_rest. let e = first_of_take rest m (omega arith) in number_is (take m rest) (ap is_blank e ∙ blank) (ap is_ascii_digit e ∙ first)) pos

pub word_longest : (rest : List ℕ) → 0 < length rest → is_blank (get_or rest 0 0) ≡ false → is_ascii_digit (get_or rest 0 0) ≡ false → is_letter (get_or rest 0 0) ≡ true
    → Longest rest (prefix_len is_word_byte rest) (Spelled (word_kind (take (prefix_len is_word_byte rest) rest)))
word_longest rest long blank digit first =
    let pos = some_in_run is_word_byte rest long (letter_continues (get_or rest 0 0) first) in
    run_longest is_word_byte (λ w. Spelled (word_kind w)) rest
    (λ m le in_rest. let e = first_of_take rest m (omega arith) in word_is (take m rest) (ap is_blank e ∙ blank) (ap is_ascii_digit e ∙ digit) (ap is_letter e ∙ first)) pos

-- a run in a line has both slashes
two_in_run : (rest : List ℕ) → 1 < length rest → get_or rest 0 0 ≡ 47 → get_or rest 1 0 ≡ 47 → 1 < prefix_len is_in_line rest
two_in_run rest long e f = by (prefix_len is_in_line rest) refl
  where
    by : (n : ℕ) → prefix_len is_in_line rest ≡ n → 1 < n
    by zero g = let h = prefix_len_stops is_in_line rest 0 (omega arith) in let i : is_in_line 47 ≡ false = ap is_in_line (sym e) ∙ subst (λ k. is_in_line (get_or rest k 0) ≡ false) g h in cc
    by (suc zero) g = let h = prefix_len_stops is_in_line rest 0 (omega arith) in let i : is_in_line 47 ≡ false = ap is_in_line (sym f) ∙ subst (λ k. is_in_line (get_or rest k 0) ≡ false) g h in cc
    by (suc (suc n)) g = omega arith

pub line_longest : (rest : List ℕ) → 1 < length rest → get_or rest 0 0 ≡ 47 → get_or rest 1 0 ≡ 47 → Longest rest (prefix_len is_in_line rest) Gap
line_longest rest long e f =
    let two = two_in_run rest long e f in
    run_longest is_in_line (λ w. Gap) rest
    (λ m le in_rest. line_is (take m rest) (first_of_take rest m (omega arith) ∙ e) (second_of_take rest m (omega arith) ∙ f)) (omega arith)

-- comments: the first `*/` stands at i
comment_open : (v : List ℕ) (k : ℕ) → ((j : ℕ) → suc j < k → closes v j ≡ false) → comment_of (take k v) ≡ Some Malformed
unfolding comment_of
comment_open [] zero none = refl
comment_open [] (suc k) none = refl
comment_open (b ∷ v) zero none = refl
comment_open (b ∷ v) (suc zero) none = grind arith
comment_open (b ∷ v) (suc (suc k)) none =
    let e : get_or (take (suc k) v) 0 0 ≡ get_or v 0 0 = get_or-take (suc k) v 0 0 (omega arith) in
    rw (e, none 0 (omega arith)) (comment_open v (suc k) (λ j h. none (suc j) (omega arith)))

comment_shut : (v : List ℕ) (i : ℕ) → suc i < length v → closes v i ≡ true → ((j : ℕ) → j < i → closes v j ≡ false) → comment_of (take (suc (suc i)) v) ≡ Some Gap
unfolding comment_of
comment_shut [] i long shut first = absurd (omega arith)
comment_shut (b ∷ []) i long shut first = absurd (omega arith)
comment_shut (b ∷ c ∷ v) zero long shut first = rw shut refl
comment_shut (b ∷ c ∷ v) (suc i) long shut first =
    rw (first 0 (omega arith)) (comment_shut (c ∷ v) i (omega arith) shut (λ j h. first (suc j) (omega arith)))

comment_past : (v : List ℕ) (i k : ℕ) → suc (suc i) < k → k ≤ length v → closes v i ≡ true → ((j : ℕ) → j < i → closes v j ≡ false) → comment_of (take k v) ≡ None
unfolding comment_of
comment_past [] i k lt le shut first = absurd (omega arith)
comment_past (b ∷ v) i zero lt le shut first = absurd (omega arith)
comment_past (b ∷ []) i (suc k) lt le shut first = absurd (omega arith)
comment_past (b ∷ c ∷ v) zero (suc zero) lt le shut first = absurd (omega arith)
comment_past (b ∷ c ∷ v) zero (suc (suc k)) lt le shut first =
    let l : nat_eq (suc (length (take k v))) 1 ≡ false = rw (length-take-le k v (omega arith)) (grind (arith, nat_tests)) in
    rw (shut, l) refl
comment_past (b ∷ c ∷ v) (suc i) (suc zero) lt le shut first = absurd (omega arith)
comment_past (b ∷ c ∷ v) (suc i) (suc (suc k)) lt le shut first =
    rw (first 0 (omega arith)) (comment_past (c ∷ v) i (suc k) (omega arith) (omega arith) shut (λ j h. first (suc j) (omega arith)))

-- a front of more than two bytes that begins with `/*`
comment_front : (rest : List ℕ) → get_or rest 0 0 ≡ 47 → get_or rest 1 0 ≡ 42 → (k : ℕ) → lexeme_of (take (2 + k) rest) ≡ comment_of (take k (drop 2 rest))
comment_front rest e f k =
    comment_is (take (2 + k) rest) (first_of_take rest (2 + k) (omega arith) ∙ e) (second_of_take rest (2 + k) (omega arith) ∙ f) ∙ ap comment_of (drop-take 2 k rest)

pub closed_longest : (rest v : List ℕ) (i : ℕ) → v ≡ drop 2 rest → 1 < length rest → get_or rest 0 0 ≡ 47 → get_or rest 1 0 ≡ 42
    → i + 1 < length v → closes v i ≡ true → ((j : ℕ) → j < i → closes v j ≡ false) → Longest rest (i + 4) Gap
closed_longest rest v i is long e f lt shut first =
    let l : length v ≡ length rest - 2 = ap length is ∙ length-drop 2 rest in
    let front : (k : ℕ) → lexeme_of (take (2 + k) rest) ≡ comment_of (take k v) = λ k. comment_front rest e f k ∙ ap (λ w. comment_of (take k w)) (sym is) in
    record {
      some = omega arith;
      within = omega arith;
      here = let n : i + 4 ≡ 2 + suc (suc i) = omega arith in rw n (front (suc (suc i)) ∙ comment_shut v i (omega arith) shut first);
      longest = λ m past_it le. let n : m ≡ 2 + (m - 2) = omega arith in rw n (front (m - 2) ∙ comment_past v i (m - 2) (omega arith) (omega arith) shut first);
    }

pub open_longest : (rest v : List ℕ) → v ≡ drop 2 rest → 1 < length rest → get_or rest 0 0 ≡ 47 → get_or rest 1 0 ≡ 42
    → ((j : ℕ) → closes v j ≡ false) → Longest rest (length rest) Malformed
open_longest rest v is long e f none = record {
  some = omega arith;
  within = omega arith;
  here = let n : length rest ≡ 2 + (length rest - 2) = omega arith in
      rw n (comment_front rest e f (length rest - 2) ∙ ap (λ w. comment_of (take (length rest - 2) w)) (sym is) ∙ comment_open v (length rest - 2) (λ j h. none j));
  longest = λ m lt le. absurd (omega arith);
}

-- a sign has two bytes at most
same_length : (w v : List ℕ) → bytes_eq w v ≡ true → length w ≡ length v
same_length [] [] e = refl
same_length [] (b ∷ v) e = cc
same_length (b ∷ w) [] e = cc
same_length (b ∷ w) (c ∷ v) e = by (nat_eq b c) (same_length w v) e
  where
    by : (t : Bool) → (bytes_eq w v ≡ true → length w ≡ length v) → t && bytes_eq w v ≡ true → length (b ∷ w) ≡ length (c ∷ v)
    by true rest h = ap suc (rest h)
    by false rest h = cc

too_long : (X : Type 0) (rows : List (List ℕ × X)) (w : List ℕ) → list_all (λ row. nat_le (length row.0) 2) rows ≡ true → 2 < length w → in_table rows w ≡ None
too_long X [] w short long = refl
too_long X (row ∷ rows) w short long = by (bytes_eq w row.0) (nat_le (length row.0) 2) (λ h. too_long X rows w h long) refl refl short
  where
    by : (t u : Bool) → (list_all (λ row. nat_le (length row.0) 2) rows ≡ true → in_table rows w ≡ None)
        → bytes_eq w row.0 ≡ t → nat_le (length row.0) 2 ≡ u → u && list_all (λ row. nat_le (length row.0) 2) rows ≡ true → in_table (row ∷ rows) w ≡ None
    by true true rest e f h = let g = same_length w row.0 e in let le : length row.0 ≤ 2 = grind (arith, nat_tests) in absurd (omega arith)
    by false true rest e f h = rw e (rest h)
    by true false rest e f h = cc
    by false false rest e f h = cc

no_slashes : (b c : ℕ) → (b ≡ 47 → (c ≢ 47) × (c ≢ 42)) → ((b == 47) && (c == 47) ≡ false) × ((b == 47) && (c == 42) ≡ false)
no_slashes b c h = (grind (arith, nat_tests), grind (arith, nat_tests))

module _ (rest : List ℕ) (some : 0 < length rest) (other : IsOther (get_or rest 0 0)) (no_comment : BeginsNoComment rest) where
  -- one byte at the front is no comment
  one_is : lexeme_of (take 1 rest) ≡ sign_or_none (in_table signs (take 1 rest))
  one_is = by rest other some
    where
      by : (r : List ℕ) → IsOther (get_or r 0 0) → 0 < length r → lexeme_of (take 1 r) ≡ sign_or_none (in_table signs (take 1 r))
      by [] o s = absurd (omega arith)
      by (b ∷ r) o s = let n = no_slashes b 0 (λ e. (grind arith, grind arith)) in sign_is (b ∷ []) o n.0 n.1

  more_is : (m : ℕ) → 1 < m → m ≤ length rest → lexeme_of (take m rest) ≡ sign_or_none (in_table signs (take m rest))
  more_is m lt le =
      let e = first_of_take rest m (omega arith) in
      let f = second_of_take rest m lt in
      let n = no_slashes (get_or rest 0 0) (get_or rest 1 0) (no_comment (omega arith)) in
      sign_is (take m rest) (subst IsOther (sym e) other) (rw (e, f) n.0) (rw (e, f) n.1)

  -- three bytes and more are no sign
  three_are : (m : ℕ) → 2 < m → m ≤ length rest → lexeme_of (take m rest) ≡ None
  three_are m lt le =
      more_is m (omega arith) le ∙ ap sign_or_none (too_long Sign signs (take m rest) refl (omega (arith, length-take-le m rest le)))

  pub two_longest : (s : Sign) → 2 ≤ length rest → in_table signs (take 2 rest) ≡ Some s → Longest rest 2 (Spelled (T.Sign s))
  two_longest s le is = record {
    some = omega arith;
    within = le;
    here = more_is 2 (omega arith) le ∙ ap sign_or_none is;
    longest = three_are;
  }

  -- more than one byte, where two are no sign
  two_are : (2 ≤ length rest → in_table signs (take 2 rest) ≡ None) → (m : ℕ) → 1 < m → m ≤ length rest → lexeme_of (take m rest) ≡ None
  two_are none zero lt le = absurd (omega arith)
  two_are none (suc zero) lt le = absurd (omega arith)
  two_are none (suc (suc zero)) lt le = more_is 2 (omega arith) le ∙ ap sign_or_none (none le)
  two_are none (suc (suc (suc m))) lt le = three_are (suc (suc (suc m))) (omega arith) le

  pub one_longest : (s : Sign) → (2 ≤ length rest → in_table signs (take 2 rest) ≡ None) → in_table signs (take 1 rest) ≡ Some s → Longest rest 1 (Spelled (T.Sign s))
  one_longest s none is = record {
    some = omega arith;
    within = omega arith;
    here = one_is ∙ ap sign_or_none is;
    longest = two_are none;
  }

  pub nothing_begins : (2 ≤ length rest → in_table signs (take 2 rest) ≡ None) → in_table signs (take 1 rest) ≡ None → NothingBegins rest
  nothing_begins none is zero pos le = absurd (omega arith)
  nothing_begins none is (suc zero) pos le = one_is ∙ ap sign_or_none is
  nothing_begins none is (suc (suc m)) pos le = two_are none (suc (suc m)) (omega arith) le

pub zero_first : (w : List ℕ) → get_or w 0 0 ≡ 48 → 1 < length w → number_of w ≡ Malformed
zero_first w e l = let f : nat_lt 1 (length w) ≡ true = grind (arith, nat_tests) in rw (e, f) refl

pub number_first : (w : List ℕ) → ((get_or w 0 0 ≡ 48) × (length w ≤ 1)) ⊎ (get_or w 0 0 ≡ 48 → ⊥) → number_of w ≡ Spelled (T.Number (min (value w) (2 ^ 32)))
number_first w h = let f : (get_or w 0 0 == 48) && nat_lt 1 (length w) ≡ false = grind (arith, nat_tests, h) in rw f refl

pub taken : (rest : List ℕ) (n : ℕ) → 0 < n → n ≤ length rest → (get_or (take n rest) 0 0 ≡ get_or rest 0 0) × (length (take n rest) ≡ n)
taken rest n pos le = (first_of_take rest n pos, length-take-le n rest le)
