-- The words of a line are signed numbers of 32 bits.
use Rattle.std.proofs.Common.{◌≡◌, ℕ, ◌^◌, Bool, true, false, cond, List, [], ◌∷◌, length, Option, Some, None, ℤ, pos, refl, subst, arith, ltb, leb, eqb, FitsSigned, w32}
use Rattle.std.specs.Prelude.{neg_ℤ}
use Rattle.std.specs.List.{All}
use Rattle.std.proofs.lemmas.Bool.{leb-true, ltb-true}
use Rattle.std.proofs.lemmas.Int.{ints}
use Rattle.std.proofs.lemmas.List.Elements.{All-nil, All-cons}
use Rattle.lines.specs.Grammar.{◌>>=◌, parts, number_of, word_of, unsigned_word, negative_word, word_below, minus_word, words_in, onto_words, of_width, words_of}

abbrev IsWord : ℤ → Type 0
IsWord w = FitsSigned w32 w

below_fits : (n : ℕ) (w : ℤ) → word_below n ≡ Some w → IsWord w
below_fits n w is = go (ltb n (2 ^ 31)) refl is where
  go : (t : Bool) → ltb n (2 ^ 31) ≡ t → cond t (Some (pos n)) None ≡ Some w → IsWord w
  go true e is = let lt = ltb-true n (2 ^ 31) e in let same : pos n ≡ w = cc in subst IsWord same (record { sfits = omega (arith, ints) })
  go false e is = cc

minus_fits : (n : ℕ) (w : ℤ) → minus_word n ≡ Some w → IsWord w
minus_fits n w is = go (leb n (2 ^ 31)) refl is where
  go : (t : Bool) → leb n (2 ^ 31) ≡ t → cond t (Some (neg_ℤ (pos n))) None ≡ Some w → IsWord w
  go true e is = let le = leb-true n (2 ^ 31) e in let same : neg_ℤ (pos n) ≡ w = cc in subst IsWord same (record { sfits = omega (arith, ints) })
  go false e is = cc

unsigned_fits : (o : Option ℕ) (w : ℤ) → (o >>= word_below) ≡ Some w → IsWord w
unsigned_fits None w is = cc
unsigned_fits (Some n) w is = below_fits n w is

negative_fits : (o : Option ℕ) (w : ℤ) → (o >>= minus_word) ≡ Some w → IsWord w
negative_fits None w is = cc
negative_fits (Some n) w is = minus_fits n w is

part_fits : (t : Bool) (ds es : List ℕ) (w : ℤ) → cond t (negative_word ds) (unsigned_word es) ≡ Some w → IsWord w
part_fits true ds es w is = negative_fits (number_of ds) w is
part_fits false ds es w is = unsigned_fits (number_of es) w is

word_fits : (part : List ℕ) (w : ℤ) → word_of part ≡ Some w → IsWord w
word_fits [] w is = cc
word_fits (b ∷ bs) w is = part_fits (eqb b 45) bs (b ∷ bs) w is

onto_fits : (o : Option ℤ) (more : Option (List ℤ)) (ws : List ℤ) → ((w : ℤ) → o ≡ Some w → IsWord w) → ((vs : List ℤ) → more ≡ Some vs → All IsWord vs) → (o >>= onto_words more) ≡ Some ws → All IsWord ws
onto_fits None more ws one rest is = cc
onto_fits (Some w) None ws one rest is = cc
onto_fits (Some w) (Some vs) ws one rest is = let same : w ∷ vs ≡ ws = cc in subst (All IsWord) same (All-cons IsWord w vs (one w refl) (rest vs refl))

parts_fit : (ps : List (List ℕ)) (ws : List ℤ) → words_in ps ≡ Some ws → All IsWord ws
parts_fit [] ws is = let same : [] ≡ ws = cc in subst (All IsWord) same (All-nil IsWord)
parts_fit ([] ∷ more) ws is = parts_fit more ws is
parts_fit ((b ∷ bs) ∷ more) ws is = onto_fits (word_of (b ∷ bs)) (words_in more) ws (word_fits (b ∷ bs)) (parts_fit more) is

width_fits : (width : ℕ) (o : Option (List ℤ)) (ws : List ℤ) → ((vs : List ℤ) → o ≡ Some vs → All IsWord vs) → (o >>= of_width width) ≡ Some ws → All IsWord ws
width_fits width None ws all is = cc
width_fits width (Some vs) ws all is = go (eqb (length vs) width) is where
  go : (t : Bool) → cond t (Some vs) None ≡ Some ws → All IsWord ws
  go true is = let same : vs ≡ ws = cc in subst (All IsWord) same (all vs refl)
  go false is = cc

pub words_fit : (width : ℕ) (text : List ℕ) (ws : List ℤ) → words_of width text ≡ Some ws → All IsWord ws
words_fit width text ws is = width_fits width (words_in (parts text)) ws (parts_fit (parts text)) is
