-- The first word of a line, and what it says of the line's words.
use mir.Val.{bool_byte}
use Rattle.std.proofs.Common.{◌≡◌, ◌≢◌, inl, inr, ℕ, ◌<◌, ◌+◌, ◌&&◌, Bool, true, false, cond, List, [], ◌∷◌, length, drop, get_or, subst, Option, Some, None, ℤ, refl, sym, ap, ◌∙◌, arith, eqb, eq-eqb}
use Rattle.std.specs.List.{onto_first}
use Rattle.std.proofs.lemmas.Bool.{false_from_ne_true, eqb-true}
use Rattle.lines.specs.Grammar.{◌>>=◌, is_blank, parts, word_of, unsigned_word, negative_word, words_in, onto_words}
use Rattle.lines.specs.First.{at_feed, line_text, first_part, after_part, reading_of, BeginsWord, ReadsWord}
use Rattle.lines.proofs.FirstLine.{first_behind, line_more}

one_byte : (t : Bool) (b : ℕ) → cond t ([] ∷ []) ((b ∷ []) ∷ []) ≡ cond t [] (b ∷ []) ∷ parts (cond t [] [])
one_byte true b = refl
one_byte false b = refl

more_bytes : (t : Bool) (b : ℕ) (bs : List ℕ) → parts bs ≡ first_part bs ∷ parts (after_part bs)
    → cond t ([] ∷ parts bs) (onto_first b (parts bs)) ≡ cond t [] (b ∷ first_part bs) ∷ parts (cond t bs (after_part bs))
more_bytes true b bs e = refl
more_bytes false b bs e = ap (onto_first b) e

-- a text that isn't empty has a first part
pub parts_first : (text : List ℕ) → 0 < length text → parts text ≡ first_part text ∷ parts (after_part text)
parts_first [] some = absurd (omega arith)
parts_first (b ∷ []) some = one_byte (is_blank b) b
parts_first (b ∷ c ∷ bs) some = more_bytes (is_blank b) b (c ∷ bs) (parts_first (c ∷ bs) (omega arith))

-- a text that begins with no blank begins with the word of its first part
pub begins : (b : ℕ) (bs : List ℕ) → is_blank b ≡ false
    → words_in (parts (b ∷ bs)) ≡ (word_of (b ∷ first_part bs) >>= onto_words (words_in (parts (after_part bs))))
begins b bs h =
    ap words_in (parts_first (b ∷ bs) (omega arith))
    ∙ ap (λ (t : Bool). words_in (cond t [] (b ∷ first_part bs) ∷ parts (cond t bs (after_part bs)))) h

by_minus : (b : ℕ) (bs : List ℕ) → b ≡ 45 → words_in (parts (b ∷ bs)) ≡ (negative_word (first_part bs) >>= onto_words (words_in (parts (after_part bs))))
by_minus b bs e =
    begins b bs (ap is_blank e)
    ∙ ap (λ (t : Bool). cond t (negative_word (first_part bs)) (unsigned_word (b ∷ first_part bs)) >>= onto_words (words_in (parts (after_part bs)))) (eq-eqb b 45 e)

no_minus : (b : ℕ) (bs : List ℕ) → b ≢ 45 → is_blank b ≡ false → words_in (parts (b ∷ bs)) ≡ (unsigned_word (first_part (b ∷ bs)) >>= onto_words (words_in (parts (after_part (b ∷ bs)))))
no_minus b bs other h =
    begins b bs h
    ∙ ap (λ (t : Bool). cond t (negative_word (first_part bs)) (unsigned_word (b ∷ first_part bs)) >>= onto_words (words_in (parts (after_part bs))))
    (false_from_ne_true (eqb b 45) (λ t. other (eqb-true b 45 t)))
    ∙ ap (λ (t : Bool). unsigned_word (cond t [] (b ∷ first_part bs)) >>= onto_words (words_in (parts (cond t bs (after_part bs))))) (sym h)

read_by : (text digits : List ℕ) (behind : ℕ → List ℕ) (reading : List ℕ → Option ℤ) (r : Option (ℤ × ℕ))
    → words_in (parts text) ≡ (reading (first_part digits) >>= onto_words (words_in (parts (after_part digits)))) → BeginsWord reading digits behind r → ReadsWord text behind r
read_by text digits behind reading None e says = inr (e ∙ ap (λ (o : Option ℤ). o >>= onto_words (words_in (parts (after_part digits)))) says)
read_by text digits behind reading (Some (w, next)) e says = e ∙ ap (λ (o : Option ℤ). o >>= onto_words (words_in (parts (after_part digits)))) says.0
    ∙ ap (λ (o : Option (List ℤ)). onto_words o w) (sym says.1)

-- a line that begins with a minus
pub read_negative : (line digits : List ℕ) (b : ℕ) (behind : ℕ → List ℕ) (r : Option (ℤ × ℕ)) → line ≡ b ∷ digits → b ≡ 45 → BeginsWord negative_word digits behind r → ReadsWord line behind r
read_negative line digits b behind r e is says = read_by line digits behind negative_word r (ap (λ (t : List ℕ). words_in (parts t)) e ∙ by_minus b digits is) says

-- no line at all
read_none : (behind : ℕ → List ℕ) (r : Option (ℤ × ℕ)) → BeginsWord unsigned_word [] behind r → ReadsWord [] behind r
read_none behind None says = inl refl
read_none behind (Some r) says = absurd (cc (says.0))

read_bits : (s t : Bool) (b : ℕ) (bs : List ℕ) (behind : ℕ → List ℕ) (r : Option (ℤ × ℕ)) → b ≢ 45 → is_blank b ≡ false
    → BeginsWord unsigned_word (cond s [] (cond t [] (b ∷ bs))) behind r → ReadsWord (cond s [] (cond t [] (b ∷ bs))) behind r
read_bits true t b bs behind r other h says = read_none behind r says
read_bits false true b bs behind r other h says = read_none behind r says
read_bits false false b bs behind r other h says = read_by (b ∷ bs) (b ∷ bs) behind unsigned_word r (no_minus b bs other h) says

-- a line that begins with no minus and no blank, or is empty
pub read_unsigned : (text : List ℕ) (behind : ℕ → List ℕ) (r : Option (ℤ × ℕ)) → (0 < length text → get_or text 0 0 ≢ 45) → (0 < length text → is_blank (get_or text 0 0) ≡ false)
    → BeginsWord unsigned_word (line_text text) behind r → ReadsWord (line_text text) behind r
read_unsigned [] behind r other h says = read_none behind r says
read_unsigned (b ∷ bs) behind r other h says = read_bits (eqb b 10) (eqb b 13 && at_feed bs) b (line_text bs) behind r (other (omega arith)) (h (omega arith)) says

-- the place behind the minus, or where there is none the same place
abbrev pub behind_minus : Bool → ℕ → ℕ
behind_minus true from = from + 1
behind_minus false from = from

pub place_behind : (negative : Bool) (from more : ℕ) → more ≡ bool_byte negative → from + more ≡ behind_minus negative from
place_behind true from more e = omega (arith, e)
place_behind false from more e = omega (arith, e)

-- a line's first word, by the digits behind its minus or with none
pub read_word : (text : List ℕ) (from start : ℕ) (negative : Bool) (behind : ℕ → List ℕ) (r : Option (ℤ × ℕ)) → start ≡ behind_minus negative from
    → (negative ≡ true → (from < length text) × (get_or text from 0 ≡ 45)) → (negative ≡ false → from < length text → get_or text from 0 ≢ 45)
    → (from < length text → is_blank (get_or text from 0) ≡ false) → BeginsWord (reading_of negative) (line_text (drop start text)) behind r → ReadsWord (line_text (drop from text)) behind r
read_word text from start true behind r e minus other blank says =
    let is = minus refl in
    read_negative (line_text (drop from text)) (line_text (drop (from + 1) text)) (get_or text from 0) behind r
    (line_more text from is.0 (λ e. omega (arith, e, is.1)) (λ e. omega (arith, e, is.1))) is.1
    (subst (λ (n : ℕ). BeginsWord negative_word (line_text (drop n text)) behind r) e says)
read_word text from start false behind r e minus other blank says =
    read_unsigned (drop from text) behind r (first_behind (λ (b : ℕ). b ≢ 45) text from (other refl)) (first_behind (λ (b : ℕ). is_blank b ≡ false) text from blank)
    (subst (λ (n : ℕ). BeginsWord unsigned_word (line_text (drop n text)) behind r) e says)
