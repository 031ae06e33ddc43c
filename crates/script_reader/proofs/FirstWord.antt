-- The first word of a text.
use Rattle.std.proofs.Common.{◌≡◌, ℕ, zero, suc, ◌+◌, ◌<◌, ◌≤◌, Bool, true, false, cond, List, [], ◌∷◌, length, get_or, take, drop, refl, sym, ap, subst, ◌∙◌, arith}
use Rattle.std.proofs.Math.Seq.{drop-length}
use Rattle.std.proofs.lemmas.List.{length-drop}
use Rattle.std.specs.List.{onto_first}
use Rattle.lines.specs.Grammar.{is_blank, parts}
use Rattle.script_reader.specs.Words.{with_bytes, words_between}

blank_words : (b : ℕ) (bs : List ℕ) → is_blank b ≡ true → words_between (b ∷ bs) ≡ words_between bs
blank_words b bs e = ap (λ (t : Bool). with_bytes (cond t ([] ∷ parts bs) (onto_first b (parts bs)))) e

-- blanks at the front add no word
pub blanks_more : (n : ℕ) (text : List ℕ) → n ≤ length text → ((k : ℕ) → k < n → is_blank (get_or text k 0) ≡ true) → words_between text ≡ words_between (drop n text)
blanks_more zero [] le all = refl
blanks_more zero (b ∷ bs) le all = refl
blanks_more (suc n) [] le all = absurd (omega arith)
blanks_more (suc n) (b ∷ bs) le all = blank_words b bs (all 0 (omega arith)) ∙ blanks_more n bs (omega arith) (λ k lt. all (suc k) (omega arith))

-- the parts behind the first, by the text behind its end
abbrev behind_part : List ℕ → List (List ℕ)
behind_part [] = []
behind_part (b ∷ bs) = parts bs

byte_part : (b : ℕ) (bs : List ℕ) → is_blank b ≡ false → parts (b ∷ bs) ≡ onto_first b (parts bs)
byte_part b bs e = ap (λ (t : Bool). cond t ([] ∷ parts bs) (onto_first b (parts bs))) e

blank_part : (b : ℕ) (bs : List ℕ) → is_blank b ≡ true → parts (b ∷ bs) ≡ [] ∷ parts bs
blank_part b bs e = ap (λ (t : Bool). cond t ([] ∷ parts bs) (onto_first b (parts bs))) e

first_part : (n : ℕ) (text : List ℕ) → suc n ≤ length text → ((k : ℕ) → k < suc n → is_blank (get_or text k 0) ≡ false)
    → (suc n < length text → is_blank (get_or text (suc n) 0) ≡ true) → parts text ≡ take (suc n) text ∷ behind_part (drop (suc n) text)
first_part n [] le none ends = absurd (omega arith)
first_part zero (b ∷ []) le none ends = byte_part b [] (none 0 (omega arith))
first_part zero (b ∷ c ∷ cs) le none ends = byte_part b (c ∷ cs) (none 0 (omega arith)) ∙ ap (onto_first b) (blank_part c cs (ends (omega arith)))
first_part (suc n) (b ∷ bs) le none ends =
    byte_part b bs (none 0 (omega arith))
    ∙ ap (onto_first b) (first_part n bs (omega arith) (λ k lt. none (suc k) (omega arith)) (λ lt. ends (omega arith)))

behind_words : (rest : List ℕ) → (0 < length rest → is_blank (get_or rest 0 0) ≡ true) → with_bytes (behind_part rest) ≡ words_between rest
behind_words [] blank = refl
behind_words (b ∷ bs) blank = sym (blank_words b bs (blank (omega arith)))

taken : (n : ℕ) (text : List ℕ) (rest : List (List ℕ)) → suc n ≤ length text → with_bytes (take (suc n) text ∷ rest) ≡ take (suc n) text ∷ with_bytes rest
taken n [] rest le = absurd (omega arith)
taken n (b ∷ bs) rest le = refl

ends_at : (n : ℕ) (text : List ℕ) → (n < length text → is_blank (get_or text n 0) ≡ true) → 0 < length (drop n text) → is_blank (get_or (drop n text) 0 0) ≡ true
ends_at zero [] ends some = absurd (omega arith)
ends_at zero (b ∷ bs) ends some = ends (omega arith)
ends_at (suc n) [] ends some = absurd (omega arith)
ends_at (suc n) (b ∷ bs) ends some = ends_at n bs (λ lt. ends (omega arith)) some

-- bytes up to the first blank are the first word
word_more : (n : ℕ) (text : List ℕ) → suc n ≤ length text → ((k : ℕ) → k < suc n → is_blank (get_or text k 0) ≡ false)
    → (suc n < length text → is_blank (get_or text (suc n) 0) ≡ true) → words_between text ≡ take (suc n) text ∷ words_between (drop (suc n) text)
word_more n text le none ends =
    ap with_bytes (first_part n text le none ends)
    ∙ taken n text (behind_part (drop (suc n) text)) le
    ∙ ap (λ (ws : List (List ℕ)). take (suc n) text ∷ ws) (behind_words (drop (suc n) text) (ends_at (suc n) text ends))

pub first_taken : (n : ℕ) (text : List ℕ) → n ≤ length text → 0 < length text → (0 < length text → is_blank (get_or text 0 0) ≡ false) → ((k : ℕ) → k < n → is_blank (get_or text k 0) ≡ false)
    → (n < length text → is_blank (get_or text n 0) ≡ true) → words_between text ≡ take n text ∷ words_between (drop n text)
first_taken zero text le some begins none ends = absurd (cc (begins some, ends some))
first_taken (suc n) text le some begins none ends = word_more n text le none ends

-- what holds of the byte at a place, where one stands there, holds of the first behind that place
pub begins_at : (n : ℕ) (text : List ℕ) → (n < length text → is_blank (get_or text n 0) ≡ false) → 0 < length (drop n text) → is_blank (get_or (drop n text) 0 0) ≡ false
begins_at zero [] ends some = absurd (omega arith)
begins_at zero (b ∷ bs) ends some = ends (omega arith)
begins_at (suc n) [] ends some = absurd (omega arith)
begins_at (suc n) (b ∷ bs) ends some = begins_at n bs (λ lt. ends (omega arith)) some

-- a text of blanks has no word
pub none_left : (start : ℕ) (text : List ℕ) → start ≤ length text → ((k : ℕ) → k < start → is_blank (get_or text k 0) ≡ true) → start ≡ length text → words_between text ≡ []
none_left start text le all past =
    blanks_more start text le all ∙ ap (λ (n : ℕ). words_between (drop n text)) past ∙ ap words_between (drop-length text)

-- behind the blanks stands the first word
pub first_behind : (start n : ℕ) (text rest : List ℕ) → start ≤ length text → (start ≡ length text → ⊥) → ((k : ℕ) → k < start → is_blank (get_or text k 0) ≡ true) → (start < length text → is_blank (get_or text start 0) ≡ false)
    → rest ≡ drop start text → n ≤ length rest → ((k : ℕ) → k < n → is_blank (get_or rest k 0) ≡ false) → (n < length rest → is_blank (get_or rest n 0) ≡ true) → words_between text ≡ take n rest ∷ words_between (drop n rest)
first_behind start n text rest le before all begins same within none ends =
    let long : 0 < length rest = omega (arith, length-drop start text, ap length same) in
    blanks_more start text le all
    ∙ ap words_between (sym same)
    ∙ first_taken n rest within long (λ some. subst (λ (t : List ℕ). is_blank (get_or t 0 0) ≡ false) (sym same) (begins_at start text begins (omega (arith, some, ap length same)))) none ends
