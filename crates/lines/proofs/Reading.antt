-- What is read of a line so far, and what follows.
use Rattle.std.proofs.Common.{◌≡◌, ◌⊎◌, inl, inr, false, get_or, ℕ, ◌+◌, ◌<◌, List, [], ◌∷◌, ◌++◌, length, take, Option, Some, None, ℤ, refl, sym, ap, ◌∙◌, arith, cond, slice_set, eqb, eq-eqb}
use Rattle.std.proofs.lemmas.List.{append_assoc, append-nil, length-append, length-take, take_all, take_more_set}
use Rattle.std.proofs.lemmas.Bool.{false_from_ne_true, eqb-true}
use Rattle.lines.specs.First.{first_part, after_part}
use Rattle.lines.specs.Grammar.{◌>>=◌, is_blank, onto_words, parts, word_of, words_in, of_width}
use Rattle.std.specs.Prelude.{IfNone}
use Rattle.lines.proofs.FirstWord.{begins}

-- the words of what is left, behind those that were read
abbrev pub behind : List ℤ → Option (List ℤ) → Option (List ℤ)
behind front o = o >>= λ ws. Some (front ++ ws)

-- the word goes behind those that were read
pub read_more : (into : List ℤ) (count : ℕ) (w : ℤ) (o : Option (List ℤ)) → count < length into
    → behind (take count into) (o >>= λ ws. Some (w ∷ ws)) ≡ behind (take (count + 1) (slice_set into count w)) o
read_more into count w None lt = refl
read_more into count w (Some ws) lt = ap Some (sym (append_assoc (take count into) (w ∷ []) ws) ∙ ap (λ (t : List ℤ). t ++ ws) (sym (take_more_set into count w lt)))

-- a list of another length
of_width-other : (n : ℕ) (ws : List ℤ) → (length ws ≡ n → ⊥) → of_width n ws ≡ None
of_width-other n ws ne = ap (λ b. cond b (Some ws) None) (false_from_ne_true (eqb (length ws) n) (λ t. ne (eqb-true (length ws) n t)))

-- more words than fit
pub too_many : (n : ℕ) (into : List ℤ) (w : ℤ) (o : Option (List ℤ)) → length into ≡ n → (behind (take n into) (o >>= λ ws. Some (w ∷ ws)) >>= of_width n) ≡ None
too_many n into w None e = refl
too_many n into w (Some ws) e = of_width-other n (take n into ++ w ∷ ws) (λ same. let long = length-append (take n into) (w ∷ ws) in let front : length (take n into) ≡ n = ap length (take_all n into (omega arith)) ∙ e in omega (arith, long, front, same))

-- fewer words than are wanted
pub too_few : (n count : ℕ) (into : List ℤ) → count < n → length into ≡ n → (behind (take count into) (Some []) >>= of_width n) ≡ None
too_few n count into lt e = of_width-other n (take count into ++ []) (λ same. let long = ap length (append-nil (take count into)) in let front = length-take count into in omega (arith, long, front, same))

of_width-same : (n : ℕ) (ws : List ℤ) → length ws ≡ n → of_width n ws ≡ Some ws
of_width-same n ws e = ap (λ b. cond b (Some ws) None) (eq-eqb (length ws) n e)

-- just as many
pub all_read : (n : ℕ) (into : List ℤ) → length into ≡ n → (behind (take n into) (Some []) >>= of_width n) ≡ Some into
all_read n into e = ap (of_width n) (append-nil (take n into) ∙ take_all n into (omega arith)) ∙ of_width-same n into e

-- a line that has a word more than fit
pub word_more : (n : ℕ) (into : List ℤ) (o : Option ℤ) (more : Option (List ℤ)) → length into ≡ n → (behind (take n into) (o >>= onto_words more) >>= of_width n) ≡ None
word_more n into None more e = refl
word_more n into (Some w) more e = too_many n into w more e

-- a line on which something follows its last word
pub goes_on : (n : ℕ) (into : List ℤ) (line : List ℕ) → 0 < length line → is_blank (get_or line 0 0) ≡ false → length into ≡ n → (behind (take n into) (words_in (parts line)) >>= of_width n) ≡ None
goes_on n into [] some h e = absurd (omega arith)
goes_on n into (b ∷ bs) some h e = ap (λ (o : Option (List ℤ)). behind (take n into) o >>= of_width n) (begins b bs h) ∙ word_more n into (word_of (b ∷ first_part bs)) (words_in (parts (after_part bs))) e

-- a line on which no further word stands
pub no_word : (n count : ℕ) (into : List ℤ) (line : List ℕ) → (line ≡ []) ⊎ (words_in (parts line) ≡ None) → count < n → length into ≡ n → (behind (take count into) (words_in (parts line)) >>= of_width n) ≡ None
no_word n count into line (inl e) lt same = ap (λ (t : List ℕ). behind (take count into) (words_in (parts t)) >>= of_width n) e ∙ too_few n count into lt same
no_word n count into line (inr e) lt same = ap (λ (o : Option (List ℤ)). behind (take count into) o >>= of_width n) e

pub if_none : {A : Type 0} (r : Option A) (P Q : Type 0) → (P → Q) → IfNone r P → IfNone r Q
if_none None P Q f h = f h
if_none (Some a) P Q f h = tt
