-- The first line of a text.
use Rattle.std.proofs.Common.{◌≡◌, ℕ, zero, suc, ◌<◌, ◌≤◌, true, false, cond, List, [], ◌∷◌, ◌++◌, length, take, drop, get_or, refl, ap, ◌∙◌, arith, eqb, eq-eqb}
use Rattle.std.proofs.lemmas.Bool.{false_from_ne_true, eqb-true}
use Rattle.lines.specs.Lines.{RawLine, lines_in, onto_line, fed_lines}
use Rattle.lines.specs.Found.{NoFeedBelow, HoldsFeed}

-- a byte that is a line feed, and one that isn't
at_feed : (b : ℕ) (bs : List ℕ) → b ≡ 10 → lines_in (b ∷ bs) ≡ (record { bytes = []; feed = true }) ∷ lines_in bs
at_feed b bs e = ap (λ t. cond t ((record { bytes = []; feed = true }) ∷ lines_in bs) (onto_line b (lines_in bs))) (eq-eqb b 10 e)

at_other : (b : ℕ) (bs : List ℕ) → (b ≡ 10 → ⊥) → lines_in (b ∷ bs) ≡ onto_line b (lines_in bs)
at_other b bs ne = ap (λ t. cond t ((record { bytes = []; feed = true }) ∷ lines_in bs) (onto_line b (lines_in bs))) (false_from_ne_true (eqb b 10) (λ t. ne (eqb-true b 10 t)))

below_tail : (n b : ℕ) (bs : List ℕ) → NoFeedBelow (suc n) (b ∷ bs) → NoFeedBelow n bs
below_tail n b bs none = λ k lt. none (suc k) (omega arith)

-- the line that the first line feed ends, whatever follows
pub line_at_feed : (n : ℕ) (kept rest : List ℕ) → n < length kept → NoFeedBelow n kept → get_or kept n 0 ≡ 10
    → lines_in (kept ++ rest) ≡ (record { bytes = take n kept; feed = true }) ∷ lines_in (drop (suc n) kept ++ rest)
line_at_feed n [] rest lt none here = absurd (omega arith)
line_at_feed zero (b ∷ bs) rest lt none here = at_feed b (bs ++ rest) here
line_at_feed (suc n) (b ∷ bs) rest lt none here =
    at_other b (bs ++ rest) (none 0 (omega arith)) ∙ ap (onto_line b) (line_at_feed n bs rest (omega arith) (below_tail n b bs none) here)

-- the line that the end of the text ends
pub line_at_end : (kept : List ℕ) → 0 < length kept → NoFeedBelow (length kept) kept → lines_in kept ≡ (record { bytes = kept; feed = false }) ∷ []
line_at_end [] some none = absurd (omega arith)
line_at_end (b ∷ []) some none = at_other b [] (none 0 (omega arith))
line_at_end (b ∷ c ∷ bs) some none =
    at_other b (c ∷ bs) (none 0 (omega arith)) ∙ ap (onto_line b) (line_at_end (c ∷ bs) (omega arith) (below_tail (length (c ∷ bs)) b (c ∷ bs) none))

-- a text that begins with so many bytes of which none is a line feed begins with a line of at least as many
pub record BeginsLong (n : ℕ) (text : List ℕ) : Type 0 where
  pub line : RawLine
  pub others : List RawLine
  pub is : lines_in text ≡ line ∷ others
  pub long : n ≤ length line.bytes

longer : (n b : ℕ) (bs : List ℕ) → (b ≡ 10 → ⊥) → BeginsLong n bs → BeginsLong (suc n) (b ∷ bs)
longer n b bs ne r = record {
  line = record { bytes = b ∷ r.line.bytes; feed = r.line.feed };
  others = r.others;
  is = at_other b bs ne ∙ ap (onto_line b) r.is;
  long = let h = r.long in omega arith;
}

only_one : (b : ℕ) (bs : List ℕ) (ls : List RawLine) → (b ≡ 10 → ⊥) → lines_in bs ≡ ls → BeginsLong 1 (b ∷ bs)
only_one b bs [] ne e = record { line = record { bytes = b ∷ []; feed = false }; others = []; is = at_other b bs ne ∙ ap (onto_line b) e; long = omega arith }
only_one b bs (l ∷ ls) ne e = record { line = record { bytes = b ∷ l.bytes; feed = l.feed }; others = ls; is = at_other b bs ne ∙ ap (onto_line b) e; long = omega arith }

pub begins_long : (n : ℕ) (kept rest : List ℕ) → 0 < n → n ≤ length kept → NoFeedBelow n kept → BeginsLong n (kept ++ rest)
begins_long n [] rest some le none = absurd (omega arith)
begins_long zero (b ∷ bs) rest some le none = absurd (omega arith)
begins_long (suc zero) (b ∷ bs) rest some le none = only_one b (bs ++ rest) _ (none 0 (omega arith)) refl
begins_long (suc (suc n)) (b ∷ bs) rest some le none =
    longer (suc n) b (bs ++ rest) (none 0 (omega arith)) (begins_long (suc n) bs rest (omega arith) (omega arith) (below_tail (suc n) b bs none))

-- bytes without a line feed, a line feed and a text
pub line_then_feed : (bytes more : List ℕ) → NoFeedBelow (length bytes) bytes → lines_in (bytes ++ 10 ∷ more) ≡ (record { bytes = bytes; feed = true }) ∷ lines_in more
line_then_feed [] more none = at_feed 10 more refl
line_then_feed (b ∷ bs) more none =
    at_other b (bs ++ 10 ∷ more) (none 0 (omega arith)) ∙ ap (onto_line b) (line_then_feed bs more (below_tail (length bs) b bs none))

-- no line feed ends a line of bytes without one
pub no_line_fed : (bytes : List ℕ) → (HoldsFeed bytes → ⊥) → fed_lines (lines_in bytes) ≡ []
no_line_fed [] none = refl
no_line_fed (b ∷ bs) none = ap fed_lines (line_at_end (b ∷ bs) (omega arith) (λ k lt here. none (k, lt, here)))
