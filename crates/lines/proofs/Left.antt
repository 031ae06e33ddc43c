-- What the first line of what is left says of the lines that are left.
use Rattle.std.proofs.Common.{◌≡◌, ◌⊎◌, inl, inr, ℕ, suc, append_assoc, take-append-drop, drop-cons, ◌+◌, ◌<◌, ◌≤◌, Bool, true, false, cond, List, [], ◌∷◌, ◌++◌, length, take, drop, get_or, Option, Some, None, IfSome, ℤ, refl, sym, ap, ◌∙◌, subst, arith, add-one, leb}
use Rattle.std.specs.Option.{option_map}
use Rattle.std.proofs.lemmas.List.{append-nil, drop_all, length-take}
use Rattle.std.specs.Io.KnownBytes.{prepend_known, IsAtEnd}
use Rattle.std.proofs.lemmas.Bool.{le-leb, false_from_ne_true, leb-true}
use Rattle.lines.specs.Grammar.{words_of}
use Rattle.lines.specs.Lines.{RawLine, Lines, Line, Bad, End, lines_in, lines_from, line_words, onto_lines, without_return}
use Rattle.lines.specs.First.{RefusesLine}
use Rattle.lines.specs.Found.{NoFeedBelow, IsFirstFeed}
use Rattle.lines.proofs.Split.{line_at_feed, line_at_end, begins_long}

-- the lines of so many words in what is kept and what is left
abbrev pub left_of : ℕ → ℕ → List ℕ → Option (List ℕ) → Option Lines
left_of n width kept left = option_map (λ bytes. lines_from n width (lines_in bytes)) (prepend_known kept left)

not_more : (n m : ℕ) → m < n → leb n m ≡ false
not_more n m lt = false_from_ne_true (leb n m) (λ t. let h = leb-true n m t in omega arith)

-- a line that is well formed, and one that isn't
pub one_line : (n width : ℕ) (line : RawLine) (more : List RawLine) (ws : List ℤ) → line_words width line ≡ Some ws → n ≤ 1000000
    → lines_from n width (line ∷ more) ≡ Line ws (lines_from (n + 1) width more)
one_line n width line more ws is le =
    ap (λ o. onto_lines n o (lines_from (n + 1) width more)) is ∙ ap (λ b. cond b (Line ws (lines_from (n + 1) width more)) (Bad n)) (le-leb n 1000000 le)

bad_by : (n : ℕ) (o : Option (List ℤ)) (rest : Lines) → (o ≡ None) ⊎ (1000000 < n) → onto_lines n o rest ≡ Bad n
bad_by n None rest why = refl
bad_by n (Some ws) rest (inl none) = cc
bad_by n (Some ws) rest (inr over) = ap (λ b. cond b (Line ws rest) (Bad n)) (not_more n 1000000 over)

pub bad_line : (n width : ℕ) (line : RawLine) (more : List RawLine) → (line_words width line ≡ None) ⊎ (1000000 < n) → lines_from n width (line ∷ more) ≡ Bad n
bad_line n width line more why = bad_by n (line_words width line) (lines_from (n + 1) width more) why

-- a line of at most 65,536 bytes has the words of its text
pub short_line : (width : ℕ) (line : RawLine) (o : Option (List ℤ)) → length line.bytes ≤ 65536 → words_of width (cond line.feed (without_return line.bytes) line.bytes) ≡ o → line_words width line ≡ o
short_line width line o le is = ap (λ b. cond b (words_of width (cond line.feed (without_return line.bytes) line.bytes)) None) (le-leb (length line.bytes) 65536 le) ∙ is

pub long_line : (width : ℕ) (line : RawLine) → 65536 < length line.bytes → line_words width line ≡ None
long_line width line lt = ap (λ b. cond b (words_of width (cond line.feed (without_return line.bytes) line.bytes)) None) (not_more (length line.bytes) 65536 lt)

-- the line that a line feed at a place ends, and the one that the end of the text ends
abbrev pub fed : List ℕ → ℕ → RawLine
fed kept place = record { bytes = take place kept; feed = true }

abbrev pub unfed : List ℕ → RawLine
unfed kept = record { bytes = kept; feed = false }

pub fed_words : (width place : ℕ) (kept : List ℕ) (o : Option (List ℤ)) → place ≤ 65536 → words_of width (without_return (take place kept)) ≡ o → line_words width (fed kept place) ≡ o
fed_words width place kept o le is = let short = length-take place kept in short_line width (fed kept place) o (omega arith) is

pub unfed_words : (width : ℕ) (kept : List ℕ) (o : Option (List ℤ)) → length kept ≤ 65536 → words_of width kept ≡ o → line_words width (unfed kept) ≡ o
unfed_words width kept o le is = short_line width (unfed kept) o le is

-- where a line feed ends the first line
fed_lines : (n width place : ℕ) (kept rest : List ℕ) → place < length kept → NoFeedBelow place kept → get_or kept place 0 ≡ 10
    → lines_from n width (lines_in (kept ++ rest)) ≡ lines_from n width (fed kept place ∷ lines_in (drop (place + 1) kept ++ rest))
fed_lines n width place kept rest lt none here =
    ap (lines_from n width) (line_at_feed place kept rest lt none here)
    ∙ ap (λ k. lines_from n width (fed kept place ∷ lines_in (drop k kept ++ rest))) (sym (add-one place))

pub fed_line : (n width place : ℕ) (kept : List ℕ) (left : Option (List ℕ)) (ws : List ℤ) → place < length kept → NoFeedBelow place kept → get_or kept place 0 ≡ 10
    → line_words width (fed kept place) ≡ Some ws → n ≤ 1000000
    → left_of n width kept left ≡ option_map (Line ws) (left_of (n + 1) width (drop (place + 1) kept) left)
fed_line n width place kept None ws lt none here is le = refl
fed_line n width place kept (Some rest) ws lt none here is le = ap Some (fed_lines n width place kept rest lt none here ∙ one_line n width (fed kept place) (lines_in (drop (place + 1) kept ++ rest)) ws is le)

pub fed_bad : (n width place : ℕ) (kept : List ℕ) (left : Option (List ℕ)) → place < length kept → NoFeedBelow place kept → get_or kept place 0 ≡ 10
    → (line_words width (fed kept place) ≡ None) ⊎ (1000000 < n) → IfSome (left_of n width kept left) (λ lines. lines ≡ Bad n)
fed_bad n width place kept None lt none here why = tt
fed_bad n width place kept (Some rest) lt none here why = fed_lines n width place kept rest lt none here ∙ bad_line n width (fed kept place) (lines_in (drop (place + 1) kept ++ rest)) why

-- where the end of the text ends it
unfed_lines : (n width : ℕ) (kept rest : List ℕ) → 0 < length kept → NoFeedBelow (length kept) kept → rest ≡ [] → lines_from n width (lines_in (kept ++ rest)) ≡ lines_from n width (unfed kept ∷ [])
unfed_lines n width kept rest some none e = ap (λ (r : List ℕ). lines_from n width (lines_in (kept ++ r))) e ∙ ap (λ (t : List ℕ). lines_from n width (lines_in t)) (append-nil kept) ∙ ap (lines_from n width) (line_at_end kept some none)

pub unfed_line : (n width : ℕ) (kept : List ℕ) (left : Option (List ℕ)) (ws : List ℤ) → 0 < length kept → NoFeedBelow (length kept) kept → IsAtEnd left
    → line_words width (unfed kept) ≡ Some ws → n ≤ 1000000
    → left_of n width kept left ≡ option_map (Line ws) (left_of (n + 1) width (drop (length kept) kept) left)
unfed_line n width kept None ws some none end is le = refl
unfed_line n width kept (Some rest) ws some none end is le =
    let nothing : drop (length kept) kept ++ rest ≡ [] = ap (λ (t : List ℕ). t ++ rest) (drop_all (length kept) kept (omega arith)) ∙ end in
    ap Some (unfed_lines n width kept rest some none end ∙ one_line n width (unfed kept) [] ws is le ∙ ap (λ (t : List ℕ). Line ws (lines_from (n + 1) width (lines_in t))) (sym nothing))

pub unfed_bad : (n width : ℕ) (kept : List ℕ) (left : Option (List ℕ)) → 0 < length kept → NoFeedBelow (length kept) kept → IsAtEnd left
    → (line_words width (unfed kept) ≡ None) ⊎ (1000000 < n) → IfSome (left_of n width kept left) (λ lines. lines ≡ Bad n)
unfed_bad n width kept None some none end why = tt
unfed_bad n width kept (Some rest) some none end why = unfed_lines n width kept rest some none end ∙ bad_line n width (unfed kept) [] why

-- where nothing is left
pub nothing_left : (n width : ℕ) (kept : List ℕ) (left : Option (List ℕ)) → kept ≡ [] → IsAtEnd left → IfSome (left_of n width kept left) (λ lines. lines ≡ End)
nothing_left n width kept None e end = tt
nothing_left n width kept (Some rest) e end = ap (λ (t : List ℕ). lines_from n width (lines_in (t ++ rest))) e ∙ ap (λ (t : List ℕ). lines_from n width (lines_in t)) end

-- where the first line is too long
pub too_long : (n width m : ℕ) (kept : List ℕ) (left : Option (List ℕ)) → 65536 < m → m ≤ length kept → NoFeedBelow m kept → IfSome (left_of n width kept left) (λ lines. lines ≡ Bad n)
too_long n width m kept None over le none = tt
too_long n width m kept (Some rest) over le none =
    let r = begins_long m kept rest (omega arith) le none in
    let long = r.long in
    ap (lines_from n width) r.is ∙ bad_line n width r.line r.others (inl (long_line width r.line (omega arith)))

-- The answers of a reader of lines. What it kept and what its source has left are the same bytes as before.
pub was_left : (n width : ℕ) (was kept : List ℕ) (old left : Option (List ℕ)) → prepend_known kept left ≡ prepend_known was old → left_of n width was old ≡ left_of n width kept left
was_left n width was kept old left same = ap (option_map (λ bytes. lines_from n width (lines_in bytes))) (sym same)

-- one more line than before
one_more : (n m width : ℕ) (ws : List ℤ) (rest used : List ℕ) (left : Option (List ℕ)) → m ≡ n → rest ≡ used → option_map (Line ws) (left_of (n + 1) width used left) ≡ option_map (Line ws) (left_of (m + 1) width rest left)
one_more n m width ws rest used left em er = ap (λ (k : ℕ). option_map (Line ws) (left_of (k + 1) width used left)) (sym em) ∙ ap (λ (t : List ℕ). option_map (Line ws) (left_of (m + 1) width t left)) (sym er)

pub fed_next : (n m width place : ℕ) (was kept rest text : List ℕ) (old left : Option (List ℕ)) (ws : List ℤ) → prepend_known kept left ≡ prepend_known was old
    → IsFirstFeed place kept → place ≤ 65536 → text ≡ without_return (take place kept) → words_of width text ≡ Some ws → n ≤ 1000000 → m ≡ n → rest ≡ drop (place + 1) kept
    → left_of n width was old ≡ option_map (Line ws) (left_of (m + 1) width rest left)
fed_next n m width place was kept rest text old left ws same first short is words few em er =
    was_left n width was kept old left same
    ∙ fed_line n width place kept left ws first.within first.before first.here (fed_words width place kept (Some ws) short (ap (words_of width) (sym is) ∙ words)) few
    ∙ one_more n m width ws rest (drop (place + 1) kept) left em er

pub unfed_next : (n m width : ℕ) (was kept rest : List ℕ) (old left : Option (List ℕ)) (ws : List ℤ) → prepend_known kept left ≡ prepend_known was old
    → 0 < length kept → NoFeedBelow (length kept) kept → length kept ≤ 65536 → IsAtEnd left → words_of width kept ≡ Some ws → n ≤ 1000000 → m ≡ n → rest ≡ drop (length kept) kept
    → left_of n width was old ≡ option_map (Line ws) (left_of (m + 1) width rest left)
unfed_next n m width was kept rest old left ws same some none short end words few em er =
    was_left n width was kept old left same
    ∙ unfed_line n width kept left ws some none end (unfed_words width kept (Some ws) short words) few
    ∙ one_more n m width ws rest (drop (length kept) kept) left em er

-- a line that is bad by its words or by its number
words_bad : (b : Bool) (n : ℕ) (o : Option (List ℤ)) → (b ≡ false → o ≡ None) → (b ≡ false) ⊎ (1000000 < n) → (o ≡ None) ⊎ (1000000 < n)
words_bad b n o none (inl bad) = inl (none bad)
words_bad b n o none (inr over) = inr over

pub fed_refused : (b : Bool) (n m width place : ℕ) (was kept text : List ℕ) (old left : Option (List ℕ)) → prepend_known kept left ≡ prepend_known was old
    → IsFirstFeed place kept → place ≤ 65536 → text ≡ without_return (take place kept) → (b ≡ false → words_of width text ≡ None) → n ≡ m → (b ≡ false) ⊎ (1000000 < n)
    → IfSome (left_of m width was old) (λ lines. lines ≡ Bad n)
fed_refused b n m width place was kept text old left same first short is none e why =
    let line : b ≡ false → line_words width (fed kept place) ≡ None = λ bad. fed_words width place kept None short (ap (words_of width) (sym is) ∙ none bad) in
    subst (λ (k : ℕ). IfSome (left_of k width was old) (λ lines. lines ≡ Bad n)) e
    (subst (λ (o : Option Lines). IfSome o (λ lines. lines ≡ Bad n)) (sym (was_left n width was kept old left same))
    (fed_bad n width place kept left first.within first.before first.here (words_bad b n (line_words width (fed kept place)) line why)))

pub unfed_refused : (b : Bool) (n m width : ℕ) (was kept : List ℕ) (old left : Option (List ℕ)) → prepend_known kept left ≡ prepend_known was old
    → 0 < length kept → NoFeedBelow (length kept) kept → length kept ≤ 65536 → IsAtEnd left → (b ≡ false → words_of width kept ≡ None) → n ≡ m → (b ≡ false) ⊎ (1000000 < n)
    → IfSome (left_of m width was old) (λ lines. lines ≡ Bad n)
unfed_refused b n m width was kept old left same some no_feed short end none e why =
    let line : b ≡ false → line_words width (unfed kept) ≡ None = λ bad. unfed_words width kept None short (none bad) in
    subst (λ (k : ℕ). IfSome (left_of k width was old) (λ lines. lines ≡ Bad n)) e
    (subst (λ (o : Option Lines). IfSome o (λ lines. lines ≡ Bad n)) (sym (was_left n width was kept old left same))
    (unfed_bad n width kept left some no_feed end (words_bad b n (line_words width (unfed kept)) line why)))

pub long_refused : (n m width : ℕ) (was kept : List ℕ) (old left : Option (List ℕ)) → prepend_known kept left ≡ prepend_known was old
    → (k : ℕ) × (65536 < k) × (k ≤ length kept) × NoFeedBelow k kept → n ≡ m → IfSome (left_of n width was old) (λ lines. lines ≡ Bad m)
long_refused n m width was kept old left same long e =
    subst (λ (k : ℕ). IfSome (left_of n width was old) (λ lines. lines ≡ Bad k)) e
    (subst (λ (o : Option Lines). IfSome o (λ lines. lines ≡ Bad n)) (sym (was_left n width was kept old left same))
    (too_long n width long.0 kept left long.1 long.2 long.3))

-- where the first line is refused
pub fed_refuses : (n m width : ℕ) (was kept : List ℕ) (old left : Option (List ℕ)) → prepend_known kept left ≡ prepend_known was old → RefusesLine kept width n false → n ≡ m
    → IfSome (left_of m width was old) (λ lines. lines ≡ Bad n)
fed_refuses n m width was kept old left same refused e = go (grind arith) refused.2 where
  go : (65536 < refused.0) ⊎ (refused.0 ≤ 65536) → (65536 < refused.0) ⊎ ((words_of width (without_return (take refused.0 kept)) ≡ None) ⊎ (1000000 < n)) → IfSome (left_of m width was old) (λ lines. lines ≡ Bad n)
  go (inl long) why = let within = refused.1.within in long_refused m n width was kept old left same (refused.0, long, omega (arith, within), refused.1.before) (sym e)
  go (inr short) (inl long) = absurd (omega (arith, short, long))
  go (inr short) (inr (inl words)) = fed_refused false n m width refused.0 was kept (without_return (take refused.0 kept)) old left same refused.1 short refl (λ _. words) e (inl refl)
  go (inr short) (inr (inr over)) = fed_refused true n m width refused.0 was kept (without_return (take refused.0 kept)) old left same refused.1 short refl (λ bad. absurd (cc (bad))) e (inr over)

pub unfed_refuses : (n m width : ℕ) (was kept : List ℕ) (old left : Option (List ℕ)) → prepend_known kept left ≡ prepend_known was old → 0 < length kept → NoFeedBelow (length kept) kept → length kept ≤ 65536 → IsAtEnd left
    → RefusesLine kept width n true → n ≡ m → IfSome (left_of m width was old) (λ lines. lines ≡ Bad n)
unfed_refuses n m width was kept old left same some none short end (inl words) e = unfed_refused false n m width was kept old left same some none short end (λ _. words) e (inl refl)
unfed_refuses n m width was kept old left same some none short end (inr over) e = unfed_refused true n m width was kept old left same some none short end (λ bad. absurd (cc (bad))) e (inr over)

-- what a test on the length says
pub some_kept : (tested kept : List ℕ) → tested ≡ kept → (length tested ≡ 0 → ⊥) → 0 < length kept
some_kept [] kept e test = absurd (test refl)
some_kept (b ∷ bs) kept e test = let long = ap length (sym e) in omega (arith, long)

-- the bytes of the line that a line feed ends, and what follows it
fed_bytes : (place : ℕ) (kept : List ℕ) → place < length kept → get_or kept place 0 ≡ 10 → (take place kept ++ 10 ∷ []) ++ drop (place + 1) kept ≡ kept
fed_bytes place kept lt here =
    append_assoc (take place kept) (10 ∷ []) (drop (place + 1) kept)
    ∙ ap (λ (t : List ℕ). take place kept ++ t) (ap (λ (n : ℕ). 10 ∷ drop n kept) (add-one place) ∙ ap (λ (b : ℕ). b ∷ drop (suc place) kept) (sym here) ∙ sym (drop-cons kept place 0 lt))
    ∙ take-append-drop place kept

pub fed_reads : (place : ℕ) (was kept rest : List ℕ) (old left : Option (List ℕ)) → prepend_known kept left ≡ prepend_known was old → place < length kept → get_or kept place 0 ≡ 10 → rest ≡ drop (place + 1) kept
    → prepend_known was old ≡ prepend_known (take place kept ++ 10 ∷ []) (prepend_known rest left)
fed_reads place was kept rest old None same lt here used = sym same
fed_reads place was kept rest old (Some more) same lt here used = sym same
    ∙ ap Some (ap (λ (t : List ℕ). t ++ more) (sym (fed_bytes place kept lt here)) ∙ append_assoc (take place kept ++ 10 ∷ []) (drop (place + 1) kept) more
    ∙ ap (λ (t : List ℕ). (take place kept ++ 10 ∷ []) ++ (t ++ more)) (sym used))

-- and of the line that the end of the text ends
pub unfed_reads : (was kept rest : List ℕ) (old left : Option (List ℕ)) → prepend_known kept left ≡ prepend_known was old → rest ≡ drop (length kept) kept
    → prepend_known was old ≡ prepend_known kept (prepend_known rest left)
unfed_reads was kept rest old None same used = sym same
unfed_reads was kept rest old (Some more) same used = sym same
    ∙ ap Some (ap (λ (t : List ℕ). kept ++ (t ++ more)) (sym (used ∙ drop_all (length kept) kept (omega arith))))
