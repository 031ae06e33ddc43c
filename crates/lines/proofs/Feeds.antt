-- Where line feeds stand.
use Rattle.std.proofs.Common.{◌≡◌, Bool, refl, ℕ, zero, suc, ◌+◌, ◌-◌, ◌<◌, ◌≤◌, List, [], ◌∷◌, length, take, drop, get_or, Option, Some, None, MatchOption, sym, ap, ◌∙◌, arith, ◌⊎◌, inl, inr, eq-eqb, true, false, cond, ◌&&◌, eqb}
use Rattle.std.proofs.lemmas.List.{get_or-drop, get_or-take, length-drop, length-take}
use Rattle.std.proofs.lemmas.Bool.{eqb-true, false_from_ne_true}
use Rattle.memchr.specs.Find.{IsLastByte, is_byte}
use Rattle.lines.specs.First.{at_feed, line_text}
use Rattle.lines.specs.Found.{NoFeedBelow, IsFirstFeed, IsWhole, HoldsFeed}
use Rattle.lines.specs.Lines.{without_return}

-- a byte at or behind those that were searched
behind : (searched k : ℕ) (kept : List ℕ) → searched ≤ k → get_or (drop searched kept) (k - searched) 0 ≡ get_or kept k 0
behind searched k kept le = let same : searched + (k - searched) ≡ k = omega arith in get_or-drop searched kept (k - searched) 0 ∙ ap (λ n. get_or kept n 0) same

by_side : (searched m k : ℕ) (kept : List ℕ) → NoFeedBelow searched kept → ((j : ℕ) → m ≤ j → j < length (drop searched kept) → get_or (drop searched kept) j 0 ≡ 10 → ⊥)
    → (searched + m ≤ k) ⊎ (m ≡ 0) → k < length kept → get_or kept k 0 ≡ 10 → (k < searched) ⊎ (searched ≤ k) → ⊥
by_side searched m k kept before after le lt here (inl low) = before k low here
by_side searched m k kept before after le lt here (inr high) = let long = length-drop searched kept in after (k - searched) (grind arith) (omega (arith, long)) (behind searched k kept high ∙ here)

-- what the search behind those that were searched says
pub last_says : (searched : ℕ) (kept : List ℕ) (r : Option ℕ) → searched ≤ length kept → NoFeedBelow searched kept → IsLastByte (is_byte 10) (drop searched kept) r
    → MatchOption r (IsWhole 0 kept) (λ n. IsWhole (searched + n + 1) kept)
last_says searched kept None le before says = record {
  within = omega arith;
  none = λ k low lt here. by_side searched 0 k kept before (λ j low lt here. says j (omega arith) lt (eq-eqb _ 10 here)) (inr refl) lt here (grind arith);
  here = λ some. absurd (omega arith);
}
last_says searched kept (Some n) le before says =
    let long = length-drop searched kept in
    let high = says.0.high in
    let same : searched + n + 1 - 1 ≡ searched + n = omega arith in
    record {
      within = omega (arith, long, high);
      none = λ k low lt here. by_side searched (n + 1) k kept before (λ j low lt here. says.0.after j low lt (eq-eqb _ 10 here)) (inl (omega arith)) lt here (grind arith);
      here = λ some. ap (λ (k : ℕ). get_or kept k 0) same ∙ sym (get_or-drop searched kept n 0) ∙ eqb-true _ 10 says.1;
    }

-- what is so of the bytes behind those that are used up
pub whole_used : (whole taken : ℕ) (kept : List ℕ) → IsWhole whole kept → taken ≤ length kept → IsWhole (whole - taken) (drop taken kept)
whole_used whole taken kept is le =
    let long = length-drop taken kept in
    let within = is.within in
    record {
      within = omega (arith, long, within);
      none = λ k low lt here. is.none (taken + k) (omega arith) (omega (arith, long)) (sym (get_or-drop taken kept k 0) ∙ here);
      here = λ some. let same : taken + (whole - taken - 1) ≡ whole - 1 = omega arith in get_or-drop taken kept (whole - taken - 1) 0 ∙ ap (λ (k : ℕ). get_or kept k 0) same ∙ is.here (omega arith);
    }

-- a line feed is kept exactly where some bytes stand up to the last one
pub whole_holds : (whole : ℕ) (kept : List ℕ) → IsWhole whole kept → 0 < whole → HoldsFeed kept
whole_holds whole kept is some = let within = is.within in (whole - 1, omega (arith, within, some), is.here some)

pub none_whole : (whole : ℕ) (kept : List ℕ) → IsWhole whole kept → whole ≡ 0 → NoFeedBelow (length kept) kept
none_whole whole kept is e k lt here = is.none k (omega (arith, e)) lt here

pub holds_none : (bytes : List ℕ) → NoFeedBelow (length bytes) bytes → HoldsFeed bytes → ⊥
holds_none bytes none holds = none holds.0 holds.1 holds.2

pub holds_whole : (whole : ℕ) (kept : List ℕ) → IsWhole whole kept → HoldsFeed kept → 0 < whole
holds_whole whole kept is holds = some (grind arith) where
  some : (whole ≡ 0) ⊎ (0 < whole) → 0 < whole
  some (inl e) = absurd (holds_none kept (none_whole whole kept is e) holds)
  some (inr lt) = lt

pub still_none : (kept more : List ℕ) → take (length kept) more ≡ kept → NoFeedBelow (length kept) kept → NoFeedBelow (length kept) more
still_none kept more same none k lt here = none k lt (ap (λ (t : List ℕ). get_or t k 0) (sym same) ∙ get_or-take (length kept) more k 0 lt ∙ here)

pub none_is_whole : (kept : List ℕ) → NoFeedBelow (length kept) kept → IsWhole 0 kept
none_is_whole kept none = record { within = omega arith; none = λ k low lt here. none k lt here; here = λ some. absurd (omega arith) }

onto_before : (n b : ℕ) (bs : List ℕ) → (b ≡ 10 → ⊥) → NoFeedBelow n bs → NoFeedBelow (suc n) (b ∷ bs)
onto_before n b bs ne none zero lt here = ne here
onto_before n b bs ne none (suc k) lt here = none k (omega arith) here

-- where a line feed stands, a first one stands
pub first_feed : (bytes : List ℕ) (k : ℕ) → k < length bytes → get_or bytes k 0 ≡ 10 → (n : ℕ) × IsFirstFeed n bytes
first_feed [] k lt here = absurd (omega (arith, lt))
first_feed (b ∷ bs) zero lt here = (0, record { within = omega arith; before = λ k lt. absurd (omega arith); here = here })
first_feed (b ∷ bs) (suc j) lt here = go (eqb b 10) refl (first_feed bs j (omega arith) here) where
  go : (t : Bool) → eqb b 10 ≡ t → (n : ℕ) × IsFirstFeed n bs → (n : ℕ) × IsFirstFeed n (b ∷ bs)
  go true e rest = (0, record { within = omega arith; before = λ k lt. absurd (omega arith); here = eqb-true b 10 e })
  go false e rest =
      let within = rest.1.within in
      (suc rest.0, record { within = omega (arith, within); before = onto_before rest.0 b bs (λ is. absurd (cc (eq-eqb b 10 is, e))) rest.1.before; here = rest.1.here })

and_false : (t : Bool) → t && false ≡ false
and_false true = refl
and_false false = refl

and_true : (t : Bool) → t && true ≡ t
and_true true = refl
and_true false = refl

other : (b : ℕ) → (b ≡ 10 → ⊥) → eqb b 10 ≡ false
other b ne = false_from_ne_true (eqb b 10) (λ t. ne (eqb-true b 10 t))

goes_on : (b : ℕ) (bs : List ℕ) → (b ≡ 10 → ⊥) → at_feed bs ≡ false → line_text (b ∷ bs) ≡ b ∷ line_text bs
goes_on b bs ne none =
    ap (λ (t : Bool). cond t [] (cond (eqb b 13 && at_feed bs) [] (b ∷ line_text bs))) (other b ne)
    ∙ ap (λ (t : Bool). cond (eqb b 13 && t) [] (b ∷ line_text bs)) none
    ∙ ap (λ (t : Bool). cond t [] (b ∷ line_text bs)) (and_false (eqb b 13))

last_byte : (b c : ℕ) (bs : List ℕ) → (b ≡ 10 → ⊥) → c ≡ 10 → line_text (b ∷ c ∷ bs) ≡ without_return (b ∷ [])
last_byte b c bs ne e =
    ap (λ (t : Bool). cond t [] (cond (eqb b 13 && eqb c 10) [] (b ∷ line_text (c ∷ bs)))) (other b ne)
    ∙ ap (λ (t : Bool). cond (eqb b 13 && t) [] (b ∷ cond t [] (cond (eqb c 13 && at_feed bs) [] (c ∷ line_text bs)))) (eq-eqb c 10 e)
    ∙ ap (λ (t : Bool). cond t [] (b ∷ [])) (and_true (eqb b 13))

-- the first line where a line feed ends it, and where the end of the text does
pub line_text_fed : (n : ℕ) (kept : List ℕ) → n < length kept → NoFeedBelow n kept → get_or kept n 0 ≡ 10 → line_text kept ≡ without_return (take n kept)
line_text_fed n [] lt none here = absurd (omega arith)
line_text_fed zero (b ∷ bs) lt none here = ap (λ (t : Bool). cond t [] (cond (eqb b 13 && at_feed bs) [] (b ∷ line_text bs))) (eq-eqb b 10 here)
line_text_fed (suc n) (b ∷ []) lt none here = absurd (omega arith)
line_text_fed (suc zero) (b ∷ c ∷ bs) lt none here = last_byte b c bs (none 0 (omega arith)) here
line_text_fed (suc (suc n)) (b ∷ c ∷ bs) lt none here =
    goes_on b (c ∷ bs) (none 0 (omega arith)) (other c (none 1 (omega arith)))
    ∙ ap (λ (t : List ℕ). b ∷ t) (line_text_fed (suc n) (c ∷ bs) (omega arith) (λ k lt. none (suc k) (omega arith)) here)

pub line_text_unfed : (kept : List ℕ) → NoFeedBelow (length kept) kept → line_text kept ≡ kept
line_text_unfed [] none = refl
line_text_unfed (b ∷ []) none = goes_on b [] (none 0 (omega arith)) refl
line_text_unfed (b ∷ c ∷ bs) none =
    goes_on b (c ∷ bs) (none 0 (omega arith)) (other c (none 1 (omega arith)))
    ∙ ap (λ (t : List ℕ). b ∷ t) (line_text_unfed (c ∷ bs) (λ k lt. none (suc k) (omega arith)))

-- the line that a line feed ends has none within it
pub single_fed : (place : ℕ) (kept : List ℕ) → NoFeedBelow place kept → NoFeedBelow (length (take place kept)) (take place kept)
single_fed place kept none k lt here = let short = length-take place kept in none k (omega (arith, short)) (sym (get_or-take place kept k 0 (omega (arith, short))) ∙ here)
