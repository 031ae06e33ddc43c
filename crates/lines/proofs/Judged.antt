-- How the first line of the bytes that are kept is used up, or refused, by what was read of it.
use Rattle.std.proofs.Common.{◌≡◌, ◌⊎◌, inl, inr, ℕ, ◌+◌, ◌-◌, ◌<◌, ◌≤◌, Bool, true, false, List, length, drop, Some, None, ℤ, refl, sym, ap, ◌∙◌, arith}
use Rattle.lines.specs.First.{line_text, EndsLine, RefusesLine, UsesUp}
use Rattle.lines.specs.Found.{NoFeedBelow, HoldsFeed}
use Rattle.lines.specs.Grammar.{words_of}
use Rattle.lines.proofs.Feeds.{first_feed, holds_none, line_text_fed, line_text_unfed}

-- the last line has no line feed and isn't too long; any other has one
pub record IsKept (kept : List ℕ) (last : Bool) : Type 0 where
  pub ends : last ≡ true → NoFeedBelow (length kept) kept × (length kept ≤ 65536)
  pub fed : last ≡ false → HoldsFeed kept

-- a line without the words that are wanted
pub none_refused : (last : Bool) (kept : List ℕ) (width n : ℕ) → IsKept kept last → words_of width (line_text kept) ≡ None → RefusesLine kept width n last
none_refused true kept width n is none = inl (ap (words_of width) (sym (line_text_unfed kept (is.ends refl).0)) ∙ none)
none_refused false kept width n is none =
    let holds = is.fed refl in
    let first = first_feed kept holds.0 holds.1 holds.2 in
    (first.0, first.1, inr (inl (ap (words_of width) (sym (line_text_fed first.0 kept first.1.within first.1.before first.1.here)) ∙ none)))

-- a line that is too long, or one too many
pub more_refused : (last : Bool) (kept : List ℕ) (width n taken : ℕ) → IsKept kept last → EndsLine kept taken → (65537 < taken) ⊎ (1000000 < n) → RefusesLine kept width n last
more_refused true kept width n taken is (inl fed) why = absurd ((is.ends refl).0 (taken - 1) fed.1.within fed.1.here)
more_refused true kept width n taken is (inr all) (inl long) = let short = (is.ends refl).1 in absurd (omega (arith, short, long, all.0))
more_refused true kept width n taken is (inr all) (inr over) = inr over
more_refused false kept width n taken is (inl fed) (inl long) = (taken - 1, fed.1, inl (omega (arith, long)))
more_refused false kept width n taken is (inl fed) (inr over) = (taken - 1, fed.1, inr (inr over))
more_refused false kept width n taken is (inr all) why = absurd (holds_none kept (λ k lt. all.1 k (omega (arith, lt, all.0))) (is.fed refl))

-- a line with its words, not too long
pub line_used : (last : Bool) (kept rest : List ℕ) (width taken : ℕ) (words : List ℤ) → IsKept kept last → EndsLine kept taken → taken ≤ 65537 → words_of width (line_text kept) ≡ Some words → rest ≡ drop taken kept
    → UsesUp kept rest width words last
line_used true kept rest width taken words is (inl fed) short read used = absurd ((is.ends refl).0 (taken - 1) fed.1.within fed.1.here)
line_used true kept rest width taken words is (inr all) short read used =
    (used ∙ ap (λ (k : ℕ). drop k kept) all.0, ap (words_of width) (sym (line_text_unfed kept (is.ends refl).0)) ∙ read)
line_used false kept rest width taken words is (inl fed) short read used =
    let same : taken ≡ taken - 1 + 1 = omega (arith, fed.0) in (
      taken - 1,
      fed.1,
      omega (arith, short),
      used ∙ ap (λ (k : ℕ). drop k kept) same,
      ap (words_of width) (sym (line_text_fed (taken - 1) kept fed.1.within fed.1.before fed.1.here)) ∙ read,
    )
line_used false kept rest width taken words is (inr all) short read used = absurd (holds_none kept (λ k lt. all.1 k (omega (arith, lt, all.0))) (is.fed refl))
