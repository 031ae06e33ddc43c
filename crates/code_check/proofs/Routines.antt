-- Starts that rise, and the instructions between two of them.
use Rattle.std.proofs.Common.{◌≡◌, ◌⊎◌, ◌↔◌, inl, inr, ℕ, zero, suc, ◌+◌, ◌<◌, ◌≤◌, Bool, true, false, cond, List, [], ◌∷◌, length, Some, sym, ap, ◌∙◌, arith}
use Rattle.std.specs.Prelude.{slice_get, slice_index, slice_index_or, nat_le, Contains, count_by}
use Rattle.std.proofs.lemmas.Bool.{le-leb, lt-leb, cases_lt}
use Rattle.std.proofs.lemmas.List.Kept.{AllPairs-from_increasing}
use Rattle.std.proofs.lemmas.List.Sums.{sum_by-cons}
use Rattle.std.proofs.lemmas.Option.{slice_get_within, get_or_from_slice_get, slice_get-get_or}
use Rattle.word_code.specs.Typing.{IsWhole, IsLast, routine_of}
use Rattle.word_code.specs.declared.code.Code.{Code}
use Rattle.code_check.specs.Ends.{EndsAt}
use Rattle.code_check.specs.Routine.{IsRoutine}
use Rattle.code_check.specs.declared.routine.Routine.{Routine}

abbrev one_if : Bool → ℕ
one_if b = cond b 1 0

-- where the first n numbers are at most k, so many are
count_least : (xs : List ℕ) (n k : ℕ) → n ≤ length xs → ((i : ℕ) → i < n → slice_index xs i ≤ k) → n ≤ count_by (λ x. nat_le x k) xs
count_least xs zero k le h = omega arith
count_least [] (suc n) k le h = absurd (omega (arith, le))
count_least (x ∷ xs) (suc n) k le h =
    let head : x ≤ k = h 0 (omega arith) in
    let rest = count_least xs n k (omega (arith, le)) (λ i lt. h (suc i) (omega (arith, lt))) in
    let one = sum_by-cons (λ y. one_if (nat_le y k)) x xs in
    let yes : one_if (nat_le x k) ≡ 1 = ap one_if (le-leb x k head) in
    omega (arith, rest, one, yes)

one_at_most : (b : Bool) → one_if b ≤ 1
one_at_most true = omega arith
one_at_most false = omega arith

-- where all but the first n numbers are above k, no more are at most k
count_most : (xs : List ℕ) (n k : ℕ) → ((i : ℕ) → n ≤ i → i < length xs → k < slice_index xs i) → count_by (λ x. nat_le x k) xs ≤ n
count_most [] n k h = omega arith
count_most (x ∷ xs) zero k h =
    let head : k < x = h 0 (omega arith) (omega arith) in
    let rest = count_most xs zero k (λ i le lt. h (suc i) (omega arith) (omega (arith, lt))) in
    let one = sum_by-cons (λ y. one_if (nat_le y k)) x xs in
    let no : one_if (nat_le x k) ≡ 0 = ap one_if (lt-leb x k head) in
    omega (arith, rest, one, no)
count_most (x ∷ xs) (suc n) k h =
    let rest = count_most xs n k (λ i le lt. h (suc i) (omega (arith, le)) (omega (arith, lt))) in
    let one = sum_by-cons (λ y. one_if (nat_le y k)) x xs in
    omega (arith, rest, one, one_at_most (nat_le x k))

module _ (code : Code) (r : Routine) (w : IsWhole code) (is : IsRoutine code r) where
  pub number_within : r.number < length code.starts
  number_within = slice_get_within code.starts r.number r.first is.begins

  first_is : slice_index code.starts r.number ≡ r.first
  first_is = get_or_from_slice_get code.starts r.number r.first 0 is.begins

  rises : (i j : ℕ) → i < j → j < length code.starts → slice_index code.starts i < slice_index code.starts j
  rises i j lt within = AllPairs-from_increasing code.starts w.starts_rise i j 0 lt within

  -- the starts up to this one are no greater
  up_to : (i : ℕ) → i ≤ r.number → slice_index code.starts i ≤ r.first
  up_to i le = by_same (cases_lt i r.number)
    where
      by_same : ((i < r.number) ⊎ (r.number ≤ i)) → slice_index code.starts i ≤ r.first
      by_same (inl lt) = omega (arith, rises i r.number lt number_within, first_is)
      by_same (inr ge) = let same : i ≡ r.number = omega (arith, le, ge) in omega (arith, ap (slice_index code.starts) same, first_is)

  -- those from this one on are no less
  from_on : (i : ℕ) → r.number ≤ i → i < length code.starts → r.first ≤ slice_index code.starts i
  from_on i le within = by_same (cases_lt r.number i)
    where
      by_same : ((r.number < i) ⊎ (i ≤ r.number)) → r.first ≤ slice_index code.starts i
      by_same (inl lt) = omega (arith, rises r.number i lt within, first_is)
      by_same (inr ge) = let same : i ≡ r.number = omega (arith, le, ge) in omega (arith, ap (slice_index code.starts) same, first_is)

  -- those behind this one are at or behind its end
  behind : (i : ℕ) → r.number < i → i < length code.starts → r.end ≤ slice_index code.starts i
  behind i lt within = by_end is.ends
    where
      by_end : EndsAt code r.number r.end → r.end ≤ slice_index code.starts i
      by_end (inl e) = by_same (cases_lt (r.number + 1) i)
        where
          next_is : slice_index code.starts (r.number + 1) ≡ r.end
          next_is = get_or_from_slice_get code.starts (r.number + 1) r.end 0 e

          by_same : ((r.number + 1 < i) ⊎ (i ≤ r.number + 1)) → r.end ≤ slice_index code.starts i
          by_same (inl more) = omega (arith, rises (r.number + 1) i more within, next_is)
          by_same (inr ge) = let same : i ≡ r.number + 1 = omega (arith, lt, ge) in omega (arith, ap (slice_index code.starts) same, next_is)
      by_end (inr e) = absurd (omega (arith, e.0, lt, within))

  pub end_within : r.end ≤ length code.instrs
  end_within = by_end is.ends
    where
      by_end : EndsAt code r.number r.end → r.end ≤ length code.instrs
      by_end (inl e) =
          let lt = slice_get_within code.starts (r.number + 1) r.end e in
          let below : slice_index_or code.starts (r.number + 1) r.end < length code.instrs = w.starts_within (r.number + 1) r.end lt in
          omega (arith, below, get_or_from_slice_get code.starts (r.number + 1) r.end r.end e)
      by_end (inr e) = omega (arith, e.1)

  -- what stands in it has its number
  pub inside : (k : ℕ) → r.first ≤ k → k < r.end → routine_of code.starts k ≡ r.number
  inside k after before =
      omega (
        arith,
        count_least code.starts (r.number + 1) k (omega (arith, number_within)) (λ i lt. omega (arith, up_to i (omega (arith, lt)), after)),
        count_most code.starts (r.number + 1) k (λ i le within. omega (arith, behind i (omega (arith, le)) within, before)),
      )

  -- what stands before it hasn't
  ahead : (k : ℕ) → k < r.first → routine_of code.starts k ≡ r.number → ⊥
  ahead k lt e = by_number (cases_lt 0 r.number)
    where
      few : count_by (λ x. nat_le x k) code.starts ≤ r.number
      few = count_most code.starts r.number k (λ i le within. omega (arith, from_on i le within, lt))

      by_number : ((0 < r.number) ⊎ (r.number ≤ 0)) → ⊥
      by_number (inl some) = omega (arith, few, e, some)
      by_number (inr none) =
          let zero_is : r.number ≡ 0 = omega (arith, none) in
          let first_0 : Some r.first ≡ Some 0 = sym is.begins ∙ ap (slice_get code.starts) zero_is ∙ w.starts_at_0 in
          let low : r.first ≡ 0 = cc in
          omega (arith, low, lt)

  -- nor has what stands behind it
  past : (k : ℕ) → r.end ≤ k → k < length code.instrs → routine_of code.starts k ≡ r.number → ⊥
  past k le within e = by_end is.ends
    where
      by_end : EndsAt code r.number r.end → ⊥
      by_end (inl f) =
          let lt = slice_get_within code.starts (r.number + 1) r.end f in
          let next_is = get_or_from_slice_get code.starts (r.number + 1) r.end 0 f in
          let many = count_least code.starts (r.number + 2) k (omega (arith, lt)) (λ i less. by_next i less next_is (cases_lt i (r.number + 1))) in
          omega (arith, many, e)
        where
          by_next : (i : ℕ) → i < r.number + 2 → slice_index code.starts (r.number + 1) ≡ r.end → ((i < r.number + 1) ⊎ (r.number + 1 ≤ i)) → slice_index code.starts i ≤ k
          by_next i less next_is (inl lt) = omega (arith, rises i (r.number + 1) lt (slice_get_within code.starts (r.number + 1) r.end f), next_is, le)
          by_next i less next_is (inr ge) = let same : i ≡ r.number + 1 = omega (arith, less, ge) in omega (arith, ap (slice_index code.starts) same, next_is, le)
      by_end (inr f) = omega (arith, f.1, le, within)

  -- another instruction has its number exactly where it stands in it
  pub same_routine : (k target : ℕ) → r.first ≤ k → k < r.end → target < length code.instrs
      → ((r.first ≤ target) × (target < r.end)) ↔ (routine_of code.starts target ≡ routine_of code.starts k)
  same_routine k target after before within = (
    λ both. inside target both.0 both.1 ∙ sym (inside k after before),
    λ e. by_place (e ∙ inside k after before) (cases_lt target r.first) (cases_lt target r.end),
  )
    where
      by_place : routine_of code.starts target ≡ r.number → ((target < r.first) ⊎ (r.first ≤ target)) → ((target < r.end) ⊎ (r.end ≤ target)) → (r.first ≤ target) × (target < r.end)
      by_place e (inl lt) y = absurd (ahead target lt e)
      by_place e (inr ge) (inl lt) = (ge, lt)
      by_place e (inr ge) (inr past_end) = absurd (past target past_end within e)

  -- a start in it is its first instruction
  start_is : (k : ℕ) → r.first ≤ k → k < r.end → Contains code.starts k → k ≡ r.first
  start_is k after before c = by_index (cases_lt c.0 r.number) (cases_lt r.number c.0)
    where
      at_index : slice_index code.starts c.0 ≡ k
      at_index = get_or_from_slice_get code.starts c.0 k 0 (slice_get-get_or code.starts c.0 k c.1 ∙ ap Some c.2)

      by_index : ((c.0 < r.number) ⊎ (r.number ≤ c.0)) → ((r.number < c.0) ⊎ (c.0 ≤ r.number)) → k ≡ r.first
      by_index (inl lt) y = absurd (omega (arith, rises c.0 r.number lt number_within, first_is, at_index, after))
      by_index (inr ge) (inl lt) = absurd (omega (arith, behind c.0 lt c.1, at_index, before))
      by_index (inr ge) (inr le) =
          let same : c.0 ≡ r.number = omega (arith, ge, le) in
          omega (arith, ap (slice_index code.starts) same, first_is, at_index)

  contains_at : (i k : ℕ) → slice_get code.starts i ≡ Some k → Contains code.starts k
  contains_at i k e = (i, slice_get_within code.starts i k e, get_or_from_slice_get code.starts i k k e)

  pub start_here : (k : ℕ) → r.first ≤ k → k < r.end → (k ≡ r.first) ↔ Contains code.starts k
  start_here k after before = (λ e. contains_at r.number k (is.begins ∙ ap Some (sym e)), start_is k after before)

  -- an instruction behind its first with a start behind it is its last
  last_is : (k : ℕ) → r.first ≤ k → k < r.end → IsLast code k → k + 1 ≡ r.end
  last_is k after before (inl c) = by_index (cases_lt r.number c.0)
    where
      at_index : slice_index code.starts c.0 ≡ k + 1
      at_index = get_or_from_slice_get code.starts c.0 (k + 1) 0 (slice_get-get_or code.starts c.0 (k + 1) c.1 ∙ ap Some c.2)

      by_index : ((r.number < c.0) ⊎ (c.0 ≤ r.number)) → k + 1 ≡ r.end
      by_index (inl lt) = omega (arith, behind c.0 lt c.1, at_index, before)
      by_index (inr le) = absurd (omega (arith, up_to c.0 le, at_index, after))
  last_is k after before (inr e) = omega (arith, e, end_within, before)

  pub last_here : (k : ℕ) → r.first ≤ k → k < r.end → (k + 1 ≡ r.end) ↔ IsLast code k
  last_here k after before = (λ e. by_end e is.ends, last_is k after before)
    where
      by_end : k + 1 ≡ r.end → EndsAt code r.number r.end → IsLast code k
      by_end e (inl f) = inl (contains_at (r.number + 1) (k + 1) (f ∙ ap Some (sym e)))
      by_end e (inr f) = inr (e ∙ f.1)

  -- where it ends before the code does, the next one begins there
  pub next_begins : r.end < length code.instrs → slice_get code.starts (r.number + 1) ≡ Some r.end
  next_begins lt = by_end is.ends
    where
      by_end : EndsAt code r.number r.end → slice_get code.starts (r.number + 1) ≡ Some r.end
      by_end (inl f) = f
      by_end (inr f) = absurd (omega (arith, f.1, lt))

-- a routine ends behind its first instruction
pub end_behind : (code : Code) (number first end : ℕ) → IsWhole code → slice_get code.starts number ≡ Some first → EndsAt code number end → first < end
end_behind code number first end w begins (inl e) =
    let lt = slice_get_within code.starts (number + 1) end e in
    let up : slice_index_or code.starts number 0 < slice_index_or code.starts (number + 1) 0 = AllPairs-from_increasing code.starts w.starts_rise number (number + 1) 0 (omega arith) lt in
    omega (arith, up, get_or_from_slice_get code.starts number first 0 begins, get_or_from_slice_get code.starts (number + 1) end 0 e)
end_behind code number first end w begins (inr e) =
    let below : slice_index_or code.starts number first < length code.instrs = w.starts_within number first (slice_get_within code.starts number first begins) in
    omega (arith, below, get_or_from_slice_get code.starts number first first begins, e.1)
