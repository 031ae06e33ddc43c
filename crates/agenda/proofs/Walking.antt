-- A walk over the things that are due at a number passes each of them once.
use Rattle.std.proofs.Common.{◌≡◌, ◌≢◌, inl, inr, ℕ, ◌+◌, ◌-◌, ◌<◌, ◌≤◌, List, length, Option, None, Some, Bool, true, false, refl, arith}
use Rattle.std.specs.Prelude.{nat_lt}
use Rattle.std.proofs.lemmas.Bool.Decides.{nat_tests}
use Rattle.agenda.specs.Due.{IsDue, IsFirst, FirstFrom, is_passed}

pub less_true : (a b : ℕ) → a < b → nat_lt a b ≡ true
less_true a b lt = grind (arith, nat_tests)

pub less_false : (a b : ℕ) → b ≤ a → nat_lt a b ≡ false
less_false a b le = grind (arith, nat_tests)

-- at its start it has passed none
pub none_passed : (due : List ℕ) (number place : ℕ) (at : Option ℕ) → FirstFrom due 0 number at → IsDue due number place → is_passed at place ≡ false
none_passed due number place None none is = absurd (none place (omega arith) is)
none_passed due number place (Some thing) first is = less_false place thing (first.least place (omega arith) is)

-- with the next thing it has passed this one too
pub passes_before : (due : List ℕ) (number thing place : ℕ) (next : Option ℕ) → FirstFrom due (thing + 1) number next → place ≤ thing → is_passed next place ≡ true
passes_before due number thing place None none le = refl
passes_before due number thing place (Some more) first le = let a = first.after in less_true place more (omega arith)

-- and none behind it
pub passes_none : (due : List ℕ) (number thing place : ℕ) (next : Option ℕ) → FirstFrom due (thing + 1) number next → thing < place → IsDue due number place → is_passed next place ≡ false
passes_none due number thing place None none lt is = absurd (none place (omega arith) is)
passes_none due number thing place (Some more) first lt is = less_false place more (first.least place (omega arith) is)

-- the walk stands at a thing that is due, or is over
abbrev pub IsAt : List ℕ → (number : ℕ) → Option ℕ → Type 0
IsAt due number None = Unit {0}
IsAt due number (Some thing) = IsDue due number thing

-- how many things may be left of so many
abbrev pub left : (count : ℕ) → Option ℕ → ℕ
left count None = 0
left count (Some thing) = count - thing

pub is_at : (due : List ℕ) (from number : ℕ) (at : Option ℕ) → FirstFrom due from number at → IsAt due number at
is_at due from number None first = tt
is_at due from number (Some thing) first = first.is_due

-- the walk gets on
pub falls : (due : List ℕ) (number thing : ℕ) (next : Option ℕ) → IsDue due number thing → FirstFrom due (thing + 1) number next → left (length due) next < left (length due) (Some thing)
falls due number thing None is first = let w = is.within in omega arith
falls due number thing (Some more) is first = let w = is.within in let v = first.is_due.within in let a = first.after in omega arith
