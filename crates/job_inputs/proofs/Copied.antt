-- What is lent, and what it is a copy of.
use Rattle.std.proofs.Common.{◌≡◌, ℕ, List, length, ℤ, Option, None, Some, sym}
use Rattle.std.specs.Borrow.{Bor}
use Rattle.std.specs.Prelude.{MatchOption, IfSome, option_copied}

pub copied_is : (r : Option (Bor (List ℤ))) (o : Option (List ℤ)) → MatchOption r (o ≡ None) (λ words. o ≡ Some words.now) → option_copied r ≡ o
copied_is None o h = sym h
copied_is (Some words) o h = sym h

pub copied_width : (r : Option (Bor (List ℤ))) (o : Option (List ℤ)) (n : ℕ) → MatchOption r (o ≡ None) (λ words. o ≡ Some words.now) → ((words : List ℤ) → o ≡ Some words → length words ≡ n)
    → IfSome r (λ words. length words.now ≡ n)
copied_width None o n h w = tt
copied_width (Some words) o n h w = w words.now h
