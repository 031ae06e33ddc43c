-- The earliest of several faults.
use Rattle.std.proofs.Common.{◌≡◌, ℕ, Bool, true, false, cond, List, [], ◌∷◌, ◌++◌, Option, Some, None, arith, refl, ap, sym, ◌∙◌}
use Rattle.std.specs.Prelude.{nat_eq, nat_lt, ◌&&◌, ◌||◌}
use Rattle.std.proofs.lemmas.Bool.Decides.{nat_tests}
use Rattle.mc_tree.specs.declared.kind.Fault.{Fault}
use Rattle.mc_tree.specs.Kinds.{rank_of}
use Rattle.mc_tree.specs.Rules.{sooner, earliest}
use Rattle.mc_tree.specs.Rules.{Site, rule, first}

pub chain : (a b c : ℕ) (i j k : ℕ) → (nat_lt b a || (nat_eq b a && nat_lt j i)) ≡ true → (nat_lt c a || (nat_eq c a && nat_lt k i)) ≡ false → (nat_lt c b || (nat_eq c b && nat_lt k j)) ≡ false
chain a b c i j k h g = grind (arith, nat_tests)

pub through : (a b c : ℕ) (i j k : ℕ) → (nat_lt b a || (nat_eq b a && nat_lt j i)) ≡ true → (nat_lt c b || (nat_eq c b && nat_lt k j)) ≡ true → (nat_lt c a || (nat_eq c a && nat_lt k i)) ≡ true
through a b c i j k h g = grind (arith, nat_tests)

pub over : (a b c : ℕ) (i j k : ℕ) → (nat_lt b a || (nat_eq b a && nat_lt j i)) ≡ false → (nat_lt c b || (nat_eq c b && nat_lt k j)) ≡ false → (nat_lt c a || (nat_eq c a && nat_lt k i)) ≡ false
over a b c i j k h g = grind (arith, nat_tests)

pub earliest-none : (a : Option Fault) → earliest a None ≡ a
earliest-none None = refl
earliest-none (Some f) = refl

-- three faults: by whether the second is sooner than the first, and the third than the second
three : (f g h : Fault) (p q r : Bool) → sooner g f ≡ p → sooner h g ≡ q → sooner h f ≡ r
    → cond p (cond q (Some h) (Some g)) (cond r (Some h) (Some f)) ≡ cond q (cond r (Some h) (Some f)) (cond p (Some g) (Some f))
three f g h true true true a b c = refl
three f g h true true false a b c = let e = through f.span.from g.span.from h.span.from (rank_of f.kind) (rank_of g.kind) (rank_of h.kind) a b in cc
three f g h true false true a b c = refl
three f g h true false false a b c = refl
three f g h false true true a b c = refl
three f g h false true false a b c = refl
three f g h false false true a b c = let e = over f.span.from g.span.from h.span.from (rank_of f.kind) (rank_of g.kind) (rank_of h.kind) a b in cc
three f g h false false false a b c = refl

left : (f g h : Fault) (p : Bool) → earliest (cond p (Some g) (Some f)) (Some h) ≡ cond p (cond (sooner h g) (Some h) (Some g)) (cond (sooner h f) (Some h) (Some f))
left f g h true = refl
left f g h false = refl

right : (f g h : Fault) (q : Bool) → earliest (Some f) (cond q (Some h) (Some g)) ≡ cond q (cond (sooner h f) (Some h) (Some f)) (cond (sooner g f) (Some g) (Some f))
right f g h true = refl
right f g h false = refl

pub earliest-assoc : (a b c : Option Fault) → earliest (earliest a b) c ≡ earliest a (earliest b c)
earliest-assoc None b c = refl
earliest-assoc (Some f) None c = refl
earliest-assoc (Some f) (Some g) None = earliest-none (cond (sooner g f) (Some g) (Some f))
earliest-assoc (Some f) (Some g) (Some h) = left f g h (sooner g f) ∙ three f g h (sooner g f) (sooner h g) (sooner h f) refl refl refl ∙ sym (right f g h (sooner h g))

-- the first fault of two parts
pub first-append : (xs ys : List Site) → first (xs ++ ys) ≡ earliest (first xs) (first ys)
first-append [] ys = refl
first-append (x ∷ xs) ys = ap (earliest (rule x)) (first-append xs ys) ∙ sym (earliest-assoc (rule x) (first xs) (first ys))

pub ruleset first_rules = (first-append, earliest-assoc, earliest-none)
