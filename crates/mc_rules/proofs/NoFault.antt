-- A tree without a fault keeps every rule.
use Rattle.std.proofs.Common.{◌≡◌, ℕ, zero, suc, Bool, true, false, cond, List, [], ◌∷◌, ◌++◌, Option, Some, None, refl, ap, sym, ◌∙◌}
use Rattle.mars_base.specs.declared.text.Span.{Span}
use Rattle.mc_tree.specs.declared.kind.Kind.{Kind}
use Rattle.mc_tree.specs.declared.kind.Fault.{Fault}
use Rattle.mc_tree.specs.Rules.{sooner, earliest}
use Rattle.mc_tree.specs.Rules.{Site, rule, first, fault}
use Rattle.mc_rules.proofs.First.{first-append}

chosen : (b : Bool) (f g : Fault) → cond b (Some g) (Some f) ≡ None → ⊥
chosen true f g h = let c : Some g ≡ None = h in cc
chosen false f g h = let c : Some f ≡ None = h in cc

pub none_both : (a b : Option Fault) → earliest a b ≡ None → (a ≡ None) × (b ≡ None)
none_both None b h = (refl, h)
none_both (Some f) None h = let c : Some f ≡ None = h in cc
none_both (Some f) (Some g) h = absurd (chosen (sooner g f) f g h)

pub none_parts : (xs ys : List Site) → first (xs ++ ys) ≡ None → (first xs ≡ None) × (first ys ≡ None)
none_parts xs ys h = none_both (first xs) (first ys) (sym (first-append xs ys) ∙ h)

pub none_here : (s : Site) (ss : List Site) → first (s ∷ ss) ≡ None → (rule s ≡ None) × (first ss ≡ None)
none_here s ss h = none_both (rule s) (first ss) h

pub test_fails : (b : Bool) (k : Kind) (p : Span) → fault b k p ≡ None → b ≡ false
test_fails true k p h = cc
test_fails false k p h = refl

-- the first sites of a list
pub none_2 : (a b : Site) (ss : List Site) → first (a ∷ b ∷ ss) ≡ None → (rule a ≡ None) × (rule b ≡ None) × (first ss ≡ None)
none_2 a b ss h =
    let x = none_here a (b ∷ ss) h in
    let y = none_here b ss x.1 in
    (x.0, y.0, y.1)

pub none_3 : (a b c : Site) (ss : List Site) → first (a ∷ b ∷ c ∷ ss) ≡ None → (rule a ≡ None) × (rule b ≡ None) × (rule c ≡ None) × (first ss ≡ None)
none_3 a b c ss h =
    let x = none_here a (b ∷ c ∷ ss) h in
    let y = none_2 b c ss x.1 in
    (x.0, y.0, y.1, y.2)

pub none_4 : (a b c d : Site) (ss : List Site) → first (a ∷ b ∷ c ∷ d ∷ ss) ≡ None → (rule a ≡ None) × (rule b ≡ None) × (rule c ≡ None) × (rule d ≡ None) × (first ss ≡ None)
none_4 a b c d ss h =
    let x = none_here a (b ∷ c ∷ d ∷ ss) h in
    let y = none_3 b c d ss x.1 in
    (x.0, y.0, y.1, y.2, y.3)

-- the rule at the site of a number, and the sites from it on
abbrev pub rule_at : List Site → ℕ → Option Fault
rule_at [] i = None
rule_at (s ∷ ss) zero = rule s
rule_at (s ∷ ss) (suc i) = rule_at ss i

abbrev pub sites_from : List Site → ℕ → List Site
sites_from ss zero = ss
sites_from [] (suc i) = []
sites_from (s ∷ ss) (suc i) = sites_from ss i

pub none_at : (ss : List Site) (i : ℕ) → first ss ≡ None → rule_at ss i ≡ None
none_at [] i h = refl
none_at (s ∷ ss) zero h = (none_here s ss h).0
none_at (s ∷ ss) (suc i) h = none_at ss i (none_here s ss h).1

pub none_from : (ss : List Site) (i : ℕ) → first ss ≡ None → first (sites_from ss i) ≡ None
none_from ss zero h = h
none_from [] (suc i) h = refl
none_from (s ∷ ss) (suc i) h = none_from ss i (none_here s ss h).1
