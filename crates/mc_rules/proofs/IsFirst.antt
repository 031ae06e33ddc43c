-- The computed first fault is the first.
use Rattle.std.proofs.Common.{◌≡◌, ℕ, Bool, true, false, cond, List, [], ◌∷◌, Option, Some, None, arith, refl, ap, sym, ◌∙◌, ◌⊎◌, inl, inr}
use Rattle.std.specs.Prelude.{nat_eq, nat_lt, ◌&&◌, ◌||◌}
use Rattle.std.proofs.lemmas.Bool.Decides.{nat_tests}
use Rattle.mc_tree.specs.declared.kind.Fault.{Fault}
use Rattle.mc_tree.specs.Kinds.{rank_of}
use Rattle.mc_tree.specs.Rules.{sooner, earliest}
use Rattle.mc_tree.specs.Rules.{Fails, IsFirst}
use Rattle.mc_tree.specs.Rules.{Site, rule, first}
use Rattle.mc_rules.proofs.First.{chain, through, over}

not_self : (f : Fault) → sooner f f ≡ false
not_self f = grind (arith, nat_tests)

-- one more site before
more : (s : Site) (ss : List Site) (a b : Option Fault) → rule s ≡ a → IsFirst ss b → IsFirst (s ∷ ss) (earliest a b)
more s ss None None r n = λ f e. elim e [ inl h ↦ let c : None ≡ Some f = sym r ∙ h in cc | inr h ↦ n f h ]
more s ss None (Some g) r (here, least) = (inr here, λ f e. elim e [ inl h ↦ let c : None ≡ Some f = sym r ∙ h in cc | inr h ↦ least f h ])
more s ss (Some f) None r n = (inl r, λ g e. elim e [ inl h ↦ same g (sym r ∙ h) | inr h ↦ absurd (n g h) ])
  where
    same : (g : Fault) → Some f ≡ Some g → sooner g f ≡ false
    same g h = let c : f ≡ g = cc in ap (λ x. sooner x f) (sym c) ∙ not_self f
more s ss (Some f) (Some g) r (here, least) = by (sooner g f) refl
  where
    same : (h x : Fault) → Some f ≡ Some h → sooner f x ≡ false → sooner h x ≡ false
    same h x e n = let c : f ≡ h = cc in ap (λ y. sooner y x) (sym c) ∙ n

    back : sooner g f ≡ true → sooner f g ≡ false
    back e = chain f.span.from g.span.from f.span.from (rank_of f.kind) (rank_of g.kind) (rank_of f.kind) e (not_self f)

    by : (b : Bool) → sooner g f ≡ b → IsFirst (s ∷ ss) (cond b (Some g) (Some f))
    by true e = (inr here, λ h x. elim x [ inl y ↦ same h g (sym r ∙ y) (back e) | inr y ↦ least h y ])
    by false e = (
      inl r,
      λ h x. elim x [
        | inl y ↦ same h f (sym r ∙ y) (not_self f)
        | inr y ↦ over f.span.from g.span.from h.span.from (rank_of f.kind) (rank_of g.kind) (rank_of h.kind) e (least h y)
      ],
    )

pub is_first : (ss : List Site) → IsFirst ss (first ss)
is_first [] = λ f e. e
is_first (s ∷ ss) = more s ss (rule s) (first ss) refl (is_first ss)
