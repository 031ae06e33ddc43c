-- Parameters set, the last one first.
use Rattle.std.proofs.Common.{◌≡◌, ◌⊎◌, inl, inr, ℕ, ◌≤◌, ℤ, List, [], ◌∷◌, length, drop, map, min, refl, sym, ap, ◌∙◌, arith}
use Rattle.std.proofs.Math.ListN.{drop_of_length-le}
use Rattle.std.proofs.lemmas.Bool.{cases_lt}
use Rattle.mc_tree.specs.Meaning.{set_all}

none_left : (ps : List ℕ) (words : List ℤ) → set_all ps [] words ≡ words
none_left [] words = refl
none_left (p ∷ ps) words = refl

either : (a b n : ℕ) → n ≡ min a b → (a ≤ n) ⊎ (b ≤ n)
either a b n e = elim (cases_lt a b) [ inl h ↦ inl (omega arith) | inr h ↦ inr (omega arith) ]

-- none is set at first
pub none_set : (f : ℕ → ℕ) (params : List ℕ) (args words : List ℤ) (n : ℕ) → n ≡ min (length params) (length args) → words ≡ set_all (map f (drop n params)) (drop n args) words
none_set f params args words n e = go (either (length params) (length args) n e)
  where
    go : (length params ≤ n) ⊎ (length args ≤ n) → words ≡ set_all (map f (drop n params)) (drop n args) words
    go (inl h) = sym (ap (λ ps. set_all (map f ps) (drop n args) words) (drop_of_length-le params {i = n} h))
    go (inr h) = sym (ap (λ vs. set_all (map f (drop n params)) vs words) (drop_of_length-le args {i = n} h) ∙ none_left (map f (drop n params)) words)
