-- What stands to the right of an equals sign, by its first token.
use Rattle.std.proofs.Common.{◌≡◌, ℕ, List, [], ◌∷◌, Some, None, refl, ap, ◌∙◌}
use Rattle.mars_base.specs.declared.text.Span.{Span}
use Rattle.mc_tree.specs.declared.raw.Name.{Name}
use Rattle.mc_tree.specs.declared.token.Token.{Token}
use Rattle.mc_tree.specs.declared.token.TokenKind.{TokenKind}
use Rattle.mc_tree.specs.declared.token.TokenKind.TheVariants as T
use Rattle.mc_tree.specs.Expression.{name_at}
use Rattle.mc_tree.specs.Raw.{Ex}
use Rattle.mc_reader.specs.Roles.{tok}
use Rattle.mc_reader.specs.Reading.{Good, Bad, Misses, next, taken, done}
use Rattle.mc_reader.specs.Readers.{at_name, name_of, name, Value, Callee, rights, right, first_by}
use Rattle.mc_reader.specs.Plain.{as_value}
use Rattle.mc_reader.specs.Machine as M
use Rattle.mc_reader.proofs.LiveExpression.{want_not_done}

module _ (bytes : List ℕ) where
  -- where no name comes first, it is an expression
  pub right_value_only : (ts : List Token) → Misses (at_name bytes) ts → right bytes ts ≡ as_value bytes ts
  unfolding M.run
  right_value_only [] h = refl
  right_value_only (t ∷ us) h = by t.kind t.span h
    where
      goes : (t : Token) (s : M.Step) → M.step bytes M.Want 0 [] t ≡ s → ((x : Ex) → s ≡ M.Done x → ⊥) → next (taken (first_by s) (t ∷ us) us) (rights bytes) ≡ next (M.then bytes s (t ∷ us) us (M.run bytes us)) (λ e. done (Value e))
      goes t (M.Next n u F) e never = refl
      goes t (M.Done x) e never = absurd (never x refl)
      goes t M.Dead e never = refl

      by : (k : TokenKind) (p : Span) → name_of bytes k p ≡ None → right bytes (tok k p ∷ us) ≡ as_value bytes (tok k p ∷ us)
      by T.Name p h = let c : Some (name_at bytes p) ≡ None = h in absurd cc
      by (T.Key x) p h = goes (tok (T.Key x) p) (M.step bytes M.Want 0 [] (tok (T.Key x) p)) refl (want_not_done bytes (tok (T.Key x) p))
      by (T.Sign x) p h = goes (tok (T.Sign x) p) (M.step bytes M.Want 0 [] (tok (T.Sign x) p)) refl (want_not_done bytes (tok (T.Sign x) p))
      by (T.Number x) p h = goes (tok (T.Number x) p) (M.step bytes M.Want 0 [] (tok (T.Number x) p)) refl (want_not_done bytes (tok (T.Number x) p))

  -- where a name comes first, what follows it decides
  pub right_after_name : (ts : List Token) (n : Name) (us : List Token) → name bytes ts ≡ Good n us → right bytes ts ≡ rights bytes (Callee n) us
  right_after_name [] n us h = let c : Bad [] ≡ Good n us = h in absurd cc
  right_after_name (t ∷ ts) n us h = by t.kind t.span h
    where
      by : (k : TokenKind) (p : Span) → taken (name_of bytes k p) (tok k p ∷ ts) ts ≡ Good n us → right bytes (tok k p ∷ ts) ≡ rights bytes (Callee n) us
      by T.Name p h = let a : name_at bytes p ≡ n = cc in let b : ts ≡ us = cc in ap (λ m. rights bytes (Callee m) ts) a ∙ ap (rights bytes (Callee n)) b
      by (T.Key x) p h = let c : Bad (tok (T.Key x) p ∷ ts) ≡ Good n us = h in absurd cc
      by (T.Sign x) p h = let c : Bad (tok (T.Sign x) p ∷ ts) ≡ Good n us = h in absurd cc
      by (T.Number x) p h = let c : Bad (tok (T.Number x) p ∷ ts) ≡ Good n us = h in absurd cc
