-- What the first token is where something is read.
use Rattle.std.proofs.Common.{◌≡◌, ℕ, List, [], ◌∷◌, Option, Some, None, Bool, true, false, refl, ap, ◌∙◌, sym, subst}
use Rattle.mars_base.specs.declared.text.Span.{Span}
use Rattle.mc_tree.specs.declared.raw.Name.{Name}
use Rattle.mc_tree.specs.declared.raw.RawNumber.{RawNumber}
use Rattle.mc_tree.specs.declared.token.Key.{Key}
use Rattle.mc_tree.specs.declared.token.Key.TheVariants as K
use Rattle.mc_tree.specs.declared.token.Sign.{Sign}
use Rattle.mc_tree.specs.declared.token.Sign.TheVariants as S
use Rattle.mc_tree.specs.declared.token.Token.{Token}
use Rattle.mc_tree.specs.declared.token.TokenKind.{TokenKind}
use Rattle.mc_tree.specs.declared.token.TokenKind.TheVariants as T
use Rattle.mc_reader.specs.Roles.{trail, stops, tok}
use Rattle.mc_tree.specs.Expression.{name_at}
use Rattle.mc_reader.specs.Reading.{Got, Good, Bad, next, taken, token}
use Rattle.mc_reader.specs.Readers.{same_sign, same_key, when, sign_of, key_of, number_of, name_of, at_sign, at_key, at_number, at_name, sign, key}
use Rattle.mc_reader.proofs.Complete.{Stops}

same_sign_is : (a b : Sign) → same_sign a b ≡ true → a ≡ b
same_sign_is S.Semicolon S.Semicolon h = refl
same_sign_is S.Comma S.Comma h = refl
same_sign_is S.OpenParen S.OpenParen h = refl
same_sign_is S.CloseParen S.CloseParen h = refl
same_sign_is S.OpenBracket S.OpenBracket h = refl
same_sign_is S.CloseBracket S.CloseBracket h = refl
same_sign_is S.OpenBrace S.OpenBrace h = refl
same_sign_is S.CloseBrace S.CloseBrace h = refl
same_sign_is S.Assign S.Assign h = refl
same_sign_is a b h = absurd cc

same_key_is : (a b : Key) → same_key a b ≡ true → a ≡ b
same_key_is K.Task K.Task h = refl
same_key_is K.Func K.Func h = refl
same_key_is K.Return K.Return h = refl
same_key_is K.Body K.Body h = refl
same_key_is K.Var K.Var h = refl
same_key_is K.Else K.Else h = refl
same_key_is K.Max K.Max h = refl
same_key_is a b h = absurd cc

when_is : (b : Bool) (p q : Span) → when b p ≡ Some q → (b ≡ true) × (p ≡ q)
when_is true p q h = (refl, cc)
when_is false p q h = let c : None ≡ Some q = h in absurd cc

pub is_sign : (s : Sign) (t : Token) (p : Span) → at_sign s t ≡ Some p → t ≡ tok (T.Sign s) p
is_sign s t p h = by t.kind t.span h
  where
    by : (k : TokenKind) (q : Span) → sign_of s k q ≡ Some p → tok k q ≡ tok (T.Sign s) p
    by (T.Sign x) q h = let w = when_is (same_sign x s) q p h in ap (λ y. tok (T.Sign y) q) (same_sign_is x s w.0) ∙ ap (tok (T.Sign s)) w.1
    by (T.Key x) q h = let c : None ≡ Some p = h in absurd cc
    by (T.Number x) q h = let c : None ≡ Some p = h in absurd cc
    by T.Name q h = let c : None ≡ Some p = h in absurd cc

pub is_key : (s : Key) (t : Token) (p : Span) → at_key s t ≡ Some p → t ≡ tok (T.Key s) p
is_key s t p h = by t.kind t.span h
  where
    by : (k : TokenKind) (q : Span) → key_of s k q ≡ Some p → tok k q ≡ tok (T.Key s) p
    by (T.Key x) q h = let w = when_is (same_key x s) q p h in ap (λ y. tok (T.Key y) q) (same_key_is x s w.0) ∙ ap (tok (T.Key s)) w.1
    by (T.Sign x) q h = let c : None ≡ Some p = h in absurd cc
    by (T.Number x) q h = let c : None ≡ Some p = h in absurd cc
    by T.Name q h = let c : None ≡ Some p = h in absurd cc

pub is_number : (t : Token) (n : RawNumber) → at_number t ≡ Some n → t ≡ tok (T.Number n.value) n.span
is_number t n h = by t.kind t.span h
  where
    by : (k : TokenKind) (q : Span) → number_of k q ≡ Some n → tok k q ≡ tok (T.Number n.value) n.span
    by (T.Number v) q h = let c : record { value = v; span = q } ≡ n = cc in ap (λ (m : RawNumber). tok (T.Number m.value) m.span) c
    by (T.Key x) q h = let c : None ≡ Some n = h in absurd cc
    by (T.Sign x) q h = let c : None ≡ Some n = h in absurd cc
    by T.Name q h = let c : None ≡ Some n = h in absurd cc

pub is_name : (bytes : List ℕ) (t : Token) (n : Name) → at_name bytes t ≡ Some n → (t ≡ tok T.Name n.span) × (n ≡ name_at bytes n.span)
is_name bytes t n h = by t.kind t.span h
  where
    by : (k : TokenKind) (q : Span) → name_of bytes k q ≡ Some n → (tok k q ≡ tok T.Name n.span) × (n ≡ name_at bytes n.span)
    by T.Name q h = let c : name_at bytes q ≡ n = cc in (ap (λ (m : Name). tok T.Name m.span) c, sym c ∙ ap (λ (m : Name). name_at bytes m.span) c)
    by (T.Key x) q h = let c : None ≡ Some n = h in absurd cc
    by (T.Sign x) q h = let c : None ≡ Some n = h in absurd cc
    by (T.Number x) q h = let c : None ≡ Some n = h in absurd cc

-- a token was taken, and then the rest
pub record Took {X Y : Type 0} (f : Token → Option X) (Q : X → List Token → Got Y) (ts : List Token) (y : Y) (rest : List Token) : Type 0 where
  pub token_ : Token
  pub value : X
  pub left : List Token
  pub is : ts ≡ token_ ∷ left
  pub found : f token_ ≡ Some value
  pub reads : Q value left ≡ Good y rest

pub took : {X Y : Type 0} (f : Token → Option X) (Q : X → List Token → Got Y) (ts : List Token) (y : Y) (rest : List Token) → next (token f ts) Q ≡ Good y rest → Took f Q ts y rest
took f Q [] y rest h = let c : Bad [] ≡ Good y rest = h in absurd cc
took {X} f Q (t ∷ us) y rest h = by (f t) refl h
  where
    by : (o : Option X) → f t ≡ o → next (taken o (t ∷ us) us) Q ≡ Good y rest → Took f Q (t ∷ us) y rest
    by (Some x) e h = record { token_ = t; value = x; left = us; is = refl; found = e; reads = h }
    by None e h = let c : Bad (t ∷ us) ≡ Good y rest = h in absurd cc

module _ {Y : Type 0} (Q : Span → List Token → Got Y) (ts : List Token) (y : Y) (rest : List Token) where
  -- a sign comes first
  pub sign_first : (s : Sign) (P : List Token → Type 0) → next (sign s ts) Q ≡ Good y rest → ((p : Span) (us : List Token) → P (tok (T.Sign s) p ∷ us)) → P ts
  sign_first s P h f = let w = took (at_sign s) Q ts y rest h in subst P (sym (w.is ∙ ap (λ t. t ∷ w.left) (is_sign s w.token_ w.value w.found))) (f w.value w.left)

  pub key_first : (s : Key) (P : List Token → Type 0) → next (key s ts) Q ≡ Good y rest → ((p : Span) (us : List Token) → P (tok (T.Key s) p ∷ us)) → P ts
  key_first s P h f = let w = took (at_key s) Q ts y rest h in subst P (sym (w.is ∙ ap (λ t. t ∷ w.left) (is_key s w.token_ w.value w.found))) (f w.value w.left)

  pub stops_first : (s : Sign) → stops (trail s) ≡ true → next (sign s ts) Q ≡ Good y rest → Stops ts
  stops_first s stop h = sign_first s Stops h (λ p us. (s, p, us, refl, stop))
