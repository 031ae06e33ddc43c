-- The loop over parts with commas between them.
use Rattle.std.proofs.Common.{◌≡◌, ℕ, ◌≤◌, List, [], ◌∷◌, ◌++◌, length, drop, Option, Some, None, true, false, arith, refl, ap, ◌∙◌, sym, subst}
use Rattle.std.proofs.lemmas.List.{length-drop}
use Rattle.mars_base.specs.declared.text.Span.{Span}
use Rattle.mc_tree.specs.declared.raw.Name.{Name}
use Rattle.mc_tree.specs.declared.token.Sign.TheVariants as S
use Rattle.mc_tree.specs.declared.token.Token.{Token}
use Rattle.mc_tree.specs.declared.token.TokenKind.TheVariants as T
use Rattle.mc_tree.specs.Raw.{Ex}
use Rattle.mc_reader.specs.Roles.{tok}
use Rattle.mc_reader.specs.Reading.{Got, Good, Bad, Misses, next, done, chosen}
use Rattle.mc_reader.specs.Readers.{at_sign, name, value, sign, next_is, commas, enclosed_by, enclosed}
use Rattle.mc_reader.specs.Answers.{after, closing}
use Rattle.mc_reader.proofs.Live.{Any, Live}
use Rattle.mc_reader.proofs.Firsts.{is_sign}
use Rattle.mc_reader.proofs.LiveTask.{live_name, live_value}
use Rattle.mc_reader.proofs.LiveExpression.{FolStops}
use Rattle.mc_reader.proofs.LiveLists.{shorter}
use Rattle.mc_reader.proofs.Loops.{one_more, bad_part, no_more}

pub found : (f : Token → Option Span) (ts us : List Token) → next_is f ts ≡ Good true us → (t : Token) × (p : Span) × (ts ≡ t ∷ us) × (f t ≡ Some p)
found f [] us h = absurd cc
found f (t ∷ ts) us h = by (f t) refl h
  where
    by : (o : Option Span) → f t ≡ o → chosen o (λ p. done true) false (t ∷ ts) ts ≡ Good true us → (s : Token) × (p : Span) × (t ∷ ts ≡ s ∷ us) × (f s ≡ Some p)
    by (Some p) e h = let c : ts ≡ us = cc in (t, p, ap (λ l. t ∷ l) c, e)
    by None e h = absurd cc

pub missed : (f : Token → Option Span) (ts us : List Token) → next_is f ts ≡ Good false us → Misses f ts × (us ≡ ts)
missed f [] us h = let c : [] ≡ us = cc in (tt, sym c)
missed f (t ∷ ts) us h = by (f t) refl h
  where
    by : (o : Option Span) → f t ≡ o → chosen o (λ p. done true) false (t ∷ ts) ts ≡ Good false us → (f t ≡ None) × (us ≡ t ∷ ts)
    by (Some p) e h = absurd cc
    by None e h = let c : t ∷ ts ≡ us = cc in (e, sym c)

-- the parenthesis that closes comes next
abbrev pub Closing : List Token → Type 0
Closing ts = (p : Span) × (us : List Token) × (ts ≡ tok (T.Sign S.CloseParen) p ∷ us)

closing_misses : (ts : List Token) → Closing ts → Misses (at_sign S.Comma) ts
closing_misses ts (p, us, e) = subst (Misses (at_sign S.Comma)) (sym e) refl

module _ {X : Type 0} (item : List Token → Got X) (FolI : X → List Token → Type 0) (live : Live FolI item) (comma : (x : X) (p : Span) (us : List Token) → FolI x (tok (T.Sign S.Comma) p ∷ us))
    (close : (x : X) (p : Span) (us : List Token) → FolI x (tok (T.Sign S.CloseParen) p ∷ us)) where
  at_comma : (t : Token) (a : Span) (ts : List Token) (y : X) → at_sign S.Comma t ≡ Some a → FolI y (t ∷ ts)
  at_comma t a ts y e = subst (λ s. FolI y (s ∷ ts)) (sym (is_sign S.Comma t a e)) (comma y a ts)

  at_close : (ts : List Token) (y : X) → Closing ts → FolI y ts
  at_close ts y (p, us, e) = subst (FolI y) (sym e) (close y p us)

  more : (xs : List X) (ts us : List Token) (x : X) (rest : List Token) → next_is (at_sign S.Comma) ts ≡ Good true us → item us ≡ Good x rest → closing (after xs (commas item ts)) ≡ closing (after (xs ++ x ∷ []) (commas item rest))
  more xs ts us x rest h e = let w = found (at_sign S.Comma) ts us h in
      ap (λ l. closing (after xs (commas item l))) w.2
      ∙ ap closing (one_more (at_sign S.Comma) (λ p. item) FolI Closing (λ p. live) at_comma at_close closing_misses xs w.0 w.1 us x rest w.3 e)

  bad : (xs : List X) (ts us rest : List Token) → next_is (at_sign S.Comma) ts ≡ Good true us → item us ≡ Bad rest → closing (after xs (commas item ts)) ≡ Bad rest
  bad xs ts us rest h e = let w = found (at_sign S.Comma) ts us h in
      ap (λ l. closing (after xs (commas item l))) w.2
      ∙ ap closing (bad_part (at_sign S.Comma) (λ p. item) FolI Closing (λ p. live) at_comma at_close closing_misses xs w.0 w.1 us rest w.3 e)

  end : (xs : List X) (ts us : List Token) → next_is (at_sign S.Comma) ts ≡ Good false us → closing (after xs (commas item ts)) ≡ next (sign S.CloseParen us) (λ q. done xs)
  end xs ts us h = let w = missed (at_sign S.Comma) ts us h in
      ap closing (no_more (at_sign S.Comma) (λ p. item) FolI Closing (λ p. live) at_comma at_close closing_misses xs ts w.0)
      ∙ ap (λ l. next (sign S.CloseParen l) (λ q. done xs)) (sym w.1)

  later : (ts : List Token) (a b : ℕ) (x : X) → a ≤ length ts → b ≤ length ts → item (drop a ts) ≡ Good x (drop b ts) → a ≤ b
  later ts a b x h k e = omega (arith, shorter FolI item live (drop a ts) x (drop b ts) e, length-drop a ts, length-drop b ts, h, k)

opens : {X : Type 0} (x : X) (g : Got (List X)) → next g (λ xs vs. next (sign S.CloseParen vs) (λ q. done (x ∷ xs))) ≡ closing (after (x ∷ []) g)
opens x (Good xs r) = refl
opens x (Bad r) = refl

-- the first part, and those after it
pub first_part : {X : Type 0} (item : List Token → Got X) (ts us : List Token) (x : X) (rest : List Token) → next_is (at_sign S.CloseParen) ts ≡ Good false us → item us ≡ Good x rest → enclosed item ts ≡ closing (after (x ∷ []) (commas item rest))
first_part {X} item ts us x rest h e = ap (λ g. next g (enclosed_by item)) h ∙ ap (λ g. next g (λ x us. next (commas item us) (λ xs vs. next (sign S.CloseParen vs) (λ q. done (x ∷ xs))))) e ∙ opens x (commas item rest)

module _ (bytes : List ℕ) where
  pub name_more : (xs : List Name) (ts us : List Token) (x : Name) (rest : List Token) → next_is (at_sign S.Comma) ts ≡ Good true us → name bytes us ≡ Good x rest → closing (after xs (commas (name bytes) ts)) ≡ closing (after (xs ++ x ∷ []) (commas (name bytes) rest))
  name_more xs ts us x rest h e = more (name bytes) Any (live_name bytes) (λ x p us. tt) (λ x p us. tt) xs ts us x rest h e

  pub name_bad : (xs : List Name) (ts us rest : List Token) → next_is (at_sign S.Comma) ts ≡ Good true us → name bytes us ≡ Bad rest → closing (after xs (commas (name bytes) ts)) ≡ Bad rest
  name_bad xs ts us rest h e = bad (name bytes) Any (live_name bytes) (λ x p us. tt) (λ x p us. tt) xs ts us rest h e

  pub name_end : (xs : List Name) (ts us : List Token) → next_is (at_sign S.Comma) ts ≡ Good false us → closing (after xs (commas (name bytes) ts)) ≡ next (sign S.CloseParen us) (λ q. done xs)
  name_end xs ts us h = end (name bytes) Any (live_name bytes) (λ x p us. tt) (λ x p us. tt) xs ts us h

  pub name_later : (ts : List Token) (a b : ℕ) (x : Name) → a ≤ length ts → b ≤ length ts → name bytes (drop a ts) ≡ Good x (drop b ts) → a ≤ b
  name_later ts a b x h k e = later (name bytes) Any (live_name bytes) (λ x p us. tt) (λ x p us. tt) ts a b x h k e

  pub value_more : (xs : List Ex) (ts us : List Token) (x : Ex) (rest : List Token) → next_is (at_sign S.Comma) ts ≡ Good true us → value bytes us ≡ Good x rest → closing (after xs (commas (value bytes) ts)) ≡ closing (after (xs ++ x ∷ []) (commas (value bytes) rest))
  value_more xs ts us x rest h e = more (value bytes) FolStops (live_value bytes) (λ x p us. (S.Comma, p, us, refl, refl)) (λ x p us. (S.CloseParen, p, us, refl, refl)) xs ts us x rest h e

  pub value_bad : (xs : List Ex) (ts us rest : List Token) → next_is (at_sign S.Comma) ts ≡ Good true us → value bytes us ≡ Bad rest → closing (after xs (commas (value bytes) ts)) ≡ Bad rest
  value_bad xs ts us rest h e = bad (value bytes) FolStops (live_value bytes) (λ x p us. (S.Comma, p, us, refl, refl)) (λ x p us. (S.CloseParen, p, us, refl, refl)) xs ts us rest h e

  pub value_end : (xs : List Ex) (ts us : List Token) → next_is (at_sign S.Comma) ts ≡ Good false us → closing (after xs (commas (value bytes) ts)) ≡ next (sign S.CloseParen us) (λ q. done xs)
  value_end xs ts us h = end (value bytes) FolStops (live_value bytes) (λ x p us. (S.Comma, p, us, refl, refl)) (λ x p us. (S.CloseParen, p, us, refl, refl)) xs ts us h

  pub value_later : (ts : List Token) (a b : ℕ) (x : Ex) → a ≤ length ts → b ≤ length ts → value bytes (drop a ts) ≡ Good x (drop b ts) → a ≤ b
  value_later ts a b x h k e = later (value bytes) FolStops (live_value bytes) (λ x p us. (S.Comma, p, us, refl, refl)) (λ x p us. (S.CloseParen, p, us, refl, refl)) ts a b x h k e
