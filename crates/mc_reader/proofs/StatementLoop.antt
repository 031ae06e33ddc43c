-- The loop over statements.
use Rattle.std.proofs.Common.{◌≡◌, ℕ, zero, suc, ◌≤◌, ◌-◌, List, [], ◌∷◌, ◌++◌, length, drop, Option, Some, None, arith, refl, ap, ◌∙◌, sym, subst}
use Rattle.std.proofs.lemmas.List.{length-drop}
use Rattle.mc_tree.specs.declared.token.Token.{Token}
use Rattle.mars_base.specs.declared.text.Span.{Span}
use Rattle.mc_tree.specs.declared.token.Sign.TheVariants as S
use Rattle.mc_tree.specs.Raw.{St}
use Rattle.mc_reader.specs.Reading.{Got, Good, Bad, Misses, next, done}
use Rattle.mc_reader.specs.Readers.{Begin, Simply, AName, Simple, block_of, sign, statements, at_simple, at_begin, begin_of, simple_of, simple, branch, braces}
use Rattle.mc_reader.specs.Answers.{after}
use Rattle.mc_tree.specs.declared.raw.Name.{Name}
use Rattle.mc_tree.specs.declared.token.Key.TheVariants as K
use Rattle.mc_tree.specs.declared.token.TokenKind.{TokenKind}
use Rattle.mc_tree.specs.declared.token.TokenKind.TheVariants as T
use Rattle.mc_tree.specs.Expression.{name_at}
use Rattle.mc_reader.specs.declared.statement.Begin as D
use Rattle.mc_reader.specs.declared.statement.Begin.TheVariants as B
use Rattle.mc_reader.specs.Frames.{IsInside}
use Rattle.mc_reader.specs.Plain.{at_begin_in, begin_by, block_in, simply_of, IsInsideBegin}
use Rattle.mc_reader.proofs.LiveTask.{FolSt, RestSt, rest_fol, not_else, begin_not_else, simple_not_else, live_simple, live_branch, live_braces, live_statements}
use Rattle.mc_reader.proofs.LiveLists.{shorter}
use Rattle.mc_reader.proofs.Loops.{one_more, bad_part, no_more}

module _ (bytes : List ℕ) where
  -- a statement of the form that begins so, with n levels left
  abbrev pub form : ℕ → Begin → List Token → Got St
  form n b ts = branch bytes (block_in bytes n) b ts

  simple_is : (t : Token) (b : Begin) → simply_of bytes (at_simple bytes t) ≡ Some b → (s : Simple) × (at_simple bytes t ≡ Some s) × (b ≡ Simply s)
  simple_is t b h = by (at_simple bytes t) refl h
    where
      by : (o : Option Simple) → at_simple bytes t ≡ o → simply_of bytes o ≡ Some b → (s : Simple) × (at_simple bytes t ≡ Some s) × (b ≡ Simply s)
      by (Some s) e h = let c : Simply s ≡ b = cc in (s, e, sym c)
      by None e h = let c : None ≡ Some b = h in absurd cc

  pub st_more : (n : ℕ) (xs : List St) (t : Token) (b : Begin) (us : List Token) (x : St) (rest : List Token) → at_begin_in bytes n t ≡ Some b → form n b us ≡ Good x rest → after xs (statements bytes n (t ∷ us)) ≡ after (xs ++ x ∷ []) (statements bytes n rest)
  unfolding statements
  st_more zero xs t b us x rest e h = let s = simple_is t b e in
      one_more (at_simple bytes) (simple bytes) (FolSt bytes) (RestSt bytes) (live_simple bytes) (λ t a ts y e. not_else bytes t ts y (simple_not_else bytes t a e)) (λ ts y h. rest_fol bytes ts y h) (λ ts h. h.1) xs t s.0 us x rest s.1 (ap (λ a. form zero a us) (sym s.2) ∙ h)
  st_more (suc n) xs t b us x rest e h =
      one_more (at_begin bytes) (branch bytes (braces (statements bytes n))) (FolSt bytes) (RestSt bytes) (live_branch bytes (braces (statements bytes n)) (live_braces bytes (statements bytes n) (live_statements bytes n)))
      (λ t a ts y e. not_else bytes t ts y (begin_not_else bytes t a e)) (λ ts y h. rest_fol bytes ts y h) (λ ts h. h.0) xs t b us x rest e h

  pub st_bad : (n : ℕ) (xs : List St) (t : Token) (b : Begin) (us rest : List Token) → at_begin_in bytes n t ≡ Some b → form n b us ≡ Bad rest → after xs (statements bytes n (t ∷ us)) ≡ Bad rest
  unfolding statements
  st_bad zero xs t b us rest e h = let s = simple_is t b e in
      bad_part (at_simple bytes) (simple bytes) (FolSt bytes) (RestSt bytes) (live_simple bytes) (λ t a ts y e. not_else bytes t ts y (simple_not_else bytes t a e)) (λ ts y h. rest_fol bytes ts y h) (λ ts h. h.1) xs t s.0 us rest s.1 (ap (λ a. form zero a us) (sym s.2) ∙ h)
  st_bad (suc n) xs t b us rest e h =
      bad_part (at_begin bytes) (branch bytes (braces (statements bytes n))) (FolSt bytes) (RestSt bytes) (live_branch bytes (braces (statements bytes n)) (live_braces bytes (statements bytes n) (live_statements bytes n)))
      (λ t a ts y e. not_else bytes t ts y (begin_not_else bytes t a e)) (λ ts y h. rest_fol bytes ts y h) (λ ts h. h.0) xs t b us rest e h

  pub st_end : (n : ℕ) (xs : List St) (ts : List Token) → Misses (at_begin_in bytes n) ts → after xs (statements bytes n ts) ≡ Good xs ts
  unfolding statements
  st_end zero xs ts m =
      no_more (at_simple bytes) (simple bytes) (FolSt bytes) (RestSt bytes) (live_simple bytes) (λ t a ts y e. not_else bytes t ts y (simple_not_else bytes t a e)) (λ ts y h. rest_fol bytes ts y h) (λ ts h. h.1) xs ts (misses ts m)
    where
      none : (o : Option Simple) → simply_of bytes o ≡ None → o ≡ None
      none None h = refl
      none (Some s) h = absurd cc

      misses : (ts : List Token) → Misses (at_begin_in bytes zero) ts → Misses (at_simple bytes) ts
      misses [] m = tt
      misses (t ∷ us) m = none (at_simple bytes t) m
  st_end (suc n) xs ts m =
      no_more (at_begin bytes) (branch bytes (braces (statements bytes n))) (FolSt bytes) (RestSt bytes) (live_branch bytes (braces (statements bytes n)) (live_braces bytes (statements bytes n) (live_statements bytes n)))
      (λ t a ts y e. not_else bytes t ts y (begin_not_else bytes t a e)) (λ ts y h. rest_fol bytes ts y h) (λ ts h. h.0) xs ts m

  pub form_later : (n : ℕ) (b : Begin) (ts : List Token) (a c : ℕ) (x : St) → (t : Token) → at_begin_in bytes n t ≡ Some b → a ≤ length ts → c ≤ length ts → form n b (drop a ts) ≡ Good x (drop c ts) → a ≤ c
  form_later zero b ts a c x t i h k e = let s = simple_is t b i in
      omega (arith, shorter (FolSt bytes) (simple bytes s.0) (live_simple bytes s.0) (drop a ts) x (drop c ts) (ap (λ a2. form zero a2 (drop a ts)) (sym s.2) ∙ e), length-drop a ts, length-drop c ts, h, k)
  form_later (suc n) b ts a c x t i h k e =
      omega (arith, shorter (FolSt bytes) (branch bytes (braces (statements bytes n)) b) (live_branch bytes (braces (statements bytes n)) (live_braces bytes (statements bytes n) (live_statements bytes n)) b) (drop a ts) x (drop c ts) e, length-drop a ts, length-drop c ts, h, k)

  -- a block that isn't closed
  pub not_closed : (n : ℕ) (ts : List Token) (p : Span) (t1 : List Token) (ss : List St) (t2 rest : List Token) → (n ≡ 0 → ⊥) → sign S.OpenBrace ts ≡ Good p t1 → statements bytes (n - 1) t1 ≡ Good ss t2 → sign S.CloseBrace t2 ≡ Bad rest → block_in bytes n ts ≡ Bad rest
  not_closed zero ts p t1 ss t2 rest h a b c = absurd (h refl)
  not_closed (suc m) ts p t1 ss t2 rest h a b c =
      let e : suc m - 1 ≡ m = omega arith in
      ap (λ g. next g (λ p us. next (statements bytes m us) (λ ss vs. next (sign S.CloseBrace vs) (λ q. done (record { items = block_of ss; to = q }))))) a
      ∙ ap (λ g. next g (λ ss vs. next (sign S.CloseBrace vs) (λ q. done (record { items = block_of ss; to = q })))) (ap (λ k. statements bytes k t1) (sym e) ∙ b)
      ∙ ap (λ g. next g (λ q. done (record { items = block_of ss; to = q }))) c

-- a statement's first name stands where its token does
pub begin_inside : (n end : ℕ) (t : Token) (b : D.Begin) → at_begin_in [] n t ≡ Some (begin_by [] b) → IsInside end t.span → IsInsideBegin end b
begin_inside n end t (B.Name p) h i = subst (IsInside end) (named n h) i
  where
    at_name_is : (k : TokenKind) (q : Span) → begin_of [] k q ≡ Some (Simply (AName (name_at [] p))) → q ≡ p
    at_name_is T.Name q h = let c : name_at [] q ≡ name_at [] p = cc in ap (λ (m : Name). m.span) c
    at_name_is (T.Key K.Mark) q h = absurd cc
    at_name_is (T.Key K.If) q h = absurd cc
    at_name_is (T.Key K.While) q h = absurd cc
    at_name_is (T.Key K.Scope) q h = absurd cc
    at_name_is (T.Key K.Sequence) q h = absurd cc
    at_name_is k q h = absurd cc

    simple_name_is : (k : TokenKind) (q : Span) → simply_of [] (simple_of [] k q) ≡ Some (Simply (AName (name_at [] p))) → q ≡ p
    simple_name_is T.Name q h = let c : name_at [] q ≡ name_at [] p = cc in ap (λ (m : Name). m.span) c
    simple_name_is (T.Key K.Mark) q h = absurd cc
    simple_name_is k q h = absurd cc

    named : (n : ℕ) → at_begin_in [] n t ≡ Some (Simply (AName (name_at [] p))) → t.span ≡ p
    named zero h = simple_name_is t.kind t.span h
    named (suc n) h = at_name_is t.kind t.span h
begin_inside n end t (B.Mark p) h i = tt
begin_inside n end t (B.If p) h i = tt
begin_inside n end t (B.While p) h i = tt
begin_inside n end t (B.Scope p) h i = tt
begin_inside n end t (B.Sequence p) h i = tt
