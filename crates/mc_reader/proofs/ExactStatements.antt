-- Statements are read exactly.
use Rattle.std.proofs.Common.{◌≡◌, ℕ, zero, suc, ◌+◌, ◌<◌, ◌≤◌, List, [], ◌∷◌, Option, Some, None, Bool, true, false, arith, refl, ap, ◌∙◌, sym, subst, inl, inr}
use Rattle.mars_base.specs.declared.text.Span.{Span}
use Rattle.mc_tree.specs.declared.raw.Name.{Name}
use Rattle.mc_tree.specs.declared.token.Key.{Key}
use Rattle.mc_tree.specs.declared.token.Key.TheVariants as K
use Rattle.mc_tree.specs.declared.token.Sign.{Sign}
use Rattle.mc_tree.specs.declared.token.Sign.TheVariants as S
use Rattle.mc_tree.specs.declared.token.Token.{Token}
use Rattle.mc_tree.specs.declared.token.TokenKind.{TokenKind}
use Rattle.mc_tree.specs.declared.token.TokenKind.TheVariants as T
use Rattle.mc_tree.specs.Raw.{Ex, join, St, Set, SetAt, Call, If, While, Scope, Mark, Sequence, Bl, Nil, Then, Nothing, Otherwise}
use Rattle.mc_reader.specs.Roles.{trail, stops, tok}
use Rattle.mc_tree.specs.Expression.{name_at, IsExpression}
use Rattle.mc_tree.specs.Grammar.{IsKey, IsSign, IsNumber, IsName, MoreParts, Parts, IsStatement, IsBlock}
use Rattle.mc_reader.specs.Reading.{Got, Good, Bad, next, taken, chosen, done, many}
use Rattle.mc_reader.specs.Readers.{same_sign, same_key, when, at_sign, at_key, at_number, at_name, sign, key, name, number, value, commas, enclosed_by, enclosed, Block, block_of, braces, Right, Value, Called, First, Callee, Goes, called, rights, right, at_first, first_by, first_of_, Wanted, ToAssign, ToIndex, at_wanted, wanted_of, assigned, set_by, if_by, Simple, AName, AMark, Compound, AnIf, AWhile, AScope, ASequence, Begin, Simply, Deeply, simple, at_simple, at_begin, begin_of, simple_of, else_part, compound, branch, statements}
use Rattle.mc_reader.specs.Machine as M
use Rattle.mc_reader.proofs.Live.{Any, Live, Misses}
use Rattle.mc_reader.proofs.LiveLists.{FolIs}
use Rattle.mc_reader.proofs.LiveExpression.{FolStops, exact_expression, want_not_done}
use Rattle.mc_reader.proofs.ExactLists.{Part, exact_listed}
use Rattle.mc_reader.proofs.LiveTask.{Closes, closes_item, item_fits, enclosed_fits, live_value, value_not, FolRight, right_fol, not_open, FolSt, FolElse, RestSt, FolSts, rest_fol, not_else, begin_not_else, simple_not_else, rest_sign, live_simple, live_branch, live_braces, live_statements}
use Rattle.mc_reader.proofs.Firsts.{is_sign, is_key, is_number, is_name, took, sign_first, stops_first}
use Rattle.mc_reader.proofs.Exact.{Exact, says, OneToken, Nothing_, Then_, Choice_, Many, exact_token, exact_done, exact_both, exact_next, exact_choice}

pub exact_sign : (s : Sign) → same_sign s s ≡ true → Exact Any (sign s) (IsSign s)
exact_sign s is = says (exact_token (at_sign s)) (λ ts p rest (t, e, f). e ∙ ap (λ u. u ∷ rest) (is_sign s t p f)) (λ ts p rest h. (tok (T.Sign s) p, h, ap (λ b. when b p) is))

pub exact_key : (s : Key) → same_key s s ≡ true → Exact Any (key s) (IsKey s)
exact_key s is = says (exact_token (at_key s)) (λ ts p rest (t, e, f). e ∙ ap (λ u. u ∷ rest) (is_key s t p f)) (λ ts p rest h. (tok (T.Key s) p, h, ap (λ b. when b p) is))

pub exact_number : Exact Any number IsNumber
exact_number = says (exact_token at_number) (λ ts n rest (t, e, f). e ∙ ap (λ u. u ∷ rest) (is_number t n f)) (λ ts n rest h. (tok (T.Number n.value) n.span, h, refl))

pub exact_name : (bytes : List ℕ) → Exact Any (name bytes) (IsName bytes)
exact_name bytes = says (exact_token (at_name bytes)) (λ ts n rest (t, e, f). let w = is_name bytes t n f in (e ∙ ap (λ u. u ∷ rest) w.0, w.1)) (λ ts n rest h. (tok T.Name n.span, h.0, ap Some (sym h.1)))

module _ {Y : Type 0} {Fol : Y → List Token → Type 0} where
  pub sign_ex : (s : Sign) {Q : Span → List Token → Got Y} {R : Span → List Token → Y → List Token → Type 0} → same_sign s s ≡ true → ((p : Span) → Exact Fol (Q p) (R p)) → Exact Fol (λ ts. next (sign s ts) Q) (Then_ (IsSign s) R)
  sign_ex s is q = exact_next (exact_sign s is) q

  pub key_ex : (s : Key) {Q : Span → List Token → Got Y} {R : Span → List Token → Y → List Token → Type 0} → same_key s s ≡ true → ((p : Span) → Exact Fol (Q p) (R p)) → Exact Fol (λ ts. next (key s ts) Q) (Then_ (IsKey s) R)
  key_ex s is q = exact_next (exact_key s is) q

pub done_ex : {X : Type 0} (Fol : X → List Token → Type 0) (v : X) → Exact Fol (done v) (Nothing_ v)
done_ex Fol v = record { sound = (exact_done v).sound; complete = λ ts x rest h k. (exact_done v).complete ts x rest h tt }

module _ (bytes : List ℕ) where
  module _ {Y : Type 0} {Fol : Y → List Token → Type 0} where
    pub value_ex : (s : Sign) {Q : Ex → Span → List Token → Got Y} {R : Ex → Span → List Token → Y → List Token → Type 0} → same_sign s s ≡ true → stops (trail s) ≡ true → ((e : Ex) (p : Span) → Exact Fol (Q e p) (R e p))
        → Exact Fol (λ ts. next (value bytes ts) (λ e us. next (sign s us) (Q e))) (Then_ (IsExpression bytes) (λ e. Then_ (IsSign s) (R e)))
    value_ex s {Q} is stop q = exact_both (exact_expression bytes) (λ e. sign_ex s is (q e)) (λ e ts y rest h k. stops_first (Q e) ts y rest s stop h)

module _ {X : Type 0} (item : List Token → Got X) (FolI : X → List Token → Type 0) (live : Live FolI item) (comma : (x : X) (p : Span) (us : List Token) → FolI x (tok (T.Sign S.Comma) p ∷ us))
    (close : (x : X) (p : Span) (us : List Token) → FolI x (tok (T.Sign S.CloseParen) p ∷ us)) (not : (p : Span) (us : List Token) (x : X) (rest : List Token) → item (tok (T.Sign S.CloseParen) p ∷ us) ≡ Good x rest → ⊥)
    (R : List Token → X → List Token → Type 0) (e : Exact FolI item R) where
  exact_commas : Exact (λ xs. Closes []) (commas item) (Many (Part (at_sign S.Comma) (λ p. R)))
  exact_commas = exact_listed (at_sign S.Comma) (λ p. item) FolI (Closes []) (λ p. live) (λ t a ts y e. subst (λ s. FolI y (s ∷ ts)) (sym (is_sign S.Comma t a e)) (comma y a ts)) (λ ts y h. closes_item [] item FolI live comma close not y ts h)
      (λ ts (p, us, e). subst (Misses (at_sign S.Comma)) (sym e) refl) (λ p. R) (λ p. e)

  more_to : (ts : List Token) (xs : List X) (mid : List Token) (q : Span) (rest : List Token) → Many (Part (at_sign S.Comma) (λ p. R)) ts xs mid → IsSign S.CloseParen mid q rest → MoreParts R ts xs rest
  more_to ts [] mid q rest h k = (q, h ∙ k)
  more_to ts (x ∷ xs) mid q rest (m, (t, p, us, i, g, r), more) k = (p, us, m, i ∙ ap (λ s. s ∷ us) (is_sign S.Comma t p g), r, more_to m xs mid q rest more k)

  more_from : (ts : List Token) (xs : List X) (rest : List Token) → MoreParts R ts xs rest → (mid : List Token) × (q : Span) × Many (Part (at_sign S.Comma) (λ p. R)) ts xs mid × IsSign S.CloseParen mid q rest
  more_from ts [] rest (q, h) = (ts, q, refl, h)
  more_from ts (x ∷ xs) rest (p, us, m, i, r, more) = let w = more_from m xs rest more in (w.0, w.1, (m, (tok (T.Sign S.Comma) p, p, us, i, refl, r), w.2), w.3)

  pub exact_enclosed : Exact Any (enclosed item) (Parts R)
  exact_enclosed = says (exact_both (exact_choice (λ p. done_ex (FolIs (at_sign S.CloseParen)) true) (λ ts h. h)) each (enclosed_fits [] item FolI live comma close not)) to from
    where
      Each : Bool → List Token → List X → List Token → Type 0
      Each true = Nothing_ []
      Each false = Then_ R (λ x. Then_ (Many (Part (at_sign S.Comma) (λ p. R))) (λ xs. Then_ (IsSign S.CloseParen) (λ q. Nothing_ (x ∷ xs))))

      each : (b : Bool) → Exact Any (enclosed_by item b) (Each b)
      each true = done_ex Any []
      each false = exact_both e (λ x. exact_both exact_commas (λ xs. sign_ex S.CloseParen refl (λ q. done_ex Any (x ∷ xs))) (λ xs ts y rest h k. sign_first (λ q. done (x ∷ xs)) ts y rest S.CloseParen (Closes []) h (λ p us. (p, us, refl))))
          (λ x ts y rest h k. item_fits [] item FolI live comma close not x ts y rest h)

      to : (ts : List Token) (xs : List X) (rest : List Token) → Then_ (Choice_ (at_sign S.CloseParen) (λ p. Nothing_ true) false) Each ts xs rest → Parts R ts xs rest
      to ts xs rest (true, mid, inl (t, p, us, i, g, (a, b)), (c, d)) = subst (λ l. Parts R ts l rest) (sym c) (p, i ∙ ap (λ s. s ∷ us) (is_sign S.CloseParen t p g) ∙ ap (λ l. tok (T.Sign S.CloseParen) p ∷ l) (b ∙ d))
      to ts xs rest (true, mid, inr (a, b), w) = absurd cc
      to ts xs rest (false, mid, inl (t, p, us, i, g, (a, b)), w) = absurd cc
      to ts xs rest (false, mid, inr (a, b), (x, m, r, (l, m2, many, (q, m3, k, (c, d))))) =
          subst (λ l. Parts R ts l rest) (sym c) (m, subst (λ t. R t x m) (sym b) r, more_to m l m2 q rest many (k ∙ ap (λ l. tok (T.Sign S.CloseParen) q ∷ l) d))

      from : (ts : List Token) (xs : List X) (rest : List Token) → Parts R ts xs rest → Then_ (Choice_ (at_sign S.CloseParen) (λ p. Nothing_ true) false) Each ts xs rest
      from ts [] rest (p, h) = (true, rest, inl (tok (T.Sign S.CloseParen) p, p, rest, h, refl, (refl, refl)), (refl, refl))
      from ts (x ∷ xs) rest (m, r, more) = let w = more_from m xs rest more in (false, ts, inr (refl, refl), (x, m, r, (xs, w.0, w.2, (w.1, rest, w.3, (refl, refl)))))

-- how a right side begins
by_next : (s : M.Step) (n : M.Now) (u : ℕ) (F : List M.Frame) → first_by s ≡ Some (Goes n u F) → s ≡ M.Next n u F
by_next (M.Next m w G) n u F h = let c : Goes m w G ≡ Goes n u F = cc in let a : m ≡ n = cc in let b : w ≡ u = cc in let d : G ≡ F = cc in ap (λ x. M.Next x w G) a ∙ ap (λ x. M.Next n x G) b ∙ ap (M.Next n u) d
by_next (M.Done e) n u F h = let c : None ≡ Some (Goes n u F) = h in absurd cc
by_next M.Dead n u F h = let c : None ≡ Some (Goes n u F) = h in absurd cc

by_callee : (s : M.Step) (f : Name) → first_by s ≡ Some (Callee f) → ⊥
by_callee (M.Next m w G) f h = let c : Goes m w G ≡ Callee f = cc in cc
by_callee (M.Done e) f h = let c : None ≡ Some (Callee f) = h in cc
by_callee M.Dead f h = let c : None ≡ Some (Callee f) = h in cc

abbrev pub sign_for : Wanted → Sign
sign_for ToAssign = S.Assign
sign_for ToIndex = S.OpenBracket

module _ (bytes : List ℕ) where
  is_callee : (t : Token) (f : Name) → at_first bytes t ≡ Some (Callee f) → (t ≡ tok T.Name f.span) × (f ≡ name_at bytes f.span)
  is_callee t f h = by t.kind t.span h
    where
      by : (k : TokenKind) (q : Span) → first_of_ bytes k q (tok k q) ≡ Some (Callee f) → (tok k q ≡ tok T.Name f.span) × (f ≡ name_at bytes f.span)
      by T.Name q h = let d : Callee (name_at bytes q) ≡ Callee f = cc in let c : name_at bytes q ≡ f = cc in (ap (λ (m : Name). tok T.Name m.span) c, sym c ∙ ap (λ (m : Name). name_at bytes m.span) c)
      by (T.Key x) q h = absurd (by_callee (M.step bytes M.Want 0 [] (tok (T.Key x) q)) f h)
      by (T.Sign x) q h = absurd (by_callee (M.step bytes M.Want 0 [] (tok (T.Sign x) q)) f h)
      by (T.Number x) q h = absurd (by_callee (M.step bytes M.Want 0 [] (tok (T.Number x) q)) f h)

  is_goes : (t : Token) (n : M.Now) (u : ℕ) (F : List M.Frame) → at_first bytes t ≡ Some (Goes n u F) → M.step bytes M.Want 0 [] t ≡ M.Next n u F
  is_goes t n u F h = by t.kind t.span h
    where
      by : (k : TokenKind) (q : Span) → first_of_ bytes k q (tok k q) ≡ Some (Goes n u F) → M.step bytes M.Want 0 [] (tok k q) ≡ M.Next n u F
      by T.Name q h = let d : Callee (name_at bytes q) ≡ Goes n u F = cc in absurd cc
      by (T.Key x) q h = by_next (M.step bytes M.Want 0 [] (tok (T.Key x) q)) n u F h
      by (T.Sign x) q h = by_next (M.step bytes M.Want 0 [] (tok (T.Sign x) q)) n u F h
      by (T.Number x) q h = by_next (M.step bytes M.Want 0 [] (tok (T.Number x) q)) n u F h

  -- a call's arguments
  exact_args : Exact Any (enclosed (value bytes)) (Parts (IsExpression bytes))
  exact_args = exact_enclosed (value bytes) FolStops (live_value bytes) (λ x p us. (S.Comma, p, us, refl, refl)) (λ x p us. (S.CloseParen, p, us, refl, refl)) (value_not bytes) (IsExpression bytes) (exact_expression bytes)

  -- what spells the right side of an assignment
  abbrev pub IsRight : List Token → Right → List Token → Type 0
  IsRight ts (Value e) rest = IsExpression bytes ts e rest
  IsRight ts (Called f es) rest = (t1 : List Token) × (p : Span) × (t2 : List Token) × IsName bytes ts f t1 × IsSign S.OpenParen t1 p t2 × Parts (IsExpression bytes) t2 es rest

  -- the rest of a right side that is an expression
  rest_value : (g : Got Ex) (r : Right) (rest : List Token) → next g (λ e. done (Value e)) ≡ Good r rest → (e : Ex) × (g ≡ Good e rest) × (r ≡ Value e)
  rest_value (Good e mid) r rest h = let c : Value e ≡ r = cc in let d : mid ≡ rest = cc in (e, ap (Good e) d, sym c)
  rest_value (Bad mid) r rest h = let c : Bad mid ≡ Good r rest = h in absurd cc

  rest_args : (f : Name) (g : Got (List Ex)) (r : Right) (rest : List Token) → next g (λ es. done (Called f es)) ≡ Good r rest → (es : List Ex) × (g ≡ Good es rest) × (r ≡ Called f es)
  rest_args f (Good es mid) r rest h = let c : Called f es ≡ r = cc in let d : mid ≡ rest = cc in (es, ap (Good es) d, sym c)
  rest_args f (Bad mid) r rest h = let c : Bad mid ≡ Good r rest = h in absurd cc

  value_sound : (ts : List Token) (e : Ex) (rest : List Token) → value bytes ts ≡ Good e rest → IsExpression bytes ts e rest
  value_sound ts e rest h = (exact_expression bytes).sound ts e rest h

  right_sound : (ts : List Token) (r : Right) (rest : List Token) → right bytes ts ≡ Good r rest → IsRight ts r rest
  unfolding M.run
  right_sound ts r rest h =
      let w = took (at_first bytes) (rights bytes) ts r rest h in
      subst (λ l. IsRight l r rest) (sym w.is) (by w.value w.token_ w.left w.found w.reads)
    where
      plain : (t : Token) (us : List Token) (g : Got Ex) → value bytes (t ∷ us) ≡ g → next g (λ e. done (Value e)) ≡ Good r rest → IsRight (t ∷ us) r rest
      plain t us g e h = let v = rest_value g r rest h in subst (λ x. IsRight (t ∷ us) x rest) (sym v.2) (value_sound (t ∷ us) v.0 rest (e ∙ v.1))

      callee : (f : Name) (us : List Token) → f ≡ name_at bytes f.span → rights bytes (Callee f) us ≡ Good r rest → IsRight (tok T.Name f.span ∷ us) r rest
      callee f [] is h = plain (tok T.Name f.span) [] (M.run bytes [] (M.Named f) 0 []) refl h
      callee f (u ∷ us) is h = open_ (at_sign S.OpenParen u) refl h
        where
          open_ : (o : Option Span) → at_sign S.OpenParen u ≡ o → next (chosen o (λ p. done true) false (u ∷ us) us) (called bytes f) ≡ Good r rest → IsRight (tok T.Name f.span ∷ (u ∷ us)) r rest
          open_ (Some p) e h =
              let v = rest_args f (enclosed (value bytes) us) r rest h in
              subst (λ x. IsRight (tok T.Name f.span ∷ (u ∷ us)) x rest) (sym v.2) (u ∷ us, p, us, (refl, is), ap (λ s. s ∷ us) (is_sign S.OpenParen u p e), exact_args.sound us v.0 rest v.1)
          open_ None e h = plain (tok T.Name f.span) (u ∷ us) (M.run bytes (u ∷ us) (M.Named f) 0 []) (ap (λ m. M.run bytes (u ∷ us) (M.Named m) 0 []) (sym is)) h

      by : (a : First) (t : Token) (us : List Token) → at_first bytes t ≡ Some a → rights bytes a us ≡ Good r rest → IsRight (t ∷ us) r rest
      by (Callee f) t us e h = let c = is_callee t f e in subst (λ s. IsRight (s ∷ us) r rest) (sym c.0) (callee f us c.1 h)
      by (Goes n u F) t us e h = plain t us (M.run bytes us n u F) (ap (λ s. M.then bytes s (t ∷ us) us (M.run bytes us)) (is_goes t n u F e)) h

  -- a right side that is an expression is read as one
  right_value : (ts : List Token) (e : Ex) (rest : List Token) → value bytes ts ≡ Good e rest → right bytes ts ≡ Good (Value e) rest
  unfolding M.run
  right_value [] e rest h = let c : Bad [] ≡ Good e rest = h in absurd cc
  right_value (t ∷ us) e rest h = by t.kind t.span h
    where
      goes : (t : Token) (s : M.Step) → M.step bytes M.Want 0 [] t ≡ s → M.then bytes s (t ∷ us) us (M.run bytes us) ≡ Good e rest → ((x : Ex) → s ≡ M.Done x → ⊥) → next (taken (first_by s) (t ∷ us) us) (rights bytes) ≡ Good (Value e) rest
      goes t (M.Next n u F) e h n2 = ap (λ g. next g (λ e. done (Value e))) h
      goes t (M.Done x) e h n2 = absurd (n2 x refl)
      goes t M.Dead e2 h n2 = let c : Bad (t ∷ us) ≡ Good e rest = h in absurd cc

      by : (k : TokenKind) (p : Span) → value bytes (tok k p ∷ us) ≡ Good e rest → right bytes (tok k p ∷ us) ≡ Good (Value e) rest
      by T.Name p h =
          let c : called bytes (name_at bytes p) false us ≡ Good (Value e) rest = ap (λ g. next g (λ e. done (Value e))) h in
          closed us (not_open bytes (name_at bytes p) us (Value e) rest c) c
        where
          closed : (us : List Token) → Misses (at_sign S.OpenParen) us → called bytes (name_at bytes p) false us ≡ Good (Value e) rest → rights bytes (Callee (name_at bytes p)) us ≡ Good (Value e) rest
          closed [] m c = c
          closed (u ∷ us) m c = ap (λ o. next (chosen o (λ p. done true) false (u ∷ us) us) (called bytes (name_at bytes p))) m ∙ c
      by (T.Key x) p h = goes (tok (T.Key x) p) (M.step bytes M.Want 0 [] (tok (T.Key x) p)) refl h (want_not_done bytes (tok (T.Key x) p))
      by (T.Sign x) p h = goes (tok (T.Sign x) p) (M.step bytes M.Want 0 [] (tok (T.Sign x) p)) refl h (want_not_done bytes (tok (T.Sign x) p))
      by (T.Number x) p h = goes (tok (T.Number x) p) (M.step bytes M.Want 0 [] (tok (T.Number x) p)) refl h (want_not_done bytes (tok (T.Number x) p))

  pub exact_right : Exact (FolRight bytes) (right bytes) IsRight
  exact_right = record { sound = right_sound; complete = complete }
    where
      complete : (ts : List Token) (r : Right) (rest : List Token) → IsRight ts r rest → FolRight bytes r rest → right bytes ts ≡ Good r rest
      complete ts (Value e) rest h k = right_value ts e rest ((exact_expression bytes).complete ts e rest h k)
      complete ts (Called f es) rest (t1, p, t2, (a, is), b, args) k =
          ap (right bytes) (a ∙ ap (λ l. tok T.Name f.span ∷ l) b)
          ∙ ap (λ m. next (enclosed (value bytes) t2) (λ es. done (Called m es))) (sym is)
          ∙ ap (λ g. next g (λ es. done (Called f es))) (exact_args.complete t2 es rest args tt)

  -- what spells a statement after its first token
  abbrev pub Assigned : Name → Wanted → List Token → St → List Token → Type 0
  Assigned c ToAssign = Then_ IsRight (λ r. Then_ (IsSign S.Semicolon) (λ q. Nothing_ (set_by c r q)))
  Assigned c ToIndex = Then_ (IsExpression bytes) (λ i. Then_ (IsSign S.CloseBracket) (λ p. Then_ (IsSign S.Assign) (λ p. Then_ (IsExpression bytes) (λ e. Then_ (IsSign S.Semicolon) (λ q. Nothing_ (SetAt c i e (join c.span q)))))))

  abbrev pub IsSimple : Simple → List Token → St → List Token → Type 0
  IsSimple (AName c) = Then_ (OneToken at_wanted) (Assigned c)
  IsSimple (AMark f) = Then_ (IsName bytes) (λ n. Then_ (IsSign S.Semicolon) (λ q. Nothing_ (Mark n (join f q))))

  abbrev pub IsBraced : ℕ → List Token → Block → List Token → Type 0
  IsBraced d ts b rest = (p : Span) × (t1 : List Token) × (t2 : List Token) × IsSign S.OpenBrace ts p t1 × IsBlock bytes d t1 b.items t2 × IsSign S.CloseBrace t2 b.to rest

  abbrev pub IsCompound : ℕ → Compound → List Token → St → List Token → Type 0
  IsCompound d (AnIf f) = Then_ (IsSign S.OpenParen) (λ p. Then_ (IsExpression bytes) (λ e. Then_ (IsSign S.CloseParen) (λ p. Then_ (IsBraced d) (λ b. Then_ (Choice_ (at_key K.Else) (λ p. Then_ (IsBraced d) (λ b. Nothing_ (Some b))) None) (λ o. Nothing_ (if_by f e b o))))))
  IsCompound d (AWhile f) = Then_ (IsKey K.Max) (λ p. Then_ IsNumber (λ n. Then_ (IsSign S.OpenParen) (λ p. Then_ (IsExpression bytes) (λ e. Then_ (IsSign S.CloseParen) (λ p. Then_ (IsBraced d) (λ b. Nothing_ (While n e b.items (join f b.to))))))))
  IsCompound d (AScope f) = Then_ (IsName bytes) (λ n. Then_ (IsKey K.Max) (λ p. Then_ IsNumber (λ k. Then_ (IsBraced d) (λ b. Nothing_ (Scope n k b.items (join f b.to))))))
  IsCompound d (ASequence f) = Then_ (IsKey K.Max) (λ p. Then_ IsNumber (λ k. Then_ (IsBraced d) (λ b. Nothing_ (Sequence k b.items (join f b.to)))))

  abbrev pub IsBranch : ℕ → Begin → List Token → St → List Token → Type 0
  IsBranch d (Simply s) = IsSimple s
  IsBranch d (Deeply c) = IsCompound d c

  exact_assigned : (c : Name) (w : Wanted) → Exact (FolSt bytes) (assigned bytes c w) (Assigned c w)
  exact_assigned c ToAssign = exact_both exact_right (λ r. sign_ex S.Semicolon refl (λ q. done_ex (FolSt bytes) (set_by c r q))) (λ r ts y rest h k. right_fol bytes r ts (stops_first (λ q. done (set_by c r q)) ts y rest S.Semicolon refl h))
  exact_assigned c ToIndex = value_ex bytes S.CloseBracket refl refl (λ i p. sign_ex S.Assign refl (λ p. value_ex bytes S.Semicolon refl refl (λ e q. done_ex (FolSt bytes) (SetAt c i e (join c.span q)))))

  exact_simple : (s : Simple) → Exact (FolSt bytes) (simple bytes s) (IsSimple s)
  exact_simple (AName c) = exact_next (exact_token at_wanted) (exact_assigned c)
  exact_simple (AMark f) = exact_next (exact_name bytes) (λ n. sign_ex S.Semicolon refl (λ q. done_ex (FolSt bytes) (Mark n (join f q))))

  module _ (d : ℕ) (block : List Token → Got Block) (e : Exact Any block (IsBraced d)) where
    exact_else : Exact (FolElse bytes) (else_part bytes block) (Choice_ (at_key K.Else) (λ p. Then_ (IsBraced d) (λ b. Nothing_ (Some b))) None)
    exact_else = exact_choice (λ p. exact_next e (λ b. done_ex (FolElse bytes) (Some b))) (λ ts h. h)

    if_fol2 : (f : Span) (x : Ex) (b : Block) (o : Option Block) (ts : List Token) → FolSt bytes (if_by f x b o) ts → FolElse bytes o ts
    if_fol2 f x b None ts h = h
    if_fol2 f x b (Some c) ts h = tt

    if_fits : (f : Span) (x : Ex) (b : Block) (o : Option Block) (ts : List Token) (y : St) (rest : List Token) → done (if_by f x b o) ts ≡ Good y rest → FolSt bytes y rest → FolElse bytes o ts
    if_fits f x b o ts y rest h k = let a : if_by f x b o ≡ y = cc in let c : ts ≡ rest = cc in if_fol2 f x b o ts (subst (λ z. FolSt bytes z ts) (sym a) (subst (FolSt bytes y) (sym c) k))

    exact_compound : (c : Compound) → Exact (FolSt bytes) (compound bytes block c) (IsCompound d c)
    exact_compound (AnIf f) = sign_ex S.OpenParen refl (λ p. value_ex bytes S.CloseParen refl refl (λ x p. exact_next e (λ b. exact_both exact_else (λ o. done_ex (FolSt bytes) (if_by f x b o)) (if_fits f x b))))
    exact_compound (AWhile f) = key_ex K.Max refl (λ p. exact_next exact_number (λ n. sign_ex S.OpenParen refl (λ p. value_ex bytes S.CloseParen refl refl (λ x p. exact_next e (λ b. done_ex (FolSt bytes) (While n x b.items (join f b.to)))))))
    exact_compound (AScope f) = exact_next (exact_name bytes) (λ n. key_ex K.Max refl (λ p. exact_next exact_number (λ k. exact_next e (λ b. done_ex (FolSt bytes) (Scope n k b.items (join f b.to))))))
    exact_compound (ASequence f) = key_ex K.Max refl (λ p. exact_next exact_number (λ k. exact_next e (λ b. done_ex (FolSt bytes) (Sequence k b.items (join f b.to)))))

    exact_branch : (b : Begin) → Exact (FolSt bytes) (branch bytes block b) (IsBranch d b)
    exact_branch (Simply s) = exact_simple s
    exact_branch (Deeply c) = exact_compound c

  -- the first token of a statement
  abbrev pub token_of : Begin → Token
  token_of (Simply (AName c)) = tok T.Name c.span
  token_of (Simply (AMark f)) = tok (T.Key K.Mark) f
  token_of (Deeply (AnIf f)) = tok (T.Key K.If) f
  token_of (Deeply (AWhile f)) = tok (T.Key K.While) f
  token_of (Deeply (AScope f)) = tok (T.Key K.Scope) f
  token_of (Deeply (ASequence f)) = tok (T.Key K.Sequence) f

  begin_is : (t : Token) (a : Begin) → at_begin bytes t ≡ Some a → (t ≡ token_of a) × (at_begin bytes (token_of a) ≡ Some a)
  begin_is t a h = let e = by t.kind t.span h in (e, ap (at_begin bytes) (sym e) ∙ h)
    where
      by : (k : TokenKind) (q : Span) → begin_of bytes k q ≡ Some a → tok k q ≡ token_of a
      by T.Name q h = let c : Simply (AName (name_at bytes q)) ≡ a = cc in ap token_of c
      by (T.Key K.Mark) q h = let c : Simply (AMark q) ≡ a = cc in ap token_of c
      by (T.Key K.If) q h = let c : Deeply (AnIf q) ≡ a = cc in ap token_of c
      by (T.Key K.While) q h = let c : Deeply (AWhile q) ≡ a = cc in ap token_of c
      by (T.Key K.Scope) q h = let c : Deeply (AScope q) ≡ a = cc in ap token_of c
      by (T.Key K.Sequence) q h = let c : Deeply (ASequence q) ≡ a = cc in ap token_of c
      by k q h = let c : None ≡ Some a = h in absurd cc

  simple_begins : (t : Token) (a : Simple) → at_simple bytes t ≡ Some a → at_begin bytes t ≡ Some (Simply a)
  simple_begins t a h = by t.kind t.span h
    where
      by : (k : TokenKind) (q : Span) → simple_of bytes k q ≡ Some a → begin_of bytes k q ≡ Some (Simply a)
      by T.Name q h = let c : AName (name_at bytes q) ≡ a = cc in ap (λ x. Some (Simply x)) c
      by (T.Key K.Mark) q h = let c : AMark q ≡ a = cc in ap (λ x. Some (Simply x)) c
      by k q h = let c : None ≡ Some a = h in absurd cc

  wanted_is : (t : Token) (w : Wanted) → at_wanted t ≡ Some w → t ≡ tok (T.Sign (sign_for w)) t.span
  wanted_is t w h = by t.kind t.span h
    where
      by : (k : TokenKind) (q : Span) → wanted_of k ≡ Some w → tok k q ≡ tok (T.Sign (sign_for w)) q
      by (T.Sign S.Assign) q h = let c : ToAssign ≡ w = cc in ap (λ x. tok (T.Sign (sign_for x)) q) c
      by (T.Sign S.OpenBracket) q h = let c : ToIndex ≡ w = cc in ap (λ x. tok (T.Sign (sign_for x)) q) c
      by k q h = let c : None ≡ Some w = h in absurd cc

  -- each form of a statement
  simple_to : (d : ℕ) (t : Token) (a : Simple) (us : List Token) (s : St) (rest : List Token) → at_begin bytes t ≡ Some (Simply a) → IsSimple a us s rest → IsStatement bytes d (t ∷ us) s rest
  simple_to d t (AName c) us s rest h r = let b = begin_is t (Simply (AName c)) h in subst (λ u. IsStatement bytes d (u ∷ us) s rest) (sym b.0) (named (let g : Simply (AName (name_at bytes c.span)) ≡ Simply (AName c) = cc in let k : AName (name_at bytes c.span) ≡ AName c = cc in cc) r)
    where
      named : name_at bytes c.span ≡ c → IsSimple (AName c) us s rest → IsStatement bytes d (tok T.Name c.span ∷ us) s rest
      named is (ToAssign, m, (u, i, g), (Value e, m2, x, (q, m3, k, (z, l)))) =
          subst (λ y. IsStatement bytes d (tok T.Name c.span ∷ us) y rest) (sym z) (us, u.span, m, m2, q, (refl, sym is), i ∙ ap (λ t. t ∷ m) (wanted_is u ToAssign g), x, k ∙ ap (λ t. tok (T.Sign S.Semicolon) q ∷ t) l, refl)
      named is (ToAssign, m, (u, i, g), (Called f es, m2, (t1, p, t2, x, y, w), (q, m3, k, (z, l)))) =
          subst (λ y. IsStatement bytes d (tok T.Name c.span ∷ us) y rest) (sym z) (us, u.span, m, t1, p, t2, m2, q, (refl, sym is), i ∙ ap (λ t. t ∷ m) (wanted_is u ToAssign g), x, y, w, k ∙ ap (λ t. tok (T.Sign S.Semicolon) q ∷ t) l, refl)
      named is (ToIndex, m, (u, i, g), (j, m2, x, (p2, m3, x2, (p3, m4, x3, (e, m5, x4, (q, m6, k, (z, l))))))) =
          subst (λ y. IsStatement bytes d (tok T.Name c.span ∷ us) y rest) (sym z) (us, u.span, m, m2, p2, m3, p3, m4, m5, q, (refl, sym is), i ∙ ap (λ t. t ∷ m) (wanted_is u ToIndex g), x, x2, x3, x4, k ∙ ap (λ t. tok (T.Sign S.Semicolon) q ∷ t) l, refl)
  simple_to d t (AMark f) us s rest h (n, m, x, (q, m2, k, (z, l))) =
      let b = begin_is t (Simply (AMark f)) h in
      subst (λ y. IsStatement bytes d (t ∷ us) y rest) (sym z) (f, us, m, q, ap (λ u. u ∷ us) b.0, x, k ∙ ap (λ t. tok (T.Sign S.Semicolon) q ∷ t) l, refl)

  compound_to : (d : ℕ) → d < 64 → (t : Token) (a : Compound) (us : List Token) (s : St) (rest : List Token) → at_begin bytes t ≡ Some (Deeply a) → IsCompound (suc d) a us s rest → IsStatement bytes d (t ∷ us) s rest
  compound_to d lt t (AnIf f) us s rest h (p1, m1, x1, (e, m2, x2, (p3, m3, x3, (b, m4, (q1, k1, k2, y1, y2, y3), (o, m5, ch, (z, l)))))) =
      let i = begin_is t (Deeply (AnIf f)) h in
      subst (λ y. IsStatement bytes d (t ∷ us) y rest) (sym z) (by o ch l)
    where
      by : (o : Option Block) → Choice_ (at_key K.Else) (λ p. Then_ (IsBraced (suc d)) (λ b. Nothing_ (Some b))) None m4 o m5 → m5 ≡ rest → IsStatement bytes d (t ∷ us) (if_by f e b o) rest
      by None (inr (n, w)) l = (f, us, p1, m1, m2, p3, m3, q1, k1, k2, b.to, m4, lt, ap (λ u. u ∷ us) (begin_is t (Deeply (AnIf f)) h).0, x1, x2, x3, y1, y2, y3, (w ∙ l, refl))
      by None (inl (u, p, v, i2, g, (c, m6, w, (z2, l2)))) l = absurd cc
      by (Some c) (inr (n, w)) l = absurd cc
      by (Some c) (inl (u, p, v, i2, g, (c2, m6, (q2, k3, k4, w1, w2, w3), (z2, l2)))) l =
          let cs : c ≡ c2 = cc in
          subst (λ x. IsStatement bytes d (t ∷ us) (if_by f e b (Some x)) rest) (sym cs)
          (f, us, p1, m1, m2, p3, m3, q1, k1, k2, b.to, m4, lt, ap (λ u. u ∷ us) (begin_is t (Deeply (AnIf f)) h).0, x1, x2, x3, y1, y2, y3, (p, v, q2, k3, k4, c2.to, i2 ∙ ap (λ t. t ∷ v) (is_key K.Else u p g), w1, w2, w3 ∙ ap (λ t. tok (T.Sign S.CloseBrace) c2.to ∷ t) (l2 ∙ l), refl))
  compound_to d lt t (AWhile f) us s rest h (p1, m1, x1, (n, m2, x2, (p3, m3, x3, (e, m4, x4, (p5, m5, x5, (b, m6, (q1, k1, k2, y1, y2, y3), (z, l))))))) =
      let i = begin_is t (Deeply (AWhile f)) h in
      subst (λ y. IsStatement bytes d (t ∷ us) y rest) (sym z) (f, us, p1, m1, m2, p3, m3, m4, p5, m5, q1, k1, k2, b.to, lt, ap (λ u. u ∷ us) i.0, x1, x2, x3, x4, x5, y1, y2, y3 ∙ ap (λ t. tok (T.Sign S.CloseBrace) b.to ∷ t) l, refl)
  compound_to d lt t (AScope f) us s rest h (n, m1, x1, (p2, m2, x2, (k, m3, x3, (b, m4, (q1, k1, k2, y1, y2, y3), (z, l))))) =
      let i = begin_is t (Deeply (AScope f)) h in
      subst (λ y. IsStatement bytes d (t ∷ us) y rest) (sym z) (f, us, m1, p2, m2, m3, q1, k1, k2, b.to, lt, ap (λ u. u ∷ us) i.0, x1, x2, x3, y1, y2, y3 ∙ ap (λ t. tok (T.Sign S.CloseBrace) b.to ∷ t) l, refl)
  compound_to d lt t (ASequence f) us s rest h (p1, m1, x1, (k, m2, x2, (b, m3, (q1, k1, k2, y1, y2, y3), (z, l)))) =
      let i = begin_is t (Deeply (ASequence f)) h in
      subst (λ y. IsStatement bytes d (t ∷ us) y rest) (sym z) (f, us, p1, m1, m2, q1, k1, k2, b.to, lt, ap (λ u. u ∷ us) i.0, x1, x2, y1, y2, y3 ∙ ap (λ t. tok (T.Sign S.CloseBrace) b.to ∷ t) l, refl)

  -- a statement begins so, and then comes the rest of it
  abbrev pub Found : ℕ → List Token → St → List Token → Type 0
  Found d ts s rest = Part (at_begin bytes) (IsBranch d) ts (Some s) rest

  block_from : (d : ℕ) (b : Bl) (q : Span) (p : Span) (t1 t2 ts rest : List Token) → IsSign S.OpenBrace ts p t1 → IsBlock bytes d t1 b t2 → IsSign S.CloseBrace t2 q rest → IsBraced d ts (record { items = b; to = q }) rest
  block_from d b q p t1 t2 ts rest x y z = (p, t1, t2, x, y, z)

  abbrev pub blk : Bl → Span → Block
  blk b q = record { items = b; to = q }

  st_from : (d : ℕ) (s : St) (ts rest : List Token) → IsStatement bytes d ts s rest → Found (suc d) ts s rest
  st_from d (Set c e sp) ts rest (t1, p, t2, t3, q, (x, is), y, z, w, r) =
      (tok T.Name c.span, Simply (AName c), t1, x, ap (λ n. Some (Simply (AName n))) (sym is), (ToAssign, t2, (tok (T.Sign S.Assign) p, y, refl), (Value e, t3, z, (q, rest, w, (ap (Set c e) r, refl)))))
  st_from d (SetAt c i e sp) ts rest (t1, p1, t2, t3, p2, t4, p3, t5, t6, q, (x, is), y1, y2, y3, y4, y5, y6, r) =
      (tok T.Name c.span, Simply (AName c), t1, x, ap (λ n. Some (Simply (AName n))) (sym is), (ToIndex, t2, (tok (T.Sign S.OpenBracket) p1, y1, refl), (i, t3, y2, (p2, t4, y3, (p3, t5, y4, (e, t6, y5, (q, rest, y6, (ap (SetAt c i e) r, refl))))))))
  st_from d (Call c f es sp) ts rest (t1, p1, t2, t3, p2, t4, t5, q, (x, is), y1, y2, y3, y4, y5, r) =
      (tok T.Name c.span, Simply (AName c), t1, x, ap (λ n. Some (Simply (AName n))) (sym is), (ToAssign, t2, (tok (T.Sign S.Assign) p1, y1, refl), (Called f es, t5, (t3, p2, t4, y2, y3, y4), (q, rest, y5, (ap (Call c f es) r, refl)))))
  st_from d (If e b Nothing sp) ts rest (f, t1, p1, t2, t3, p2, t4, p3, t5, t6, p4, t7, lt, x, x1, x2, x3, x4, x5, x6, (w, r)) =
      (tok (T.Key K.If) f, Deeply (AnIf f), t1, x, refl, (p1, t2, x1, (e, t3, x2, (p2, t4, x3, (blk b p4, t7, (p3, t5, t6, x4, x5, x6), (None, rest, inr (refl, w), (ap (If e b Nothing) r, refl)))))))
  st_from d (If e b (Otherwise c) sp) ts rest (f, t1, p1, t2, t3, p2, t4, p3, t5, t6, p4, t7, lt, x, x1, x2, x3, x4, x5, x6, (q1, s1, q2, s2, s3, z, w1, w2, w3, w4, r)) = (
    tok (T.Key K.If) f,
    Deeply (AnIf f),
    t1,
    x,
    refl,
    (
      p1,
      t2,
      x1,
      (
        e,
        t3,
        x2,
        (
          p2,
          t4,
          x3,
          (
            blk b p4,
            t7,
            (p3, t5, t6, x4, x5, x6),
            (Some (blk c z), rest, inl (tok (T.Key K.Else) q1, q1, s1, w1, refl, (blk c z, rest, (q2, s2, s3, w2, w3, w4), (refl, refl))), (ap (If e b (Otherwise c)) r, refl)),
          ),
        ),
      ),
    ),
  )
  st_from d (While n e b sp) ts rest (f, t1, p1, t2, t3, p2, t4, t5, p3, t6, p4, t7, t8, q, lt, x, x1, x2, x3, x4, x5, x6, x7, x8, r) =
      (tok (T.Key K.While) f, Deeply (AWhile f), t1, x, refl, (p1, t2, x1, (n, t3, x2, (p2, t4, x3, (e, t5, x4, (p3, t6, x5, (blk b q, rest, (p4, t7, t8, x6, x7, x8), (ap (While n e b) r, refl))))))))
  st_from d (Scope n k b sp) ts rest (f, t1, t2, p1, t3, t4, p2, t5, t6, q, lt, x, x1, x2, x3, x4, x5, x6, r) =
      (tok (T.Key K.Scope) f, Deeply (AScope f), t1, x, refl, (n, t2, x1, (p1, t3, x2, (k, t4, x3, (blk b q, rest, (p2, t5, t6, x4, x5, x6), (ap (Scope n k b) r, refl))))))
  st_from d (Mark n sp) ts rest (f, t1, t2, q, x, x1, x2, r) =
      (tok (T.Key K.Mark) f, Simply (AMark f), t1, x, refl, (n, t2, x1, (q, rest, x2, (ap (Mark n) r, refl))))
  st_from d (Sequence k b sp) ts rest (f, t1, p1, t2, t3, p2, t4, t5, q, lt, x, x1, x2, x3, x4, x5, r) =
      (tok (T.Key K.Sequence) f, Deeply (ASequence f), t1, x, refl, (p1, t2, x1, (k, t3, x2, (blk b q, rest, (p2, t4, t5, x3, x4, x5), (ap (Sequence k b) r, refl)))))

  part_to : (d : ℕ) → d < 64 → (ts : List Token) (s : St) (rest : List Token) → Found (suc d) ts s rest → IsStatement bytes d ts s rest
  part_to d lt ts s rest (t, Simply a, us, i, g, r) = subst (λ l. IsStatement bytes d l s rest) (sym i) (simple_to d t a us s rest g r)
  part_to d lt ts s rest (t, Deeply a, us, i, g, r) = subst (λ l. IsStatement bytes d l s rest) (sym i) (compound_to d lt t a us s rest g r)

  bl_to : (d : ℕ) → d < 64 → (ss : List St) (ts rest : List Token) → Many (Part (at_begin bytes) (IsBranch (suc d))) ts ss rest → IsBlock bytes d ts (block_of ss) rest
  bl_to d lt [] ts rest h = h
  bl_to d lt (s ∷ ss) ts rest (m, p, more) = (m, part_to d lt ts s m p, bl_to d lt ss m rest more)

  bl_from : (d : ℕ) (ss : List St) (ts rest : List Token) → IsBlock bytes d ts (block_of ss) rest → Many (Part (at_begin bytes) (IsBranch (suc d))) ts ss rest
  bl_from d [] ts rest h = h
  bl_from d (s ∷ ss) ts rest (m, p, more) = (m, st_from d s ts m p, bl_from d ss m rest more)

  -- where no more levels are left
  simple_from : (d : ℕ) → 64 ≤ d → (s : St) (ts rest : List Token) → IsStatement bytes d ts s rest → Part (at_simple bytes) IsSimple ts (Some s) rest
  simple_from d full (Set c e sp) ts rest (t1, p, t2, t3, q, (x, is), y, z, w, r) =
      (tok T.Name c.span, AName c, t1, x, ap (λ n. Some (AName n)) (sym is), (ToAssign, t2, (tok (T.Sign S.Assign) p, y, refl), (Value e, t3, z, (q, rest, w, (ap (Set c e) r, refl)))))
  simple_from d full (SetAt c i e sp) ts rest (t1, p1, t2, t3, p2, t4, p3, t5, t6, q, (x, is), y1, y2, y3, y4, y5, y6, r) =
      (tok T.Name c.span, AName c, t1, x, ap (λ n. Some (AName n)) (sym is), (ToIndex, t2, (tok (T.Sign S.OpenBracket) p1, y1, refl), (i, t3, y2, (p2, t4, y3, (p3, t5, y4, (e, t6, y5, (q, rest, y6, (ap (SetAt c i e) r, refl))))))))
  simple_from d full (Call c f es sp) ts rest (t1, p1, t2, t3, p2, t4, t5, q, (x, is), y1, y2, y3, y4, y5, r) =
      (tok T.Name c.span, AName c, t1, x, ap (λ n. Some (AName n)) (sym is), (ToAssign, t2, (tok (T.Sign S.Assign) p1, y1, refl), (Called f es, t5, (t3, p2, t4, y2, y3, y4), (q, rest, y5, (ap (Call c f es) r, refl)))))
  simple_from d full (Mark n sp) ts rest (f, t1, t2, q, x, x1, x2, r) =
      (tok (T.Key K.Mark) f, AMark f, t1, x, refl, (n, t2, x1, (q, rest, x2, (ap (Mark n) r, refl))))
  simple_from d full (If e b o sp) ts rest h = absurd (omega (arith, h.12, full))
  simple_from d full (While n e b sp) ts rest h = absurd (omega (arith, h.14, full))
  simple_from d full (Scope n k b sp) ts rest h = absurd (omega (arith, h.10, full))
  simple_from d full (Sequence k b sp) ts rest h = absurd (omega (arith, h.9, full))

  simples_to : (d : ℕ) (ss : List St) (ts rest : List Token) → Many (Part (at_simple bytes) IsSimple) ts ss rest → IsBlock bytes d ts (block_of ss) rest
  simples_to d [] ts rest h = h
  simples_to d (s ∷ ss) ts rest (m, (t, a, us, i, g, r), more) = (m, subst (λ l. IsStatement bytes d l s m) (sym i) (simple_to d t a us s m (simple_begins t a g) r), simples_to d ss m rest more)

  simples_from : (d : ℕ) → 64 ≤ d → (ss : List St) (ts rest : List Token) → IsBlock bytes d ts (block_of ss) rest → Many (Part (at_simple bytes) IsSimple) ts ss rest
  simples_from d full [] ts rest h = h
  simples_from d full (s ∷ ss) ts rest (m, p, more) = (m, simple_from d full s ts m p, simples_from d full ss m rest more)

  abbrev pub list_of : Bl → List St
  list_of Nil = []
  list_of (Then s b) = s ∷ list_of b

  pub list_block : (b : Bl) → block_of (list_of b) ≡ b
  list_block Nil = refl
  list_block (Then s b) = ap (Then s) (list_block b)

  abbrev pub IsSts : ℕ → List Token → List St → List Token → Type 0
  IsSts d ts ss rest = IsBlock bytes d ts (block_of ss) rest

  exact_braces : (d : ℕ) (inner : List Token → Got (List St)) → Exact (FolSts bytes) inner (IsSts d) → Exact Any (braces inner) (IsBraced d)
  exact_braces d inner e = says (sign_ex S.OpenBrace refl (λ p. exact_both e (λ ss. sign_ex S.CloseBrace refl (λ q. done_ex Any (blk (block_of ss) q))) (λ ss ts y rest h k. sign_first (λ q. done (blk (block_of ss) q)) ts y rest S.CloseBrace (RestSt bytes) h (rest_sign bytes))))
      (λ ts b rest (p, m1, x, (ss, m2, y, (q, m3, z, (w, l)))). subst (λ v. IsBraced d ts v rest) (sym w) (p, m1, m2, x, y, z ∙ ap (λ t. tok (T.Sign S.CloseBrace) q ∷ t) l))
      (λ ts b rest (p, t1, t2, x, y, z). (p, t1, x, (list_of b.items, t2, subst (λ v. IsBlock bytes d t1 v t2) (sym (list_block b.items)) y, (b.to, rest, z, (ap (λ i. blk i b.to) (sym (list_block b.items)), refl)))))

  pub exact_statements : (n d : ℕ) → n + d ≡ 64 → Exact (FolSts bytes) (statements bytes n) (IsSts d)
  unfolding statements
  exact_statements zero d is = says (exact_listed (at_simple bytes) (simple bytes) (FolSt bytes) (RestSt bytes) (live_simple bytes) (λ t a ts y e. not_else bytes t ts y (simple_not_else bytes t a e)) (λ ts y h. rest_fol bytes ts y h) (λ ts h. h.1) IsSimple exact_simple)
      (λ ts ss rest h. simples_to d ss ts rest h) (λ ts ss rest h. simples_from d (omega (arith, is)) ss ts rest h)
  exact_statements (suc n) d is =
      let e = exact_braces (suc d) (statements bytes n) (exact_statements n (suc d) (omega (arith, is))) in
      says (exact_listed (at_begin bytes) (branch bytes (braces (statements bytes n))) (FolSt bytes) (RestSt bytes) (live_branch bytes (braces (statements bytes n)) (live_braces bytes (statements bytes n) (live_statements bytes n)))
      (λ t a ts y e. not_else bytes t ts y (begin_not_else bytes t a e)) (λ ts y h. rest_fol bytes ts y h) (λ ts h. h.0) (IsBranch (suc d)) (exact_branch (suc d) (braces (statements bytes n)) e))
      (λ ts ss rest h. bl_to d (omega (arith, is)) ss ts rest h) (λ ts ss rest h. bl_from d ss ts rest h)
