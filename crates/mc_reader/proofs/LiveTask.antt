-- Each reader of a task's parts dies at the first token that nothing can go on with.
use Rattle.std.proofs.Common.{◌≡◌, ℕ, zero, suc, List, [], ◌∷◌, length, Option, Some, None, Bool, true, false, refl, ap, ◌∙◌, sym, subst}
use Rattle.mars_base.specs.declared.text.Span.{Span}
use Rattle.mars_base.specs.declared.word.Role.{Role}
use Rattle.mars_base.specs.declared.word.Role.TheVariants as R
use Rattle.mc_tree.specs.declared.raw.Name.{Name}
use Rattle.mc_tree.specs.declared.raw.RawNumber.{RawNumber}
use Rattle.mc_tree.specs.declared.raw.RawDecl.{RawDecl}
use Rattle.mc_tree.specs.declared.token.Key.{Key}
use Rattle.mc_tree.specs.declared.token.Key.TheVariants as K
use Rattle.mc_tree.specs.declared.token.Sign.{Sign}
use Rattle.mc_tree.specs.declared.token.Sign.TheVariants as S
use Rattle.mc_tree.specs.declared.token.Token.{Token}
use Rattle.mc_tree.specs.declared.token.TokenKind.{TokenKind}
use Rattle.mc_tree.specs.declared.token.TokenKind.TheVariants as T
use Rattle.mc_tree.specs.Raw.{Ex, join, St, Set, SetAt, Call, If, While, Scope, Mark, Sequence, Nothing, Otherwise, Func, Body, Task}
use Rattle.mc_reader.specs.Roles.{trail, stops, tok}
use Rattle.mc_tree.specs.Expression.{name_at}
use Rattle.mc_reader.specs.Reading.{Got, Good, Bad, next, token, done, at_end, many}
use Rattle.mc_reader.specs.Readers.{same_sign, same_key, when, at_sign, at_key, at_number, at_name, sign, key, name, number, value, next_is, commas, enclosed_by, enclosed, width, Block, block_of, braces, Right, Value, Called, First, Callee, Goes, called, rights, right, at_first, Wanted, ToAssign, ToIndex, at_wanted, assigned, set_by, if_by, Simple, AName, AMark, Compound, AnIf, AWhile, AScope, ASequence, Begin, Simply, Deeply, simple, at_simple, at_begin, else_part, compound, branch, statements, decl, at_port, at_local, port_of, local_of, ports, locals, func, funcs, body, task}
use Rattle.mc_reader.specs.Machine as M
use Rattle.mc_tree.specs.Grammar.{word_of}
use Rattle.mc_reader.proofs.Live.{Any, Live, Misses, AtEnd, live_token, live_both, live_next, live_choice, live_end}
use Rattle.mc_reader.proofs.LiveLists.{done_live, live_map, FolIs, live_next_is, live_listed, no_part}
use Rattle.mc_reader.proofs.LiveExpression.{FolStops, live_run}
use Rattle.mc_reader.proofs.Complete.{Stops}
use Rattle.mc_reader.proofs.Firsts.{is_sign, is_key, sign_first, key_first, stops_first}

abbrev pub here : Span
here = record { from = 0; to = 0 }

abbrev pub a_sign : Sign → Token
a_sign s = tok (T.Sign s) here

pub misses_unless : {A : Type 0} (f : Token → Option A) (ts : List Token) → ((t : Token) (a : A) (us : List Token) → ts ≡ t ∷ us → f t ≡ Some a → ⊥) → Misses f ts
misses_unless f [] h = tt
misses_unless {A} f (t ∷ us) h = by (f t) refl
  where
    by : (o : Option A) → f t ≡ o → o ≡ None
    by None e = refl
    by (Some a) e = absurd (h t a us refl e)

module _ {Y : Type 0} {Fol : Y → List Token → Type 0} where
  pub sign_then : (s : Sign) {Q : Span → List Token → Got Y} → same_sign s s ≡ true → ((p : Span) → Live Fol (Q p)) → Live Fol (λ ts. next (sign s ts) Q)
  sign_then s {Q} is q = live_next (sign s) Q Fol (live_token (at_sign s) (a_sign s) here (ap (λ b. when b here) is)) q

  pub key_then : (s : Key) {Q : Span → List Token → Got Y} → same_key s s ≡ true → ((p : Span) → Live Fol (Q p)) → Live Fol (λ ts. next (key s ts) Q)
  key_then s {Q} is q = live_next (key s) Q Fol (live_token (at_key s) (tok (T.Key s) here) here (ap (λ b. when b here) is)) q

  pub number_then : {Q : RawNumber → List Token → Got Y} → ((n : RawNumber) → Live Fol (Q n)) → Live Fol (λ ts. next (number ts) Q)
  number_then {Q} q = live_next number Q Fol (live_token at_number (tok (T.Number 0) here) (record { value = 0; span = here }) refl) q

abbrev pub FolWidth : Option RawNumber → List Token → Type 0
FolWidth None ts = Misses (at_sign S.OpenBracket) ts
FolWidth (Some n) ts = Unit {0}

pub live_width : Live FolWidth width
live_width = live_choice (at_sign S.OpenBracket) (λ p us. next (number us) (λ n vs. next (sign S.CloseBracket vs) (λ q. done (Some n)))) None FolWidth (λ p. number_then (λ n. sign_then S.CloseBracket refl (λ q. done_live FolWidth (Some n)))) (λ ts h. h)

pub width_fol : (w : Option RawNumber) (p : Span) (us : List Token) → FolWidth w (tok (T.Sign S.Semicolon) p ∷ us)
width_fol None p us = refl
width_fol (Some n) p us = tt

pub is_local : (t : Token) (r : Role) → at_local t ≡ Some r → (t ≡ tok (T.Key K.Var) t.span) × (r ≡ R.Local)
is_local t r h = by t.kind t.span h
  where
    by : (k : TokenKind) (q : Span) → local_of k ≡ Some r → (tok k q ≡ tok (T.Key K.Var) q) × (r ≡ R.Local)
    by (T.Key K.Var) q h = let c : R.Local ≡ r = cc in (refl, sym c)
    by k q h = absurd cc

pub is_port : (t : Token) (r : Role) → at_port t ≡ Some r → (t ≡ tok (T.Key (word_of r)) t.span) × (r ≡ R.Local → ⊥)
is_port t r h = by t.kind t.span h
  where
    by : (k : TokenKind) (q : Span) → port_of k ≡ Some r → (tok k q ≡ tok (T.Key (word_of r)) q) × (r ≡ R.Local → ⊥)
    by (T.Key K.In) q h = let c : R.In ≡ r = cc in (ap (λ x. tok (T.Key (word_of x)) q) c, λ e. let d : R.In ≡ R.Local = c ∙ e in cc)
    by (T.Key K.Out) q h = let c : R.Out ≡ r = cc in (ap (λ x. tok (T.Key (word_of x)) q) c, λ e. let d : R.Out ≡ R.Local = c ∙ e in cc)
    by (T.Key K.State) q h = let c : R.State ≡ r = cc in (ap (λ x. tok (T.Key (word_of x)) q) c, λ e. let d : R.State ≡ R.Local = c ∙ e in cc)
    by k q h = absurd cc

module _ (bytes : List ℕ) where
  pub live_value : Live FolStops (value bytes)
  live_value = live_run bytes M.Want 0 []

  pub live_name : Live Any (name bytes)
  live_name = live_token (at_name bytes) (tok T.Name here) (name_at bytes here) refl

  module _ {Y : Type 0} {Fol : Y → List Token → Type 0} where
    pub name_then : {Q : Name → List Token → Got Y} → ((n : Name) → Live Fol (Q n)) → Live Fol (λ ts. next (name bytes ts) Q)
    name_then {Q} q = live_next (name bytes) Q Fol live_name q

    -- an expression, and the sign after it
    pub value_then : (s : Sign) {Q : Ex → Span → List Token → Got Y} → same_sign s s ≡ true → stops (trail s) ≡ true → ((e : Ex) (p : Span) → Live Fol (Q e p)) → Live Fol (λ ts. next (value bytes ts) (λ e us. next (sign s us) (Q e)))
    value_then s {Q} is stop q = live_both (value bytes) (λ e us. next (sign s us) (Q e)) FolStops Fol live_value (λ e. sign_then s is (q e)) (λ e ts y rest h k. stops_first (Q e) ts y rest s stop h)

  -- the parenthesis that closes comes first
  abbrev pub Closes : List Token → Type 0
  Closes ts = (p : Span) × (us : List Token) × (ts ≡ tok (T.Sign S.CloseParen) p ∷ us)

  module _ {X : Type 0} (item : List Token → Got X) (FolI : X → List Token → Type 0) (live : Live FolI item) (comma : (x : X) (p : Span) (us : List Token) → FolI x (tok (T.Sign S.Comma) p ∷ us))
      (close : (x : X) (p : Span) (us : List Token) → FolI x (tok (T.Sign S.CloseParen) p ∷ us)) (not : (p : Span) (us : List Token) (x : X) (rest : List Token) → item (tok (T.Sign S.CloseParen) p ∷ us) ≡ Good x rest → ⊥) where
    pub closes_item : (x : X) (ts : List Token) → Closes ts → FolI x ts
    closes_item x ts (p, us, e) = subst (FolI x) (sym e) (close x p us)

    pub live_commas : Live (λ xs. Closes) (commas item)
    live_commas = live_listed (at_sign S.Comma) (λ p. item) FolI Closes (λ p. live) (λ t a ts y e. subst (λ s. FolI y (s ∷ ts)) (sym (is_sign S.Comma t a e)) (comma y a ts)) (λ ts y h. closes_item y ts h)
        (λ ts (p, us, e). subst (Misses (at_sign S.Comma)) (sym e) refl)

    abbrev pub after_item : (x : X) → List Token → Got (List X)
    after_item x us = next (commas item us) (λ xs vs. next (sign S.CloseParen vs) (λ q. done (x ∷ xs)))

    pub live_after : (x : X) → Live Any (after_item x)
    live_after x = live_both (commas item) (λ xs vs. next (sign S.CloseParen vs) (λ q. done (x ∷ xs))) (λ xs. Closes) Any live_commas (λ xs. sign_then S.CloseParen refl (λ q. done_live Any (x ∷ xs)))
        (λ xs ts y rest h k. sign_first (λ q. done (x ∷ xs)) ts y rest S.CloseParen Closes h (λ p us. (p, us, refl)))

    -- after an item comes a comma or the parenthesis
    pub item_fits : (x : X) (ts : List Token) (y : List X) (rest : List Token) → after_item x ts ≡ Good y rest → FolI x ts
    unfolding many
    item_fits x [] y rest h = absurd (nothing h)
      where
        nothing : next (commas item []) (λ xs vs. next (sign S.CloseParen vs) (λ q. done (x ∷ xs))) ≡ Good y rest → ⊥
        nothing h = let c : Bad [] ≡ Good y rest = h in cc
    item_fits x (t ∷ us) y rest h = by (at_sign S.Comma t) refl
      where
        by : (o : Option Span) → at_sign S.Comma t ≡ o → FolI x (t ∷ us)
        by (Some p) e = subst (λ s. FolI x (s ∷ us)) (sym (is_sign S.Comma t p e)) (comma x p us)
        by None e =
            let n = no_part (at_sign S.Comma) (λ p. item) FolI Closes (λ p. live) (λ t a ts y e. subst (λ s. FolI y (s ∷ ts)) (sym (is_sign S.Comma t a e)) (comma y a ts)) (λ ts y h. closes_item y ts h)
            (λ ts (p, us, e). subst (Misses (at_sign S.Comma)) (sym e) refl) t us e in
            let c : next (sign S.CloseParen (t ∷ us)) (λ q. done (x ∷ [])) ≡ Good y rest = sym (ap (λ g. next g (λ xs vs. next (sign S.CloseParen vs) (λ q. done (x ∷ xs)))) n) ∙ h in
            sign_first (λ q. done (x ∷ [])) (t ∷ us) y rest S.CloseParen (FolI x) c (λ p us. close x p us)

    no_item : (p : Span) (us : List Token) (g : Got X) → item (tok (T.Sign S.CloseParen) p ∷ us) ≡ g → (y : List X) (rest : List Token) → next g after_item ≡ Good y rest → ⊥
    no_item p us (Good x mid) e y rest h = not p us x mid e
    no_item p us (Bad mid) e y rest h = let c : Bad mid ≡ Good y rest = h in cc

    pub enclosed_fits : (b : Bool) (ts : List Token) (y : List X) (rest : List Token) → enclosed_by item b ts ≡ Good y rest → Any y rest → FolIs (at_sign S.CloseParen) b ts
    enclosed_fits true ts y rest h k = tt
    enclosed_fits false ts y rest h k = misses_unless (at_sign S.CloseParen) ts (λ t p us e g. let f = e ∙ ap (λ s. s ∷ us) (is_sign S.CloseParen t p g) in no_item p us (item (tok (T.Sign S.CloseParen) p ∷ us)) refl y rest (sym (ap (enclosed_by item false) f) ∙ h))

    pub live_enclosed : Live Any (enclosed item)
    live_enclosed = live_both (next_is (at_sign S.CloseParen)) (enclosed_by item) (FolIs (at_sign S.CloseParen)) Any (live_next_is (at_sign S.CloseParen)) each enclosed_fits
      where
        each : (b : Bool) → Live Any (enclosed_by item b)
        each true = done_live Any []
        each false = live_both item after_item FolI Any live live_after (λ x ts y rest h k. item_fits x ts y rest h)

  pub name_not : (p : Span) (us : List Token) (x : Name) (rest : List Token) → name bytes (tok (T.Sign S.CloseParen) p ∷ us) ≡ Good x rest → ⊥
  name_not p us x rest h = let c : Bad (tok (T.Sign S.CloseParen) p ∷ us) ≡ Good x rest = h in cc

  pub value_not : (p : Span) (us : List Token) (x : Ex) (rest : List Token) → value bytes (tok (T.Sign S.CloseParen) p ∷ us) ≡ Good x rest → ⊥
  unfolding M.run
  value_not p us x rest h = let c : Bad (tok (T.Sign S.CloseParen) p ∷ us) ≡ Good x rest = h in cc

  pub live_params : Live Any (enclosed (name bytes))
  live_params = live_enclosed (name bytes) Any live_name (λ x p us. tt) (λ x p us. tt) name_not

  pub live_args : Live Any (enclosed (value bytes))
  live_args = live_enclosed (value bytes) FolStops live_value (λ x p us. (S.Comma, p, us, refl, refl)) (λ x p us. (S.CloseParen, p, us, refl, refl)) value_not

  -- what may follow the right side of an assignment
  abbrev pub FolRight : Right → List Token → Type 0
  FolRight (Value e) ts = Stops ts
  FolRight (Called f es) ts = Unit {0}

  pub right_fol : (r : Right) (ts : List Token) → Stops ts → FolRight r ts
  right_fol (Value e) ts h = h
  right_fol (Called f es) ts h = tt

  live_called : (f : Name) (b : Bool) → Live FolRight (called bytes f b)
  live_called f true = live_map (enclosed (value bytes)) (λ es. Called f es) Any FolRight live_args (λ es ts h. tt)
  live_called f false = live_map (λ ts. M.run bytes ts (M.Named f) 0 []) (λ e. Value e) FolStops FolRight (live_run bytes (M.Named f) 0 []) (λ e ts h. h)

  -- no expression goes on with an opening parenthesis after a name
  pub not_open : (f : Name) (ts : List Token) (y : Right) (rest : List Token) → called bytes f false ts ≡ Good y rest → Misses (at_sign S.OpenParen) ts
  unfolding M.run
  not_open f ts y rest h = misses_unless (at_sign S.OpenParen) ts (λ t p us e g.
      let k = e ∙ ap (λ s. s ∷ us) (is_sign S.OpenParen t p g) in
      let c : Bad (tok (T.Sign S.OpenParen) p ∷ us) ≡ Good y rest = sym (ap (called bytes f false) k) ∙ h in cc)

  live_rights : (r : First) → Live FolRight (rights bytes r)
  live_rights (Callee f) = live_both (next_is (at_sign S.OpenParen)) (called bytes f) (FolIs (at_sign S.OpenParen)) FolRight (live_next_is (at_sign S.OpenParen)) (live_called f) fits
    where
      fits : (b : Bool) (ts : List Token) (y : Right) (rest : List Token) → called bytes f b ts ≡ Good y rest → FolRight y rest → FolIs (at_sign S.OpenParen) b ts
      fits true ts y rest h k = tt
      fits false ts y rest h k = not_open f ts y rest h
  live_rights (Goes n u F) = live_map (λ ts. M.run bytes ts n u F) (λ e. Value e) FolStops FolRight (live_run bytes n u F) (λ e ts h. h)

  live_right : Live FolRight (right bytes)
  live_right = live_next (token (at_first bytes)) (rights bytes) FolRight (live_token (at_first bytes) (tok T.Name here) (Callee (name_at bytes here)) refl) live_rights

  -- what may follow a statement
  abbrev pub FolSt : St → List Token → Type 0
  FolSt (If e b Nothing s) ts = Misses (at_key K.Else) ts
  FolSt s ts = Unit {0}

  live_assigned : (c : Name) (w : Wanted) → Live FolSt (assigned bytes c w)
  live_assigned c ToAssign = live_both (right bytes) (λ r us. next (sign S.Semicolon us) (λ q. done (set_by c r q))) FolRight FolSt live_right (λ r. sign_then S.Semicolon refl (λ q. done_live FolSt (set_by c r q)))
      (λ r ts y rest h k. right_fol r ts (stops_first (λ q. done (set_by c r q)) ts y rest S.Semicolon refl h))
  live_assigned c ToIndex = value_then S.CloseBracket refl refl (λ i p. sign_then S.Assign refl (λ p. value_then S.Semicolon refl refl (λ e q. done_live FolSt (SetAt c i e (join c.span q)))))

  pub live_simple : (s : Simple) → Live FolSt (simple bytes s)
  live_simple (AName c) = live_next (token at_wanted) (assigned bytes c) FolSt (live_token at_wanted (a_sign S.Assign) ToAssign refl) (live_assigned c)
  live_simple (AMark f) = name_then (λ n. sign_then S.Semicolon refl (λ q. done_live FolSt (Mark n (join f q))))

  abbrev pub FolElse : Option Block → List Token → Type 0
  FolElse None ts = Misses (at_key K.Else) ts
  FolElse (Some b) ts = Unit {0}

  module _ (block : List Token → Got Block) (live : Live Any block) where
    live_else : Live FolElse (else_part bytes block)
    live_else = live_choice (at_key K.Else) (λ p us. next (block us) (λ b. done (Some b))) None FolElse (λ p. live_map block (λ b. Some b) Any FolElse live (λ b ts h. tt)) (λ ts h. h)

    pub if_fol : (f : Span) (e : Ex) (b : Block) (o : Option Block) (ts : List Token) → FolSt (if_by f e b o) ts → FolElse o ts
    if_fol f e b None ts h = h
    if_fol f e b (Some c) ts h = tt

    live_compound : (c : Compound) → Live FolSt (compound bytes block c)
    live_compound (AnIf f) = sign_then S.OpenParen refl (λ p. value_then S.CloseParen refl refl (λ e p. live_next block (λ b t4. next (else_part bytes block t4) (λ o. done (if_by f e b o))) FolSt live
        (λ b. live_map (else_part bytes block) (λ o. if_by f e b o) FolElse FolSt live_else (λ o ts h. if_fol f e b o ts h))))
    live_compound (AWhile f) = key_then K.Max refl (λ p. number_then (λ n. sign_then S.OpenParen refl (λ p. value_then S.CloseParen refl refl (λ e p. live_map block (λ b. While n e b.items (join f b.to)) Any FolSt live (λ b ts h. tt)))))
    live_compound (AScope f) = name_then (λ n. key_then K.Max refl (λ p. number_then (λ k. live_map block (λ b. Scope n k b.items (join f b.to)) Any FolSt live (λ b ts h. tt))))
    live_compound (ASequence f) = key_then K.Max refl (λ p. number_then (λ k. live_map block (λ b. Sequence k b.items (join f b.to)) Any FolSt live (λ b ts h. tt)))

    pub live_branch : (b : Begin) → Live FolSt (branch bytes block b)
    live_branch (Simply s) = live_simple s
    live_branch (Deeply c) = live_compound c

  -- what may follow statements: neither a statement nor an else
  abbrev pub RestSt : List Token → Type 0
  RestSt ts = Misses (at_begin bytes) ts × Misses (at_simple bytes) ts × Misses (at_key K.Else) ts

  pub rest_fol : (ts : List Token) (s : St) → RestSt ts → FolSt s ts
  rest_fol ts (If e b Nothing s) h = h.2
  rest_fol ts (If e b (Otherwise c) s) h = tt
  rest_fol ts (Set c e s) h = tt
  rest_fol ts (SetAt c i e s) h = tt
  rest_fol ts (Call c f es s) h = tt
  rest_fol ts (While n e b s) h = tt
  rest_fol ts (Scope n k b s) h = tt
  rest_fol ts (Mark n s) h = tt
  rest_fol ts (Sequence k b s) h = tt

  -- a statement doesn't begin with an else
  pub not_else : (t : Token) (ts : List Token) (s : St) → at_key K.Else t ≡ None → FolSt s (t ∷ ts)
  not_else t ts (If e b Nothing s) h = h
  not_else t ts (If e b (Otherwise c) s) h = tt
  not_else t ts (Set c e s) h = tt
  not_else t ts (SetAt c i e s) h = tt
  not_else t ts (Call c f es s) h = tt
  not_else t ts (While n e b s) h = tt
  not_else t ts (Scope n k b s) h = tt
  not_else t ts (Mark n s) h = tt
  not_else t ts (Sequence k b s) h = tt

  pub begin_not_else : (t : Token) (b : Begin) → at_begin bytes t ≡ Some b → at_key K.Else t ≡ None
  begin_not_else t b h = misses_unless (at_key K.Else) (t ∷ []) (λ s p us e g.
      let k : t ≡ s = cc in let c : None ≡ Some b = sym (ap (at_begin bytes) (k ∙ is_key K.Else s p g)) ∙ h in cc)

  pub simple_not_else : (t : Token) (b : Simple) → at_simple bytes t ≡ Some b → at_key K.Else t ≡ None
  simple_not_else t b h = misses_unless (at_key K.Else) (t ∷ []) (λ s p us e g.
      let k : t ≡ s = cc in let c : None ≡ Some b = sym (ap (at_simple bytes) (k ∙ is_key K.Else s p g)) ∙ h in cc)

  abbrev pub FolSts : List St → List Token → Type 0
  FolSts ss ts = RestSt ts

  pub rest_sign : (p : Span) (us : List Token) → RestSt (tok (T.Sign S.CloseBrace) p ∷ us)
  rest_sign p us = (refl, refl, refl)

  pub live_braces : (inner : List Token → Got (List St)) → Live FolSts inner → Live Any (braces inner)
  live_braces inner l = sign_then S.OpenBrace refl (λ p. live_both inner (λ ss vs. next (sign S.CloseBrace vs) (λ q. done (record { items = block_of ss; to = q }))) FolSts Any l
      (λ ss. sign_then S.CloseBrace refl (λ q. done_live Any (record { items = block_of ss; to = q })))
      (λ ss ts y rest h k. sign_first (λ q. done (record { items = block_of ss; to = q })) ts y rest S.CloseBrace RestSt h rest_sign))

  pub live_statements : (n : ℕ) → Live FolSts (statements bytes n)
  unfolding statements
  live_statements zero = live_listed (at_simple bytes) (simple bytes) FolSt RestSt live_simple (λ t a ts y e. not_else t ts y (simple_not_else t a e)) (λ ts y h. rest_fol ts y h) (λ ts h. h.1)
  live_statements (suc n) = live_listed (at_begin bytes) (branch bytes (braces (statements bytes n))) FolSt RestSt (live_branch (braces (statements bytes n)) (live_braces (statements bytes n) (live_statements n)))
      (λ t a ts y e. not_else t ts y (begin_not_else t a e)) (λ ts y h. rest_fol ts y h) (λ ts h. h.0)

  pub live_decl : (r : Role) → Live Any (decl bytes r)
  live_decl r = name_then (λ n. live_both width (λ w t2. next (sign S.Semicolon t2) (λ q. done (record { role = r; name = n; width = w }))) FolWidth Any live_width (λ w. sign_then S.Semicolon refl (λ q. done_live Any (record { role = r; name = n; width = w })))
      (λ w ts y rest h k. sign_first (λ q. done (record { role = r; name = n; width = w })) ts y rest S.Semicolon (FolWidth w) h (λ p us. width_fol w p us)))

  pub live_locals : Live (λ ds. Misses at_local) (locals bytes)
  live_locals = live_listed at_local (decl bytes) Any (Misses at_local) live_decl (λ t a ts y e. tt) (λ ts y h. tt) (λ ts h. h)

  pub live_ports : Live (λ ds. Misses at_port) (ports bytes)
  live_ports = live_listed at_port (decl bytes) Any (Misses at_port) live_decl (λ t a ts y e. tt) (λ ts y h. tt) (λ ts h. h)

  -- no local follows the locals
  module _ {Y : Type 0} (Q : List RawDecl → List St → List Token → Got Y) (no_local : (ls : List RawDecl) (p : Span) (us : List Token) (y : Y) (rest : List Token) → Q ls [] (tok (T.Key K.Var) p ∷ us) ≡ Good y rest → ⊥) where
    pub fits_locals : (ls : List RawDecl) (ts : List Token) (y : Y) (rest : List Token) → next (statements bytes 64 ts) (Q ls) ≡ Good y rest → Misses at_local ts
    unfolding statements many
    fits_locals ls ts y rest h = misses_unless at_local ts (λ t r us e g.
        let k = e ∙ ap (λ s. s ∷ us) (is_local t r g).0 in
        let c : next (statements bytes 64 (tok (T.Key K.Var) t.span ∷ us)) (Q ls) ≡ Good y rest = sym (ap (λ l. next (statements bytes 64 l) (Q ls)) k) ∙ h in
        no_local ls t.span us y rest c)

  -- locals and statements
  module _ {Y : Type 0} {Fol : Y → List Token → Type 0} (Q : List RawDecl → List St → List Token → Got Y) (q : (ls : List RawDecl) (ss : List St) → Live Fol (Q ls ss))
      (rests : (ls : List RawDecl) (ss : List St) (ts : List Token) (y : Y) (rest : List Token) → Q ls ss ts ≡ Good y rest → RestSt ts) (no_local : (ls : List RawDecl) (p : Span) (us : List Token) (y : Y) (rest : List Token) → Q ls [] (tok (T.Key K.Var) p ∷ us) ≡ Good y rest → ⊥) where
    pub locals_then : Live Fol (λ ts. next (locals bytes ts) (λ ls us. next (statements bytes 64 us) (Q ls)))
    locals_then = live_both (locals bytes) (λ ls us. next (statements bytes 64 us) (Q ls)) (λ ds. Misses at_local) Fol live_locals
        (λ ls. live_both (statements bytes 64) (Q ls) FolSts Fol (live_statements 64) (q ls) (λ ss ts y rest h k. rests ls ss ts y rest h)) (λ ls ts y rest h k. fits_locals Q no_local ls ts y rest h)

  -- the end of a function, and of the body
  abbrev pub func_end : Span → Name → List Name → List RawDecl → List St → List Token → Got Func
  func_end k n ns ls ss t6 = next (key K.Return t6) (λ p t7. next (value bytes t7) (λ e t8. next (sign S.Semicolon t8) (λ p t9. next (sign S.CloseBrace t9) (λ q.
      done (record { name = n; params = ns; locals = ls; body = block_of ss; answer = e; span = join k q })))))

  abbrev pub body_end : List RawDecl → List St → List Token → Got (Option Body)
  body_end ls ss t4 = next (sign S.CloseBrace t4) (λ q. done (Some (record { locals = ls; body = block_of ss })))

  pub func_rests : (k : Span) (n : Name) (ns : List Name) (ls : List RawDecl) (ss : List St) (ts : List Token) (y : Func) (rest : List Token) → func_end k n ns ls ss ts ≡ Good y rest → RestSt ts
  func_rests k n ns ls ss ts y rest h = key_first _ ts y rest K.Return RestSt h (λ p us. (refl, refl, refl))

  pub func_no_local : (k : Span) (n : Name) (ns : List Name) (ls : List RawDecl) (p : Span) (us : List Token) (y : Func) (rest : List Token) → func_end k n ns ls [] (tok (T.Key K.Var) p ∷ us) ≡ Good y rest → ⊥
  func_no_local k n ns ls p us y rest h = let c : Bad (tok (T.Key K.Var) p ∷ us) ≡ Good y rest = h in cc

  pub body_rests : (ls : List RawDecl) (ss : List St) (ts : List Token) (y : Option Body) (rest : List Token) → body_end ls ss ts ≡ Good y rest → RestSt ts
  body_rests ls ss ts y rest h = sign_first _ ts y rest S.CloseBrace RestSt h rest_sign

  pub body_no_local : (ls : List RawDecl) (p : Span) (us : List Token) (y : Option Body) (rest : List Token) → body_end ls [] (tok (T.Key K.Var) p ∷ us) ≡ Good y rest → ⊥
  body_no_local ls p us y rest h = let c : Bad (tok (T.Key K.Var) p ∷ us) ≡ Good y rest = h in cc

  pub live_func : (k : Span) → Live Any (func bytes k)
  live_func k = name_then (λ n. sign_then S.OpenParen refl (λ p. live_next (enclosed (name bytes)) (λ ns t3. next (sign S.OpenBrace t3) (λ p t4. next (locals bytes t4) (λ ls t5. next (statements bytes 64 t5) (func_end k n ns ls)))) Any live_params
      (λ ns. sign_then S.OpenBrace refl (λ p. locals_then (func_end k n ns)
      (λ ls ss. key_then K.Return refl (λ p. value_then S.Semicolon refl refl (λ e p. sign_then S.CloseBrace refl (λ q. done_live Any (record { name = n; params = ns; locals = ls; body = block_of ss; answer = e; span = join k q })))))
      (func_rests k n ns) (func_no_local k n ns)))))

  abbrev pub FolFuncs : List Func → List Token → Type 0
  FolFuncs fs ts = Misses (at_key K.Func) ts

  pub live_funcs : Live FolFuncs (funcs bytes)
  live_funcs = live_listed (at_key K.Func) (func bytes) Any (Misses (at_key K.Func)) live_func (λ t a ts y e. tt) (λ ts y h. tt) (λ ts h. h)

  abbrev pub FolBody : Option Body → List Token → Type 0
  FolBody None ts = Misses (at_key K.Body) ts
  FolBody (Some b) ts = Unit {0}

  pub live_body : Live FolBody (body bytes)
  live_body = live_choice (at_key K.Body) (λ p t1. next (sign S.OpenBrace t1) (λ p t2. next (locals bytes t2) (λ ls t3. next (statements bytes 64 t3) (body_end ls)))) None FolBody
      (λ p. sign_then S.OpenBrace refl (λ p. locals_then body_end (λ ls ss. sign_then S.CloseBrace refl (λ q. done_live FolBody (Some (record { locals = ls; body = block_of ss })))) body_rests body_no_local)) (λ ts h. h)

  abbrev pub tree : Name → List RawDecl → List Func → Option Body → Task
  tree n ds fs b = record { name = n; decls = ds; funcs = fs; body = b; end = length bytes }

  abbrev pub last : Name → List RawDecl → List Func → List Token → Got Task
  last n ds fs ts = next (body bytes ts) (λ b. at_end (tree n ds fs b))

  pub no_func : (n : Name) (ds : List RawDecl) (fs : List Func) (ts : List Token) (y : Task) (rest : List Token) → last n ds fs ts ≡ Good y rest → Misses (at_key K.Func) ts
  no_func n ds fs ts y rest h = misses_unless (at_key K.Func) ts (λ t p us e g.
      let k = e ∙ ap (λ s. s ∷ us) (is_key K.Func t p g) in
      let c : Bad (tok (T.Key K.Func) p ∷ us) ≡ Good y rest = sym (ap (last n ds fs) k) ∙ h in cc)

  pub no_port : (n : Name) (ds : List RawDecl) (ts : List Token) (y : Task) (rest : List Token) → next (funcs bytes ts) (last n ds) ≡ Good y rest → Misses at_port ts
  unfolding many
  no_port n ds ts y rest h = misses_unless at_port ts (λ t r us e g. by r t us (e ∙ ap (λ s. s ∷ us) (is_port t r g).0) (is_port t r g).1)
    where
      by : (r : Role) (t : Token) (us : List Token) → ts ≡ tok (T.Key (word_of r)) t.span ∷ us → (r ≡ R.Local → ⊥) → ⊥
      by R.In t us k n2 = let c : Bad (tok (T.Key K.In) t.span ∷ us) ≡ Good y rest = sym (ap (λ l. next (funcs bytes l) (last n ds)) k) ∙ h in cc
      by R.Out t us k n2 = let c : Bad (tok (T.Key K.Out) t.span ∷ us) ≡ Good y rest = sym (ap (λ l. next (funcs bytes l) (last n ds)) k) ∙ h in cc
      by R.State t us k n2 = let c : Bad (tok (T.Key K.State) t.span ∷ us) ≡ Good y rest = sym (ap (λ l. next (funcs bytes l) (last n ds)) k) ∙ h in cc
      by R.Local t us k n2 = n2 refl

  pub body_fits : (n : Name) (ds : List RawDecl) (fs : List Func) (b : Option Body) (ts : List Token) (y : Task) (rest : List Token) → at_end (tree n ds fs b) ts ≡ Good y rest → FolBody b ts
  body_fits n ds fs (Some b) ts y rest h = tt
  body_fits n ds fs None [] y rest h = tt
  body_fits n ds fs None (t ∷ ts) y rest h = let c : Bad (t ∷ ts) ≡ Good y rest = h in absurd cc

  live_last : (n : Name) (ds : List RawDecl) (fs : List Func) → Live AtEnd (last n ds fs)
  live_last n ds fs = live_both (body bytes) (λ b. at_end (tree n ds fs b)) FolBody AtEnd live_body (λ b. live_end (tree n ds fs b)) (λ b ts y rest h k. body_fits n ds fs b ts y rest h)

  pub live_task : Live AtEnd (task bytes)
  live_task = key_then K.Task refl (λ p. name_then (λ n. sign_then S.Semicolon refl (λ p. live_both (ports bytes) (λ ds t4. next (funcs bytes t4) (last n ds)) (λ ds. Misses at_port) AtEnd live_ports
      (λ ds. live_both (funcs bytes) (last n ds) FolFuncs AtEnd live_funcs (live_last n ds) (λ fs ts y rest h k. no_func n ds fs ts y rest h)) (λ ds ts y rest h k. no_port n ds ts y rest h))))
