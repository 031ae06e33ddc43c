-- An expression dies at the first token that no expression can go on with.
use Rattle.std.proofs.Common.{◌≡◌, ℕ, suc, List, [], ◌∷◌, ◌++◌, Bool, true, false, cond, arith, refl, ap, ◌∙◌, sym, subst}
use Rattle.std.specs.Prelude.{nat_lt, nat_le}
use Rattle.std.proofs.lemmas.Bool.Decides.{nat_tests}
use Rattle.mars_base.specs.declared.word.BinOp.{BinOp}
use Rattle.mars_base.specs.declared.text.Span.{Span}
use Rattle.mc_tree.specs.declared.raw.Name.{Name}
use Rattle.mc_tree.specs.declared.token.Sign.{Sign}
use Rattle.mc_tree.specs.declared.token.Sign.TheVariants as S
use Rattle.mc_tree.specs.declared.token.Token.{Token}
use Rattle.mc_tree.specs.declared.token.TokenKind.{TokenKind}
use Rattle.mc_tree.specs.declared.token.TokenKind.TheVariants as T
use Rattle.mc_reader.specs.Reading.{Got, Good, Bad}
use Rattle.mc_tree.specs.Raw.{Ex, Cell, At, Un, Bin, span_of, join}
use Rattle.mc_reader.specs.Roles.{level, Lead, lead, Trail, trail, opens, unary, other, binary, closes, indexes, closes_at, ends, comma, other_trail, stops, tok}
use Rattle.mc_tree.specs.Expression.{IsExpression, number_at}
use Rattle.mc_reader.specs.Machine.{Frame, Pending, Prefix, Paren, Index, Now, Want, Named, Have, Step, Next, Done, Dead, opened, Top, reduce, deeper, leads, wants, trails, names, has, named, step, then, run, close, close_at, finish}
use Rattle.mc_reader.proofs.Live.{Trace, Some_, Live}
use Rattle.mc_reader.proofs.Complete.{name_ends, complete, Follows, Stops, stopped}
use Rattle.mc_reader.proofs.Sound.{read_is_spelled}
use Rattle.mc_reader.proofs.Exact.{Exact}

abbrev pub here : Span
here = record { from = 0; to = 0 }

-- what may follow
abbrev pub FolStops : Ex → List Token → Type 0
FolStops e ts = Stops ts

signs : (a b : Sign) (p q : Span) (r s : List Token) → tok (T.Sign a) p ∷ r ≡ tok (T.Sign b) q ∷ s → a ≡ b
signs a b p q r s e =
    let f : tok (T.Sign a) p ≡ tok (T.Sign b) q = cc in
    let g : T.Sign a ≡ T.Sign b = ap (λ (t : Token). t.kind) f in
    cc

module _ (bytes : List ℕ) where
  -- tokens that end all that F has begun
  abbrev pub closers : List Frame → List Token
  closers [] = []
  closers (Pending op l ∷ F) = closers F
  closers (Prefix op p ∷ F) = closers F
  closers (Paren ∷ F) = tok (T.Sign S.CloseParen) here ∷ closers F
  closers (Index s ∷ F) = tok (T.Sign S.CloseBracket) here ∷ closers F

  -- the closing tokens see only what is left when all operators have ended
  module _ (after : List Token) (stop : Stops after) where
    after_same : (v w : Ex) (u : ℕ) (G H : List Frame) → reduce 0 G v ≡ reduce 0 H w → run bytes after (Have v) u G ≡ run bytes after (Have w) u H
    unfolding run
    after_same v w u G H e = subst (λ l. run bytes l (Have v) u G ≡ run bytes l (Have w) u H) (sym stop.3) (ap (λ s. then bytes s (tok (T.Sign stop.0) stop.1 ∷ stop.2) stop.2 (run bytes stop.2)) (by (trail stop.0) stop.4))
      where
        by : (t : Trail) → stops t ≡ true → trails t v u G stop.1 ≡ trails t w u H stop.1
        by closes h = ap (λ (r : Top). close r.frames r.value u) e
        by closes_at h = ap (λ (r : Top). close_at r.frames r.value u stop.1) e
        by ends h = ap (λ (r : Top). finish r.frames r.value) e
        by comma h = ap (λ (r : Top). finish r.frames r.value) e
        by (binary op) h = absurd cc
        by indexes h = absurd cc
        by other_trail h = absurd cc

    ends_same : (C : List Frame) (v w : Ex) (u : ℕ) (G H : List Frame) → reduce 0 G v ≡ reduce 0 H w → run bytes (closers C ++ after) (Have v) u G ≡ run bytes (closers C ++ after) (Have w) u H
    unfolding run
    ends_same [] v w u G H e = after_same v w u G H e
    ends_same (Pending op l ∷ C) v w u G H e = ends_same C v w u G H e
    ends_same (Prefix op p ∷ C) v w u G H e = ends_same C v w u G H e
    ends_same (Paren ∷ C) v w u G H e = ap (λ (r : Top). then bytes (close r.frames r.value u) (closers (Paren ∷ C) ++ after) (closers C ++ after) (run bytes (closers C ++ after))) e
    ends_same (Index s ∷ C) v w u G H e = ap (λ (r : Top). then bytes (close_at r.frames r.value u here) (closers (Index s ∷ C) ++ after) (closers C ++ after) (run bytes (closers C ++ after))) e

  all_end : (op : BinOp) (l v : Ex) (F : List Frame) → reduce 0 (Pending op l ∷ F) v ≡ reduce 0 F (Bin op l v (join (span_of l) (span_of v)))
  all_end op l v F = let e : nat_le 0 (level op) ≡ true = grind (arith, nat_tests) in rw e refl

  -- the expression that the closing tokens make
  abbrev pub made : List Frame → Ex → Ex
  made [] v = v
  made (Pending op l ∷ F) v = made F (Bin op l v (join (span_of l) (span_of v)))
  made (Prefix op p ∷ F) v = made F (Un op v (join p (span_of v)))
  made (Paren ∷ F) v = made F v
  made (Index s ∷ F) v = made F (At s v (join s.span here))

  stop_now : (u : ℕ) (v : Ex) (after : List Token) → Stops after → run bytes after (Have v) u [] ≡ Good v after
  stop_now u v after h = subst (λ l. run bytes l (Have v) u [] ≡ Good v l) (sym h.3) (stopped bytes u [] h.0 h.1 v v h.2 h.4 refl)

  pub closed : (F : List Frame) (v : Ex) (u : ℕ) (after : List Token) → Stops after → run bytes (closers F ++ after) (Have v) u F ≡ Good (made F v) after
  unfolding run
  closed [] v u after h = stop_now u v after h
  closed (Pending op l ∷ F) v u after h =
      let w : Ex = Bin op l v (join (span_of l) (span_of v)) in
      ends_same after h F v w u (Pending op l ∷ F) F (all_end op l v F) ∙ closed F w u after h
  closed (Prefix op p ∷ F) v u after h = let w : Ex = Un op v (join p (span_of v)) in ends_same after h F v w u (Prefix op p ∷ F) F refl ∙ closed F w u after h
  closed (Paren ∷ F) v u after h = closed F v u after h
  closed (Index s ∷ F) v u after h = closed F (At s v (join s.span here)) u after h

  stops_follows : (after : List Token) → Stops after → Follows after
  stops_follows after (t, q, l, is, stop) s p more e h =
      let a : t ≡ s = signs t s q p l more (sym is ∙ e) in
      let b : stops (trail t) ≡ false = ap (λ x. stops (trail x)) a ∙ ap stops h in
      let c : true ≡ false = sym stop ∙ b in cc

  no_index : (F : List Frame) (after : List Token) → Stops after → Follows (closers F ++ after)
  no_index [] after stop s p more e h = stops_follows after stop s p more e h
  no_index (Pending op l ∷ F) after stop s p more e h = no_index F after stop s p more e h
  no_index (Prefix op q ∷ F) after stop s p more e h = no_index F after stop s p more e h
  no_index (Paren ∷ F) after stop s p more e h = let a : S.CloseParen ≡ s = signs S.CloseParen s here p (closers F ++ after) more e in let b : trail S.CloseParen ≡ indexes = ap trail a ∙ h in cc
  no_index (Index n ∷ F) after stop s p more e h = let a : S.CloseBracket ≡ s = signs S.CloseBracket s here p (closers F ++ after) more e in let b : trail S.CloseBracket ≡ indexes = ap trail a ∙ h in cc

  pub can_end : (n : Now) (u : ℕ) (F : List Frame) → Some_ FolStops (λ ts. run bytes ts n u F)
  unfolding run
  can_end Want u F = record { front = tok (T.Number 0) here ∷ closers F; value = made F (number_at 0 here); takes = λ after h. closed F (number_at 0 here) u after h }
  can_end (Named s) u F = record { front = closers F; value = made F (Cell s); takes = λ after h. name_ends bytes (closers F ++ after) s u F (no_index F after h) ∙ closed F (Cell s) u after h }
  can_end (Have v) u F = record { front = closers F; value = made F v; takes = λ after h. closed F v u after h }

  -- where an expression has ended, it has ended before all that may follow
  all_done : (G : List Frame) (w x : Ex) (v : Ex) (u : ℕ) (F : List Frame) → reduce 0 F v ≡ record { value = w; frames = G } → finish G w ≡ Done x → (after : List Token) → Stops after → run bytes after (Have v) u F ≡ Good x after
  all_done [] w x v u F red h after stop =
      let a : w ≡ x = cc in
      subst (λ l. run bytes l (Have v) u F ≡ Good x l) (sym stop.3) (stopped bytes u F stop.0 stop.1 v x stop.2 stop.4 (red ∙ ap (λ (y : Ex). record { value = y; frames = [] }) a))
  all_done (f ∷ G) w x v u F red h after stop = let c : Dead ≡ Done x = h in absurd cc

  trails_done : (t : Trail) (v x : Ex) (u : ℕ) (F : List Frame) (p : Span) → trails t v u F p ≡ Done x → (after : List Token) → Stops after → run bytes after (Have v) u F ≡ Good x after
  trails_done closes v x u F p h = all_done (reduce 0 F v).frames (reduce 0 F v).value x v u F refl (by (reduce 0 F v).frames (reduce 0 F v).value h)
    where
      by : (G : List Frame) (w : Ex) → close G w u ≡ Done x → finish G w ≡ Done x
      by [] w h = h
      by (Paren ∷ G) w h = let c : Next (Have w) u G ≡ Done x = h in absurd cc
      by (Pending op l ∷ G) w h = h
      by (Prefix op l ∷ G) w h = h
      by (Index n ∷ G) w h = h
  trails_done closes_at v x u F p h = all_done (reduce 0 F v).frames (reduce 0 F v).value x v u F refl (by (reduce 0 F v).frames (reduce 0 F v).value h)
    where
      by : (G : List Frame) (w : Ex) → close_at G w u p ≡ Done x → finish G w ≡ Done x
      by [] w h = h
      by (Index n ∷ G) w h = let c : Next (Have (At n w (join n.span p))) u G ≡ Done x = h in absurd cc
      by (Pending op l ∷ G) w h = h
      by (Prefix op l ∷ G) w h = h
      by (Paren ∷ G) w h = h
  trails_done ends v x u F p h = all_done (reduce 0 F v).frames (reduce 0 F v).value x v u F refl h
  trails_done comma v x u F p h = all_done (reduce 0 F v).frames (reduce 0 F v).value x v u F refl h
  trails_done (binary op) v x u F p h = absurd (by (nat_lt u 255) h)
    where
      by : (b : Bool) → cond b (Next Want (suc u) (Pending op (reduce (level op) F v).value ∷ (reduce (level op) F v).frames)) Dead ≡ Done x → ⊥
      by true h = cc
      by false h = cc
  trails_done indexes v x u F p h = absurd cc
  trails_done other_trail v x u F p h = absurd cc

  not_deeper : (u : ℕ) (F : List Frame) (f : Frame) (x : Ex) → deeper u F f ≡ Done x → ⊥
  not_deeper u F f x h = by (nat_lt (opened F) 63) h
    where
      by : (b : Bool) → cond b (Next Want u (f ∷ F)) Dead ≡ Done x → ⊥
      by true h = cc
      by false h = cc

  names_done : (t : Trail) (n : Name) (x : Ex) (u : ℕ) (F : List Frame) (p : Span) → names t n u F p ≡ Done x → (after : List Token) → Stops after → run bytes after (Named n) u F ≡ Good x after
  names_done t n x u F p h after stop = name_ends bytes after n u F (stops_follows after stop) ∙ by t h
    where
      by : (t : Trail) → names t n u F p ≡ Done x → run bytes after (Have (Cell n)) u F ≡ Good x after
      by indexes h = absurd (not_deeper u F (Index n) x h)
      by closes h = trails_done closes (Cell n) x u F p h after stop
      by closes_at h = trails_done closes_at (Cell n) x u F p h after stop
      by ends h = trails_done ends (Cell n) x u F p h after stop
      by comma h = trails_done comma (Cell n) x u F p h after stop
      by (binary op) h = trails_done (binary op) (Cell n) x u F p h after stop
      by other_trail h = trails_done other_trail (Cell n) x u F p h after stop

  want_done : (u : ℕ) (F : List Frame) (t : Token) (x : Ex) → step bytes Want u F t ≡ Done x → ⊥
  want_done u F t x h = by t.kind t.span h
    where
      not_lead : (l : Lead) (p : Span) → leads l u F p ≡ Done x → ⊥
      not_lead opens p h = not_deeper u F Paren x h
      not_lead (unary op) p h = both (nat_lt u 255) h
        where
          both : (b : Bool) → cond b (Next Want (suc u) (Prefix op p ∷ F)) Dead ≡ Done x → ⊥
          both true h = cc
          both false h = cc
      not_lead other p h = cc

      by : (k : TokenKind) (p : Span) → wants bytes k u F p ≡ Done x → ⊥
      by (T.Sign s) p h = not_lead (lead s) p h
      by T.Name p h = cc
      by (T.Number m) p h = cc
      by (T.Key k) p h = cc

  -- no expression ends where it begins
  pub want_not_done : (t : Token) (x : Ex) → step bytes Want 0 [] t ≡ Done x → ⊥
  want_not_done t x h = want_done 0 [] t x h

  step_done : (n : Now) (u : ℕ) (F : List Frame) (t : Token) (x : Ex) → step bytes n u F t ≡ Done x → (after : List Token) → Stops after → run bytes after n u F ≡ Good x after
  step_done (Have v) u F t x h = by t.kind t.span h
    where
      by : (k : TokenKind) (p : Span) → has k v u F p ≡ Done x → (after : List Token) → Stops after → run bytes after (Have v) u F ≡ Good x after
      by (T.Sign s) p h = trails_done (trail s) v x u F p h
      by T.Name p h = absurd cc
      by (T.Number m) p h = absurd cc
      by (T.Key k) p h = absurd cc
  step_done (Named n) u F t x h = by t.kind t.span h
    where
      by : (k : TokenKind) (p : Span) → named k n u F p ≡ Done x → (after : List Token) → Stops after → run bytes after (Named n) u F ≡ Good x after
      by (T.Sign s) p h = names_done (trail s) n x u F p h
      by T.Name p h = absurd cc
      by (T.Number m) p h = absurd cc
      by (T.Key k) p h = absurd cc
  step_done Want u F t x h = absurd (want_done u F t x h)

  traced : (ts : List Token) (n : Now) (u : ℕ) (F : List Frame) → Trace FolStops (λ ts. run bytes ts n u F) ts (run bytes ts n u F)
  unfolding run
  traced [] n u F = let c = can_end n u F in record { front = []; is = refl; more = c.front; value = c.value; takes = c.takes; dead = λ t r after i. absurd cc }
  traced (t ∷ ts) n u F = go (λ m w G. traced ts m w G) (step bytes n u F t) refl
    where
      on : (s : Step) → step bytes n u F t ≡ s → (l : List Token) → run bytes (t ∷ l) n u F ≡ then bytes s (t ∷ l) l (run bytes l)
      on s is l = ap (λ s. then bytes s (t ∷ l) l (run bytes l)) is

      add : (m : Now) (w : ℕ) (G : List Frame) → step bytes n u F t ≡ Next m w G → (g : Got Ex) → Trace FolStops (λ ts. run bytes ts m w G) ts g → Trace FolStops (λ ts. run bytes ts n u F) (t ∷ ts) g
      add m w G is (Good x rest) v = record {
        front = t ∷ v.front;
        is = ap (λ l. t ∷ l) v.is;
        takes = λ after h. on (Next m w G) is (v.front ++ after) ∙ v.takes after h;
        again = λ s r after h. on (Next m w G) is (v.front ++ s ∷ after) ∙ v.again s r after h;
      }
      add m w G is (Bad rest) v = record {
        front = t ∷ v.front;
        is = ap (λ l. t ∷ l) v.is;
        more = v.more;
        value = v.value;
        takes = λ after h. on (Next m w G) is (v.front ++ (v.more ++ after)) ∙ v.takes after h;
        dead = λ s r after h. on (Next m w G) is (v.front ++ s ∷ after) ∙ v.dead s r after h;
      }

      go : ((m : Now) (w : ℕ) (G : List Frame) → Trace FolStops (λ ts. run bytes ts m w G) ts (run bytes ts m w G)) → (s : Step) → step bytes n u F t ≡ s → Trace FolStops (λ ts. run bytes ts n u F) (t ∷ ts) (then bytes s (t ∷ ts) ts (run bytes ts))
      go again (Next m w G) is = add m w G is (run bytes ts m w G) (again m w G)
      go again (Done x) is = record {
        front = [];
        is = refl;
        takes = λ after h. step_done n u F t x is after h;
        again = λ s r after h. let g : t ≡ s = cc in subst (λ (y : Token). run bytes (y ∷ after) n u F ≡ Good x (y ∷ after)) g (on (Done x) is after);
      }
      go again Dead is =
          let c = can_end n u F in
          record {
            front = [];
            is = refl;
            more = c.front;
            value = c.value;
            takes = c.takes;
            dead = λ q r after i. let g : t ≡ q = cc in subst (λ (x : Token). run bytes (x ∷ after) n u F ≡ Bad (x ∷ after)) g (on Dead is after);
          }

  pub live_run : (n : Now) (u : ℕ) (F : List Frame) → Live FolStops (λ ts. run bytes ts n u F)
  live_run n u F = record { trace = λ ts. traced ts n u F; some = can_end n u F }

  pub exact_expression : Exact FolStops (λ ts. run bytes ts Want 0 []) (IsExpression bytes)
  exact_expression = record { sound = λ ts x rest h. read_is_spelled bytes ts rest x h; complete = λ ts x rest h k. complete bytes ts rest x h k }
