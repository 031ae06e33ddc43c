-- What spells an expression is read.
use Rattle.std.proofs.Common.{◌≡◌, ℕ, suc, ◌+◌, ◌<◌, ◌≤◌, List, [], ◌∷◌, true, false, cond, arith, refl, ap, ◌∙◌, sym, subst}
use Rattle.std.specs.Prelude.{nat_lt, nat_le}
use Rattle.std.proofs.lemmas.Bool.Decides.{nat_tests}
use Rattle.mars_base.specs.declared.word.BinOp.{BinOp}
use Rattle.mars_base.specs.declared.word.BinOp.TheVariants as B
use Rattle.mars_base.specs.declared.word.UnOp.{UnOp}
use Rattle.mars_base.specs.declared.text.Span.{Span}
use Rattle.mc_tree.specs.declared.raw.Name.{Name}
use Rattle.mc_tree.specs.declared.token.Sign.{Sign}
use Rattle.mc_tree.specs.declared.token.Sign.TheVariants as S
use Rattle.mc_tree.specs.declared.token.Token.{Token}
use Rattle.mc_tree.specs.declared.token.TokenKind.{TokenKind}
use Rattle.mc_tree.specs.declared.token.TokenKind.TheVariants as T
use Rattle.mc_reader.specs.Reading.{Good}
use Rattle.mc_tree.specs.Raw.{Ex, Cell, At, Bin, span_of, join, ops}
use Rattle.mc_reader.specs.Roles.{level, lead, Trail, trail, opens, unary, binary, closes, indexes, closes_at, ends, comma, other_trail, stops, tok}
use Rattle.mc_tree.specs.Expression.{IsExpressionIn, IsExpression, number, cell, at, parens, un, bin, name_at, number_at}
use Rattle.mc_reader.proofs.RoleFacts.{lead_unary, trail_binary}
use Rattle.mc_reader.specs.Machine.{Frame, Pending, Prefix, Paren, Index, Now, Want, Named, Have, Next, Done, Dead, opened, Top, reduce, deeper, leads, trails, names, step, then, run, close, close_at, finish}

-- a sign that may follow a whole expression comes next
abbrev pub Stops : List Token → Type 0
Stops rest = (s : Sign) × (p : Span) × (more : List Token) × (rest ≡ tok (T.Sign s) p ∷ more) × (stops (trail s) ≡ true)

-- no operator of level k or above ends before the operand that F waits for
abbrev pub Stays : ℕ → List Frame → Type 0
Stays k F = (j : ℕ) → k ≤ j → j ≤ 9 → (v : Ex) → reduce j F v ≡ record { value = v; frames = F }

-- a token that may follow a name that is no array
abbrev pub Follows : List Token → Type 0
Follows rest = (s : Sign) (p : Span) (more : List Token) → rest ≡ tok (T.Sign s) p ∷ more → trail s ≡ indexes → ⊥

pub level_le : (op : BinOp) → level op ≤ 9
level_le B.Or = omega arith
level_le B.And = omega arith
level_le B.BitOr = omega arith
level_le B.BitXor = omega arith
level_le B.BitAnd = omega arith
level_le B.Eq = omega arith
level_le B.Ne = omega arith
level_le B.Lt = omega arith
level_le B.Le = omega arith
level_le B.Gt = omega arith
level_le B.Ge = omega arith
level_le B.Shl = omega arith
level_le B.Shr = omega arith
level_le B.Add = omega arith
level_le B.Sub = omega arith
level_le B.Mul = omega arith
level_le B.Div = omega arith
level_le B.Rem = omega arith

module _ (bytes : List ℕ) where
  -- from an operand's first token to the token after it
  pub record Goes (F : List Frame) (k u : ℕ) (ts : List Token) (e : Ex) (rest : List Token) : Type 0 where
    pub value : Ex
    pub frames : List Frame
    pub runs : run bytes ts Want u F ≡ run bytes rest (Have value) (u + ops e) frames
    pub same : opened frames ≡ opened F
    pub reduced : (j : ℕ) → j ≤ k → j ≤ 9 → reduce j frames value ≡ reduce j F e

  -- a name that no index follows
  pub name_ends : (rest : List Token) (s : Name) (u : ℕ) (F : List Frame) → Follows rest → run bytes rest (Named s) u F ≡ run bytes rest (Have (Cell s)) u F
  unfolding run
  name_ends [] s u F f = refl
  name_ends (t ∷ ts) s u F f = ap (λ x. then bytes x (t ∷ ts) ts (run bytes ts)) (ends_at t.kind t.span ts f)
    where
      by_trail : (r : Trail) (p : Span) → (r ≡ indexes → ⊥) → names r s u F p ≡ trails r (Cell s) u F p
      by_trail (binary op) p n = refl
      by_trail closes p n = refl
      by_trail indexes p n = absurd (n refl)
      by_trail closes_at p n = refl
      by_trail ends p n = refl
      by_trail comma p n = refl
      by_trail other_trail p n = refl

      ends_at : (k : TokenKind) (p : Span) (ts : List Token) → Follows (tok k p ∷ ts) → step bytes (Named s) u F (tok k p) ≡ step bytes (Have (Cell s)) u F (tok k p)
      ends_at (T.Sign c) p ts f = by_trail (trail c) p (λ h. f c p ts refl h)
      ends_at T.Name p ts f = refl
      ends_at (T.Number v) p ts f = refl
      ends_at (T.Key k) p ts f = refl

  module _ (u : ℕ) (F : List Frame) where
    -- the machine takes one token
    pub moves : (t : Token) (ts : List Token) (n m : Now) (w : ℕ) (G : List Frame) → step bytes n u F t ≡ Next m w G → run bytes (t ∷ ts) n u F ≡ run bytes ts m w G
    unfolding run
    moves t ts n m w G is = ap (λ x. then bytes x (t ∷ ts) ts (run bytes ts)) is

    pub deeper_goes : (f : Frame) → opened F < 63 → deeper u F f ≡ Next Want u (f ∷ F)
    deeper_goes f lt = let e : nat_lt (opened F) 63 ≡ true = grind (arith, nat_tests) in ap (λ b. cond b (Next Want u (f ∷ F)) Dead) e

    pub leads_opens : (s : Sign) (p : Span) → lead s ≡ opens → opened F < 63 → step bytes Want u F (tok (T.Sign s) p) ≡ Next Want u (Paren ∷ F)
    leads_opens s p is lt = ap (λ l. leads l u F p) is ∙ deeper_goes Paren lt

    pub leads_unary : (s : Sign) (p : Span) (op : UnOp) → lead s ≡ unary op → u < 255 → step bytes Want u F (tok (T.Sign s) p) ≡ Next Want (suc u) (Prefix op p ∷ F)
    leads_unary s p op is lt =
        let e : nat_lt u 255 ≡ true = grind (arith, nat_tests) in
        ap (λ l. leads l u F p) is ∙ ap (λ b. cond b (Next Want (suc u) (Prefix op p ∷ F)) Dead) e

    pub names_index : (s : Sign) (p : Span) (n : Name) → trail s ≡ indexes → opened F < 63 → step bytes (Named n) u F (tok (T.Sign s) p) ≡ Next Want u (Index n ∷ F)
    names_index s p n is lt = ap (λ l. names l n u F p) is ∙ deeper_goes (Index n) lt

    pub trails_binary : (s : Sign) (p : Span) (op : BinOp) (v l : Ex) (G : List Frame) → trail s ≡ binary op → u < 255 → reduce (level op) F v ≡ record { value = l; frames = G }
        → step bytes (Have v) u F (tok (T.Sign s) p) ≡ Next Want (suc u) (Pending op l ∷ G)
    trails_binary s p op v l G is lt red =
        let e : nat_lt u 255 ≡ true = grind (arith, nat_tests) in
        ap (λ t. trails t v u F p) is ∙ ap (λ b. cond b (Next Want (suc u) (Pending op (reduce (level op) F v).value ∷ (reduce (level op) F v).frames)) Dead) e
        ∙ ap (λ (r : Top). Next Want (suc u) (Pending op r.value ∷ r.frames)) red

    pub trails_closes : (s : Sign) (p : Span) (v e : Ex) (G : List Frame) → trail s ≡ closes → reduce 0 F v ≡ record { value = e; frames = Paren ∷ G }
        → step bytes (Have v) u F (tok (T.Sign s) p) ≡ Next (Have e) u G
    trails_closes s p v e G is red = ap (λ t. trails t v u F p) is ∙ ap (λ (r : Top). close r.frames r.value u) red

    pub trails_closes_at : (s : Sign) (p : Span) (n : Name) (v e : Ex) (G : List Frame) → trail s ≡ closes_at → reduce 0 F v ≡ record { value = e; frames = Index n ∷ G }
        → step bytes (Have v) u F (tok (T.Sign s) p) ≡ Next (Have (At n e (join n.span p))) u G
    trails_closes_at s p n v e G is red = ap (λ t. trails t v u F p) is ∙ ap (λ (r : Top). close_at r.frames r.value u p) red

    pub trails_ends : (t : Trail) (s : Sign) (p : Span) (v e : Ex) → trail s ≡ t → stops t ≡ true → reduce 0 F v ≡ record { value = e; frames = [] } → step bytes (Have v) u F (tok (T.Sign s) p) ≡ Done e
    trails_ends t s p v e is stop red = ap (λ t. trails t v u F p) is ∙ by t stop
      where
        by : (t : Trail) → stops t ≡ true → trails t v u F p ≡ Done e
        by closes h = ap (λ (r : Top). close r.frames r.value u) red
        by closes_at h = ap (λ (r : Top). close_at r.frames r.value u p) red
        by ends h = ap (λ (r : Top). finish r.frames r.value) red
        by comma h = ap (λ (r : Top). finish r.frames r.value) red
        by (binary op) h = absurd cc
        by indexes h = absurd cc
        by other_trail h = absurd cc

  follows : (t : Trail) (s : Sign) (p : Span) (ts : List Token) → trail s ≡ t → (t ≡ indexes → ⊥) → Follows (tok (T.Sign s) p ∷ ts)
  follows t s p ts is not s2 p2 more same h =
      let a : tok (T.Sign s) p ≡ tok (T.Sign s2) p2 = cc in
      let b : T.Sign s ≡ T.Sign s2 = ap (λ (t : Token). t.kind) a in
      let e : s ≡ s2 = cc in
      not (sym is ∙ ap trail e ∙ h)

  stays_paren : (F : List Frame) (k : ℕ) → Stays k (Paren ∷ F)
  stays_paren F k j lo hi v = refl

  stays_index : (F : List Frame) (s : Name) (k : ℕ) → Stays k (Index s ∷ F)
  stays_index F s k j lo hi v = refl

  stays_prefix : (F : List Frame) (op : UnOp) (p : Span) → Stays 10 (Prefix op p ∷ F)
  stays_prefix F op p j lo hi v = absurd (omega arith)

  stays_pending : (F : List Frame) (op : BinOp) (l : Ex) → Stays (suc (level op)) (Pending op l ∷ F)
  stays_pending F op l j lo hi v = let e : nat_le j (level op) ≡ false = grind (arith, nat_tests) in rw e refl

  pub goes : {o k : ℕ} {ts rest : List Token} {e : Ex} → IsExpressionIn bytes o k ts e rest → Follows rest → (u : ℕ) (F : List Frame) → opened F ≡ o → Stays k F → u + ops e ≤ 255 → Goes F k u ts e rest
  goes {rest = rest} (number v s) f u F is st few = record {
    value = number_at v s;
    frames = F;
    runs = moves u F (tok (T.Number v) s) rest Want (Have (number_at v s)) u F refl ∙ ap (λ x. run bytes rest (Have (number_at v s)) x F) (omega arith);
    same = refl;
    reduced = λ j lo hi. refl;
  }
  goes {rest = rest} (cell s) f u F is st few = record {
    value = Cell (name_at bytes s);
    frames = F;
    runs = moves u F (tok T.Name s) rest Want (Named (name_at bytes s)) u F refl ∙ name_ends rest (name_at bytes s) u F f ∙ ap (λ x. run bytes rest (Have (Cell (name_at bytes s))) x F) (omega arith);
    same = refl;
    reduced = λ j lo hi. refl;
  }
  goes {rest = rest} (at {ts = ts} {i = i} s p q lt d) f u F is st few =
      let g = goes d (follows closes_at S.CloseBracket q rest refl (λ h. cc)) u (Index (name_at bytes s) ∷ F) (ap suc is) (stays_index F (name_at bytes s) 0) few in
      record {
        value = At (name_at bytes s) i (join s q);
        frames = F;
        runs = moves u F (tok T.Name s) (tok (T.Sign S.OpenBracket) p ∷ ts) Want (Named (name_at bytes s)) u F refl
            ∙ moves u F (tok (T.Sign S.OpenBracket) p) ts (Named (name_at bytes s)) Want u (Index (name_at bytes s) ∷ F) (names_index u F S.OpenBracket p (name_at bytes s) refl (omega arith))
            ∙ g.runs
            ∙ moves (u + ops i) g.frames (tok (T.Sign S.CloseBracket) q) rest (Have g.value) (Have (At (name_at bytes s) i (join s q))) (u + ops i) F (trails_closes_at (u + ops i) g.frames S.CloseBracket q (name_at bytes s) g.value i F refl (g.reduced 0 (omega arith) (omega arith)));
        same = refl;
        reduced = λ j lo hi. refl;
      }
  goes {rest = rest} (parens {ts = ts} {e = e} p q lt d) f u F is st few =
      let g = goes d (follows closes S.CloseParen q rest refl (λ h. cc)) u (Paren ∷ F) (ap suc is) (stays_paren F 0) few in
      record {
        value = e;
        frames = F;
        runs = moves u F (tok (T.Sign S.OpenParen) p) ts Want Want u (Paren ∷ F) (leads_opens u F S.OpenParen p refl (omega arith))
            ∙ g.runs
            ∙ moves (u + ops e) g.frames (tok (T.Sign S.CloseParen) q) rest (Have g.value) (Have e) (u + ops e) F (trails_closes (u + ops e) g.frames S.CloseParen q g.value e F refl (g.reduced 0 (omega arith) (omega arith)));
        same = refl;
        reduced = λ j lo hi. refl;
      }
  goes {rest = rest} (un {ts = ts} {e = e} s p op il d) f u F is st few =
      let g = goes d f (suc u) (Prefix op p ∷ F) is (stays_prefix F op p) (omega arith) in
      record {
        value = g.value;
        frames = g.frames;
        runs = moves u F (tok (T.Sign s) p) ts Want Want (suc u) (Prefix op p ∷ F) (leads_unary u F s p op (lead_unary s op il) (omega arith))
            ∙ g.runs ∙ ap (λ x. run bytes rest (Have g.value) x g.frames) (omega arith);
        same = g.same;
        reduced = λ j lo hi. g.reduced j (omega arith) hi;
      }
  goes {rest = rest} (bin {ts = ts} {mid = mid} {l = l} {r = r} s p op is_op le dl dr) f u F is st few =
      let h = level_le op in
      let it = trail_binary s op is_op in
      let g = goes dl (follows (binary op) s p mid it (λ h. cc)) u F is (λ j lo hi. st j (omega arith) hi) (omega arith) in
      let m = goes dr f (suc (u + ops l)) (Pending op l ∷ F) is (stays_pending F op l) (omega arith) in
      record {
        value = m.value;
        frames = m.frames;
        runs = g.runs
            ∙ moves (u + ops l) g.frames (tok (T.Sign s) p) mid (Have g.value) Want (suc (u + ops l)) (Pending op l ∷ F)
            (trails_binary (u + ops l) g.frames s p op g.value l F it (omega arith) (g.reduced (level op) (omega arith) h ∙ st (level op) le h l))
            ∙ m.runs ∙ ap (λ x. run bytes rest (Have m.value) x m.frames) (omega arith);
        same = m.same;
        reduced = λ j lo hi. m.reduced j (omega arith) hi ∙ pending_ends op l r F j (omega arith);
      }
    where
      pending_ends : (op : BinOp) (l r : Ex) (F : List Frame) (j : ℕ) → j ≤ level op → reduce j (Pending op l ∷ F) r ≡ reduce j F (Bin op l r (join (span_of l) (span_of r)))
      pending_ends op l r F j le = let e : nat_le j (level op) ≡ true = grind (arith, nat_tests) in rw e refl

  pub stopped : (u : ℕ) (F : List Frame) (s : Sign) (p : Span) (v e : Ex) (more : List Token) → stops (trail s) ≡ true → reduce 0 F v ≡ record { value = e; frames = [] }
      → run bytes (tok (T.Sign s) p ∷ more) (Have v) u F ≡ Good e (tok (T.Sign s) p ∷ more)
  unfolding run
  stopped u F s p v e more stop red = ap (λ y. then bytes y (tok (T.Sign s) p ∷ more) more (run bytes more)) (trails_ends u F (trail s) s p v e refl stop red)

  pub complete : (ts rest : List Token) (e : Ex) → IsExpression bytes ts e rest → Stops rest → run bytes ts Want 0 [] ≡ Good e rest
  complete ts rest e l (s, p, more, is, stop) = subst (λ r. run bytes ts Want 0 [] ≡ Good e r) (sym is) (at_sign (subst (λ r. IsExpressionIn bytes 0 0 ts e r) is l.spells))
    where
      at_sign : IsExpressionIn bytes 0 0 ts e (tok (T.Sign s) p ∷ more) → run bytes ts Want 0 [] ≡ Good e (tok (T.Sign s) p ∷ more)
      at_sign d =
          let g = goes d (follows (trail s) s p more refl (λ h. let c : stops (trail s) ≡ false = ap stops h in let b : true ≡ false = sym stop ∙ c in cc)) 0 [] refl (λ j lo hi v. refl) (omega (arith, l.few)) in
          g.runs ∙ stopped (0 + ops e) g.frames s p g.value e more stop (g.reduced 0 (omega arith) (omega arith))
