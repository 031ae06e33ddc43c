-- What is read is spelled so.
use Rattle.std.proofs.Common.{◌≡◌, ℕ, suc, ◌+◌, ◌<◌, ◌≤◌, List, [], ◌∷◌, Bool, true, false, cond, arith, refl, ap, sym, subst}
use Rattle.std.specs.Prelude.{nat_lt, nat_le}
use Rattle.std.proofs.lemmas.Bool.Decides.{nat_tests}
use Rattle.mars_base.specs.declared.text.Span.{Span}
use Rattle.mc_tree.specs.declared.raw.Name.{Name}
use Rattle.mc_tree.specs.declared.token.Sign.{Sign}
use Rattle.mc_tree.specs.declared.token.Sign.TheVariants as S
use Rattle.mc_tree.specs.declared.token.Token.{Token}
use Rattle.mc_tree.specs.declared.token.TokenKind.{TokenKind}
use Rattle.mc_tree.specs.declared.token.TokenKind.TheVariants as T
use Rattle.mc_reader.specs.Reading.{Good, Bad}
use Rattle.mc_tree.specs.Raw.{Ex, Cell, At, Un, Bin, span_of, join, ops}
use Rattle.mc_reader.specs.Roles.{level, Lead, lead, Trail, trail, opens, unary, other, binary, closes, indexes, closes_at, ends, comma, other_trail, tok}
use Rattle.mc_tree.specs.Expression.{IsExpressionIn, IsExpression, number, cell, at, parens, un, bin, name_at}
use Rattle.mc_reader.specs.Machine.{Frame, Pending, Prefix, Paren, Index, Now, Want, Named, Have, Step, Next, Done, Dead, opened, Top, reduce, leads, wants, trails, names, has, named, step, then, run, close, close_at, finish}
use Rattle.mc_reader.proofs.Complete.{level_le}
use Rattle.mc_reader.proofs.RoleFacts.{opens_is, closes_is, indexes_is, closes_at_is, unary_is, binary_is}

-- F waits for an operand of level m or above
abbrev pub Lower : ℕ → List Frame → Type 0
Lower m [] = Unit {0}
Lower m (Pending op l ∷ F) = level op < m
Lower m (Prefix op p ∷ F) = 10 ≤ m
Lower m (Paren ∷ F) = Unit {0}
Lower m (Index s ∷ F) = Unit {0}

lower_ten : (F : List Frame) → Lower 10 F
lower_ten [] = tt
lower_ten (Pending op l ∷ F) = omega (arith, level_le op)
lower_ten (Prefix op p ∷ F) = omega arith
lower_ten (Paren ∷ F) = tt
lower_ten (Index s ∷ F) = tt

-- the operators that have come
abbrev pub used : List Frame → ℕ
used [] = 0
used (Pending op l ∷ F) = suc (ops l + used F)
used (Prefix op p ∷ F) = suc (used F)
used (Paren ∷ F) = used F
used (Index s ∷ F) = used F

module _ (bytes : List ℕ) where
  -- the frames are what stands between start and ts
  abbrev pub Before : List Frame → (start ts : List Token) → Type 0
  Before [] start ts = start ≡ ts
  Before (Pending op l ∷ F) start ts = (from : List Token) × (s : Sign) × (p : Span) × (trail s ≡ binary op) × IsExpressionIn bytes (opened F) (level op) from l (tok (T.Sign s) p ∷ ts) × Lower (level op) F × Before F start from
  Before (Prefix op p ∷ F) start ts = (s : Sign) × (lead s ≡ unary op) × Before F start (tok (T.Sign s) p ∷ ts)
  Before (Paren ∷ F) start ts = (p : Span) × (opened F < 63) × Before F start (tok (T.Sign S.OpenParen) p ∷ ts)
  Before (Index n ∷ F) start ts = (p : Span) × (q : Span) × (opened F < 63) × (n ≡ name_at bytes q) × Before F start (tok T.Name q ∷ tok (T.Sign S.OpenBracket) p ∷ ts)

  pub record Reduced (k : ℕ) (F : List Frame) (v : Ex) (start rest : List Token) (top : Top) : Type 0 where
    pub from : List Token
    pub before : Before top.frames start from
    pub tree : (j : ℕ) → j ≤ k → IsExpressionIn bytes (opened top.frames) j from top.value rest
    pub lower : Lower k top.frames
    pub count : used top.frames + ops top.value ≡ used F + ops v

  data Which (b : Bool) : Type 0 where
    yes : b ≡ true → Which b
    no : b ≡ false → Which b

  which : (b : Bool) → Which b
  which true = yes refl
  which false = no refl

  module _ (k : ℕ) (small : k ≤ 9) (start rest : List Token) where
    pub reduces : (F : List Frame) (v : Ex) (m : ℕ) (from : List Token) → k ≤ m → Lower m F → Before F start from → ((j : ℕ) → j ≤ m → IsExpressionIn bytes (opened F) j from v rest)
        → Reduced k F v start rest (reduce k F v)
    reduces [] v m from le low b d = record { from = from; before = b; tree = λ j h. d j (omega arith); lower = tt; count = refl }
    reduces (Paren ∷ F) v m from le low b d = record { from = from; before = b; tree = λ j h. d j (omega arith); lower = tt; count = refl }
    reduces (Index s ∷ F) v m from le low b d = record { from = from; before = b; tree = λ j h. d j (omega arith); lower = tt; count = refl }
    reduces (Prefix op p ∷ F) v m from le low (s, is, b) d =
        let r = reduces F (Un op v (join p (span_of v))) 10 (tok (T.Sign s) p ∷ from) (omega arith) (lower_ten F) b (λ j h. un s p op (unary_is s op is) (d 10 low)) in
        record { from = r.from; before = r.before; tree = r.tree; lower = r.lower; count = omega (arith, r.count) }
    reduces (Pending op l ∷ F) v m from le low (begin, s, p, is, left, lower, b) d = elim (which (nat_le k (level op))) [
      | yes e ↦
          let h : k ≤ level op = grind (arith, nat_tests) in
          let r = reduces F (Bin op l v (join (span_of l) (span_of v))) (level op) begin h lower b (λ j g. bin s p op (binary_is s op is) g left (d (suc (level op)) low)) in
          rw e (record { from = r.from; before = r.before; tree = r.tree; lower = r.lower; count = omega (arith, r.count) })
      | no e ↦ rw e (record { from = from; before = (begin, s, p, is, left, lower, b); tree = λ j h. d j (omega arith); lower = grind (arith, nat_tests); count = refl })
    ]

  -- what has been read, up to ts
  abbrev pub Inv : Now → ℕ → List Frame → (start ts : List Token) → Type 0
  Inv Want u F start ts = Before F start ts × (u ≡ used F) × (u ≤ 255)
  Inv (Named n) u F start ts = (q : Span) × (n ≡ name_at bytes q) × Before F start (tok T.Name q ∷ ts) × (u ≡ used F) × (u ≤ 255)
  Inv (Have v) u F start ts = (from : List Token) × Before F start from × ((j : ℕ) → j ≤ 10 → IsExpressionIn bytes (opened F) j from v ts) × (u ≡ used F + ops v) × (u ≤ 255)

  abbrev pub Kept : Step → (start here ts : List Token) → Type 0
  Kept (Next n u F) start here ts = Inv n u F start ts
  Kept (Done x) start here ts = IsExpression bytes start x here
  Kept Dead start here ts = Unit {0}

  module _ (start ts : List Token) where
    unless : (here : List Token) (b : Bool) (s : Step) → (b ≡ true → Kept s start here ts) → Kept (cond b s Dead) start here ts
    unless here true s h = h refl
    unless here false s h = tt

    below : (a b : ℕ) → nat_lt a b ≡ true → a < b
    below a b e = grind (arith, nat_tests)

    leads_kept : (l : Lead) (s : Sign) (p : Span) (u : ℕ) (F : List Frame) → lead s ≡ l → Inv Want u F start (tok (T.Sign s) p ∷ ts) → Kept (leads l u F p) start (tok (T.Sign s) p ∷ ts) ts
    leads_kept opens s p u F is (b, c, few) = unless (tok (T.Sign s) p ∷ ts) (nat_lt (opened F) 63) (Next Want u (Paren ∷ F)) (λ e. ((p, below (opened F) 63 e, subst (λ z. Before F start (tok (T.Sign z) p ∷ ts)) (opens_is s is) b), c, few))
    leads_kept (unary op) s p u F is (b, c, few) = unless (tok (T.Sign s) p ∷ ts) (nat_lt u 255) (Next Want (suc u) (Prefix op p ∷ F)) (λ e. ((s, is, b), ap suc c, below u 255 e))
    leads_kept other s p u F is i = tt

    whole : (s : Sign) (p : Span) (v w : Ex) (u : ℕ) (F : List Frame) → Reduced 0 F v start (tok (T.Sign s) p ∷ ts) (record { value = w; frames = [] }) → u ≡ used F + ops v → u ≤ 255
        → IsExpression bytes start w (tok (T.Sign s) p ∷ ts)
    whole s p v w u F r c few = record {
      spells = subst (λ (x : List Token). IsExpressionIn bytes 0 0 x w (tok (T.Sign s) p ∷ ts)) (sym r.before) (r.tree 0 (omega arith));
      few = omega (arith, r.count, c, few);
    }

    ending : (s : Sign) (p : Span) (v : Ex) (u : ℕ) (F : List Frame) → u ≡ used F + ops v → u ≤ 255
        → (G : List Frame) (w : Ex) → Reduced 0 F v start (tok (T.Sign s) p ∷ ts) (record { value = w; frames = G }) → Kept (finish G w) start (tok (T.Sign s) p ∷ ts) ts
    ending s p v u F c few [] w r = whole s p v w u F r c few
    ending s p v u F c few (f ∷ G) w r = tt

    trails_kept : (t : Trail) (s : Sign) (p : Span) (v : Ex) (u : ℕ) (F : List Frame) → trail s ≡ t → Inv (Have v) u F start (tok (T.Sign s) p ∷ ts) → Kept (trails t v u F p) start (tok (T.Sign s) p ∷ ts) ts
    trails_kept (binary op) s p v u F is (from, b, d, c, few) =
        let h = level_le op in
        let r = reduces (level op) h start (tok (T.Sign s) p ∷ ts) F v 10 from (omega arith) (lower_ten F) b d in
        unless (tok (T.Sign s) p ∷ ts) (nat_lt u 255) (Next Want (suc u) (Pending op (reduce (level op) F v).value ∷ (reduce (level op) F v).frames)) (λ e. ((r.from, s, p, is, r.tree (level op) (omega arith), r.lower, r.before), omega (arith, r.count), below u 255 e))
    trails_kept closes s p v u F is (from, b, d, c, few) =
        let r = reduces 0 (omega arith) start (tok (T.Sign s) p ∷ ts) F v 10 from (omega arith) (lower_ten F) b d in
        by_frames (reduce 0 F v).frames (reduce 0 F v).value r
      where
        by_frames : (G : List Frame) (w : Ex) → Reduced 0 F v start (tok (T.Sign s) p ∷ ts) (record { value = w; frames = G }) → Kept (close G w u) start (tok (T.Sign s) p ∷ ts) ts
        by_frames [] w r = whole s p v w u F r c few
        by_frames (Pending op l ∷ G) w r = tt
        by_frames (Prefix op q ∷ G) w r = tt
        by_frames (Index n ∷ G) w r = tt
        by_frames (Paren ∷ G) w r =
            let t = subst (λ z. IsExpressionIn bytes (suc (opened G)) 0 r.from w (tok (T.Sign z) p ∷ ts)) (closes_is s is) (r.tree 0 (omega arith)) in
            (tok (T.Sign S.OpenParen) r.before.0 ∷ r.from, r.before.2, (λ j h. parens r.before.0 p r.before.1 t), omega (arith, r.count), few)
    trails_kept closes_at s p v u F is (from, b, d, c, few) =
        let r = reduces 0 (omega arith) start (tok (T.Sign s) p ∷ ts) F v 10 from (omega arith) (lower_ten F) b d in
        by_frames (reduce 0 F v).frames (reduce 0 F v).value r
      where
        by_frames : (G : List Frame) (w : Ex) → Reduced 0 F v start (tok (T.Sign s) p ∷ ts) (record { value = w; frames = G }) → Kept (close_at G w u p) start (tok (T.Sign s) p ∷ ts) ts
        by_frames [] w r = whole s p v w u F r c few
        by_frames (Pending op l ∷ G) w r = tt
        by_frames (Prefix op q ∷ G) w r = tt
        by_frames (Paren ∷ G) w r = tt
        by_frames (Index n ∷ G) w r =
            let t = subst (λ z. IsExpressionIn bytes (suc (opened G)) 0 r.from w (tok (T.Sign z) p ∷ ts)) (closes_at_is s is) (r.tree 0 (omega arith)) in (
              tok T.Name r.before.1 ∷ tok (T.Sign S.OpenBracket) r.before.0 ∷ r.from,
              r.before.4,
              (λ j h. subst (λ (m : Name). IsExpressionIn bytes (opened G) j (tok T.Name r.before.1 ∷ tok (T.Sign S.OpenBracket) r.before.0 ∷ r.from) (At m w (join m.span p)) ts) (sym r.before.3)
                  (at r.before.1 r.before.0 p r.before.2 t)),
              omega (arith, r.count),
              few,
            )
    trails_kept ends s p v u F is (from, b, d, c, few) =
        let r = reduces 0 (omega arith) start (tok (T.Sign s) p ∷ ts) F v 10 from (omega arith) (lower_ten F) b d in
        ending s p v u F c few (reduce 0 F v).frames (reduce 0 F v).value r
    trails_kept comma s p v u F is (from, b, d, c, few) =
        let r = reduces 0 (omega arith) start (tok (T.Sign s) p ∷ ts) F v 10 from (omega arith) (lower_ten F) b d in
        ending s p v u F c few (reduce 0 F v).frames (reduce 0 F v).value r
    trails_kept indexes s p v u F is i = tt
    trails_kept other_trail s p v u F is i = tt

    as_cell : (s : Sign) (p : Span) (n : Name) (u : ℕ) (F : List Frame) → Inv (Named n) u F start (tok (T.Sign s) p ∷ ts) → Inv (Have (Cell n)) u F start (tok (T.Sign s) p ∷ ts)
    as_cell s p n u F (q, e, b, c, few) = (tok T.Name q ∷ tok (T.Sign s) p ∷ ts, b, (λ j h. subst (λ (m : Name). IsExpressionIn bytes (opened F) j (tok T.Name q ∷ tok (T.Sign s) p ∷ ts) (Cell m) (tok (T.Sign s) p ∷ ts)) (sym e) (cell q)), omega arith, few)

    names_kept : (t : Trail) (s : Sign) (p : Span) (n : Name) (u : ℕ) (F : List Frame) → trail s ≡ t → Inv (Named n) u F start (tok (T.Sign s) p ∷ ts) → Kept (names t n u F p) start (tok (T.Sign s) p ∷ ts) ts
    names_kept indexes s p n u F is (q, e, b, c, few) = unless (tok (T.Sign s) p ∷ ts) (nat_lt (opened F) 63) (Next Want u (Index n ∷ F)) (λ h. ((p, q, below (opened F) 63 h, e, subst (λ z. Before F start (tok T.Name q ∷ tok (T.Sign z) p ∷ ts)) (indexes_is s is) b), c, few))
    names_kept (binary op) s p n u F is i = trails_kept (binary op) s p (Cell n) u F is (as_cell s p n u F i)
    names_kept closes s p n u F is i = trails_kept closes s p (Cell n) u F is (as_cell s p n u F i)
    names_kept closes_at s p n u F is i = trails_kept closes_at s p (Cell n) u F is (as_cell s p n u F i)
    names_kept ends s p n u F is i = trails_kept ends s p (Cell n) u F is (as_cell s p n u F i)
    names_kept comma s p n u F is i = trails_kept comma s p (Cell n) u F is (as_cell s p n u F i)
    names_kept other_trail s p n u F is i = tt

    pub kept : (n : Now) (u : ℕ) (F : List Frame) (t : Token) → Inv n u F start (t ∷ ts) → Kept (step bytes n u F t) start (t ∷ ts) ts
    kept Want u F t i = wants_kept t.kind t.span u F i
      where
        wants_kept : (k : TokenKind) (p : Span) (u : ℕ) (F : List Frame) → Inv Want u F start (tok k p ∷ ts) → Kept (wants bytes k u F p) start (tok k p ∷ ts) ts
        wants_kept (T.Number v) p u F (b, c, few) = (tok (T.Number v) p ∷ ts, b, (λ j h. number v p), omega arith, few)
        wants_kept (T.Key k) p u F i = tt
        wants_kept T.Name p u F (b, c, few) = (p, refl, b, c, few)
        wants_kept (T.Sign s) p u F i = leads_kept (lead s) s p u F refl i
    kept (Named n) u F t i = by_kind t.kind t.span u F i
      where
        by_kind : (k : TokenKind) (p : Span) (u : ℕ) (F : List Frame) → Inv (Named n) u F start (tok k p ∷ ts) → Kept (named k n u F p) start (tok k p ∷ ts) ts
        by_kind (T.Number v) p u F i = tt
        by_kind T.Name p u F i = tt
        by_kind (T.Key k) p u F i = tt
        by_kind (T.Sign s) p u F i = names_kept (trail s) s p n u F refl i
    kept (Have v) u F t i = by_kind t.kind t.span u F i
      where
        by_kind : (k : TokenKind) (p : Span) (u : ℕ) (F : List Frame) → Inv (Have v) u F start (tok k p ∷ ts) → Kept (has k v u F p) start (tok k p ∷ ts) ts
        by_kind (T.Number w) p u F i = tt
        by_kind T.Name p u F i = tt
        by_kind (T.Key k) p u F i = tt
        by_kind (T.Sign s) p u F i = trails_kept (trail s) s p v u F refl i

  pub sound : (start ts : List Token) (n : Now) (u : ℕ) (F : List Frame) (x : Ex) (rest : List Token) → Inv n u F start ts → run bytes ts n u F ≡ Good x rest → IsExpression bytes start x rest
  unfolding run
  sound start [] n u F x rest i h = let c : Bad [] ≡ Good x rest = h in absurd cc
  sound start (t ∷ ts) n u F x rest i h = go (λ m w G k g. sound start ts m w G x rest k g) (step bytes n u F t) (kept start ts n u F t i) h
    where
      go : ((m : Now) (w : ℕ) (G : List Frame) → Inv m w G start ts → run bytes ts m w G ≡ Good x rest → IsExpression bytes start x rest) → (s : Step) → Kept s start (t ∷ ts) ts → then bytes s (t ∷ ts) ts (run bytes ts) ≡ Good x rest
          → IsExpression bytes start x rest
      go again (Next m w G) k h = again m w G k h
      go again (Done y) k h = let a : y ≡ x = cc in let b : t ∷ ts ≡ rest = cc in subst (λ (z : Ex). IsExpression bytes start z rest) a (subst (λ (r : List Token). IsExpression bytes start y r) b k)
      go again Dead k h = let c : Bad (t ∷ ts) ≡ Good x rest = h in absurd cc

  pub read_is_spelled : (ts rest : List Token) (x : Ex) → run bytes ts Want 0 [] ≡ Good x rest → IsExpression bytes ts x rest
  read_is_spelled ts rest x h = sound ts ts Want 0 [] x rest (refl, refl, omega arith) h
