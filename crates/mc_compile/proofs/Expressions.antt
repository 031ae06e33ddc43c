-- The code of an expression puts its word onto the stack, or breaks where it has none.
use Rattle.std.proofs.Common.{◌≡◌, ℕ, ◌+◌, ◌<◌, ◌≤◌, Bool, true, false, ℤ, List, [], ◌∷◌, length, Option, Some, None, refl, sym, ap, ◌∙◌, subst, arith}
use Rattle.std.specs.Prelude.{pos, negsuc, not, int_lt, int_le, nat_lt, if◌then◌else◌, slice_get, slice_set, All}
use Rattle.std.specs.Int.{w32, int_bit_or}
use Rattle.std.specs.Option.{option_map}
use Rattle.std.specs.Ordering.{int_eq}
use Rattle.std.proofs.lemmas.Bool.{ltb-true}
use Rattle.std.proofs.lemmas.List.Elements.{All-set}
use Rattle.std.proofs.lemmas.Option.{slice_get-get_or}
use Rattle.std.proofs.Math.ListN.{length-set}
use Rattle.mars_base.specs.declared.word.BinOp.{BinOp}
use Rattle.mars_base.specs.declared.word.BinOp.TheVariants as two
use Rattle.mars_base.specs.declared.word.UnOp.{UnOp}
use Rattle.mars_base.specs.declared.word.UnOp.TheVariants as one
use Rattle.mars_base.specs.Store.{or_zero, word_at, place_of}
use Rattle.mars_base.specs.Word.{truth_of, binary_of, unary_of}
use Rattle.mc_tree.specs.declared.tree.Cell.{Cell}
use Rattle.mc_tree.specs.Tree.{Ex, Num, Var, Elem, Un, Bin}
use Rattle.mc_tree.specs.Meaning.{then_word, elem_at, both, value_of}
use Rattle.mc_tree.specs.Sound.{IsCell, SoundE}
use Rattle.word_code.specs.Action.{Combines, Changes, action_of}
use Rattle.processor.specs.Ends.{End, Broken, Goes, found, gives}
use Rattle.processor.specs.System.{ends, goes}
use Rattle.word_code.specs.Runs.{Run}
use Rattle.word_code.specs.State.{State, at}
use Rattle.word_code.specs.Step.{act, does, step}
use Rattle.word_code.specs.declared.code.Instr.{Instr}
use Rattle.word_code.specs.declared.code.Instr.TheVariants.{Add, Sub, Mul, Div, Rem, And, Or, Xor, Shl, Shr, Eq, Lt, Le, Neg, Not, Inv}
use Rattle.word_code.specs.declared.code.Slot.{Slot}
use Rattle.mc_compile.specs.Translate.{slot, unary_instr, between, negated, joined}
use Rattle.mc_compile.specs.Coded.{Has, HasAll, CodedE}
use Rattle.mc_compile.proofs.Placed.{only}
use Rattle.mc_compile.proofs.Words.{IsWord, binary_word, unary_word, not_truth, not_le, not_lt, and_truth, or_truth}

-- n words of data
pub record AreWords (n : ℕ) (ws : List ℤ) : Type 0 where
  pub len : length ws ≡ n
  pub words : All IsWord ws

-- the word at a place that there is
pub word_there : (n : ℕ) (ws : List ℤ) (a : ℕ) → AreWords n ws → a < n → slice_get ws a ≡ Some (word_at ws a)
word_there n ws a are lt =
    let e = slice_get-get_or ws a (pos 0) (omega (arith, are.len)) in
    e ∙ ap Some (sym (ap or_zero e))

-- it is one of 32 bits
pub word_fits : (n : ℕ) (ws : List ℤ) (a : ℕ) → AreWords n ws → a < n → IsWord (word_at ws a)
word_fits n ws a are lt =
    let inside : a < length ws = omega (arith, are.len) in
    let e = slice_get-get_or ws a (pos 0) inside in
    subst IsWord (sym (ap or_zero e)) (are.words a (pos 0) inside)

-- a word is put to a place
pub set_words : (n : ℕ) (ws : List ℤ) (a : ℕ) (v : ℤ) → AreWords n ws → IsWord v → AreWords n (slice_set ws a v)
set_words n ws a v are f = record { len = length-set ws a v ∙ are.len; words = All-set IsWord ws a v f are.words }

-- an element lies in its array
pub place_below : (a n : ℕ) (i : ℤ) (k : ℕ) → place_of a n i ≡ Some k → k < a + n
place_below a n (pos i) k e = go (nat_lt i n) refl e
  where
    go : (b : Bool) → nat_lt i n ≡ b → (if b then Some (a + i) else None) ≡ Some k → k < a + n
    go true t e = let s : a + i ≡ k = cc in let lt = ltb-true i n t in omega arith
    go false t e = cc
place_below a n (negsuc i) k e = cc

module _ (instrs : List Slot) where
  -- each run from t gives one from s
  pub record Leads (s t : State) : Type 0 where
    pub by : (o : End (List ℤ)) → Run instrs t o → Run instrs s o

  -- no step
  pub stays : (s : State) → Leads s s
  stays s = record { by = λ o r. r }

  -- one stretch after another
  pub on : (s t u : State) → Leads s t → Leads t u → Leads s u
  on s t u a b = record { by = λ o r. a.by o (b.by o r) }

  -- a word goes onto the stack, or the run breaks
  abbrev pub Gives : State → (ℤ → State) → Option ℤ → Type 0
  Gives s t None = Run instrs s Broken
  Gives s t (Some v) = IsWord v × Leads s (t v)

  -- a stretch before
  pub before : (s u : State) (o : Option ℤ) (t : ℤ → State) → Leads s u → Gives u t o → Gives s t o
  before s u None t a g = a.by Broken g
  before s u (Some v) t a g = (g.0, on s u (t v) a g.1)

module _ (instrs : List Slot) (rs : List ℕ) where
  -- a state, where the calls do not change
  abbrev here : ℕ → List ℤ → List ℤ → List ℕ → State
  here p st ws ks = at p st ws ks rs

  -- the step of an instruction that stands
  pub one_step : (p q : ℕ) (s : Slot) (st ws : List ℤ) (ks : List ℕ) → Has instrs p s q → step instrs (here p st ws ks) ≡ act (action_of s.instr) p st ws ks rs
  one_step p q s st ws ks c = ap (λ o. found (option_map (λ (x : Slot). x.instr) o) (λ i. does i (here p st ws ks))) c.here

  -- one that goes on at the next place
  pub next : (p q : ℕ) (s : Slot) (st ws st' ws' : List ℤ) (ks ks' : List ℕ) → Has instrs p s q → act (action_of s.instr) p st ws ks rs ≡ Goes (here (p + 1) st' ws' ks') → Leads instrs (here p st ws ks) (here q st' ws' ks')
  next p q s st ws st' ws' ks ks' c e =
      record { by = λ o r. goes (one_step p q s st ws ks c ∙ e ∙ ap (λ n. Goes (here n st' ws' ks')) c.next) r }

  -- an instruction with two operands
  combine : (i : Instr) (op : BinOp) (h p q : ℕ) (x y : ℤ) (st ws : List ℤ) (ks : List ℕ) → action_of i ≡ Combines op → Has instrs p (slot i h) q → IsWord x → IsWord y → Gives instrs (here p (y ∷ x ∷ st) ws ks) (λ v. here q (v ∷ st) ws ks) (binary_of op x y)
  combine i op h p q x y st ws ks is c f g = go (binary_of op x y) refl
    where
      stepped : step instrs (here p (y ∷ x ∷ st) ws ks) ≡ gives (binary_of op x y) (λ w. Goes (here (p + 1) (w ∷ st) ws ks))
      stepped = one_step p q (slot i h) (y ∷ x ∷ st) ws ks c ∙ ap (λ a. act a p (y ∷ x ∷ st) ws ks rs) is

      go : (o : Option ℤ) → binary_of op x y ≡ o → Gives instrs (here p (y ∷ x ∷ st) ws ks) (λ v. here q (v ∷ st) ws ks) o
      go None e = ends (stepped ∙ ap (λ o. gives o (λ w. Goes (here (p + 1) (w ∷ st) ws ks))) e)
      go (Some v) e = (binary_word op x y v f g e, next p q (slot i h) (y ∷ x ∷ st) ws (v ∷ st) ws ks ks c (ap (λ a. act a p (y ∷ x ∷ st) ws ks rs) is ∙ ap (λ o. gives o (λ w. Goes (here (p + 1) (w ∷ st) ws ks))) e))

  -- an instruction with one operand
  change : (i : Instr) (op : UnOp) (h p q : ℕ) (x : ℤ) (st ws : List ℤ) (ks : List ℕ) → action_of i ≡ Changes op → Has instrs p (slot i h) q → Leads instrs (here p (x ∷ st) ws ks) (here q (unary_of op x ∷ st) ws ks)
  change i op h p q x st ws ks is c = next p q (slot i h) (x ∷ st) ws (unary_of op x ∷ st) ws ks ks c (ap (λ a. act a p (x ∷ st) ws ks rs) is)

  -- an operator of one word
  unary_run : (op : UnOp) (h p q : ℕ) (x : ℤ) (st ws : List ℤ) (ks : List ℕ) → Has instrs p (slot (unary_instr op) h) q → Leads instrs (here p (x ∷ st) ws ks) (here q (unary_of op x ∷ st) ws ks)
  unary_run one.Neg h p q x st ws ks c = change Neg one.Neg h p q x st ws ks refl c
  unary_run one.Not h p q x st ws ks c = change Not one.Not h p q x st ws ks refl c
  unary_run one.Inv h p q x st ws ks c = change Inv one.Inv h p q x st ws ks refl c

  -- what stands between the operands leaves this of the first
  abbrev left_word : BinOp → ℤ → ℤ
  left_word two.And x = unary_of one.Not x
  left_word _ x = x

  -- no instruction between
  pub same_place : (p q : ℕ) (st ws : List ℤ) (ks : List ℕ) → p ≡ q → Leads instrs (here p st ws ks) (here q st ws ks)
  same_place p q st ws ks e = record { by = λ o r. subst (λ n. Run instrs (here n st ws ks) o) (sym e) r }

  -- what stands between the operands
  between_run : (op : BinOp) (h p q : ℕ) (x : ℤ) (st ws : List ℤ) (ks : List ℕ) → HasAll instrs p (between op h) q → Leads instrs (here p (x ∷ st) ws ks) (here q (left_word op x ∷ st) ws ks)
  between_run two.And h p q x st ws ks c = change Not one.Not (h + 1) p q x st ws ks refl (only instrs (slot Not (h + 1)) p q c)
  between_run _ h p q x st ws ks c = same_place p q (x ∷ st) ws ks c

  -- an operator that is one instruction
  single : (i : Instr) (op : BinOp) (h p q : ℕ) (x y : ℤ) (st ws : List ℤ) (ks : List ℕ) → action_of i ≡ Combines op → HasAll instrs p (slot i h ∷ []) q → IsWord x → IsWord y → Gives instrs (here p (y ∷ x ∷ st) ws ks) (λ v. here q (v ∷ st) ws ks) (binary_of op x y)
  single i op h p q x y st ws ks is c f g = combine i op h p q x y st ws ks is (only instrs (slot i h) p q c) f g

  -- a comparison and NOT
  opposite : (i : Instr) (op : BinOp) (b d : Bool) (h p q : ℕ) (x y : ℤ) (st ws : List ℤ) (ks : List ℕ) → action_of i ≡ Combines op → binary_of op x y ≡ Some (truth_of b) → not b ≡ d → HasAll instrs p (negated i h) q → IsWord x → IsWord y → Gives instrs (here p (y ∷ x ∷ st) ws ks) (λ v. here q (v ∷ st) ws ks) (Some (truth_of d))
  opposite i op b d h p q x y st ws ks is value e c f g =
      let first = combine i op (h + 2) p c.0 x y st ws ks is c.1 f g in
      let known = subst (λ o. Gives instrs (here p (y ∷ x ∷ st) ws ks) (λ v. here c.0 (v ∷ st) ws ks) o) value first in
      let turned = change Not one.Not (h + 1) c.0 q (truth_of b) st ws ks refl (only instrs (slot Not (h + 1)) c.0 q c.2) in
      let result : unary_of one.Not (truth_of b) ≡ truth_of d = not_truth b ∙ ap truth_of e in
      (subst IsWord result (unary_word one.Not (truth_of b)), on instrs _ _ _ known.1 (subst (λ v. Leads instrs (here c.0 (truth_of b ∷ st) ws ks) (here q (v ∷ st) ws ks)) result turned))

  -- what stands behind both operands
  joined_run : (op : BinOp) (h p q : ℕ) (x y : ℤ) (st ws : List ℤ) (ks : List ℕ) → HasAll instrs p (joined op h) q → IsWord x → IsWord y → Gives instrs (here p (y ∷ left_word op x ∷ st) ws ks) (λ v. here q (v ∷ st) ws ks) (binary_of op x y)
  joined_run two.Or h p q x y st ws ks c f g =
      let first = combine Or two.BitOr (h + 2) p c.0 x y st ws ks refl c.1 f g in
      let second = change Not one.Not (h + 1) c.0 c.2.0 (int_bit_or w32 x y) st ws ks refl c.2.1 in
      let third = change Not one.Not (h + 1) c.2.0 q (unary_of one.Not (int_bit_or w32 x y)) st ws ks refl (only instrs (slot Not (h + 1)) c.2.0 q c.2.2) in
      let result = or_truth x y f g in
      (subst IsWord result (unary_word one.Not _), on instrs _ _ _ first.1 (on instrs _ _ _ second (subst (λ v. Leads instrs (here c.2.0 (unary_of one.Not (int_bit_or w32 x y) ∷ st) ws ks) (here q (v ∷ st) ws ks)) result third)))
  joined_run two.And h p q x y st ws ks c f g =
      let u = unary_of one.Not x in
      let w = unary_of one.Not y in
      let first = change Not one.Not (h + 2) p c.0 y (u ∷ st) ws ks refl c.1 in
      let second = combine Or two.BitOr (h + 2) c.0 c.2.0 u w st ws ks refl c.2.1 (unary_word one.Not x) (unary_word one.Not y) in
      let third = change Not one.Not (h + 1) c.2.0 q (int_bit_or w32 u w) st ws ks refl (only instrs (slot Not (h + 1)) c.2.0 q c.2.2) in
      let result = and_truth x y in
      (subst IsWord result (unary_word one.Not _), on instrs _ _ _ first (on instrs _ _ _ second.1 (subst (λ v. Leads instrs (here c.2.0 (int_bit_or w32 u w ∷ st) ws ks) (here q (v ∷ st) ws ks)) result third)))
  joined_run two.Ne h p q x y st ws ks c f g = opposite Eq two.Eq (int_eq x y) _ h p q x y st ws ks refl refl refl c f g
  joined_run two.Gt h p q x y st ws ks c f g = opposite Le two.Le (int_le x y) _ h p q x y st ws ks refl refl (not_le x y) c f g
  joined_run two.Ge h p q x y st ws ks c f g = opposite Lt two.Lt (int_lt x y) _ h p q x y st ws ks refl refl (not_lt x y) c f g
  joined_run two.BitOr h p q x y st ws ks c f g = single Or two.BitOr (h + 2) p q x y st ws ks refl c f g
  joined_run two.BitXor h p q x y st ws ks c f g = single Xor two.BitXor (h + 2) p q x y st ws ks refl c f g
  joined_run two.BitAnd h p q x y st ws ks c f g = single And two.BitAnd (h + 2) p q x y st ws ks refl c f g
  joined_run two.Eq h p q x y st ws ks c f g = single Eq two.Eq (h + 2) p q x y st ws ks refl c f g
  joined_run two.Lt h p q x y st ws ks c f g = single Lt two.Lt (h + 2) p q x y st ws ks refl c f g
  joined_run two.Le h p q x y st ws ks c f g = single Le two.Le (h + 2) p q x y st ws ks refl c f g
  joined_run two.Shl h p q x y st ws ks c f g = single Shl two.Shl (h + 2) p q x y st ws ks refl c f g
  joined_run two.Shr h p q x y st ws ks c f g = single Shr two.Shr (h + 2) p q x y st ws ks refl c f g
  joined_run two.Add h p q x y st ws ks c f g = single Add two.Add (h + 2) p q x y st ws ks refl c f g
  joined_run two.Sub h p q x y st ws ks c f g = single Sub two.Sub (h + 2) p q x y st ws ks refl c f g
  joined_run two.Mul h p q x y st ws ks c f g = single Mul two.Mul (h + 2) p q x y st ws ks refl c f g
  joined_run two.Div h p q x y st ws ks c f g = single Div two.Div (h + 2) p q x y st ws ks refl c f g
  joined_run two.Rem h p q x y st ws ks c f g = single Rem two.Rem (h + 2) p q x y st ws ks refl c f g

  -- both operands, what stands between them, and what stands behind them
  both_run : (op : BinOp) (s : State) (h p1 p2 p3 q : ℕ) (st ws : List ℤ) (ks : List ℕ) (oa ob : Option ℤ) → HasAll instrs p1 (between op h) p2 → HasAll instrs p3 (joined op h) q
      → Gives instrs s (λ x. here p1 (x ∷ st) ws ks) oa → ((x : ℤ) → Gives instrs (here p2 (x ∷ st) ws ks) (λ y. here p3 (y ∷ x ∷ st) ws ks) ob) → Gives instrs s (λ v. here q (v ∷ st) ws ks) (both (binary_of op) oa ob)
  both_run op s h p1 p2 p3 q st ws ks None ob m j ra rb = ra
  both_run op s h p1 p2 p3 q st ws ks (Some x) None m j ra rb = ra.1.by Broken ((between_run op h p1 p2 x st ws ks m).by Broken (rb (left_word op x)))
  both_run op s h p1 p2 p3 q st ws ks (Some x) (Some y) m j ra rb =
      let right = rb (left_word op x) in
      let u = here p3 (y ∷ left_word op x ∷ st) ws ks in
      before instrs s u (binary_of op x y) _ (on instrs s _ u ra.1 (on instrs _ _ u (between_run op h p1 p2 x st ws ks m) right.1)) (joined_run op h p3 q x y st ws ks j ra.0 right.0)

  module _ (cells : List Cell) (n : ℕ) (fits : (p w : ℕ) → IsCell cells p w → p + w ≤ n) where
    -- an expression over n words, of which its cells are some
    pub expr_runs : (e : Ex) (h p q : ℕ) (st ws : List ℤ) (ks : List ℕ) → CodedE instrs h p e q → SoundE cells e → AreWords n ws → Gives instrs (here p st ws ks) (λ v. here q (v ∷ st) ws ks) (value_of e ws)
    expr_runs (Num w) h p q st ws ks c sound are = (sound, next p q _ st ws (w ∷ st) ws ks ks c refl)
    expr_runs (Var a) h p q st ws ks c sound are =
        let inside : a < n = omega (arith, fits a 1 sound) in
        (word_fits n ws a are inside, next p q _ st ws (word_at ws a ∷ st) ws ks ks c (ap (λ o. found o (λ w. Goes (here (p + 1) (w ∷ st) ws ks))) (word_there n ws a are inside)))
    expr_runs (Elem a w i) h p q st ws ks c sound are = go (value_of i ws) (expr_runs i h p c.0 st ws ks c.1 sound.1 are)
      where
        element : (v : ℤ) (o : Option ℕ) → place_of a w v ≡ o → Gives instrs (here c.0 (v ∷ st) ws ks) (λ x. here q (x ∷ st) ws ks) (elem_at ws o)
        element v None e = ends (one_step c.0 q _ (v ∷ st) ws ks c.2 ∙ ap (λ o. gives o (λ k. found (slice_get ws k) (λ x. Goes (here (c.0 + 1) (x ∷ st) ws ks)))) e)
        element v (Some k) e =
            let inside : k < n = omega (arith, place_below a w v k e, fits a w sound.0.0) in (
              word_fits n ws k are inside,
              next c.0 q _ (v ∷ st) ws (word_at ws k ∷ st) ws ks ks c.2
                  (ap (λ o. gives o (λ k. found (slice_get ws k) (λ x. Goes (here (c.0 + 1) (x ∷ st) ws ks)))) e ∙ ap (λ o. found o (λ x. Goes (here (c.0 + 1) (x ∷ st) ws ks))) (word_there n ws k are inside)),
            )

        go : (o : Option ℤ) → Gives instrs (here p st ws ks) (λ v. here c.0 (v ∷ st) ws ks) o → Gives instrs (here p st ws ks) (λ v. here q (v ∷ st) ws ks) (then_word o (λ v. elem_at ws (place_of a w v)))
        go None r = r
        go (Some v) r = before instrs _ _ (elem_at ws (place_of a w v)) _ r.1 (element v (place_of a w v) refl)
    expr_runs (Un op e) h p q st ws ks c sound are = go (value_of e ws) (expr_runs e h p c.0 st ws ks c.1 sound are)
      where
        go : (o : Option ℤ) → Gives instrs (here p st ws ks) (λ v. here c.0 (v ∷ st) ws ks) o → Gives instrs (here p st ws ks) (λ v. here q (v ∷ st) ws ks) (then_word o (λ v. Some (unary_of op v)))
        go None r = r
        go (Some v) r = (unary_word op v, on instrs _ _ _ r.1 (unary_run op (h + 1) c.0 q v st ws ks c.2))
    expr_runs (Bin op l r) h p q st ws ks c sound are =
        both_run op (here p st ws ks) h c.0 c.1 c.2 q st ws ks (value_of l ws) (value_of r ws) c.4 c.6
        (expr_runs l h p c.0 st ws ks c.3 sound.0 are) (λ x. expr_runs r (h + 1) c.1 c.2 (x ∷ st) ws ks c.5 sound.1 are)
