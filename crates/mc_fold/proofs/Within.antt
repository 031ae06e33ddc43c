-- A folded task names the same cells and functions, and its sequences are of whiles.
use Rattle.std.proofs.Common.{◌≡◌, ℕ, ℤ, List, [], ◌∷◌, Option, Some, None, Bool, true, false, ◌&&◌, length, map, refl, ap, ◌∙◌, sym, subst, arith}
use Rattle.std.specs.Prelude.{nat_lt, IsTrue}
use Rattle.std.specs.List.{All, list_all}
use Rattle.std.proofs.lemmas.List.{length-map}
use Rattle.std.proofs.lemmas.List.Elements.{All-map, All-weaker}
use Rattle.mars_base.specs.declared.word.BinOp.{BinOp}
use Rattle.mars_base.specs.declared.word.UnOp.{UnOp}
use Rattle.mc_tree.specs.declared.tree.Func.{Func}
use Rattle.mc_tree.specs.declared.tree.Task.{Task}
use Rattle.mc_tree.specs.declared.tree.Expr.{Expr, map-Expr, roll-Expr, ind-Expr, fold-roll-Expr}
use Rattle.mc_tree.specs.declared.tree.Expr.TheOpen as E
use Rattle.mc_tree.specs.declared.tree.Expr.TheVariants as e
use Rattle.mc_tree.specs.declared.tree.Stmt.{Stmt, map-Stmt, roll-Stmt, ind-Stmt, fold-roll-Stmt}
use Rattle.mc_tree.specs.declared.tree.Stmt.TheOpen as S
use Rattle.mc_tree.specs.declared.tree.Stmt.TheVariants as s
use Rattle.mc_tree.specs.CheckedTask.{names_in, is_expr_within, Look, all_within, all_loops, plainly, look_at, look_stmt, IsWithin, IsFuncWithin, IsCheckedTask}
use Rattle.mc_tree.specs.Checked.{IsChecked}
use Rattle.mc_tree.specs.Plain.{plain_task}
use Rattle.mc_tree.specs.Size.{tree_nodes}
use Rattle.mc_fold.specs.Folded.{or_number, folded_expr, folded_stmt, folded_func, folded_task}
use Rattle.mc_fold.proofs.Checks.{checked_folded, tree_nodes_folded}
use Rattle.mc_fold.proofs.Plainly.{plain_folded_task}
use Rattle.mc_fold.proofs.Rules.{folded_is_number, folded_is_cell, folded_is_at, folded_is_unary, folded_is_binary, folded_is_set, folded_is_set_at, folded_is_call, folded_is_when, folded_is_choice, folded_is_while, folded_is_scope, folded_is_mark, folded_is_sequence}

-- the parts of a conjunction
left_true : (a b : Bool) → IsTrue (a && b) → IsTrue a
left_true true b h = refl
left_true false b h = cc

right_true : (a b : Bool) → IsTrue (a && b) → IsTrue b
right_true true b h = h
right_true false b h = cc

both_true : (a b : Bool) → IsTrue a → IsTrue b → IsTrue (a && b)
both_true true b h k = k
both_true false b h k = cc

-- whether the names of an expression are there: one line for each variant
within_number : (n : ℕ) (w : ℤ) → is_expr_within n (e.Number w) ≡ true
unfolding is_expr_within
within_number n w = ap (is_expr_within n) (sym (e.rolls-Number w)) ∙ fold-roll-Expr Bool (names_in n) (E.Number w)

within_cell : (n c : ℕ) → is_expr_within n (e.Cell c) ≡ nat_lt c n
unfolding is_expr_within
within_cell n c = ap (is_expr_within n) (sym (e.rolls-Cell c)) ∙ fold-roll-Expr Bool (names_in n) (E.Cell c)

within_at : (n c : ℕ) (i : Expr) → is_expr_within n (e.At c i) ≡ (nat_lt c n && is_expr_within n i)
unfolding is_expr_within
within_at n c i = ap (is_expr_within n) (sym (e.rolls-At c i)) ∙ fold-roll-Expr Bool (names_in n) (E.At c i)

within_unary : (n : ℕ) (op : UnOp) (a : Expr) → is_expr_within n (e.Unary op a) ≡ is_expr_within n a
unfolding is_expr_within
within_unary n op a = ap (is_expr_within n) (sym (e.rolls-Unary op a)) ∙ fold-roll-Expr Bool (names_in n) (E.Unary op a)

within_binary : (n : ℕ) (op : BinOp) (l r : Expr) → is_expr_within n (e.Binary op l r) ≡ (is_expr_within n l && is_expr_within n r)
unfolding is_expr_within
within_binary n op l r = ap (is_expr_within n) (sym (e.rolls-Binary op l r)) ∙ fold-roll-Expr Bool (names_in n) (E.Binary op l r)

-- a number names nothing
within_or : (n : ℕ) (o : Option ℤ) (x : Expr) → IsTrue (is_expr_within n x) → IsTrue (is_expr_within n (or_number o x))
within_or n None x h = h
within_or n (Some w) x h = within_number n w

-- an expression that keeps its names
abbrev Stays : ℕ → Expr → Type 0
Stays n x = IsTrue (is_expr_within n x) → IsTrue (is_expr_within n (folded_expr x))

-- one level of an expression
stays_layer : (n : ℕ) {A : Type 0} (x_of : A → Expr) (ok : (a : A) → Stays n (x_of a)) (y : E.Expr-F A) → Stays n (roll-Expr (map-Expr A Expr x_of y))
stays_layer n x_of ok (E.Number w) = subst (Stays n) (sym (e.rolls-Number w)) (λ h. ap (is_expr_within n) (folded_is_number w) ∙ h)
stays_layer n x_of ok (E.Cell c) = subst (Stays n) (sym (e.rolls-Cell c)) (λ h. ap (is_expr_within n) (folded_is_cell c) ∙ h)
stays_layer n x_of ok (E.At c i) =
    subst (Stays n) (sym (e.rolls-At c (x_of i))) (λ h.
    let k = sym (within_at n c (x_of i)) ∙ h in
    ap (is_expr_within n) (folded_is_at c (x_of i)) ∙ within_at n c (folded_expr (x_of i)) ∙ both_true _ _ (left_true _ _ k) (ok i (right_true (nat_lt c n) _ k)))
stays_layer n x_of ok (E.Unary op a) =
    subst (Stays n) (sym (e.rolls-Unary op (x_of a))) (λ h.
    let k = ok a (sym (within_unary n op (x_of a)) ∙ h) in
    ap (is_expr_within n) (folded_is_unary op (x_of a)) ∙ within_or n _ (e.Unary op (folded_expr (x_of a))) (within_unary n op (folded_expr (x_of a)) ∙ k))
stays_layer n x_of ok (E.Binary op l r) =
    subst (Stays n) (sym (e.rolls-Binary op (x_of l) (x_of r))) (λ h.
    let k = sym (within_binary n op (x_of l) (x_of r)) ∙ h in
    let u = ok l (left_true _ _ k) in
    let v = ok r (right_true (is_expr_within n (x_of l)) _ k) in
    ap (is_expr_within n) (folded_is_binary op (x_of l) (x_of r))
    ∙ within_or n _ (e.Binary op (folded_expr (x_of l)) (folded_expr (x_of r))) (within_binary n op (folded_expr (x_of l)) (folded_expr (x_of r)) ∙ both_true _ _ u v))

-- an expression
within_folded : (n : ℕ) (x : Expr) → IsTrue (is_expr_within n x) → IsTrue (is_expr_within n (folded_expr x))
within_folded n = ind-Expr (Stays n) (λ x y is. subst (λ (z : E.Expr-F Expr). Stays n (roll-Expr z)) is (stays_layer n (λ d. d.0) (λ d. d.1) y))

-- arguments
args_within : (n : ℕ) (xs : List Expr) → IsTrue (list_all (is_expr_within n) xs) → IsTrue (list_all (is_expr_within n) (map folded_expr xs))
args_within n [] h = refl
args_within n (x ∷ xs) h = both_true _ _ (within_folded n x (left_true _ _ h)) (args_within n xs (right_true (is_expr_within n x) _ h))

-- a statement's look: one line for each variant
look_set : (n m c : ℕ) (v : Expr) → look_stmt n m (s.Set c v) ≡ plainly (nat_lt c n && is_expr_within n v)
unfolding look_stmt
look_set n m c v = ap (look_stmt n m) (sym (s.rolls-Set c v)) ∙ fold-roll-Stmt Look (look_at n m) (S.Set c v)

look_set_at : (n m c : ℕ) (i v : Expr) → look_stmt n m (s.SetAt c i v) ≡ plainly (nat_lt c n && (is_expr_within n i && is_expr_within n v))
unfolding look_stmt
look_set_at n m c i v = ap (look_stmt n m) (sym (s.rolls-SetAt c i v)) ∙ fold-roll-Stmt Look (look_at n m) (S.SetAt c i v)

look_call : (n m c g : ℕ) (args : List Expr) → look_stmt n m (s.Call c g args) ≡ plainly (nat_lt c n && (nat_lt g m && list_all (is_expr_within n) args))
unfolding look_stmt
look_call n m c g args = ap (look_stmt n m) (sym (s.rolls-Call c g args)) ∙ fold-roll-Stmt Look (look_at n m) (S.Call c g args)

look_when : (n m : ℕ) (t : Expr) (a : List Stmt) → look_stmt n m (s.If t a None) ≡ plainly (is_expr_within n t && (all_within (map (look_stmt n m) a) && true))
unfolding look_stmt
look_when n m t a = ap (look_stmt n m) (sym (s.rolls-If t a None)) ∙ fold-roll-Stmt Look (look_at n m) (S.If t a None)

look_choice : (n m : ℕ) (t : Expr) (a b : List Stmt) → look_stmt n m (s.If t a (Some b)) ≡ plainly (is_expr_within n t && (all_within (map (look_stmt n m) a) && all_within (map (look_stmt n m) b)))
unfolding look_stmt
look_choice n m t a b = ap (look_stmt n m) (sym (s.rolls-If t a (Some b))) ∙ fold-roll-Stmt Look (look_at n m) (S.If t a (Some b))

look_while : (n m c k : ℕ) (t : Expr) (a : List Stmt) → look_stmt n m (s.While c k t a) ≡ record { within = is_expr_within n t && all_within (map (look_stmt n m) a); loop = true }
unfolding look_stmt
look_while n m c k t a = ap (look_stmt n m) (sym (s.rolls-While c k t a)) ∙ fold-roll-Stmt Look (look_at n m) (S.While c k t a)

look_scope : (n m c k : ℕ) (a : List Stmt) → look_stmt n m (s.Scope c k a) ≡ plainly (all_within (map (look_stmt n m) a))
unfolding look_stmt
look_scope n m c k a = ap (look_stmt n m) (sym (s.rolls-Scope c k a)) ∙ fold-roll-Stmt Look (look_at n m) (S.Scope c k a)

look_mark : (n m c k : ℕ) → look_stmt n m (s.Mark c k) ≡ plainly true
unfolding look_stmt
look_mark n m c k = ap (look_stmt n m) (sym (s.rolls-Mark c k)) ∙ fold-roll-Stmt Look (look_at n m) (S.Mark c k)

look_sequence : (n m c k : ℕ) (l : List Stmt) → look_stmt n m (s.Sequence c k l) ≡ plainly (all_loops (map (look_stmt n m) l) && all_within (map (look_stmt n m) l))
unfolding look_stmt
look_sequence n m c k l = ap (look_stmt n m) (sym (s.rolls-Sequence c k l)) ∙ fold-roll-Stmt Look (look_at n m) (S.Sequence c k l)

-- what a look keeps
record Keeps (old new : Look) : Type 0 where
  within : IsTrue old.within → IsTrue new.within
  loop : IsTrue old.loop → IsTrue new.loop

-- a statement that keeps its look
abbrev Looks : ℕ → ℕ → Stmt → Type 0
Looks n m x = Keeps (look_stmt n m x) (look_stmt n m (folded_stmt x))

-- from both looks, as they are at a variant
looks : (n m : ℕ) (x : Stmt) (old new : Look) → look_stmt n m x ≡ old → look_stmt n m (folded_stmt x) ≡ new → Keeps old new → Looks n m x
looks n m x old new a b k = subst (λ o. Keeps o (look_stmt n m (folded_stmt x))) (sym a) (subst (Keeps old) (sym b) k)

module _ (n m : ℕ) {A : Type 0} (s_of : A → Stmt) (ok : (a : A) → Looks n m (s_of a)) where
  -- statements of a list
  list_within : (parts : List A) → IsTrue (all_within (map (look_stmt n m) (map s_of parts))) → IsTrue (all_within (map (look_stmt n m) (map folded_stmt (map s_of parts))))
  list_within [] h = refl
  list_within (a ∷ parts) h = both_true _ _ ((ok a).within (left_true _ _ h)) (list_within parts (right_true ((look_stmt n m (s_of a)).within) _ h))

  -- loops of a list
  list_loops : (parts : List A) → IsTrue (all_loops (map (look_stmt n m) (map s_of parts))) → IsTrue (all_loops (map (look_stmt n m) (map folded_stmt (map s_of parts))))
  list_loops [] h = refl
  list_loops (a ∷ parts) h = both_true _ _ ((ok a).loop (left_true _ _ h)) (list_loops parts (right_true ((look_stmt n m (s_of a)).loop) _ h))

  -- one level of a statement
  looks_layer : (x : S.Stmt-F A) → Looks n m (roll-Stmt (map-Stmt A Stmt s_of x))
  looks_layer (S.Set c v) = subst (Looks n m) (sym (s.rolls-Set c v))
      (looks n m (s.Set c v) _ _ (look_set n m c v) (ap (look_stmt n m) (folded_is_set c v) ∙ look_set n m c (folded_expr v)) record {
        within = λ h. both_true (nat_lt c n) _ (left_true _ _ h) (within_folded n v (right_true (nat_lt c n) _ h));
        loop = λ h. h;
      })
  looks_layer (S.SetAt c i v) = subst (Looks n m) (sym (s.rolls-SetAt c i v))
      (looks n m (s.SetAt c i v) _ _ (look_set_at n m c i v) (ap (look_stmt n m) (folded_is_set_at c i v) ∙ look_set_at n m c (folded_expr i) (folded_expr v)) record {
        within = λ h. both_true (nat_lt c n) _ (left_true _ _ h)
            (both_true _ _ (within_folded n i (left_true _ _ (right_true (nat_lt c n) _ h))) (within_folded n v (right_true (is_expr_within n i) _ (right_true (nat_lt c n) _ h))));
        loop = λ h. h;
      })
  looks_layer (S.Call c g args) = subst (Looks n m) (sym (s.rolls-Call c g args))
      (looks n m (s.Call c g args) _ _ (look_call n m c g args) (ap (look_stmt n m) (folded_is_call c g args) ∙ look_call n m c g (map folded_expr args)) record {
        within = λ h. both_true (nat_lt c n) _ (left_true _ _ h)
            (both_true (nat_lt g m) _ (left_true _ _ (right_true (nat_lt c n) _ h)) (args_within n args (right_true (nat_lt g m) _ (right_true (nat_lt c n) _ h))));
        loop = λ h. h;
      })
  looks_layer (S.If t a None) = subst (Looks n m) (sym (s.rolls-If t (map s_of a) None))
      (looks n m (s.If t (map s_of a) None) _ _ (look_when n m t (map s_of a)) (ap (look_stmt n m) (folded_is_when t (map s_of a)) ∙ look_when n m (folded_expr t) (map folded_stmt (map s_of a))) record {
        within = λ h. both_true _ _ (within_folded n t (left_true _ _ h)) (both_true _ _ (list_within a (left_true _ _ (right_true (is_expr_within n t) _ h))) refl);
        loop = λ h. h;
      })
  looks_layer (S.If t a (Some b)) = subst (Looks n m) (sym (s.rolls-If t (map s_of a) (Some (map s_of b))))
      (looks n m (s.If t (map s_of a) (Some (map s_of b))) _ _ (look_choice n m t (map s_of a) (map s_of b))
      (ap (look_stmt n m) (folded_is_choice t (map s_of a) (map s_of b)) ∙ look_choice n m (folded_expr t) (map folded_stmt (map s_of a)) (map folded_stmt (map s_of b))) record {
        within = λ h. both_true _ _ (within_folded n t (left_true _ _ h))
            (both_true _ _ (list_within a (left_true _ _ (right_true (is_expr_within n t) _ h)))
            (list_within b (right_true (all_within (map (look_stmt n m) (map s_of a))) _ (right_true (is_expr_within n t) _ h))));
        loop = λ h. h;
      })
  looks_layer (S.While c k t a) = subst (Looks n m) (sym (s.rolls-While c k t (map s_of a)))
      (looks n m (s.While c k t (map s_of a)) _ _ (look_while n m c k t (map s_of a)) (ap (look_stmt n m) (folded_is_while c k t (map s_of a)) ∙ look_while n m c k (folded_expr t) (map folded_stmt (map s_of a))) record {
        within = λ h. both_true _ _ (within_folded n t (left_true _ _ h)) (list_within a (right_true (is_expr_within n t) _ h));
        loop = λ h. h;
      })
  looks_layer (S.Scope c k a) = subst (Looks n m) (sym (s.rolls-Scope c k (map s_of a)))
      (looks n m (s.Scope c k (map s_of a)) _ _ (look_scope n m c k (map s_of a)) (ap (look_stmt n m) (folded_is_scope c k (map s_of a)) ∙ look_scope n m c k (map folded_stmt (map s_of a))) record {
        within = list_within a;
        loop = λ h. h;
      })
  looks_layer (S.Mark c k) = subst (Looks n m) (sym (s.rolls-Mark c k))
      (looks n m (s.Mark c k) _ _ (look_mark n m c k) (ap (look_stmt n m) (folded_is_mark c k) ∙ look_mark n m c k) record { within = λ h. h; loop = λ h. h })
  looks_layer (S.Sequence c k l) = subst (Looks n m) (sym (s.rolls-Sequence c k (map s_of l)))
      (looks n m (s.Sequence c k (map s_of l)) _ _ (look_sequence n m c k (map s_of l)) (ap (look_stmt n m) (folded_is_sequence c k (map s_of l)) ∙ look_sequence n m c k (map folded_stmt (map s_of l))) record {
        within = λ h. both_true _ _ (list_loops l (left_true _ _ h)) (list_within l (right_true (all_loops (map (look_stmt n m) (map s_of l))) _ h));
        loop = λ h. h;
      })

-- a statement
looks_folded : (n m : ℕ) (x : Stmt) → Looks n m x
looks_folded n m = ind-Stmt (Looks n m) (λ x y is. subst (λ (z : S.Stmt-F Stmt). Looks n m (roll-Stmt z)) is (looks_layer n m (λ d. d.0) (λ d. d.1) y))

-- the statements of a list
block_within : (n m : ℕ) (ss : List Stmt) → IsWithin n m ss → IsWithin n m (map folded_stmt ss)
block_within n m [] h = refl
block_within n m (x ∷ xs) h = both_true _ _ ((looks_folded n m x).within (left_true _ _ h)) (block_within n m xs (right_true ((look_stmt n m x).within) _ h))

-- a function
func_within : (n m : ℕ) (f : Func) → IsFuncWithin n m f → IsFuncWithin n m (folded_func f)
func_within n m f h = record { params = h.params; body = block_within n m f.body h.body; answer = within_folded n f.answer h.answer }

-- the whole task
pub task_folded : (t : Task) → IsCheckedTask t → IsCheckedTask (folded_task t)
task_folded t c =
    let n = length t.cells in
    let m = length t.funcs in
    let same = sym (length-map t.funcs folded_func) in
    let plain = plain_folded_task t in
    let few = tree_nodes_folded (plain_task t) in
    let size = ap tree_nodes plain in
    record {
      tree = subst IsChecked (sym plain) (checked_folded (plain_task t) c.tree);
      funcs = subst (λ k. All (IsFuncWithin n k) (map folded_func t.funcs)) same
          (All-map (IsFuncWithin n m) folded_func t.funcs (All-weaker (IsFuncWithin n m) (λ f. IsFuncWithin n m (folded_func f)) (func_within n m) t.funcs c.funcs));
      body = subst (λ k. IsWithin n k (map folded_stmt t.body)) same (block_within n m t.body c.body);
      size = omega (arith, few, size, c.size);
    }
