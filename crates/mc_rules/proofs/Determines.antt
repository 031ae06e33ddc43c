-- The plain tree of a checked task determines the task: what is read back from it is the task itself.
use Rattle.std.proofs.Common.{◌≡◌, ℕ, zero, suc, ◌+◌, ◌<◌, ◌≤◌, Bool, true, false, cond, List, [], ◌∷◌, length, map, Option, Some, None, arith, refl, ap, sym, subst, ◌∙◌}
use Rattle.std.specs.Prelude.{nat_eq, nat_lt, ◌&&◌}
use Rattle.std.specs.List.{All, list_all}
use Rattle.std.proofs.lemmas.Bool.Decides.{nat_tests}
use Rattle.mc_tree.specs.declared.tree.Cell.{Cell}
use Rattle.mc_tree.specs.declared.tree.Func.{Func}
use Rattle.mc_tree.specs.declared.tree.Task.{Task}
use Rattle.mc_tree.specs.declared.tree.Expr.{Expr, ind-Expr, roll-Expr}
use Rattle.mc_tree.specs.declared.tree.Expr.TheFolds.{map-Expr}
use Rattle.mc_tree.specs.declared.tree.Expr.TheOpen as E
use Rattle.mc_tree.specs.declared.tree.Expr.TheVariants as e
use Rattle.mc_tree.specs.declared.tree.Stmt.{Stmt, ind-Stmt, roll-Stmt}
use Rattle.mc_tree.specs.declared.tree.Stmt.TheFolds.{map-Stmt}
use Rattle.mc_tree.specs.declared.tree.Stmt.TheOpen as S
use Rattle.mc_tree.specs.declared.tree.Stmt.TheVariants as s
use Rattle.mc_tree.specs.Checked.{Placed, HasWidth}
use Rattle.mc_tree.specs.CheckedTask.{is_expr_within, Look, look_stmt, all_within, all_loops, IsFuncWithin, IsCheckedTask}
use Rattle.mc_tree.specs.Plain.{place_in, width_in, plain_expr, plain_args, plain_stmt, plain_list, plain_loops, plain_func, plain_task, loop_before}
use Rattle.mc_tree.specs.Tree.{Ex, Num, Var, Elem, Un, Bin, St, Assign, AssignAt, Invoke, When, Choice, Loop, Scoped, Count, Series, Bl, Nil, Then, Ls, NoLoop, OneLoop, Fn, Tree}
use Rattle.mc_tree.proofs.Plain.{plain_number, plain_cell, plain_at, plain_unary, plain_binary, plain_set, plain_set_at, plain_call, plain_when, plain_choice, plain_while, plain_scope, plain_mark, plain_sequence}
use Rattle.mc_tree.proofs.Within.{within_number, within_cell, within_at, within_unary, within_binary, looks, look_set, look_set_at, look_call, look_when, look_choice, look_while, look_scope, look_mark, look_sequence}

-- the number of the first cell of a place
abbrev number_at : List Cell → ℕ → ℕ
number_at [] p = 0
number_at (c ∷ cells) p = cond (nat_eq c.place p) 0 (suc (number_at cells p))

place_from : (lo : ℕ) (cells : List Cell) → Placed lo cells → (k : ℕ) → k < length cells → lo ≤ place_in cells k
place_from lo [] h k lt = absurd (omega (arith, lt))
place_from lo (c ∷ cells) h zero lt = omega (arith, h.0)
place_from lo (c ∷ cells) h (suc k) lt = omega (arith, place_from (lo + c.width) cells h.1 k (omega (arith, lt)))

number_back : (lo : ℕ) (cells : List Cell) → Placed lo cells → All HasWidth cells → (k : ℕ) → k < length cells → number_at cells (place_in cells k) ≡ k
number_back lo [] h w k lt = absurd (omega (arith, lt))
number_back lo (c ∷ cells) h w zero lt = let same : nat_eq c.place c.place ≡ true = grind (arith, nat_tests) in ap (λ b. cond b 0 (suc (number_at cells c.place))) same
number_back lo (c ∷ cells) h w (suc k) lt =
    let up = place_from (lo + c.width) cells h.1 k (omega (arith, lt)) in
    let wide = w 0 c (omega arith) in
    let less : c.place < place_in cells k = omega (arith, up, h.0, wide.0) in
    let other : nat_eq c.place (place_in cells k) ≡ false = grind (arith, nat_tests, less) in
    ap (λ b. cond b 0 (suc (number_at cells (place_in cells k)))) other ∙ ap suc (number_back (lo + c.width) cells h.1 (λ j d l. w (suc j) d (omega (arith, l))) k (omega (arith, lt)))

both_true : (a b : Bool) → (a && b) ≡ true → (a ≡ true) × (b ≡ true)
both_true true b h = (refl, h)
both_true false b h = absurd (let c : false ≡ true = h in cc)

-- the tree of the code that a plain one is of
abbrev back_ex : List Cell → Ex → Expr
back_ex cells (Num w) = e.Number w
back_ex cells (Var p) = e.Cell (number_at cells p)
back_ex cells (Elem p n i) = e.At (number_at cells p) (back_ex cells i)
back_ex cells (Un op a) = e.Unary op (back_ex cells a)
back_ex cells (Bin op l r) = e.Binary op (back_ex cells l) (back_ex cells r)

abbrev mutual
  back_st : List Cell → St → Stmt
  back_st cells (Assign p x) = s.Set (number_at cells p) (back_ex cells x)
  back_st cells (AssignAt p n i x) = s.SetAt (number_at cells p) (back_ex cells i) (back_ex cells x)
  back_st cells (Invoke p g args) = s.Call (number_at cells p) g (map (back_ex cells) args)
  back_st cells (When t a) = s.If (back_ex cells t) (back_bl cells a) None
  back_st cells (Choice t a b) = s.If (back_ex cells t) (back_bl cells a) (Some (back_bl cells b))
  back_st cells (Loop c n t a) = s.While c n (back_ex cells t) (back_bl cells a)
  back_st cells (Scoped c n a) = s.Scope c n (back_bl cells a)
  back_st cells (Count c n) = s.Mark c n
  back_st cells (Series c n l) = s.Sequence c n (back_ls cells l)

  back_bl : List Cell → Bl → List Stmt
  back_bl cells Nil = []
  back_bl cells (Then x rest) = back_st cells x ∷ back_bl cells rest

  back_ls : List Cell → Ls → List Stmt
  back_ls cells NoLoop = []
  back_ls cells (OneLoop c n t a rest) = s.While c n (back_ex cells t) (back_bl cells a) ∷ back_ls cells rest

abbrev back_fn : List Cell → Fn → Func
back_fn cells f = record { params = map (number_at cells) f.params; body = back_bl cells f.body; answer = back_ex cells f.answer }

abbrev back_task : Tree → Task
back_task t = record { name = t.name; cells = t.cells; funcs = map (back_fn t.cells) t.funcs; body = back_bl t.cells t.body; counters = t.counters }

module _ (cells : List Cell) (placed : Placed 0 cells) (widths : All HasWidth cells) where
  cell_back : (c : ℕ) → nat_lt c (length cells) ≡ true → number_at cells (place_in cells c) ≡ c
  cell_back c h = let lt : c < length cells = grind (arith, nat_tests, h) in number_back 0 cells placed widths c lt

  abbrev ExBack : Expr → Type 0
  ExBack x = is_expr_within (length cells) x ≡ true → back_ex cells (plain_expr cells x) ≡ x

  ex_layer : (y : E.Expr-F ((x : Expr) × ExBack x)) → ExBack (roll-Expr (map-Expr ((x : Expr) × ExBack x) Expr (λ x. x.0) y))
  ex_layer (E.Number w) = subst ExBack (sym (e.rolls-Number w)) (λ h. ap (back_ex cells) (plain_number cells w))
  ex_layer (E.Cell c) = subst ExBack (sym (e.rolls-Cell c)) (λ h. ap (back_ex cells) (plain_cell cells c) ∙ ap (λ n. e.Cell n) (cell_back c (sym (within_cell (length cells) c) ∙ h)))
  ex_layer (E.At c i) = subst ExBack (sym (e.rolls-At c i.0)) (λ h.
      let b = both_true (nat_lt c (length cells)) (is_expr_within (length cells) i.0) (sym (within_at (length cells) c i.0) ∙ h) in
      ap (back_ex cells) (plain_at cells c i.0) ∙ ap (λ n. e.At n (back_ex cells (plain_expr cells i.0))) (cell_back c b.0) ∙ ap (e.At c) (i.1 b.1))
  ex_layer (E.Unary op a) = subst ExBack (sym (e.rolls-Unary op a.0)) (λ h. ap (back_ex cells) (plain_unary cells op a.0) ∙ ap (e.Unary op) (a.1 (sym (within_unary (length cells) op a.0) ∙ h)))
  ex_layer (E.Binary op l r) = subst ExBack (sym (e.rolls-Binary op l.0 r.0)) (λ h.
      let b = both_true (is_expr_within (length cells) l.0) (is_expr_within (length cells) r.0) (sym (within_binary (length cells) op l.0 r.0) ∙ h) in
      ap (back_ex cells) (plain_binary cells op l.0 r.0) ∙ ap (λ x. e.Binary op x (back_ex cells (plain_expr cells r.0))) (l.1 b.0) ∙ ap (e.Binary op l.0) (r.1 b.1))

  ex_back : (x : Expr) → ExBack x
  ex_back = ind-Expr ExBack (λ x y is. subst (λ z. ExBack (roll-Expr z)) is (ex_layer y))

  args_back : (xs : List Expr) → list_all (is_expr_within (length cells)) xs ≡ true → map (back_ex cells) (plain_args cells xs) ≡ xs
  args_back [] h = refl
  args_back (x ∷ xs) h =
      let b = both_true (is_expr_within (length cells) x) (list_all (is_expr_within (length cells)) xs) h in
      ap (λ y. y ∷ map (back_ex cells) (plain_args cells xs)) (ex_back x b.0) ∙ ap (λ ys. x ∷ ys) (args_back xs b.1)

  module _ (funcs : ℕ) where
    abbrev StBack : Stmt → Type 0
    StBack x = (look_stmt (length cells) funcs x).within ≡ true → back_st cells (plain_stmt cells x) ≡ x

    abbrev Known : Type 0
    Known = (x : Stmt) × StBack x

    abbrev firsts : List Known → List Stmt
    firsts xs = map (λ (x : Known). x.0) xs

    known_back : (xs : List Known) → all_within (looks (length cells) funcs (firsts xs)) ≡ true → back_bl cells (plain_list cells (firsts xs)) ≡ firsts xs
    known_back [] h = refl
    known_back (x ∷ xs) h =
        let b = both_true (look_stmt (length cells) funcs x.0).within (all_within (looks (length cells) funcs (firsts xs))) h in
        ap (λ y. y ∷ back_bl cells (plain_list cells (firsts xs))) (x.1 b.0) ∙ ap (λ ys. x.0 ∷ ys) (known_back xs b.1)

    no_loop : (x : Stmt) (b : Bool) → (look_stmt (length cells) funcs x).loop ≡ true → look_stmt (length cells) funcs x ≡ record { within = b; loop = false } → ⊥
    no_loop x b h e = let c : true ≡ false = sym h ∙ ap (λ (l : Look). l.loop) e in cc

    -- a while isn't lost in a sequence
    loop_back : (y : St) → (look_stmt (length cells) funcs (back_st cells y)).loop ≡ true → (rest : Ls) → back_ls cells (loop_before y rest) ≡ back_st cells y ∷ back_ls cells rest
    loop_back (Loop c n t a) h rest = refl
    loop_back (Assign p x) h rest = absurd (no_loop (back_st cells (Assign p x)) _ h (look_set (length cells) funcs (number_at cells p) (back_ex cells x)))
    loop_back (AssignAt p n i x) h rest = absurd (no_loop (back_st cells (AssignAt p n i x)) _ h (look_set_at (length cells) funcs (number_at cells p) (back_ex cells i) (back_ex cells x)))
    loop_back (Invoke p g args) h rest = absurd (no_loop (back_st cells (Invoke p g args)) _ h (look_call (length cells) funcs (number_at cells p) g (map (back_ex cells) args)))
    loop_back (When t a) h rest = absurd (no_loop (back_st cells (When t a)) _ h (look_when (length cells) funcs (back_ex cells t) (back_bl cells a)))
    loop_back (Choice t a b) h rest = absurd (no_loop (back_st cells (Choice t a b)) _ h (look_choice (length cells) funcs (back_ex cells t) (back_bl cells a) (back_bl cells b)))
    loop_back (Scoped c n a) h rest = absurd (no_loop (back_st cells (Scoped c n a)) _ h (look_scope (length cells) funcs c n (back_bl cells a)))
    loop_back (Count c n) h rest = absurd (no_loop (back_st cells (Count c n)) _ h (look_mark (length cells) funcs c n))
    loop_back (Series c n l) h rest = absurd (no_loop (back_st cells (Series c n l)) _ h (look_sequence (length cells) funcs c n (back_ls cells l)))

    loops_back : (xs : List Known) → all_loops (looks (length cells) funcs (firsts xs)) ≡ true → all_within (looks (length cells) funcs (firsts xs)) ≡ true → back_ls cells (plain_loops cells (firsts xs)) ≡ firsts xs
    loops_back [] h w = refl
    loops_back (x ∷ xs) h w =
        let a = both_true (look_stmt (length cells) funcs x.0).loop (all_loops (looks (length cells) funcs (firsts xs))) h in
        let b = both_true (look_stmt (length cells) funcs x.0).within (all_within (looks (length cells) funcs (firsts xs))) w in
        let is = x.1 b.0 in
        let loop : (look_stmt (length cells) funcs (back_st cells (plain_stmt cells x.0))).loop ≡ true = ap (λ (y : Stmt). (look_stmt (length cells) funcs y).loop) is ∙ a.0 in
        loop_back (plain_stmt cells x.0) loop (plain_loops cells (firsts xs)) ∙ ap (λ y. y ∷ back_ls cells (plain_loops cells (firsts xs))) is ∙ ap (λ ys. x.0 ∷ ys) (loops_back xs a.1 b.1)

    within_of : (x : Stmt) (l : Look) → look_stmt (length cells) funcs x ≡ l → (look_stmt (length cells) funcs x).within ≡ true → l.within ≡ true
    within_of x l e h = sym (ap (λ (m : Look). m.within) e) ∙ h

    st_layer : (y : S.Stmt-F Known) → StBack (roll-Stmt (map-Stmt Known Stmt (λ (x : Known). x.0) y))
    st_layer (S.Set c v) = subst StBack (sym (s.rolls-Set c v)) (λ h.
        let b = both_true (nat_lt c (length cells)) (is_expr_within (length cells) v) (within_of _ _ (look_set (length cells) funcs c v) h) in
        ap (back_st cells) (plain_set cells c v) ∙ ap (λ n. s.Set n (back_ex cells (plain_expr cells v))) (cell_back c b.0) ∙ ap (s.Set c) (ex_back v b.1))
    st_layer (S.SetAt c i v) = subst StBack (sym (s.rolls-SetAt c i v)) (λ h.
        let b = both_true (nat_lt c (length cells)) (is_expr_within (length cells) i && is_expr_within (length cells) v) (within_of _ _ (look_set_at (length cells) funcs c i v) h) in
        let d = both_true (is_expr_within (length cells) i) (is_expr_within (length cells) v) b.1 in
        ap (back_st cells) (plain_set_at cells c i v) ∙ ap (λ n. s.SetAt n (back_ex cells (plain_expr cells i)) (back_ex cells (plain_expr cells v))) (cell_back c b.0)
        ∙ ap (λ x. s.SetAt c x (back_ex cells (plain_expr cells v))) (ex_back i d.0) ∙ ap (s.SetAt c i) (ex_back v d.1))
    st_layer (S.Call c g args) = subst StBack (sym (s.rolls-Call c g args)) (λ h.
        let b = both_true (nat_lt c (length cells)) (nat_lt g funcs && list_all (is_expr_within (length cells)) args) (within_of _ _ (look_call (length cells) funcs c g args) h) in
        let d = both_true (nat_lt g funcs) (list_all (is_expr_within (length cells)) args) b.1 in
        ap (back_st cells) (plain_call cells c g args) ∙ ap (λ n. s.Call n g (map (back_ex cells) (plain_args cells args))) (cell_back c b.0) ∙ ap (s.Call c g) (args_back args d.1))
    st_layer (S.If t a None) = subst StBack (sym (s.rolls-If t (firsts a) None)) (λ h.
        let b = both_true (is_expr_within (length cells) t) (all_within (looks (length cells) funcs (firsts a)) && true) (within_of _ _ (look_when (length cells) funcs t (firsts a)) h) in
        let d = both_true (all_within (looks (length cells) funcs (firsts a))) true b.1 in
        ap (back_st cells) (plain_when cells t (firsts a)) ∙ ap (λ x. s.If x (back_bl cells (plain_list cells (firsts a))) None) (ex_back t b.0) ∙ ap (λ xs. s.If t xs None) (known_back a d.0))
    st_layer (S.If t a (Some o)) = subst StBack (sym (s.rolls-If t (firsts a) (Some (firsts o)))) (λ h.
        let b = both_true (is_expr_within (length cells) t) (all_within (looks (length cells) funcs (firsts a)) && all_within (looks (length cells) funcs (firsts o))) (within_of _ _ (look_choice (length cells) funcs t (firsts a) (firsts o)) h) in
        let d = both_true (all_within (looks (length cells) funcs (firsts a))) (all_within (looks (length cells) funcs (firsts o))) b.1 in
        ap (back_st cells) (plain_choice cells t (firsts a) (firsts o)) ∙ ap (λ x. s.If x (back_bl cells (plain_list cells (firsts a))) (Some (back_bl cells (plain_list cells (firsts o))))) (ex_back t b.0)
        ∙ ap (λ xs. s.If t xs (Some (back_bl cells (plain_list cells (firsts o))))) (known_back a d.0) ∙ ap (λ xs. s.If t (firsts a) (Some xs)) (known_back o d.1))
    st_layer (S.While c n t a) = subst StBack (sym (s.rolls-While c n t (firsts a))) (λ h.
        let b = both_true (is_expr_within (length cells) t) (all_within (looks (length cells) funcs (firsts a))) (within_of _ _ (look_while (length cells) funcs c n t (firsts a)) h) in
        ap (back_st cells) (plain_while cells c n t (firsts a)) ∙ ap (λ x. s.While c n x (back_bl cells (plain_list cells (firsts a)))) (ex_back t b.0) ∙ ap (s.While c n t) (known_back a b.1))
    st_layer (S.Scope c n a) = subst StBack (sym (s.rolls-Scope c n (firsts a))) (λ h.
        ap (back_st cells) (plain_scope cells c n (firsts a)) ∙ ap (s.Scope c n) (known_back a (within_of _ _ (look_scope (length cells) funcs c n (firsts a)) h)))
    st_layer (S.Mark c n) = subst StBack (sym (s.rolls-Mark c n)) (λ h. ap (back_st cells) (plain_mark cells c n))
    st_layer (S.Sequence c n l) = subst StBack (sym (s.rolls-Sequence c n (firsts l))) (λ h.
        let b = both_true (all_loops (looks (length cells) funcs (firsts l))) (all_within (looks (length cells) funcs (firsts l))) (within_of _ _ (look_sequence (length cells) funcs c n (firsts l)) h) in
        ap (back_st cells) (plain_sequence cells c n (firsts l)) ∙ ap (s.Sequence c n) (loops_back l b.0 b.1))

    st_back : (x : Stmt) → StBack x
    st_back = ind-Stmt StBack (λ x y is. subst (λ z. StBack (roll-Stmt z)) is (st_layer y))

    stmts_back : (xs : List Stmt) → all_within (looks (length cells) funcs xs) ≡ true → back_bl cells (plain_list cells xs) ≡ xs
    stmts_back [] h = refl
    stmts_back (x ∷ xs) h =
        let b = both_true (look_stmt (length cells) funcs x).within (all_within (looks (length cells) funcs xs)) h in
        ap (λ y. y ∷ back_bl cells (plain_list cells xs)) (st_back x b.0) ∙ ap (λ ys. x ∷ ys) (stmts_back xs b.1)

    params_back : (ps : List ℕ) → All (λ (c : ℕ). c < length cells) ps → map (number_at cells) (map (place_in cells) ps) ≡ ps
    params_back [] h = refl
    params_back (p ∷ ps) h =
        ap (λ n. n ∷ map (number_at cells) (map (place_in cells) ps)) (number_back 0 cells placed widths p (h 0 p (omega arith)))
        ∙ ap (λ ns. p ∷ ns) (params_back ps (λ k d lt. h (suc k) d (omega (arith, lt))))

    func_back : (f : Func) → IsFuncWithin (length cells) funcs f → back_fn cells (plain_func cells f) ≡ f
    func_back f h =
        ap (λ ps. let g : Func = record { params = ps; body = back_bl cells (plain_list cells f.body); answer = back_ex cells (plain_expr cells f.answer) } in g) (params_back f.params h.params)
        ∙ ap (λ b. let g : Func = record { params = f.params; body = b; answer = back_ex cells (plain_expr cells f.answer) } in g) (stmts_back f.body h.body)
        ∙ ap (λ a. let g : Func = record { params = f.params; body = f.body; answer = a } in g) (ex_back f.answer h.answer)

    funcs_back : (fs : List Func) → All (IsFuncWithin (length cells) funcs) fs → map (back_fn cells) (map (plain_func cells) fs) ≡ fs
    funcs_back [] h = refl
    funcs_back (f ∷ fs) h =
        ap (λ g. g ∷ map (back_fn cells) (map (plain_func cells) fs)) (func_back f (h 0 f (omega arith))) ∙ ap (λ gs. f ∷ gs) (funcs_back fs (λ k d lt. h (suc k) d (omega (arith, lt))))

task_back : (t : Task) → IsCheckedTask t → back_task (plain_task t) ≡ t
task_back t h =
    let n = length t.funcs in
    ap (λ fs. let r : Task = record { name = t.name; cells = t.cells; funcs = fs; body = back_bl t.cells (plain_list t.cells t.body); counters = t.counters } in r) (funcs_back t.cells h.tree.placed h.tree.widths n t.funcs h.funcs)
    ∙ ap (λ b. let r : Task = record { name = t.name; cells = t.cells; funcs = t.funcs; body = b; counters = t.counters } in r) (stmts_back t.cells h.tree.placed h.tree.widths n t.body h.body)

-- two checked tasks of one plain tree are the same
pub same_task : (a b : Task) → IsCheckedTask a → IsCheckedTask b → plain_task a ≡ plain_task b → a ≡ b
same_task a b h g e = sym (task_back a h) ∙ ap back_task e ∙ task_back b g
