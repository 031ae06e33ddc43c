-- A folded tree is checked.
use Rattle.std.proofs.Common.{◌≡◌, ℕ, suc, ◌≤◌, ℤ, List, [], ◌∷◌, ◌++◌, Option, Some, None, length, map, refl, ◌∙◌, sym, subst, arith}
use Rattle.std.proofs.lemmas.List.{length-map}
use Rattle.std.proofs.lemmas.List.Elements.{All-map, All-weaker}
use Rattle.mars_base.specs.declared.word.BinOp.{BinOp}
use Rattle.mars_base.specs.declared.word.UnOp.{UnOp}
use Rattle.mars_base.specs.Word.{binary_of}
use Rattle.mc_tree.specs.declared.tree.Cell.{Cell}
use Rattle.mc_tree.specs.Meaning.{params_at}
use Rattle.mc_tree.specs.Height.{height, args_height}
use Rattle.mc_tree.specs.Sound.{SoundE, SoundTest, Sound, SoundB, SoundL}
use Rattle.mc_tree.specs.Counters.{Counted, CountedB, CountedL, CountedF}
use Rattle.mc_tree.specs.Size.{nodes, args_nodes, st_nodes, bl_nodes, ls_nodes, fns_nodes, tree_nodes}
use Rattle.mc_tree.specs.Checked.{FnChecked, Routines, IsChecked}
use Rattle.mc_tree.specs.Tree.{Ex, Num, Var, Elem, Un, Bin, St, Assign, AssignAt, Invoke, When, Choice, Loop, Scoped, Count, Series, Bl, Nil, Then, Ls, NoLoop, OneLoop, Fn, Tree}
use Rattle.word_code.proofs.Words.{binary_word, unary_word}
use Rattle.mc_fold.proofs.Mirror.{or_num, folded_un, folded_bin, folded_ex, folded_st, folded_bl, folded_ls, folded_fn, folded_tree}
use Rattle.mc_fold.proofs.Meaning.{params_folded}

-- operand words
height_some : (x : Ex) → 1 ≤ height x
height_some (Num w) = omega arith
height_some (Var p) = omega arith
height_some (Elem p n i) = height_some i
height_some (Un op a) = height_some a
height_some (Bin op l r) = omega arith

-- a number has no more than what it stands for
height_or : (o : Option ℤ) (x : Ex) → height (or_num o x) ≤ height x
height_or None x = omega arith
height_or (Some w) x = height_some x

-- of an expression
height_folded : (x : Ex) → height (folded_ex x) ≤ height x
height_folded (Num w) = omega arith
height_folded (Var p) = omega arith
height_folded (Elem p n i) = height_folded i
height_folded (Un op a) =
    let one : height (folded_un op (folded_ex a)) ≤ height (Un op (folded_ex a)) = height_or _ (Un op (folded_ex a)) in
    let rest = height_folded a in
    omega (arith, one, rest)
height_folded (Bin op l r) =
    let one : height (folded_bin op (folded_ex l) (folded_ex r)) ≤ height (Bin op (folded_ex l) (folded_ex r)) = height_or _ (Bin op (folded_ex l) (folded_ex r)) in
    let left = height_folded l in
    let right = height_folded r in
    omega (arith, one, left, right)

-- of arguments
args_height_folded : (xs : List Ex) → args_height (map folded_ex xs) ≤ args_height xs
args_height_folded [] = omega arith
args_height_folded (x ∷ xs) = let one = height_folded x in let rest = args_height_folded xs in omega (arith, one, rest)

-- nodes
nodes_some : (x : Ex) → 1 ≤ nodes x
nodes_some (Num w) = omega arith
nodes_some (Var p) = omega arith
nodes_some (Elem p n i) = omega arith
nodes_some (Un op a) = omega arith
nodes_some (Bin op l r) = omega arith

-- a number has no more than what it stands for
nodes_or : (o : Option ℤ) (x : Ex) → nodes (or_num o x) ≤ nodes x
nodes_or None x = omega arith
nodes_or (Some w) x = nodes_some x

-- of an expression
nodes_folded : (x : Ex) → nodes (folded_ex x) ≤ nodes x
nodes_folded (Num w) = omega arith
nodes_folded (Var p) = omega arith
nodes_folded (Elem p n i) = let rest = nodes_folded i in omega (arith, rest)
nodes_folded (Un op a) =
    let one : nodes (folded_un op (folded_ex a)) ≤ nodes (Un op (folded_ex a)) = nodes_or _ (Un op (folded_ex a)) in
    let rest = nodes_folded a in
    omega (arith, one, rest)
nodes_folded (Bin op l r) =
    let one : nodes (folded_bin op (folded_ex l) (folded_ex r)) ≤ nodes (Bin op (folded_ex l) (folded_ex r)) = nodes_or _ (Bin op (folded_ex l) (folded_ex r)) in
    let left = nodes_folded l in
    let right = nodes_folded r in
    omega (arith, one, left, right)

-- of arguments
args_nodes_folded : (xs : List Ex) → args_nodes (map folded_ex xs) ≤ args_nodes xs
args_nodes_folded [] = omega arith
args_nodes_folded (x ∷ xs) = let one = nodes_folded x in let rest = args_nodes_folded xs in omega (arith, one, rest)

mutual
  -- of a statement
  st_nodes_folded : (x : St) → st_nodes (folded_st x) ≤ st_nodes x
  st_nodes_folded (Assign p v) = let a = nodes_folded v in omega (arith, a)
  st_nodes_folded (AssignAt p n i v) = let a = nodes_folded i in let b = nodes_folded v in omega (arith, a, b)
  st_nodes_folded (Invoke p g args) = let a = args_nodes_folded args in omega (arith, a)
  st_nodes_folded (When t a) = let x = nodes_folded t in let y = bl_nodes_folded a in omega (arith, x, y)
  st_nodes_folded (Choice t a b) = let x = nodes_folded t in let y = bl_nodes_folded a in let z = bl_nodes_folded b in omega (arith, x, y, z)
  st_nodes_folded (Loop c n t a) = let x = nodes_folded t in let y = bl_nodes_folded a in omega (arith, x, y)
  st_nodes_folded (Scoped c n a) = let y = bl_nodes_folded a in omega (arith, y)
  st_nodes_folded (Count c n) = omega arith
  st_nodes_folded (Series c n l) = let y = ls_nodes_folded l in omega (arith, y)

  -- of a block
  bl_nodes_folded : (b : Bl) → bl_nodes (folded_bl b) ≤ bl_nodes b
  bl_nodes_folded Nil = omega arith
  bl_nodes_folded (Then x rest) = let y = st_nodes_folded x in let z = bl_nodes_folded rest in omega (arith, y, z)

  -- of the loops of a sequence
  ls_nodes_folded : (l : Ls) → ls_nodes (folded_ls l) ≤ ls_nodes l
  ls_nodes_folded NoLoop = omega arith
  ls_nodes_folded (OneLoop c n t a rest) = let x = nodes_folded t in let y = bl_nodes_folded a in let z = ls_nodes_folded rest in omega (arith, x, y, z)

-- of functions
fns_nodes_folded : (fs : List Fn) → fns_nodes (map folded_fn fs) ≤ fns_nodes fs
fns_nodes_folded [] = omega arith
fns_nodes_folded (f ∷ fs) = let x = bl_nodes_folded f.body in let y = nodes_folded f.answer in let z = fns_nodes_folded fs in omega (arith, x, y, z)

-- of the whole tree
pub tree_nodes_folded : (t : Tree) → tree_nodes (folded_tree t) ≤ tree_nodes t
tree_nodes_folded t = let x = bl_nodes_folded t.body in let z = fns_nodes_folded t.funcs in omega (arith, x, z)

-- what each part keeps
sound_un : (seen : List Cell) (op : UnOp) (a : Ex) → SoundE seen a → SoundE seen (folded_un op a)
sound_un seen op (Num w) s = unary_word op w
sound_un seen op (Var p) s = s
sound_un seen op (Elem p n i) s = s
sound_un seen op (Un o a) s = s
sound_un seen op (Bin o l r) s = s

-- an operator over two numbers
sound_both : (seen : List Cell) (op : BinOp) (x y : ℤ) (o : Option ℤ) → binary_of op x y ≡ o → SoundE seen (Num x) → SoundE seen (Num y) → SoundE seen (or_num o (Bin op (Num x) (Num y)))
sound_both seen op x y None e a b = (a, b)
sound_both seen op x y (Some v) e a b = binary_word op x y v a b e

-- an operator over two expressions
sound_bin : (seen : List Cell) (op : BinOp) (l r : Ex) → SoundE seen l → SoundE seen r → SoundE seen (folded_bin op l r)
sound_bin seen op (Num x) (Num y) s t = sound_both seen op x y (binary_of op x y) refl s t
sound_bin seen op (Num x) (Var p) s t = (s, t)
sound_bin seen op (Num x) (Elem p n i) s t = (s, t)
sound_bin seen op (Num x) (Un o a) s t = (s, t)
sound_bin seen op (Num x) (Bin o a b) s t = (s, t)
sound_bin seen op (Var p) r s t = (s, t)
sound_bin seen op (Elem p n i) r s t = (s, t)
sound_bin seen op (Un o a) r s t = (s, t)
sound_bin seen op (Bin o a b) r s t = (s, t)

-- an expression
sound_ex : (seen : List Cell) (x : Ex) → SoundE seen x → SoundE seen (folded_ex x)
sound_ex seen (Num w) s = s
sound_ex seen (Var p) s = s
sound_ex seen (Elem p n i) s = (s.0, sound_ex seen i s.1)
sound_ex seen (Un op a) s = sound_un seen op (folded_ex a) (sound_ex seen a s)
sound_ex seen (Bin op l r) s = sound_bin seen op (folded_ex l) (folded_ex r) (sound_ex seen l s.0) (sound_ex seen r s.1)

-- a test or a value
sound_test : (seen : List Cell) (x : Ex) → SoundTest seen x → SoundTest seen (folded_ex x)
sound_test seen x s = (sound_ex seen x s.0, let h = height_folded x in omega (arith, h, s.1))

mutual
  -- a statement
  sound_st : (seen : List Cell) (x : St) → Sound seen x → Sound seen (folded_st x)
  sound_st seen (Assign p v) s = (s.0, sound_test seen v s.1)
  sound_st seen (AssignAt p n i v) s = (s.0, sound_ex seen i s.1, sound_ex seen v s.2, let a = height_folded i in let b = height_folded v in omega (arith, a, b, s.3))
  sound_st seen (Invoke p g args) s =
      (s.0, All-map (SoundE seen) folded_ex args (All-weaker (SoundE seen) (λ x. SoundE seen (folded_ex x)) (sound_ex seen) args s.1), let h = args_height_folded args in omega (arith, h, s.2))
  sound_st seen (When t a) s = (sound_test seen t s.0, sound_bl seen a s.1)
  sound_st seen (Choice t a b) s = (sound_test seen t s.0, sound_bl seen a s.1, sound_bl seen b s.2)
  sound_st seen (Loop c n t a) s = (s.0, sound_test seen t s.1, sound_bl seen a s.2)
  sound_st seen (Scoped c n a) s = (s.0, sound_bl seen a s.1)
  sound_st seen (Count c n) s = s
  sound_st seen (Series c n l) s = (s.0, sound_ls seen l s.1)

  -- a block
  sound_bl : (seen : List Cell) (b : Bl) → SoundB seen b → SoundB seen (folded_bl b)
  sound_bl seen Nil s = s
  sound_bl seen (Then x rest) s = (sound_st seen x s.0, sound_bl seen rest s.1)

  -- the loops of a sequence
  sound_ls : (seen : List Cell) (l : Ls) → SoundL seen l → SoundL seen (folded_ls l)
  sound_ls seen NoLoop s = s
  sound_ls seen (OneLoop c n t a rest) s = (s.0, sound_test seen t s.1, sound_bl seen a s.2, sound_ls seen rest s.3)

-- the counters
mutual
  -- of a statement
  counted_st : (params : ℕ → List ℕ) (cur sc kb lo : ℕ) (x : St) (hi : ℕ) → Counted params cur sc kb lo x hi → Counted params cur sc kb lo (folded_st x) hi
  counted_st params cur sc kb lo (Assign p v) hi c = c
  counted_st params cur sc kb lo (AssignAt p n i v) hi c = c
  counted_st params cur sc kb lo (Invoke p g args) hi c = (c.0, c.1, length-map args folded_ex ∙ c.2)
  counted_st params cur sc kb lo (When t a) hi c = counted_bl params cur sc kb lo a hi c
  counted_st params cur sc kb lo (Choice t a b) hi c = (c.0, counted_bl params cur sc kb lo a c.0 c.1, counted_bl params cur sc kb c.0 b hi c.2)
  counted_st params cur sc kb lo (Loop k n t a) hi c = (c.0, counted_bl params cur sc kb (suc lo) a hi c.1)
  counted_st params cur sc kb lo (Scoped k n a) hi c = (c.0, counted_bl params cur (suc lo) n (suc lo) a hi c.1)
  counted_st params cur sc kb lo (Count k n) hi c = c
  counted_st params cur sc kb lo (Series k n l) hi c = (c.0, counted_ls params cur (suc lo) l hi c.1)

  -- of a block
  counted_bl : (params : ℕ → List ℕ) (cur sc kb lo : ℕ) (b : Bl) (hi : ℕ) → CountedB params cur sc kb lo b hi → CountedB params cur sc kb lo (folded_bl b) hi
  counted_bl params cur sc kb lo Nil hi c = c
  counted_bl params cur sc kb lo (Then x rest) hi c = (c.0, counted_st params cur sc kb lo x c.0 c.1, counted_bl params cur sc kb c.0 rest hi c.2)

  -- of the loops of a sequence
  counted_ls : (params : ℕ → List ℕ) (cur lo : ℕ) (l : Ls) (hi : ℕ) → CountedL params cur lo l hi → CountedL params cur lo (folded_ls l) hi
  counted_ls params cur lo NoLoop hi c = c
  counted_ls params cur lo (OneLoop k n t a rest) hi c = (c.0, c.1, counted_bl params cur 0 0 (suc lo) a c.0 c.2, counted_ls params cur c.0 rest hi c.3)

-- of functions
counted_fns : (params : ℕ → List ℕ) (cur lo : ℕ) (fs : List Fn) (hi : ℕ) → CountedF params cur lo fs hi → CountedF params cur lo (map folded_fn fs) hi
counted_fns params cur lo [] hi c = c
counted_fns params cur lo (f ∷ fs) hi c = (c.0, counted_bl params cur 0 0 lo f.body c.0 c.1, counted_fns params (suc cur) c.0 fs hi c.2)

-- the routines, each over its own cells
fn_checked : (globals params locals : List Cell) (f : Fn) → FnChecked globals params locals f → FnChecked globals params locals (folded_fn f)
fn_checked globals params locals f c = record {
  places = c.places;
  words = c.words;
  names = c.names;
  body = sound_bl (globals ++ (params ++ locals)) f.body c.body;
  answer = sound_test (globals ++ (params ++ locals)) f.answer c.answer;
}

-- all routines
routines : (globals cells : List Cell) (fs : List Fn) (body : Bl) → Routines globals cells fs body → Routines globals cells (map folded_fn fs) (folded_bl body)
routines globals cells [] body r = (r.0, sound_bl (globals ++ cells) body r.1)
routines globals cells (f ∷ fs) body r = (r.0, r.1, r.2, r.3, fn_checked globals r.0 r.1 f r.4, routines globals r.2 fs body r.5)

-- the whole tree
pub checked_folded : (t : Tree) → IsChecked t → IsChecked (folded_tree t)
checked_folded t c =
    let same = sym (params_folded t.funcs) in
    record {
      placed = c.placed;
      widths = c.widths;
      words = c.words;
      ports = c.ports;
      functions = omega (arith, length-map t.funcs folded_fn, c.functions);
      globals = c.globals;
      locals = c.locals;
      declared = c.declared;
      global_roles = c.global_roles;
      local_roles = c.local_roles;
      routines = routines c.globals c.locals t.funcs t.body c.routines;
      first = c.first;
      fn_counters = subst (λ p. CountedF p 0 0 (map folded_fn t.funcs) c.first) same (counted_fns (params_at t.funcs) 0 0 t.funcs c.first c.fn_counters);
      body_counters =
          subst (λ n. CountedB (params_at (map folded_fn t.funcs)) n 0 0 c.first (folded_bl t.body) t.counters) (sym (length-map t.funcs folded_fn))
          (subst (λ p. CountedB p (length t.funcs) 0 0 c.first (folded_bl t.body) t.counters) same (counted_bl (params_at t.funcs) (length t.funcs) 0 0 c.first t.body t.counters c.body_counters));
      counters = c.counters;
    }
