-- Folding of plain trees.
use Rattle.std.proofs.Common.{ℤ, Option, Some, None, map}
use Rattle.mars_base.specs.declared.word.BinOp.{BinOp}
use Rattle.mars_base.specs.declared.word.UnOp.{UnOp}
use Rattle.mars_base.specs.Word.{binary_of, unary_of}
use Rattle.mc_tree.specs.Meaning.{both, then_word}
use Rattle.mc_tree.specs.Tree.{Ex, Num, Var, Elem, Un, Bin, St, Assign, AssignAt, Invoke, When, Choice, Loop, Scoped, Count, Series, Bl, Nil, Then, Ls, NoLoop, OneLoop, Fn, Tree}

-- the number that an expression is, where it is one
abbrev pub num_of : Ex → Option ℤ
num_of (Num w) = Some w
num_of (Var p) = None
num_of (Elem p n i) = None
num_of (Un op a) = None
num_of (Bin op l r) = None

-- the word where there is one, and else the expression
abbrev pub or_num : Option ℤ → Ex → Ex
or_num None x = x
or_num (Some w) x = Num w

-- an operator over a folded operand
abbrev pub folded_un : UnOp → Ex → Ex
folded_un op a = or_num (then_word (num_of a) (λ w. Some (unary_of op w))) (Un op a)

-- an operator over two folded operands
abbrev pub folded_bin : BinOp → Ex → Ex → Ex
folded_bin op l r = or_num (both (binary_of op) (num_of l) (num_of r)) (Bin op l r)

-- an expression
abbrev pub folded_ex : Ex → Ex
folded_ex (Num w) = Num w
folded_ex (Var p) = Var p
folded_ex (Elem p n i) = Elem p n (folded_ex i)
folded_ex (Un op a) = folded_un op (folded_ex a)
folded_ex (Bin op l r) = folded_bin op (folded_ex l) (folded_ex r)

abbrev mutual
  -- a statement
  pub folded_st : St → St
  folded_st (Assign p x) = Assign p (folded_ex x)
  folded_st (AssignAt p n i x) = AssignAt p n (folded_ex i) (folded_ex x)
  folded_st (Invoke p g args) = Invoke p g (map folded_ex args)
  folded_st (When t a) = When (folded_ex t) (folded_bl a)
  folded_st (Choice t a b) = Choice (folded_ex t) (folded_bl a) (folded_bl b)
  folded_st (Loop c n t a) = Loop c n (folded_ex t) (folded_bl a)
  folded_st (Scoped c n a) = Scoped c n (folded_bl a)
  folded_st (Count c n) = Count c n
  folded_st (Series c n l) = Series c n (folded_ls l)

  -- a block
  pub folded_bl : Bl → Bl
  folded_bl Nil = Nil
  folded_bl (Then s rest) = Then (folded_st s) (folded_bl rest)

  -- the loops of a sequence
  pub folded_ls : Ls → Ls
  folded_ls NoLoop = NoLoop
  folded_ls (OneLoop c n t a rest) = OneLoop c n (folded_ex t) (folded_bl a) (folded_ls rest)

-- a function
abbrev pub folded_fn : Fn → Fn
folded_fn f = record { params = f.params; body = folded_bl f.body; answer = folded_ex f.answer }

-- a task
abbrev pub folded_tree : Tree → Tree
folded_tree t = record {
  name = t.name;
  cells = t.cells;
  funcs = map folded_fn t.funcs;
  body = folded_bl t.body;
  counters = t.counters;
}
