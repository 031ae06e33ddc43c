-- The checked tree as plain data. A cell is its place and, where it is indexed, its width.
-- This project's own.
use Rattle.std.specs.Prelude.{ℕ, ℤ, List}
use Rattle.mars_base.specs.declared.word.BinOp.{BinOp}
use Rattle.mars_base.specs.declared.word.UnOp.{UnOp}
use Rattle.mc_tree.specs.declared.tree.Cell.{Cell}

-- an expression
pub data Ex : Type 0 where
  Num : (word : ℤ) → Ex
  Var : (place : ℕ) → Ex
  Elem : (place width : ℕ) (index : Ex) → Ex
  Un : (op : UnOp) (arg : Ex) → Ex
  Bin : (op : BinOp) (left right : Ex) → Ex

-- a statement, a block of statements, and the loops of a sequence
mutual
  pub data St : Type 0 where
    Assign : (place : ℕ) (value : Ex) → St
    AssignAt : (place width : ℕ) (index value : Ex) → St
    Invoke : (place func : ℕ) (args : List Ex) → St
    When : (test : Ex) (first : Bl) → St
    Choice : (test : Ex) (first other : Bl) → St
    Loop : (counter bound : ℕ) (test : Ex) (body : Bl) → St
    Scoped : (counter bound : ℕ) (body : Bl) → St
    Count : (counter bound : ℕ) → St
    Series : (counter bound : ℕ) (loops : Ls) → St

  pub data Bl : Type 0 where
    Nil : Bl
    Then : (head : St) (rest : Bl) → Bl

  pub data Ls : Type 0 where
    NoLoop : Ls
    OneLoop : (counter bound : ℕ) (test : Ex) (body : Bl) (rest : Ls) → Ls

-- a function: the places of its parameters, its statements, and its answer
pub record Fn : Type 0 where
  pub params : List ℕ
  pub body : Bl
  pub answer : Ex

-- a task
pub record Tree : Type 0 where
  pub name : List ℕ
  pub cells : List Cell
  pub funcs : List Fn
  pub body : Bl
  pub counters : ℕ
