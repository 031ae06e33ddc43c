-- The raw tree as plain data: what a source text spells. Names and numbers keep their places.
-- This project's own language.
use Rattle.std.specs.Prelude.{ℕ, suc, ◌+◌, List, Option}
use Rattle.mars_base.specs.declared.word.BinOp.{BinOp}
use Rattle.mars_base.specs.declared.word.UnOp.{UnOp}
use Rattle.mars_base.specs.declared.text.Span.{Span}
use Rattle.mc_tree.specs.declared.raw.Name.{Name}
use Rattle.mc_tree.specs.declared.raw.RawNumber.{RawNumber}
use Rattle.mc_tree.specs.declared.raw.RawDecl.{RawDecl}

pub data Ex : Type 0 where
  Num : (number : RawNumber) → Ex
  Cell : (name : Name) → Ex
  At : (name : Name) (index : Ex) (span : Span) → Ex
  Un : (op : UnOp) (arg : Ex) (span : Span) → Ex
  Bin : (op : BinOp) (left right : Ex) (span : Span) → Ex

mutual
  pub data St : Type 0 where
    Set : (cell : Name) (value : Ex) (span : Span) → St
    SetAt : (cell : Name) (index value : Ex) (span : Span) → St
    Call : (cell func : Name) (args : List Ex) (span : Span) → St
    If : (test : Ex) (first : Bl) (other : Else) (span : Span) → St
    While : (bound : RawNumber) (test : Ex) (body : Bl) (span : Span) → St
    Scope : (name : Name) (bound : RawNumber) (body : Bl) (span : Span) → St
    Mark : (name : Name) (span : Span) → St
    Sequence : (bound : RawNumber) (body : Bl) (span : Span) → St

  pub data Bl : Type 0 where
    Nil : Bl
    Then : (head : St) (rest : Bl) → Bl

  pub data Else : Type 0 where
    Nothing : Else
    Otherwise : (block : Bl) → Else

pub record Func : Type 0 where
  pub name : Name
  pub params : List Name
  pub locals : List RawDecl
  pub body : Bl
  pub answer : Ex
  pub span : Span

pub record Body : Type 0 where
  pub locals : List RawDecl
  pub body : Bl

pub record Task : Type 0 where
  pub name : Name
  pub decls : List RawDecl
  pub funcs : List Func
  pub body : Option Body
  pub end : ℕ

abbrev pub span_of : Ex → Span
span_of (Num n) = n.span
span_of (Cell n) = n.span
span_of (At n i s) = s
span_of (Un op e s) = s
span_of (Bin op l r s) = s

-- from the start of the first to the end of the second
abbrev pub join : Span → Span → Span
join a b = record { from = a.from; to = b.to }

-- how many operators it has
abbrev pub ops : Ex → ℕ
ops (Num n) = 0
ops (Cell n) = 0
ops (At n i s) = ops i
ops (Un op e s) = suc (ops e)
ops (Bin op l r s) = suc (ops l + ops r)
