-- What a tree of the code is as plain data.
use Rattle.std.specs.Prelude.{ℕ, zero, suc, List, map, Option, Some, None}
use Rattle.mc_tree.specs.declared.raw.RawExpr.{RawExpr}
use Rattle.mc_tree.specs.declared.raw.RawStmt.{RawStmt}
use Rattle.mc_tree.specs.declared.raw.RawFunc.{RawFunc}
use Rattle.mc_tree.specs.RawPlain.{plain_expr, plain_stmt, plain_list, plain_func}
use Rattle.mc_reader.specs.declared.statement.Right.{Right}
use Rattle.mc_reader.specs.declared.statement.Right.TheVariants as Q
use Rattle.mc_reader.specs.declared.statement.Target.{Target}
use Rattle.mc_reader.specs.declared.statement.Target.TheVariants as W
use Rattle.mc_reader.specs.Frames.{IsInside}
use Rattle.mc_tree.specs.declared.token.Token.{Token}
use Rattle.mc_tree.specs.Raw as R
use Rattle.mc_reader.specs.Reading.{Got, Bad, next, done}
use Rattle.mc_reader.specs.Readers as P
use Rattle.mc_reader.specs.declared.statement.Begin.{Begin}
use Rattle.mc_reader.specs.declared.statement.Begin.TheVariants as B
use Rattle.mc_reader.specs.declared.statement.Block.{Block}
use Rattle.mc_tree.specs.Expression.{name_at}

-- statements one after another
abbrev pub plain_stmts : List RawStmt → List R.St
plain_stmts ss = map plain_stmt ss

abbrev pub plain_block : Block → P.Block
plain_block b = record { items = plain_list b.items; to = b.to }

abbrev pub plain_option : Option Block → Option P.Block
plain_option None = None
plain_option (Some b) = Some (plain_block b)

-- the name at the start of a statement lies in a text of this length
abbrev pub IsInsideBegin : ℕ → Begin → Type 0
IsInsideBegin end (B.Name p) = IsInside end p
IsInsideBegin end b = Unit {0}

abbrev pub plain_funcs : List RawFunc → List R.Func
plain_funcs fs = map plain_func fs

abbrev pub plain_args : List RawExpr → List R.Ex
plain_args es = map plain_expr es

abbrev pub plain_right : Right → P.Right
plain_right (Q.Value e) = P.Value (plain_expr e)
plain_right (Q.Called f es) = P.Called f (plain_args es)

abbrev pub plain_target : Target → P.Wanted
plain_target W.Cell = P.ToAssign
plain_target W.Element = P.ToIndex

abbrev pub target_map : Option Target → Option P.Wanted
target_map None = None
target_map (Some t) = Some (plain_target t)

module _ (bytes : List ℕ) where
  abbrev pub begin_by : Begin → P.Begin
  begin_by (B.Name p) = P.Simply (P.AName (name_at bytes p))
  begin_by (B.Mark f) = P.Simply (P.AMark f)
  begin_by (B.If f) = P.Deeply (P.AnIf f)
  begin_by (B.While f) = P.Deeply (P.AWhile f)
  begin_by (B.Scope f) = P.Deeply (P.AScope f)
  begin_by (B.Sequence f) = P.Deeply (P.ASequence f)

  abbrev pub begin_map : Option Begin → Option P.Begin
  begin_map None = None
  begin_map (Some b) = Some (begin_by b)

  -- how a statement may begin, with n levels left
  abbrev pub simply_of : Option P.Simple → Option P.Begin
  simply_of None = None
  simply_of (Some s) = Some (P.Simply s)

  abbrev pub at_begin_in : ℕ → Token → Option P.Begin
  at_begin_in zero t = simply_of (P.at_simple bytes t)
  at_begin_in (suc n) t = P.at_begin bytes t

  -- a block at that many levels
  abbrev pub block_in : ℕ → List Token → Got P.Block
  block_in zero ts = Bad ts
  block_in (suc n) ts = P.braces (P.statements bytes n) ts

  abbrev pub statement_in : ℕ → Begin → List Token → Got R.St
  statement_in n b ts = P.branch bytes (block_in n) (begin_by b) ts

  -- an expression to the right of an equals sign
  abbrev pub as_value : List Token → Got P.Right
  as_value ts = next (P.value bytes ts) (λ e. done (P.Value e))
