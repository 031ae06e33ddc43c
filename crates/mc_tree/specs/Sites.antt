-- The sites of expressions and statements in the order of the text, each with what is visible there.
-- This project's own language.
use Rattle.std.specs.Prelude.{ℕ, ◌+◌, Bool, true, false, ◌||◌, Option, Some, None, List, [], ◌∷◌, ◌++◌, max, min, length}
use Rattle.mc_tree.specs.declared.raw.Name.{Name}
use Rattle.mc_tree.specs.declared.symbol.Symbol.{Symbol}
use Rattle.mc_tree.specs.declared.symbol.Symbol.TheVariants as symbol
use Rattle.mc_tree.specs.declared.symbol.Callee.{Callee}
use Rattle.mc_tree.specs.Symbols.{Table, look, declare, is_some, or_else}
use Rattle.mc_tree.specs.Raw.{Ex, Num, Cell, At, Un, Bin, St, Set, SetAt, Call, If, While, Scope, Mark, Sequence, Bl, Nil, Then, Else, Nothing, Otherwise}
use Rattle.mc_tree.specs.Rules.{Site, Declares, Plain, Indexed, Constant, Calls, Marks, Crosses, Stands, Bound, Counts, Needs}

-- What stands fixed in a routine: the globals before it, the functions of the file, and its own number.
pub record Outside : Type 0 where
  pub globals : Table Symbol
  pub callees : Table Callee
  pub current : ℕ

-- What grows: the names of the routine, and of the task so far the cells and the words (kept at 4097, since they pass the limit
-- once), the ports (kept at 17) and the counters (kept at 257).
pub record Sofar : Type 0 where
  pub locals : Table Symbol
  pub cells : ℕ
  pub words : ℕ
  pub ports : ℕ
  pub counters : ℕ

-- What stands around a statement: the innermost scope, whether a sequence stands between, and whether the
-- statement stands directly in a sequence.
pub record Around : Type 0 where
  pub scope : Option (List ℕ)
  pub closed : Bool
  pub direct : Bool

abbrev pub means : Outside → Table Symbol → Name → Option Symbol
means o locals n = or_else (look n.text o.globals) (look n.text locals)

-- operand words
abbrev pub need : Ex → ℕ
need (Num n) = 1
need (Cell n) = 1
need (At n i s) = need i
need (Un op e s) = need e
need (Bin op l r s) = max (need l) (1 + need r)

abbrev pub args_need : ℕ → List Ex → ℕ
args_need i [] = 0
args_need i (e ∷ es) = max (i + need e) (args_need (i + 1) es)

abbrev pub ex_sites : Outside → Table Symbol → Ex → List Site
ex_sites o t (Num n) = Constant n ∷ []
ex_sites o t (Cell n) = Plain n (means o t n) ∷ []
ex_sites o t (At n i s) = Indexed n (means o t n) ∷ ex_sites o t i
ex_sites o t (Un op e s) = ex_sites o t e
ex_sites o t (Bin op l r s) = ex_sites o t l ++ ex_sites o t r

abbrev pub args_sites : Outside → Table Symbol → List Ex → List Site
args_sites o t [] = []
args_sites o t (e ∷ es) = ex_sites o t e ++ args_sites o t es

-- around the statements of a block that is no loop of a sequence; of a while; of a scope; of a sequence
abbrev pub in_block : Around → Around
in_block a = record { scope = a.scope; closed = a.closed; direct = false }

abbrev pub in_while : Around → Around
in_while a = record { scope = a.scope; closed = a.closed || a.direct; direct = false }

abbrev pub in_scope : Name → Around
in_scope n = record { scope = Some n.text; closed = false; direct = false }

abbrev pub in_sequence : Around → Around
in_sequence a = record { scope = a.scope; closed = a.closed; direct = true }

-- one more counter, one more scope
abbrev pub counted : Sofar → Sofar
counted f = record { locals = f.locals; cells = f.cells; words = f.words; ports = f.ports; counters = min (f.counters + 1) 257 }

abbrev pub scoped : Name → Sofar → Sofar
scoped n f = record { locals = declare n.text symbol.Scope f.locals; cells = f.cells; words = f.words; ports = f.ports; counters = min (f.counters + 1) 257 }

abbrev mutual
  -- what a statement, a block and an `else` add
  pub st_after : St → Sofar → Sofar
  st_after (Set c e s) f = f
  st_after (SetAt c i e s) f = f
  st_after (Call c g es s) f = f
  st_after (If t a b s) f = else_after b (bl_after a f)
  st_after (While n t a s) f = bl_after a (counted f)
  st_after (Scope n k a s) f = bl_after a (scoped n f)
  st_after (Mark n s) f = f
  st_after (Sequence k a s) f = bl_after a (counted f)

  pub bl_after : Bl → Sofar → Sofar
  bl_after Nil f = f
  bl_after (Then s ss) f = bl_after ss (st_after s f)

  pub else_after : Else → Sofar → Sofar
  else_after Nothing f = f
  else_after (Otherwise b) f = bl_after b f

abbrev mutual
  pub st_sites : Outside → Around → Sofar → St → List Site
  st_sites o a f (Set c e s) = Stands s a.direct ∷ Needs s (need e) ∷ Plain c (means o f.locals c) ∷ ex_sites o f.locals e
  st_sites o a f (SetAt c i e s) =
      Stands s a.direct ∷ Needs s (max (need i) (1 + need e)) ∷ Indexed c (means o f.locals c) ∷ (ex_sites o f.locals i ++ ex_sites o f.locals e)
  st_sites o a f (Call c g es s) =
      Stands s a.direct ∷ Needs s (max 1 (args_need 0 es)) ∷ Plain c (means o f.locals c) ∷ Calls g (length es) o.current (look g.text o.callees) ∷ args_sites o f.locals es
  st_sites o a f (If t b d s) =
      Stands s a.direct ∷ Needs s (need t) ∷ (ex_sites o f.locals t ++ (bl_sites o (in_block a) f b ++ else_sites o (in_block a) (bl_after b f) d))
  st_sites o a f (While k t b s) = Counts s f.counters ∷ Needs s (need t) ∷ Bound k 1 65535 ∷ (ex_sites o f.locals t ++ bl_sites o (in_while a) (counted f) b)
  st_sites o a f (Scope n k b s) =
      Stands s a.direct ∷ Counts s f.counters ∷ Declares n (is_some (means o f.locals n)) ∷ Bound k 0 1023 ∷ bl_sites o (in_scope n) (scoped n f) b
  st_sites o a f (Mark n s) = Stands s a.direct ∷ Marks n a.scope ∷ Crosses n a.scope a.closed ∷ []
  st_sites o a f (Sequence k b s) = Stands s a.direct ∷ Counts s f.counters ∷ Bound k 1 65535 ∷ bl_sites o (in_sequence a) (counted f) b

  pub bl_sites : Outside → Around → Sofar → Bl → List Site
  bl_sites o a f Nil = []
  bl_sites o a f (Then s ss) = st_sites o a f s ++ bl_sites o a (st_after s f) ss

  pub else_sites : Outside → Around → Sofar → Else → List Site
  else_sites o a f Nothing = []
  else_sites o a f (Otherwise b) = bl_sites o a f b
