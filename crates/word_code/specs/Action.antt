-- What an instruction does: the instructions in groups, so that an operator is one case. This project's own.
use Rattle.std.specs.Prelude.{ℕ, ℤ}
use Rattle.mars_base.specs.declared.word.BinOp.{BinOp}
use Rattle.mars_base.specs.declared.word.BinOp.TheVariants as two
use Rattle.mars_base.specs.declared.word.UnOp.{UnOp}
use Rattle.mars_base.specs.declared.word.UnOp.TheVariants as one
use Rattle.word_code.specs.declared.code.Instr.{Instr}
use Rattle.word_code.specs.declared.code.Instr.TheVariants.{Push, Load, Store, LoadX, StoreX, Add, Sub, Mul, Div, Rem, And, Or, Xor, Shl, Shr, Eq, Lt, Le, Neg, Not, Inv, Jmp, Jz, CZero, CInc, Call, Ret, Halt}

-- a word, a place, a width or a bound, an operator, a target or a counter goes with it
pub data Action : Type 0 where
  Pushes : (word : ℤ) → Action
  Loads : (place : ℕ) → Action
  Stores : (place : ℕ) → Action
  LoadsAt : (place width : ℕ) → Action
  StoresAt : (place width : ℕ) → Action
  Combines : (op : BinOp) → Action
  Changes : (op : UnOp) → Action
  Jumps : (target : ℕ) → Action
  JumpsIfZero : (target : ℕ) → Action
  Clears : (counter : ℕ) → Action
  Counts : (counter bound : ℕ) → Action
  Calls : (target : ℕ) → Action
  Returns : Action
  Stops : Action

-- what each instruction does; AND, OR and XOR go bit by bit
abbrev pub action_of : Instr → Action
action_of (Push w) = Pushes w
action_of (Load a) = Loads a
action_of (Store a) = Stores a
action_of (LoadX a n) = LoadsAt a n
action_of (StoreX a n) = StoresAt a n
action_of Add = Combines two.Add
action_of Sub = Combines two.Sub
action_of Mul = Combines two.Mul
action_of Div = Combines two.Div
action_of Rem = Combines two.Rem
action_of And = Combines two.BitAnd
action_of Or = Combines two.BitOr
action_of Xor = Combines two.BitXor
action_of Shl = Combines two.Shl
action_of Shr = Combines two.Shr
action_of Eq = Combines two.Eq
action_of Lt = Combines two.Lt
action_of Le = Combines two.Le
action_of Neg = Changes one.Neg
action_of Not = Changes one.Not
action_of Inv = Changes one.Inv
action_of (Jmp t) = Jumps t
action_of (Jz t) = JumpsIfZero t
action_of (CZero c) = Clears c
action_of (CInc c n) = Counts c n
action_of (Call t) = Calls t
action_of Ret = Returns
action_of Halt = Stops
