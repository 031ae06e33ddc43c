-- What an instruction costs, in cycles. This project's own.
use Rattle.std.specs.Prelude.{ℕ}
use Rattle.word_code.specs.declared.code.Instr.{Instr}
use Rattle.word_code.specs.declared.code.Instr.TheVariants.{Push, Load, Store, LoadX, StoreX, Add, Sub, Mul, Div, Rem, And, Or, Xor, Shl, Shr, Eq, Lt, Le, Neg, Not, Inv, Jmp, Jz, CZero, CInc, Call, Ret, Halt}

-- the same whether the instruction goes on, jumps or breaks
abbrev pub cost_of : Instr → ℕ
cost_of (Push w) = 1
cost_of (Load a) = 2
cost_of (Store a) = 2
cost_of (LoadX a n) = 4
cost_of (StoreX a n) = 4
cost_of Add = 1
cost_of Sub = 1
cost_of Mul = 4
cost_of Div = 12
cost_of Rem = 12
cost_of And = 1
cost_of Or = 1
cost_of Xor = 1
cost_of Shl = 1
cost_of Shr = 1
cost_of Eq = 1
cost_of Lt = 1
cost_of Le = 1
cost_of Neg = 1
cost_of Not = 1
cost_of Inv = 1
cost_of (Jmp t) = 1
cost_of (Jz t) = 2
cost_of (CZero c) = 1
cost_of (CInc c n) = 2
cost_of (Call t) = 3
cost_of Ret = 3
cost_of Halt = 1
