-- Instructions as numbers: op, height, x.
use Rattle.std.specs.Prelude.{ℕ, ◌+◌, ◌*◌, ◌/◌, ◌%◌, List, [], ◌∷◌, slice_index, slice_index_or}
use Rattle.std.specs.Int.{w8, w32, cast_signed, cast_unsigned}
use Rattle.formats.specs.Format.{Format, number, chain, ◌then◌, shaped}
use Rattle.word_code.specs.declared.code.Slot.{Slot}
use Rattle.word_code.specs.declared.code.Instr.{Instr}
use Rattle.word_code.specs.declared.code.Instr.TheVariants.{Push, Load, Store, LoadX, StoreX, Add, Sub, Mul, Div, Rem, And, Or, Xor, Shl, Shr, Eq, Lt, Le, Neg, Not, Inv, Jmp, Jz, CZero, CInc, Call, Ret, Halt}

-- the instructions in the order of their numbers, with the operands that x says
abbrev pub instrs_of : ℕ → List Instr
instrs_of x =
    Push (cast_signed w32 x) ∷ Load x ∷ Store x ∷ LoadX (x / 65536) (x % 65536) ∷ StoreX (x / 65536) (x % 65536)
    ∷ Add ∷ Sub ∷ Mul ∷ Div ∷ Rem ∷ And ∷ Or ∷ Xor ∷ Shl ∷ Shr ∷ Eq ∷ Lt ∷ Le ∷ Neg ∷ Not ∷ Inv
    ∷ Jmp x ∷ Jz x ∷ CZero x ∷ CInc (x / 65536) (x % 65536) ∷ Call x ∷ Ret ∷ Halt ∷ []

unfoldable pub instr_of : (op x : ℕ) → Instr
instr_of op x = slice_index_or (instrs_of x) op Halt

-- the greatest x of each
unfoldable pub greatest_x : ℕ → ℕ
greatest_x op = slice_index
    (4294967295 ∷ 65535 ∷ 65535 ∷ 4294967295 ∷ 4294967295
    ∷ 0 ∷ 0 ∷ 0 ∷ 0 ∷ 0 ∷ 0 ∷ 0 ∷ 0 ∷ 0 ∷ 0 ∷ 0 ∷ 0 ∷ 0 ∷ 0 ∷ 0 ∷ 0
    ∷ 65535 ∷ 65535 ∷ 255 ∷ 16777215 ∷ 65535 ∷ 0 ∷ 0 ∷ []) op

-- the number of an instruction
unfoldable pub op_of : Instr → ℕ
op_of (Push w) = 0
op_of (Load a) = 1
op_of (Store a) = 2
op_of (LoadX a n) = 3
op_of (StoreX a n) = 4
op_of Add = 5
op_of Sub = 6
op_of Mul = 7
op_of Div = 8
op_of Rem = 9
op_of And = 10
op_of Or = 11
op_of Xor = 12
op_of Shl = 13
op_of Shr = 14
op_of Eq = 15
op_of Lt = 16
op_of Le = 17
op_of Neg = 18
op_of Not = 19
op_of Inv = 20
op_of (Jmp t) = 21
op_of (Jz t) = 22
op_of (CZero c) = 23
op_of (CInc c n) = 24
op_of (Call t) = 25
op_of Ret = 26
op_of Halt = 27

-- its operands in one number
unfoldable pub x_of : Instr → ℕ
x_of (Push w) = cast_unsigned w32 w
x_of (Load a) = a
x_of (Store a) = a
x_of (LoadX a n) = a * 65536 + n
x_of (StoreX a n) = a * 65536 + n
x_of (Jmp t) = t
x_of (Jz t) = t
x_of (CZero c) = c
x_of (CInc c n) = c * 65536 + n
x_of (Call t) = t
x_of _ = 0

abbrev pub to_slot : ℕ × (ℕ × ℕ) → Slot
to_slot p = record { instr = instr_of p.0 p.1.1; height = p.1.0 }

abbrev pub of_slot : Slot → ℕ × (ℕ × ℕ)
of_slot s = (op_of s.instr, (s.height, x_of s.instr))

unfoldable pub slot : Format Slot
slot = shaped to_slot of_slot (chain (number w8 0 27) (λ op. number w8 0 64 then number w32 0 (greatest_x op)))
