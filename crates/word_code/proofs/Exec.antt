-- The word machine's executions under a limit by their first step.
use Rattle.std.proofs.Common.{◌≡◌, ℕ, ◌+◌, ◌<◌, ◌≤◌, List, ℤ, arith, Option, Some, None}
use Rattle.word_code.specs.Cost.{cost_of}
use Rattle.processor.specs.Ends.{End, Halted, Broken, Goes, Ends, Over, Cut}
use Rattle.word_code.specs.Execution.{exec_from}
use Rattle.word_code.specs.State.{State}
use Rattle.word_code.specs.Step.{step, cost_at, cost_or, instr_at, machine_of}
use Rattle.processor.specs.System.{IsCosted}
use Rattle.word_code.specs.declared.code.Instr.{Instr}
use Rattle.word_code.specs.declared.code.Instr.TheVariants.{Push, Load, Store, LoadX, StoreX, Add, Sub, Mul, Div, Rem, And, Or, Xor, Shl, Shr, Eq, Lt, Le, Neg, Not, Inv, Jmp, Jz, CZero, CInc, Call, Ret, Halt}
use Rattle.word_code.specs.declared.code.Slot.{Slot}
use Rattle.processor.proofs.ByStep.{exec_cut, exec_on, exec_over}

-- each instruction costs at least 1
pub cost_some : (i : Instr) → 1 ≤ cost_of i
cost_some (Push w) = omega arith
cost_some (Load a) = omega arith
cost_some (Store a) = omega arith
cost_some (LoadX a n) = omega arith
cost_some (StoreX a n) = omega arith
cost_some Add = omega arith
cost_some Sub = omega arith
cost_some Mul = omega arith
cost_some Div = omega arith
cost_some Rem = omega arith
cost_some And = omega arith
cost_some Or = omega arith
cost_some Xor = omega arith
cost_some Shl = omega arith
cost_some Shr = omega arith
cost_some Eq = omega arith
cost_some Lt = omega arith
cost_some Le = omega arith
cost_some Neg = omega arith
cost_some Not = omega arith
cost_some Inv = omega arith
cost_some (Jmp t) = omega arith
cost_some (Jz t) = omega arith
cost_some (CZero c) = omega arith
cost_some (CInc c n) = omega arith
cost_some (Call t) = omega arith
cost_some Ret = omega arith
cost_some Halt = omega arith

cost_or_some : (o : Option Instr) → 1 ≤ cost_or o
cost_or_some None = omega arith
cost_or_some (Some i) = cost_some i

-- each step costs at least 1
pub step_costs : (instrs : List Slot) (k : ℕ) → 1 ≤ cost_at instrs k
step_costs instrs k = cost_or_some (instr_at instrs k)

pub costed : (instrs : List Slot) → IsCosted (machine_of instrs)
costed instrs s = step_costs instrs s.pc

-- the next instruction would pass the limit
pub exec_short : (instrs : List Slot) (limit : ℕ) (s : State) (cycles : ℕ) → limit < cycles + cost_at instrs s.pc
    → exec_from instrs limit s cycles ≡ Cut cycles
exec_short instrs limit s cycles past = exec_cut (machine_of instrs) (costed instrs) limit s cycles past

-- a step that goes on
pub exec_goes : (instrs : List Slot) (limit : ℕ) (s t : State) (cycles : ℕ) → cycles + cost_at instrs s.pc ≤ limit → step instrs s ≡ Goes t
    → exec_from instrs limit s cycles ≡ exec_from instrs limit t (cycles + cost_at instrs s.pc)
exec_goes instrs limit s t cycles fits e = exec_on (machine_of instrs) (costed instrs) limit s t cycles fits e

-- the last step has its cost counted, whether it halts or breaks
pub exec_ends : (instrs : List Slot) (limit : ℕ) (s : State) (cycles : ℕ) (how : End (List ℤ)) → cycles + cost_at instrs s.pc ≤ limit
    → step instrs s ≡ Ends how → exec_from instrs limit s cycles ≡ Over how (cycles + cost_at instrs s.pc)
exec_ends instrs limit s cycles how fits e = exec_over (machine_of instrs) (costed instrs) limit s cycles how fits e
