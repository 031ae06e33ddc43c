-- The rules on one instruction in two groups.
use Rattle.std.specs.Prelude.{◌≡◌, ℕ, ◌+◌, ◌<◌, ◌≤◌, ◌||◌, All, Contains, length, count_by, slice_get, Some}
use Rattle.std.specs.List.Sorted.{IsStrictlyIncreasing}
use Rattle.word_code.specs.Cells.{total_width, is_in, is_out}
use Rattle.word_code.specs.Action.{action_of}
use Rattle.word_code.specs.Typing.{IsLast, FlowsOn, JumpFits, PlacesFit, CounterFits, CallFits, EndFits, EndsRoutine, height_at, height_after, routine_of, pops_of, WidthFits}
use Rattle.word_code.specs.declared.code.Code.{Code}
use Rattle.word_code.specs.declared.code.Slot.{Slot}

-- those on heights
pub record HasHeights (code : Code) (k : ℕ) (slot : Slot) : Type 0 where
  pub first : Contains code.starts k → slot.height ≡ 0
  pub height_fits : slot.height ≤ 64
  pub operands : pops_of (action_of slot.instr) ≤ slot.height
  pub room : height_after slot ≤ 64
  pub next : FlowsOn (action_of slot.instr) → height_at code.instrs (k + 1) ≡ Some (height_after slot)

-- those on targets, places and counters
pub record HasOperands (code : Code) (k : ℕ) (slot : Slot) : Type 0 where
  pub jump : JumpFits code k (height_after slot) (action_of slot.instr)
  pub place : PlacesFit code.places (action_of slot.instr)
  pub counter : CounterFits code.counters (action_of slot.instr)
  pub call : CallFits code k slot.height (action_of slot.instr)
  pub ends : EndFits (routine_of code.starts k) slot.height (action_of slot.instr)
  pub last : IsLast code k → EndsRoutine (action_of slot.instr)

-- the rules on the starts
pub record HasStarts (code : Code) : Type 0 where
  pub at_0 : slice_get code.starts 0 ≡ Some 0
  pub most : length code.starts ≤ 17
  pub rise : IsStrictlyIncreasing code.starts
  pub within : All (λ start. start < length code.instrs) code.starts

-- the rules on the cells
pub record HasCells (code : Code) : Type 0 where
  pub room : total_width code.cells ≤ code.places
  pub widths : All (λ cell. WidthFits cell.role cell.width) code.cells
  pub ports : count_by (λ cell. is_in cell.role || is_out cell.role) code.cells ≤ 16
