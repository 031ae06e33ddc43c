-- The typing rules: which code is verified. This project's own.
use Rattle.std.specs.Prelude.{◌≡◌, ◌⊎◌, ℕ, ◌+◌, ◌-◌, ◌<◌, ◌≤◌, Bool, ◌||◌, nat_le, List, length, Option, Some, slice_get, All, Contains, count_by}
use Rattle.std.specs.List.Sorted.{IsStrictlyIncreasing}
use Rattle.std.specs.Option.{option_map}
use Rattle.mars_base.specs.declared.word.Role.{Role}
use Rattle.mars_base.specs.declared.word.Role.TheVariants.{In, Out, State, Local}
use Rattle.word_code.specs.Action.{Action, Pushes, Loads, Stores, LoadsAt, StoresAt, Combines, Changes, Jumps, JumpsIfZero, Clears, Counts, Calls, Returns, Stops, action_of}
use Rattle.word_code.specs.Cells.{is_in, is_out, total_width}
use Rattle.word_code.specs.declared.code.Code.{Code}
use Rattle.word_code.specs.declared.code.Slot.{Slot}

-- how many operands it takes off the stack
abbrev pub pops_of : Action → ℕ
pops_of (Pushes w) = 0
pops_of (Loads a) = 0
pops_of (Stores a) = 1
pops_of (LoadsAt a n) = 1
pops_of (StoresAt a n) = 2
pops_of (Combines op) = 2
pops_of (Changes op) = 1
pops_of (Jumps t) = 0
pops_of (JumpsIfZero t) = 1
pops_of (Clears c) = 0
pops_of (Counts c n) = 0
pops_of (Calls t) = 0
pops_of Returns = 0
pops_of Stops = 0

-- how many words it puts onto the stack
abbrev pub pushes_of : Action → ℕ
pushes_of (Pushes w) = 1
pushes_of (Loads a) = 1
pushes_of (Stores a) = 0
pushes_of (LoadsAt a n) = 1
pushes_of (StoresAt a n) = 0
pushes_of (Combines op) = 1
pushes_of (Changes op) = 1
pushes_of (Jumps t) = 0
pushes_of (JumpsIfZero t) = 0
pushes_of (Clears c) = 0
pushes_of (Counts c n) = 0
pushes_of (Calls t) = 0
pushes_of Returns = 0
pushes_of Stops = 0

-- the height before the instruction at a number
abbrev pub height_at : List Slot → ℕ → Option ℕ
height_at instrs k = option_map (λ slot. slot.height) (slice_get instrs k)

-- the height after an instruction
abbrev pub height_after : Slot → ℕ
height_after slot = slot.height - pops_of (action_of slot.instr) + pushes_of (action_of slot.instr)

-- the number of the routine of an instruction: that of the last start at or before it
abbrev pub routine_of : List ℕ → ℕ → ℕ
routine_of starts k = count_by (λ start. nat_le start k) starts - 1

-- the instruction is the last of its routine
abbrev pub IsLast : Code → ℕ → Type 0
IsLast code k = Contains code.starts (k + 1) ⊎ (k + 1 ≡ length code.instrs)

-- the next instruction follows, and not only a target or nothing
abbrev pub FlowsOn : Action → Type 0
FlowsOn (Jumps t) = ⊥
FlowsOn (Calls t) = ⊥
FlowsOn Returns = ⊥
FlowsOn Stops = ⊥
FlowsOn _ = Unit {0}

-- the target is in the same routine and has this height
pub record Lands (code : Code) (k target height : ℕ) : Type 0 where
  pub routine : routine_of code.starts target ≡ routine_of code.starts k
  pub height_is : height_at code.instrs target ≡ Some height

-- a jump lands where the height is that after it
abbrev pub JumpFits : Code → ℕ → ℕ → Action → Type 0
JumpFits code k height (Jumps t) = Lands code k t height
JumpFits code k height (JumpsIfZero t) = Lands code k t height
JumpFits code k height _ = Unit {0}

-- its places are places
abbrev pub PlacesFit : ℕ → Action → Type 0
PlacesFit places (Loads a) = a < places
PlacesFit places (Stores a) = a < places
PlacesFit places (LoadsAt a n) = (1 ≤ n) × (a + n ≤ places)
PlacesFit places (StoresAt a n) = (1 ≤ n) × (a + n ≤ places)
PlacesFit places _ = Unit {0}

-- its counter is a counter
abbrev pub CounterFits : ℕ → Action → Type 0
CounterFits counters (Clears c) = c < counters
CounterFits counters (Counts c n) = c < counters
CounterFits counters _ = Unit {0}

-- a call at height 0 is followed by an instruction of height 1, and goes to the start of a routine that isn't
-- the first, and that in a routine other than the first is an earlier one
pub record CallsWell (code : Code) (k height target : ℕ) : Type 0 where
  pub before : height ≡ 0
  pub after : height_at code.instrs (k + 1) ≡ Some 1
  pub start : Contains code.starts target
  pub not_first : 1 ≤ routine_of code.starts target
  pub earlier : 1 ≤ routine_of code.starts k → routine_of code.starts target < routine_of code.starts k

abbrev pub CallFits : Code → ℕ → ℕ → Action → Type 0
CallFits code k height (Calls t) = CallsWell code k height t
CallFits code k height _ = Unit {0}

-- RET stands in a routine other than the first, at height 1, and HALT in the first, at height 0
abbrev pub EndFits : ℕ → ℕ → Action → Type 0
EndFits routine height Returns = (1 ≤ routine) × (height ≡ 1)
EndFits routine height Stops = (routine ≡ 0) × (height ≡ 0)
EndFits routine height _ = Unit {0}

-- JMP, RET or HALT
abbrev pub EndsRoutine : Action → Type 0
EndsRoutine (Jumps t) = Unit {0}
EndsRoutine Returns = Unit {0}
EndsRoutine Stops = Unit {0}
EndsRoutine _ = ⊥

-- the rules on one instruction
pub record IsTypedAt (code : Code) (k : ℕ) (slot : Slot) : Type 0 where
  pub first : Contains code.starts k → slot.height ≡ 0
  pub height_fits : slot.height ≤ 64
  pub operands : pops_of (action_of slot.instr) ≤ slot.height
  pub room : height_after slot ≤ 64
  pub next : FlowsOn (action_of slot.instr) → height_at code.instrs (k + 1) ≡ Some (height_after slot)
  pub jump : JumpFits code k (height_after slot) (action_of slot.instr)
  pub place : PlacesFit code.places (action_of slot.instr)
  pub counter : CounterFits code.counters (action_of slot.instr)
  pub call : CallFits code k slot.height (action_of slot.instr)
  pub ends : EndFits (routine_of code.starts k) slot.height (action_of slot.instr)
  pub last : IsLast code k → EndsRoutine (action_of slot.instr)

-- the width of a cell fits its role, and no cell is a local
abbrev pub WidthFits : Role → ℕ → Type 0
WidthFits In n = (1 ≤ n) × (n ≤ 16)
WidthFits Out n = (1 ≤ n) × (n ≤ 16)
WidthFits State n = (1 ≤ n) × (n ≤ 4096)
WidthFits Local n = ⊥

-- the rules on the whole
pub record IsWhole (code : Code) : Type 0 where
  pub some : 1 ≤ length code.instrs
  pub most : length code.instrs ≤ 65535
  pub starts_at_0 : slice_get code.starts 0 ≡ Some 0
  pub starts_most : length code.starts ≤ 17
  pub starts_rise : IsStrictlyIncreasing code.starts
  pub starts_within : All (λ start. start < length code.instrs) code.starts
  pub places_most : code.places ≤ 4096
  pub cells_within : total_width code.cells ≤ code.places
  pub counters_most : code.counters ≤ 256
  pub widths : All (λ cell. WidthFits cell.role cell.width) code.cells
  pub ports_most : count_by (λ cell. is_in cell.role || is_out cell.role) code.cells ≤ 16

-- the rules on the whole hold, and those on each instruction
pub record IsVerified (code : Code) : Type 0 where
  pub whole : IsWhole code
  pub each : (k : ℕ) (slot : Slot) → slice_get code.instrs k ≡ Some slot → IsTypedAt code k slot
