-- What the registers of a machine stand for, and what an action makes of them. This project's own.
use Rattle.std.specs.Prelude.{◌≡◌, ℕ, ◌+◌, ◌-◌, ◌<◌, ◌≤◌, length}
use Rattle.processor.specs.Ends.{Halted, Broken, Goes, Ends}
use Rattle.word_code.specs.Action.{Action}
use Rattle.word_code.specs.Ready.{CallsFit, act_on}
use Rattle.word_code.specs.State.{State, at}
use Rattle.word_code.specs.Typing.{pops_of, pushes_of, PlacesFit, CounterFits}
use Rattle.word_machine.specs.Stack.{operands}
use Rattle.word_machine.specs.declared.registers.Registers.{Registers}
use Rattle.word_machine.specs.declared.registers.Went.{Went}
use Rattle.word_machine.specs.declared.registers.Went.TheVariants as went

-- before the instruction at a number, which has this height
abbrev pub state_of : ℕ → ℕ → Registers → State
state_of pc height r = at pc (operands height r.stack) r.words r.counters r.returns

-- the action lacks nothing in the registers
pub record IsAble (a : Action) (pc height : ℕ) (r : Registers) : Type 0 where
  pub number : pc < 65535
  pub most : height ≤ 64
  pub some : pops_of a ≤ height
  pub room : height - pops_of a + pushes_of a ≤ 64
  pub place : PlacesFit (length r.words) a
  pub counter : CounterFits (length r.counters) a
  pub calls : CallsFit a r.returns

-- the registers before and after an action, by how it went
abbrev pub Acts : Action → ℕ → ℕ → Registers → Went → Registers → Type 0
Acts a pc height old (went.On next) new = act_on a (state_of pc height old) ≡ Goes (state_of next (height - pops_of a + pushes_of a) new)
Acts a pc height old went.Halted new = (act_on a (state_of pc height old) ≡ Ends (Halted old.words)) × (new ≡ old)
Acts a pc height old went.Broken new = (act_on a (state_of pc height old) ≡ Ends Broken) × (length new.words ≡ length old.words)
