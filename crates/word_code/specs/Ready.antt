-- What an action needs of a state. This project's own.
use Rattle.std.specs.Prelude.{ℕ, ◌+◌, ◌-◌, ◌<◌, ◌≤◌, ℤ, List, length}
use Rattle.processor.specs.Ends.{Next}
use Rattle.word_code.specs.Action.{Action, Calls, Returns}
use Rattle.word_code.specs.State.{State}
use Rattle.word_code.specs.Step.{act}
use Rattle.word_code.specs.Typing.{pops_of, pushes_of, PlacesFit, CounterFits}

-- what the action makes of a state
abbrev pub act_on : Action → State → Next State (List ℤ)
act_on a s = act a s.pc s.stack s.words s.counters s.returns

-- room for one more call, and a call to return from
abbrev pub CallsFit : Action → List ℕ → Type 0
CallsFit (Calls t) rs = length rs < 16
CallsFit Returns rs = 0 < length rs
CallsFit _ rs = Unit {0}

-- the action lacks nothing in the state
pub record IsReady (a : Action) (s : State) : Type 0 where
  pub number : s.pc < 65535
  pub height : length s.stack ≤ 64
  pub operands : pops_of a ≤ length s.stack
  pub room : length s.stack - pops_of a + pushes_of a ≤ 64
  pub place : PlacesFit (length s.words) a
  pub counter : CounterFits (length s.counters) a
  pub calls : CallsFit a s.returns
