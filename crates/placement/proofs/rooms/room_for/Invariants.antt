use Rattle.std.proofs.Common.{ℕ, ◌-◌, ◌≤◌}
use Rattle.mars_base.specs.declared.shape.Side.TheVariants.{A}
use Rattle.tdma.specs.Layout.{slot_start_of, cycle_ticks}
use Rattle.placement.specs.Loads.{HasRoomFor}
use Rattle.placement.proofs.rooms.room_for.Given as goal

abbrev pub invariant-loop-k : goal.invariant-loop-k
invariant-loop-k l = record {
  later : l.fn.from ≤ l.from;
  rest : (k : ℕ) → HasRoomFor l.frames l.messages l.unit l.fn.from l.words k → l.from ≤ slot_start_of l.frames.layout k l.unit A;
}

abbrev pub decreases-loop-k : goal.decreases-loop-k
decreases-loop-k l = cycle_ticks l.round - l.from
