use Rattle.std.proofs.Common.{ℕ, ◌≤◌}
use Rattle.tdma.specs.Load.{HasRoom}
use Rattle.tdma.proofs.frames.Frames.first_room_by.Given as goal

abbrev pub invariant-loop-k : goal.invariant-loop-k
invariant-loop-k l = (j : ℕ) → HasRoom l.fn.self l.unit l.from l.words j → l.k ≤ j
