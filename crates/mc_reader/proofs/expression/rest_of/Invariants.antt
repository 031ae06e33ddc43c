use Rattle.std.proofs.Common.{◌≡◌, ◌≤◌, ◌-◌, length, drop, []}
use Rattle.mc_reader.specs.Machine.{run}
use Rattle.mc_reader.specs.Frames.{IsSized, plain_now, frames_of}
use Rattle.mc_reader.proofs.expression.rest_of.Given as goal

abbrev pub invariant-loop-cursor : goal.invariant-loop-cursor
invariant-loop-cursor l = record {
  within : l.cursor.at ≤ length l.tokens;
  sized : IsSized l.stack;
  runs : run l.bytes (drop l.fn.cursor.at l.tokens) (plain_now l.fn.first) 0 [] ≡ run l.bytes (drop l.cursor.at l.tokens) (plain_now l.now) l.stack.used (frames_of l.stack);
}

abbrev pub decreases-loop-cursor : goal.decreases-loop-cursor
decreases-loop-cursor l = length l.tokens - l.cursor.at
