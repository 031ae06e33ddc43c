use Rattle.std.proofs.Common.{◌≡◌, ◌≤◌, ◌-◌, length, drop}
use Rattle.mc_reader.specs.Readers.{name, commas}
use Rattle.mc_reader.specs.Answers.{after, closing, after_first}
use Rattle.mc_reader.proofs.declaration.more_parameters.Given as goal

abbrev pub invariant-loop-alloc : goal.invariant-loop-alloc
invariant-loop-alloc l = record {
  within : l.cursor.at ≤ length l.tokens;
  reads : after_first (name l.bytes) l.fn.first (drop l.fn.cursor.at l.tokens) ≡ closing (after l.items (commas (name l.bytes) (drop l.cursor.at l.tokens)));
}

abbrev pub decreases-loop-alloc : goal.decreases-loop-alloc
decreases-loop-alloc l = length l.tokens - l.cursor.at
