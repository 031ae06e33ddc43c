use Rattle.std.proofs.Common.{◌≡◌, ◌≤◌, ◌-◌, length, drop}
use Rattle.mc_reader.specs.Readers.{value, commas}
use Rattle.mc_tree.specs.RawPlain.{plain_expr}
use Rattle.mc_reader.specs.Plain.{plain_args}
use Rattle.mc_reader.specs.Answers.{after, closing, after_first}
use Rattle.mc_reader.proofs.statement.more_arguments.Given as goal

abbrev pub invariant-loop-alloc : goal.invariant-loop-alloc
invariant-loop-alloc l = record {
  within : l.cursor.at ≤ length l.tokens;
  reads : after_first (value l.bytes) (plain_expr l.fn.first) (drop l.fn.cursor.at l.tokens) ≡ closing (after (plain_args l.items) (commas (value l.bytes) (drop l.cursor.at l.tokens)));
}

abbrev pub decreases-loop-alloc : goal.decreases-loop-alloc
decreases-loop-alloc l = length l.tokens - l.cursor.at
