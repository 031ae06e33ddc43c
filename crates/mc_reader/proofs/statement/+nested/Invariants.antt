use Rattle.std.proofs.Common.{◌≡◌, ◌≤◌, ◌+◌, ◌*◌, ◌-◌, length, drop}
use Rattle.mc_reader.specs.Readers.{statements}
use Rattle.mc_reader.specs.Plain.{plain_stmts}
use Rattle.mc_reader.specs.Answers.{after}
use Rattle.mc_reader.proofs.statement.+nested.Given as goal

abbrev pub decreases-braces : goal.decreases-braces
decreases-braces l = 3 * l.levels

abbrev pub decreases-statement : goal.decreases-statement
decreases-statement l = 3 * l.levels + 1

abbrev pub decreases-statements : goal.decreases-statements
decreases-statements l = 3 * l.levels + 2

abbrev pub invariant-statements-loop-begin : goal.invariant-statements-loop-begin
invariant-statements-loop-begin l = record {
  within : l.cursor.at ≤ length l.tokens;
  reads : statements l.bytes l.levels (drop l.fn.cursor.at l.tokens) ≡ after (plain_stmts l.items) (statements l.bytes l.levels (drop l.cursor.at l.tokens));
}

abbrev pub decreases-statements-loop-begin : goal.decreases-statements-loop-begin
decreases-statements-loop-begin l = length l.tokens - l.cursor.at
