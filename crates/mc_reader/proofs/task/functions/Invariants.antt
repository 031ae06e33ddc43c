use Rattle.std.proofs.Common.{◌≡◌, ◌≤◌, ◌-◌, length, drop}
use Rattle.mc_reader.specs.Readers.{funcs}
use Rattle.mc_reader.specs.Plain.{plain_funcs}
use Rattle.mc_reader.specs.Answers.{after}
use Rattle.mc_reader.proofs.task.functions.Given as goal

abbrev pub invariant-loop-from : goal.invariant-loop-from
invariant-loop-from l = record {
  within : l.cursor.at ≤ length l.tokens;
  reads : funcs l.bytes (drop l.fn.cursor.at l.tokens) ≡ after (plain_funcs l.items) (funcs l.bytes (drop l.cursor.at l.tokens));
}

abbrev pub decreases-loop-from : goal.decreases-loop-from
decreases-loop-from l = length l.tokens - l.cursor.at
