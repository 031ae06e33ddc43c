use Rattle.std.proofs.Common.{◌≡◌, ◌<◌, ◌≤◌, ◌+◌, ◌-◌, ◌^◌, length, drop}
use Rattle.lines.specs.First.{line_text, first_part, after_part}
use Rattle.lines.specs.Found.{NoFeedBelow}
use Rattle.lines.specs.Grammar.{number_after}
use Rattle.lines.proofs.grammar.number.Given as goal

abbrev pub invariant-loop-at : goal.invariant-loop-at
invariant-loop-at l = record {
  begun : l.from ≤ l.at;
  within : l.at ≤ length l.text;
  line : NoFeedBelow l.at l.text;
  long : length (first_part (line_text (drop l.from l.text))) ≡ l.at - l.from + length (first_part (line_text (drop l.at l.text)));
  behind : after_part (line_text (drop l.from l.text)) ≡ after_part (line_text (drop l.at l.text));
  small : l.at - l.from ≤ 10 → l.n < 10 ^ (l.at - l.from);
  value : l.at - l.from ≤ 10 → number_after 0 (first_part (line_text (drop l.from l.text))) ≡ number_after l.n (first_part (line_text (drop l.at l.text)));
}

abbrev pub decreases-loop-at : goal.decreases-loop-at
decreases-loop-at l = length l.text - l.at
