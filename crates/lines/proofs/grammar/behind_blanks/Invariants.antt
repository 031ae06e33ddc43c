use Rattle.std.proofs.Common.{◌≡◌, ◌≤◌, ◌-◌, length, drop}
use Rattle.lines.specs.First.{line_text}
use Rattle.lines.specs.Found.{NoFeedBelow}
use Rattle.lines.specs.Grammar.{parts, words_in}
use Rattle.lines.proofs.grammar.behind_blanks.Given as goal

abbrev pub invariant-loop-at : goal.invariant-loop-at
invariant-loop-at l = record {
  within : l.at ≤ length l.text;
  line : NoFeedBelow l.at l.text;
  words : words_in (parts (line_text (drop l.from l.text))) ≡ words_in (parts (line_text (drop l.at l.text)));
}

abbrev pub decreases-loop-at : goal.decreases-loop-at
decreases-loop-at l = length l.text - l.at
