use Rattle.std.proofs.Common.{◌≡◌, ◌≤◌, length, take, drop}
use Rattle.lines.specs.First.{line_text}
use Rattle.lines.specs.Found.{NoFeedBelow}
use Rattle.lines.specs.Grammar.{parts, words_in}
use Rattle.lines.proofs.Reading.{behind}
use Rattle.lines.proofs.grammar.read_line.Given as goal

abbrev pub invariant-loop-word : goal.invariant-loop-word
invariant-loop-word l = record {
  within : l.at ≤ length l.text;
  line : NoFeedBelow l.at l.text;
  read : words_in (parts (line_text l.text)) ≡ behind (take l.word-index l.into) (words_in (parts (line_text (drop l.at l.text))));
}
