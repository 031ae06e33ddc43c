use Rattle.std.proofs.Common.{◌≡◌, ◌<◌, ◌≤◌, ◌^◌, drop, length}
use Rattle.lines.specs.Grammar.{number_of, number_after}
use Rattle.script_reader.proofs.words.number_of.Given as goal

abbrev pub invariant-loop-digit : goal.invariant-loop-digit
invariant-loop-digit l = record {
  value : number_of l.word ≡ number_after l.number (drop l.digit-index l.word);
  small : l.number < 10 ^ l.digit-index;
  short : length l.word ≤ 10;
}
