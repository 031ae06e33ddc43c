use Rattle.std.proofs.Common.{◌≡◌, ◌≤◌, ◌+◌, ◌*◌, ◌++◌, length, drop}
use Rattle.run_texts.specs.Lines.{spaced}
use Rattle.run_text.proofs.line.append_spaced.Given as goal

abbrev pub invariant-loop-word : goal.invariant-loop-word
invariant-loop-word l = record {
  text : l.buffer ++ spaced (drop l.word-index l.words) ≡ l.fn.buffer ++ spaced l.words;
  room : length l.buffer ≤ length l.fn.buffer + 12 * l.word-index;
}
