use Rattle.std.proofs.Common.{◌≡◌, ◌≤◌, ◌+◌, ◌*◌, ◌++◌, length, drop}
use Rattle.task_run.specs.Text.{tail_text}
use Rattle.task_run.proofs.text.append_tail.Given as goal

abbrev pub invariant-loop-word : goal.invariant-loop-word
invariant-loop-word l = record {
  text : l.buffer ++ tail_text (drop l.word-index l.words) ≡ l.fn.buffer ++ tail_text l.words;
  room : length l.buffer ≤ length l.fn.buffer + 12 * l.word-index;
}
