use Rattle.std.proofs.Common.{ℕ, ◌<◌, ◌≤◌, ◌+◌}
use Rattle.tables.specs.Named.{message_at, words_of}
use Rattle.tables.proofs.frames.all_fit.Given as goal

abbrev pub invariant-loop-place : goal.invariant-loop-place
invariant-loop-place l = (i : ℕ) → i < l.place → (message_at l.tables i).offset + words_of l.net (message_at l.tables i) ≤ l.round.slot_words
