use Rattle.std.proofs.Common.{◌≡◌, ◌<◌, ℕ, length, map, get_or, None}
use Rattle.replica_parts.specs.Entries.{entry_words, entry_width}
use Rattle.replica_parts.specs.declared.inbox.Entry.{Entry}
use Rattle.replica_parts.proofs.inbox.forget.Given as goal

abbrev pub invariant-loop-i : goal.invariant-loop-i
invariant-loop-i l = record {
  count : length l.entries.items ≡ length l.fn.entries.items;
  widths : map entry_width l.entries.items ≡ map entry_width l.fn.entries.items;
  empty : (k : ℕ) (d : Entry) → k < l.i → entry_words (get_or l.entries.items k d) ≡ None;
}
