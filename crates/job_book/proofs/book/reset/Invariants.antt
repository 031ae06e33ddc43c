use Rattle.std.proofs.Common.{◌≡◌, ◌<◌, ℕ, length, map, get_or}
use Rattle.job_book.specs.Entries.{known_of, room_of}
use Rattle.job_book.specs.Known.{Waiting}
use Rattle.job_book.specs.declared.book.Entry.{Entry}
use Rattle.job_book.proofs.book.reset.Given as goal

abbrev pub invariant-loop-i : goal.invariant-loop-i
invariant-loop-i l = record {
  count : length l.entries.items ≡ length l.fn.entries.items;
  rooms : map room_of l.entries.items ≡ map room_of l.fn.entries.items;
  waiting : (k : ℕ) (d : Entry) → k < l.i → known_of (get_or l.entries.items k d) ≡ Waiting;
}
