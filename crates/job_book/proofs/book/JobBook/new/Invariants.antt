use Rattle.std.proofs.Common.{◌≡◌, map, take}
use Rattle.std.specs.List.{All}
use Rattle.job_book.specs.Entries.{known_of, room_of}
use Rattle.job_book.specs.Known.{Waiting}
use Rattle.job_book.proofs.book.JobBook.new.Given as goal

abbrev pub invariant-loop-room : goal.invariant-loop-room
invariant-loop-room l = record {
  rooms : map room_of l.entries.items ≡ take l.room-index l.rooms;
  waiting : All (λ e. known_of e ≡ Waiting) l.entries.items;
}
