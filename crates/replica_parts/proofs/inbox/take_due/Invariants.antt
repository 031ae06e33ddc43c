use Rattle.std.proofs.Common.{◌≡◌, ◌+◌, ◌-◌, ◌<◌, ℕ, length, get_or, Option, None, Some}
use Rattle.std.specs.Prelude.{◌==◌, ◌&&◌, if◌then◌else◌}
use Rattle.agenda.specs.Due.{is_passed}
use Rattle.tables.specs.Named.{no_message}
use Rattle.replica_parts.specs.Inbox.{taken_at, said_on}
use Rattle.agenda.proofs.Walking.{IsAt, left}
use Rattle.replica_parts.proofs.inbox.take_due.Given as goal

abbrev pub invariant-walk : goal.invariant-walk
invariant-walk l = record {
  stands : IsAt l.arrivals.due l.tick l.at;
  widths : l.inbox.widths ≡ l.fn.inbox.widths;
  count : length l.inbox.words ≡ length l.fn.inbox.words;
  words : (place : ℕ) → place < length l.messages → taken_at l.inbox place ≡
      (if (get_or l.arrivals.due place 0 == l.tick) && is_passed l.at place
      then said_on l.bus (get_or l.fn.inbox.widths place 0) (get_or l.messages place no_message)
      else taken_at l.fn.inbox place);
}

abbrev pub decreases-walk : goal.decreases-walk
decreases-walk l = left (length l.arrivals.due) l.at
