use Rattle.std.proofs.Common.{◌≡◌, ◌<◌, ℕ, length, false, true}
use Rattle.agenda.specs.Due.{is_passed}
use Rattle.agenda.proofs.Walking.{IsAt, left}
use Rattle.tables.specs.Named.{message_at}
use Rattle.job_inputs.specs.Look.{is_of}
use Rattle.job_inputs.proofs.look.taken_words.Given as goal

abbrev pub invariant-walk : goal.invariant-walk
invariant-walk l = record {
  stands : IsAt l.feeds.due l.job l.at;
  before : (place : ℕ) → place < length l.feeds.due → is_passed l.at place ≡ true → is_of l.edge l.instance (message_at l.tables place) ≡ false;
}

abbrev pub decreases-walk : goal.decreases-walk
decreases-walk l = left (length l.feeds.due) l.at
