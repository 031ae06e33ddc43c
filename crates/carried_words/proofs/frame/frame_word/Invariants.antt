use Rattle.std.proofs.Common.{◌≡◌, ◌<◌, ℕ, length, false, true}
use Rattle.agenda.specs.Due.{is_passed}
use Rattle.agenda.proofs.Walking.{IsAt, left}
use Rattle.cluster_model.specs.Frame.{covers}
use Rattle.tables.specs.Named.{message_at}
use Rattle.carried_words.specs.Says.{said_in}
use Rattle.carried_words.proofs.frame.frame_word.Given as goal

abbrev pub invariant-walk : goal.invariant-walk
invariant-walk l = record {
  stands : IsAt l.sendings.due l.round l.at;
  before : (place : ℕ) → place < length l.sendings.due → is_passed l.at place ≡ true
      → covers l.net l.round l.unit (said_in l.net l.graph.cycle l.tables l.book) l.word (message_at l.tables place) ≡ false;
}

abbrev pub decreases-walk : goal.decreases-walk
decreases-walk l = left (length l.sendings.due) l.at
