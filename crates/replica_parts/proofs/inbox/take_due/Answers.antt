use Rattle.std.proofs.Common.{◌≡◌, ◌<◌, ◌+◌, ◌∙◌, ap, length, get_or, set, subst, ℕ, List, ℤ, Option, None, Some, arith}
use Rattle.std.proofs.lemmas.List.{length-set}
use Rattle.agenda.specs.Due.{IsDue, FirstFrom}
use Rattle.net_run.specs.Words.{with_words}
use Rattle.cluster_model.specs.Frame.{message_in}
use Rattle.tables.specs.Named.{no_message}
use Rattle.replica_parts.specs.Inbox.{taken_at, said_on, frame_on}
use Rattle.agenda.proofs.Walking.{IsAt, is_at}
use Rattle.replica_parts.proofs.Takes.{one_more}
use Rattle.replica_parts.proofs.inbox.take_due.Goals as goal

pub walk-preserved : goal.walk-preserved
walk-preserved c =
    let due = c.args.arrivals.now.due in
    let tick = c.args.tick in
    let thing = c.in-Some.thing in
    let is : IsDue due tick thing = subst (IsAt due tick) c.in-Some.is c.walk.invariant.stands in
    let next : FirstFrom due (thing + 1) tick c.next-at.result = subst (λ n. FirstFrom due (thing + 1) n c.next-at.result) is.at c.next-at.ensures in
    let said : ℕ → Option (List ℤ) = λ place. said_on c.args.bus.now (get_or c.args.inbox.now.widths place 0) (get_or c.args.messages.now place no_message) in
    let old : ℕ → Option (List ℤ) = λ place. taken_at c.args.inbox.now place in
    let w = is.within in
    let within : thing < length c.walk.inbox.words = omega (arith, w, c.walk.invariant.count, c.requires.due, c.requires.count) in
    let m = get_or c.args.messages.now thing no_message in
    let at : ℕ → Option (List ℤ) → Option (List ℤ) = λ width frame. with_words frame (λ words. message_in m.offset width words) in
    let put : Option (List ℤ) → List (Option (List ℤ)) = λ message. set c.walk.inbox.words thing message in
    let words : c.take.new.self.words ≡ set c.walk.inbox.words thing (said thing) =
    c.take.ensures.words
    ∙ ap (λ frame. put (at (get_or c.walk.inbox.widths thing 0) frame)) c.received.ensures.frame
    ∙ ap (λ widths. put (at (get_or widths thing 0) (frame_on c.args.bus.now m.unit m.round))) c.walk.invariant.widths in
    record {
      stands = is_at due (thing + 1) tick c.next-at.result next;
      widths = c.take.ensures.widths ∙ c.walk.invariant.widths;
      count = ap length words ∙ length-set c.walk.inbox.words thing (said thing) ∙ c.walk.invariant.count;
      words = λ place lt.
          ap (λ (ws : List (Option (List ℤ))). get_or ws place None) words
          ∙ one_more due tick said old c.walk.inbox.words thing c.next-at.result place (omega (arith, lt, c.requires.due)) is next within
          (c.walk.invariant.words place lt ∙ ap (λ at. Rattle.replica_parts.proofs.Takes.stands due tick said old at place) c.in-Some.is);
    }
