use Rattle.std.proofs.Common.{List, ℕ, ◌∙◌, sym, subst}
use Rattle.tick_parts.specs.Takes.{AreWidths}
use Rattle.replica_room.proofs.Fresh.{fresh_jobs, book_stays, fresh_messages}
use Rattle.replica_room.proofs.messages.forget.Goals as goal

pub returns-clause-jobs : goal.returns-clause-jobs
returns-clause-jobs c = λ net g is. fresh_jobs net g c.clear.new.self (book_stays net g c.args.book.now c.clear.new.self c.clear.ensures.rooms c.clear.ensures.count is) c.clear.ensures.waiting

pub returns-clause-messages : goal.returns-clause-messages
returns-clause-messages c = λ net t is widths.
    fresh_messages net t c.clear-2.new.self (c.clear-2.ensures.count ∙ is.count)
    (subst (λ (ws : List ℕ). AreWidths net t ws) (sym c.clear-2.ensures.widths) widths) c.clear-2.ensures.empty
