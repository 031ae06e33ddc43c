use Rattle.std.proofs.Common.{◌≡◌, List, length, get_or, sym, ap, subst, arith}
use Rattle.std.specs.Prelude.{◌==◌, if◌then◌else◌}
use Rattle.tables.specs.Named.{no_message}
use Rattle.tables.specs.declared.table.Message.{Message}
use Rattle.replica_parts.specs.Inbox.{taken_at, said_on, GoesIn}
use Rattle.tick_parts.proofs.Arrivals.{goes, inbox_after, taken_after}
use Rattle.tick_parts.proofs.take.take_frames.Goals as goal

pub take_due-requires-clause-goes : goal.take_due-requires-clause-goes
take_due-requires-clause-goes c =
    let net = c.args.net.now in let g = c.args.graph.now in let t = c.args.tables.now in
    λ place low. subst (λ (ms : List Message). GoesIn c.args.bus.now.layout (get_or c.args.inbox.now.widths place 0) (get_or ms place no_message)) (sym c.as_slice.ensures)
    (goes net g t c.requires.net c.requires.valid c.args.unit c.args.arrivals.now c.requires.arrivals c.args.bus.now c.args.inbox.now.widths c.requires.bus.layout c.requires.widths place (omega (arith, low, ap length c.as_slice.ensures)))

pub returns-clause-inbox : goal.returns-clause-inbox
returns-clause-inbox c =
    let net = c.args.net.now in let g = c.args.graph.now in let t = c.args.tables.now in let a = c.args.arrivals.now in
    let old = c.args.inbox.now in let new = c.take_due.new.inbox in
    inbox_after net g t c.requires.net c.requires.valid c.args.unit a c.requires.arrivals c.args.tick c.requires.tick c.args.bus.now c.requires.bus old new c.requires.inbox c.requires.widths c.take_due.ensures.count
    (λ place low. subst (λ (ms : List Message). taken_at new place ≡ (if get_or a.due place 0 == c.args.tick then said_on c.args.bus.now (get_or old.widths place 0) (get_or ms place no_message) else taken_at old place)) c.as_slice.ensures
    (c.take_due.ensures.words place (omega (arith, low, ap length c.as_slice.ensures))))

pub returns-clause-taken : goal.returns-clause-taken
returns-clause-taken c =
    let net = c.args.net.now in let g = c.args.graph.now in let t = c.args.tables.now in let a = c.args.arrivals.now in
    let old = c.args.inbox.now in let new = c.take_due.new.inbox in
    λ words exec cost h clock held.
    taken_after net g t c.requires.net c.requires.valid c.args.unit a c.requires.arrivals c.args.tick c.requires.tick c.args.bus.now c.requires.bus old new c.requires.inbox c.requires.widths c.take_due.ensures.count
    (λ place low. subst (λ (ms : List Message). taken_at new place ≡ (if get_or a.due place 0 == c.args.tick then said_on c.args.bus.now (get_or old.widths place 0) (get_or ms place no_message) else taken_at old place)) c.as_slice.ensures
    (c.take_due.ensures.words place (omega (arith, low, ap length c.as_slice.ensures))))
    words exec cost h clock held
