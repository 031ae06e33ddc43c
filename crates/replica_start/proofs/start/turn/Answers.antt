use Rattle.std.proofs.Common.{None, refl}
use Rattle.replica_desk.specs.declared.desk.Desk.{Desk}
use Rattle.replica_start.proofs.Unused.{unused_desk, unused_held}
use Rattle.replica_start.proofs.start.turn.Goals as goal

pub returns-clause-desk : goal.returns-clause-desk
returns-clause-desk c =
    let desk : Desk = record { clock = 0; hand = None; book = c.forget.new.book; states = c.args.desk.now.states; inbox = c.forget.new.inbox; ins = c.args.desk.now.ins } in
    λ net g t unit before ticks is.
    unused_desk net g t unit ticks desk (record { clock = refl; hand = refl; jobs = c.forget.ensures.jobs net g is.book; messages = c.forget.ensures.messages net t is.inbox is.widths; states = is.states })

pub returns-clause-held : goal.returns-clause-held
returns-clause-held c =
    let desk : Desk = record { clock = 0; hand = None; book = c.forget.new.book; states = c.args.desk.now.states; inbox = c.forget.new.inbox; ins = c.args.desk.now.ins } in
    λ net g t unit before words exec cost is.
    unused_held net g t words exec cost desk desk.states (record { clock = refl; hand = refl; jobs = c.forget.ensures.jobs net g is.book; messages = c.forget.ensures.messages net t is.inbox is.widths; states = is.states }) refl
