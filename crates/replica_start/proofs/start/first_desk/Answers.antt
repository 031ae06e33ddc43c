use Rattle.std.proofs.Common.{None, refl}
use Rattle.replica_desk.specs.declared.desk.Desk.{Desk}
use Rattle.cluster_model.specs.Cluster.{first_held_states}
use Rattle.cluster_model.specs.PlanOf.{plan_of}
use Rattle.replica_start.proofs.Unused.{IsUnused, unused_desk, unused_held, own_states}
use Rattle.replica_start.proofs.start.first_desk.Goals as goal

pub returns-clause-desk : goal.returns-clause-desk
returns-clause-desk c =
    let desk : Desk = record { clock = 0; hand = None; book = c.in_ok-book.book; states = c.in_ok-states.states; inbox = c.in_ok-inbox.inbox; ins = c.in_ok-ins.ins } in
    let unused : IsUnused c.args.net.now c.args.graph.now c.args.tables.now desk = record { clock = refl; hand = refl; jobs = c.in_ok-book.ensures; messages = c.in_ok-inbox.ensures; states = c.in_ok-states.ensures.count } in
    λ ticks. unused_desk c.args.net.now c.args.graph.now c.args.tables.now c.args.unit ticks desk unused

pub returns-clause-states : goal.returns-clause-states
returns-clause-states c = own_states c.args.net.now c.args.graph.now c.args.tables.now c.args.words.now c.args.unit c.in_ok-states.states c.requires.net c.requires.valid c.in_ok-states.ensures.states

pub returns-clause-held : goal.returns-clause-held
returns-clause-held c =
    let desk : Desk = record { clock = 0; hand = None; book = c.in_ok-book.book; states = c.in_ok-states.states; inbox = c.in_ok-inbox.inbox; ins = c.in_ok-ins.ins } in
    let unused : IsUnused c.args.net.now c.args.graph.now c.args.tables.now desk = record { clock = refl; hand = refl; jobs = c.in_ok-book.ensures; messages = c.in_ok-inbox.ensures; states = c.in_ok-states.ensures.count } in
    λ exec cost. unused_held c.args.net.now c.args.graph.now c.args.tables.now c.args.words.now exec cost desk (first_held_states (plan_of c.args.net.now c.args.graph.now c.args.tables.now c.args.words.now exec cost) c.args.unit) unused (c.in_ok-states.ensures.states exec cost)
