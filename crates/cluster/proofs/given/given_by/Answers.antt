use Rattle.std.proofs.Common.{◌≡◌, length, get_or, ◌∙◌, ap, subst, arith}
use Rattle.cluster_model.specs.State.{Held, given, status_in, member_of}
use Rattle.cluster.specs.Stands.{state_of}
use Rattle.cluster.proofs.Seated.{held_there}
use Rattle.cluster.proofs.given.given_by.Goals as goal

pub outs-requires : goal.outs-requires
outs-requires g c =
    let plant = c.args.plant.now in let cluster = c.args.cluster.now in
    let there = subst (λ n. c.index.result.now ≡ get_or cluster.seats.items n c.index.result.now) c.seat_number.ensures c.index.ensures in
    let held : (g.S.Seat.seat c.index.result.now).held ≡ (member_of (state_of g.S.Seat.seat cluster).members c.args.unit c.args.side).held =
    held_there g.S.Seat.seat plant.net.shape.units cluster.bus cluster.seats.items c.requires.stands.seated c.args.unit c.args.side c.requires.unit c.index.result.now there in
    omega (arith, c.requires.job, ap (λ (h : Held). length h.jobs) held, (c.requires.in_place.each c.args.unit c.args.side c.requires.unit).lists.jobs)

pub returns : goal.returns
returns g c =
    let plant = c.args.plant.now in let cluster = c.args.cluster.now in
    let there = subst (λ n. c.index.result.now ≡ get_or cluster.seats.items n c.index.result.now) c.seat_number.ensures c.index.ensures in
    let held : (g.S.Seat.seat c.index.result.now).held ≡ (member_of (state_of g.S.Seat.seat cluster).members c.args.unit c.args.side).held =
    held_there g.S.Seat.seat plant.net.shape.units cluster.bus cluster.seats.items c.requires.stands.seated c.args.unit c.args.side c.requires.unit c.index.result.now there in
    c.outs.ensures ∙ ap (λ (h : Held). given (status_in h c.args.job)) held
