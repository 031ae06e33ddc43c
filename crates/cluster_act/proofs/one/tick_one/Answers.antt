use Rattle.std.proofs.Common.{◌≡◌, ℕ, refl, sym, ◌∙◌, ap}
use Rattle.tdma.specs.Layout.{Layout}
use Rattle.cluster_seats.specs.Seats.{plan_for}
use Rattle.cluster_act.proofs.Acting.{seated_again, members_again, ticked_member, ticked_effects}
use Rattle.cluster_act.proofs.one.tick_one.Goals as goal

pub returns-clause-seated : goal.returns-clause-seated
returns-clause-seated g c =
    seated_again g.S.Seat.seat c.args.plant.now.net.shape.units c.args.bus.now c.tick.new.bus c.args.seats.now.items c.args.number c.index_mut.result.now c.tick.new.self
    c.requires.number c.index_mut.ensures.value c.requires.seated c.tick.ensures.others _ c.tick.ensures.seat refl refl

pub returns-clause-members : goal.returns-clause-members
returns-clause-members g c =
    members_again g.S.Seat.seat c.args.plant.now.net.shape.units c.args.bus.now c.tick.new.bus c.args.seats.now.items c.args.number c.index_mut.result.now c.tick.new.self
    c.requires.number c.index_mut.ensures.value c.requires.seated c.tick.ensures.others _
    (ticked_member g.S.Seat.seat c.args.plant.now.net.shape.units c.args.bus.now c.tick.new.bus c.args.seats.now.items c.args.number c.index_mut.result.now c.tick.new.self
    c.requires.number c.index_mut.ensures.value c.requires.seated c.tick.ensures.others (plan_for g.S.Seat.exec g.S.Seat.cost c.args.plant.now) c.args.line.now
    (ap (λ (l : Layout). l.units) c.requires.can.is_bus.layout) c.tick.ensures.seat c.tick.ensures.own)

pub returns-clause-effects : goal.returns-clause-effects
returns-clause-effects g c =
    c.tick.ensures.effects ∙ ticked_effects g.S.Seat.seat c.args.plant.now.net.shape.units c.args.bus.now c.tick.new.bus c.args.seats.now.items c.args.number c.index_mut.result.now c.tick.new.self
    c.requires.number c.index_mut.ensures.value c.requires.seated c.tick.ensures.others (plan_for g.S.Seat.exec g.S.Seat.cost c.args.plant.now) c.args.line.now
    (ap (λ (l : Layout). l.units) c.requires.can.is_bus.layout)
