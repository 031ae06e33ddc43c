use Rattle.std.proofs.Common.{◌≡◌, ℕ, refl, sym, ◌∙◌, ap}
use Rattle.cluster_act.proofs.Acting.{seated_again, members_again, fallen_member}
use Rattle.cluster_act.proofs.one.fall_one.Goals as goal

pub returns-clause-seated : goal.returns-clause-seated
returns-clause-seated g c =
    seated_again g.S.Seat.seat c.args.plant.now.net.shape.units c.args.bus.now c.silence.new.bus c.args.seats.now.items c.args.number c.index_mut.result.now c.silence.new.self
    c.requires.number c.index_mut.ensures.value c.requires.seated c.silence.ensures.others _ c.silence.ensures.seat refl refl

pub returns-clause-members : goal.returns-clause-members
returns-clause-members g c =
    members_again g.S.Seat.seat c.args.plant.now.net.shape.units c.args.bus.now c.silence.new.bus c.args.seats.now.items c.args.number c.index_mut.result.now c.silence.new.self
    c.requires.number c.index_mut.ensures.value c.requires.seated c.silence.ensures.others _
    (fallen_member g.S.Seat.seat c.args.plant.now.net.shape.units c.args.bus.now c.silence.new.bus c.args.seats.now.items c.args.number c.index_mut.result.now c.silence.new.self
    c.requires.number c.index_mut.ensures.value c.requires.seated c.silence.ensures.others c.silence.ensures.seat c.silence.ensures.own)
