use Rattle.std.proofs.Common.{◌≡◌, None, rules}
use Rattle.tick_parts.proofs.OwnSlots.{is_own, other_unit, is_idle, idle_of}
use Rattle.tick_parts.proofs.put.own_place.Goals as goal

pub returns-in-Some : goal.returns-in-Some
returns-in-Some c =
    let side_is : c.in-Some.place.side ≡ c.args.side = search rules in
    is_own c.args.round.now c.args.unit c.args.side c.args.tick c.in-Some.place c.requires.unit c.in-Some.ensures.word c.in-Some.ensures.alone c.if-slot_of-unit.true side_is

pub returns-in_default : goal.returns-in_default
returns-in_default c =
    let differ : c.in-Some.place.side ≡ c.args.side → ⊥ = search rules in
    other_unit c.args.round.now c.args.unit c.args.side c.args.tick c.in-Some.place c.requires.unit c.in-Some.ensures.alone (λ u s. differ s)

pub returns-in_default-2 : goal.returns-in_default-2
returns-in_default-2 c =
    other_unit c.args.round.now c.args.unit c.args.side c.args.tick c.in-Some.place c.requires.unit c.in-Some.ensures.alone (λ u s. c.if-slot_of-unit.false u)

pub returns-in_default-3 : goal.returns-in_default-3
returns-in_default-3 c =
    let none : c.slot_of.result ≡ None = search rules in
    is_idle c.args.round.now c.args.unit c.args.side c.args.tick c.requires.unit (idle_of c.args.round.now c.args.tick c.slot_of.result none c.slot_of.ensures.idle)
