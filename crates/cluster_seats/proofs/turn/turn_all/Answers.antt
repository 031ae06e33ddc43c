use Rattle.std.proofs.Common.{◌<◌, ◌≡◌, length, subst, arith}
use Rattle.std.proofs.lemmas.List.Elements.{All-set}
use Rattle.cluster_seats.specs.Seats.{plan_for}
use Rattle.cluster_seats.proofs.Turning.{IsTurning, one_more, all_turned}
use Rattle.cluster_seats.proofs.turn.turn_all.Goals as goal

pub turn-preserved : goal.turn-preserved
turn-preserved g c =
    let xs = c.turn.seats.items in
    let i = c.turn.i in
    let next = c.next_cycle.new.self in
    let h = c.turn.invariant.turning in
    let within : i < length xs = omega (arith, h.count_is) in
    record {
      alive = All-set (g.S.Seat.is_alive c.args.plant.now) xs i next c.next_cycle.ensures.alive c.turn.invariant.alive;
      turning = one_more g.S.Seat.seat (plan_for g.S.Seat.exec g.S.Seat.cost c.args.plant.now) i c.args.seats.now.items xs
          c.index_mut.result.now next within c.index_mut.ensures.value c.next_cycle.ensures.seat h;
    }

pub returns-clause-seats : goal.returns-clause-seats
returns-clause-seats g c =
    let p = plan_for g.S.Seat.exec g.S.Seat.cost c.args.plant.now in
    let e : c.turn.i ≡ length c.args.seats.now.items = omega (arith, c.turn.invariant.turning.count_is) in
    all_turned g.S.Seat.seat p c.args.seats.now.items c.turn.seats.items
    (subst (λ n. IsTurning g.S.Seat.seat p n c.args.seats.now.items c.turn.seats.items) e c.turn.invariant.turning)
