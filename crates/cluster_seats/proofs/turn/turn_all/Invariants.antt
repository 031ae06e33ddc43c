use Rattle.std.specs.List.{All}
use Rattle.cluster_seats.specs.Seats.{plan_for}
use Rattle.cluster_seats.proofs.Turning.{IsTurning}
use Rattle.cluster_seats.proofs.turn.turn_all.Given as goal

abbrev pub invariant-turn : goal.invariant-turn
invariant-turn g l = record {
  alive : All (g.S.Seat.is_alive l.plant) l.seats.items;
  turning : IsTurning g.S.Seat.seat (plan_for g.S.Seat.exec g.S.Seat.cost l.plant) l.i l.fn.seats.items l.seats.items;
}
