use Rattle.std.proofs.Common.{map}
use Rattle.cluster.proofs.Noted.{AreNoted}
use Rattle.cluster.proofs.clocks.read_clocks.Given as goal

abbrev pub invariant-clocks : goal.invariant-clocks
invariant-clocks g l = AreNoted l.i (map g.S.Seat.seat l.seats) l.clocks.items
