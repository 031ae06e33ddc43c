use Rattle.std.proofs.Common.{◌≡◌, map, take}
use Rattle.cluster.specs.Clocks.{clock_seen}
use Rattle.cluster.proofs.make.first_clocks.Given as goal

abbrev pub invariant-loop-seat : goal.invariant-loop-seat
invariant-loop-seat g l = l.clocks.items ≡ map clock_seen (map g.S.Seat.seat (take l.seat-index l.seats))
