use Rattle.std.proofs.Common.{map}
use Rattle.cluster_starts.proofs.Taking.{AreTaken}
use Rattle.cluster_starts.proofs.left.take_left.Given as goal

abbrev pub invariant-tasks : goal.invariant-tasks
invariant-tasks g l = AreTaken l.plant (map g.S.Seat.seat l.seats) l.task l.fn.starts l.starts
