use Rattle.std.proofs.Common.{◌≡◌, ◌+◌, ◌*◌, length, map}
use Rattle.std.specs.List.{All}
use Rattle.std.specs.Vec.Iter.{into_iter_items, into_iter_len}
use Rattle.cluster_model.specs.Plan.{listed}
use Rattle.cluster.specs.First.{first_seated}
use Rattle.replica_work.specs.Works.{set_plan}
use Rattle.replica_seat.specs.Alive.{IsAlive, seat_of}
use Rattle.cluster_replicas.proofs.seats.new_replicas.Given as goal

abbrev pub invariant-loop-cpu : goal.invariant-loop-cpu
invariant-loop-cpu g l = record {
  count : length l.replicas.items + length (into_iter_items l.cpu-iterator) ≡ 2 * l.plant.net.shape.units;
  left : into_iter_len l.cpu-iterator ≡ length (into_iter_items l.cpu-iterator);
  alive : All (IsAlive g.C.Cpu.runs l.plant) l.replicas.items;
  seats : map seat_of l.replicas.items ≡ listed (length l.replicas.items) (first_seated (set_plan g.C.Cpu.execution l.plant));
}
