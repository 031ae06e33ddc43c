-- Replicas at a cycle's start. This project's own.
use Rattle.std.specs.Prelude.{List, map}
use Rattle.cluster_model.specs.Cluster.{fresh_held}
use Rattle.cluster_model.specs.Plan.{Plan}
use Rattle.cluster_seats.specs.Seats.{Seated, with_held}

-- it keeps its mode and its tasks' states
abbrev pub fresh : Plan → Seated → Seated
fresh p s = with_held (fresh_held p s.held.states) s

abbrev pub all_fresh : Plan → List Seated → List Seated
all_fresh p seats = map (fresh p) seats
