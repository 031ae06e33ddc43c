use Rattle.std.proofs.Common.{◌+◌, ◌*◌, ◌^◌, ◌≤◌, not}
use Rattle.std.specs.Prelude.{count_by}
use Rattle.loop_seq.proofs.Serving.{Serving}
use Rattle.loop_seq.proofs.best_split.Given as goal

abbrev pub invariant-loop-i : goal.invariant-loop-i
invariant-loop-i l = record {
  serving : Serving l.caps l.weights l.total l.served l.left l.worth;
  room : l.worth + l.left * 2 ^ 40 ≤ l.total * 2 ^ 40;
}

-- how many loops are not served yet
abbrev pub decreases-loop-i : goal.decreases-loop-i
decreases-loop-i l = count_by not l.served
