use Rattle.std.proofs.Common.{◌≡◌, ◌≤◌, ◌-◌, length, drop}
use Rattle.decisions.specs.Choices.{by_start, choices_for}
use Rattle.placement.proofs.cursor.look.Given as goal

abbrev pub invariant-loop-place : goal.invariant-loop-place
invariant-loop-place l = record {
  later : l.jobs ≤ l.place;
  same : choices_for l.state.problem l.state.placed.items (drop l.jobs (by_start l.state.problem (length l.state.problem.works))) ≡ choices_for l.state.problem l.state.placed.items (drop l.place (by_start l.state.problem (length l.state.problem.works)));
}

abbrev pub decreases-loop-place : goal.decreases-loop-place
decreases-loop-place l = length l.state.order.items - l.place
