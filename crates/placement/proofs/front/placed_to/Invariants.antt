use Rattle.std.proofs.Common.{◌≡◌, ◌≤◌, ◌<◌, ◌-◌, ℕ, Some, true, length}
use Rattle.std.specs.Prelude.{slice_get, is_some}
use Rattle.placement.specs.Feeding.{flat}
use Rattle.placement.proofs.front.placed_to.Given as goal

abbrev pub invariant-loop-place : goal.invariant-loop-place
invariant-loop-place l = record {
  later : l.first ≤ l.place;
  placed : (k job : ℕ) → slice_get l.order k ≡ Some job → l.first ≤ k → k < l.place → is_some (flat (slice_get l.places job)) ≡ true;
}

abbrev pub decreases-loop-place : goal.decreases-loop-place
decreases-loop-place l = length l.order - l.place
