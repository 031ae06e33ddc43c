use Rattle.std.proofs.Common.{◌≡◌, ◌≤◌, ◌<◌, ℕ, Some, length, get_or}
use Rattle.std.specs.Prelude.{slice_get}
use Rattle.placement.proofs.front.ranks_of.Given as goal

abbrev pub invariant-loop-job : goal.invariant-loop-job
invariant-loop-job l = record {
  size : length l.ranks.items ≡ l.job;
  least : (job k : ℕ) → job < l.job → slice_get l.order k ≡ Some job → get_or l.ranks.items job 0 ≤ k;
}
