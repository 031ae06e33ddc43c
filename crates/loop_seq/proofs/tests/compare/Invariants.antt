use Rattle.std.proofs.Common.{ℕ, ◌<◌, ◌≤◌, ◌^◌}
use Rattle.std.specs.Prelude.{slice_index}
use Rattle.loop_seq.proofs.tests.compare.Given as goal

abbrev pub invariant-loop-i : goal.invariant-loop-i
invariant-loop-i g l = record {
  caps : (j : ℕ) → j < l.i → slice_index l.caps j ≤ 65535;
  weights : (j : ℕ) → j < l.i → slice_index l.weights j ≤ 2 ^ 40;
}
