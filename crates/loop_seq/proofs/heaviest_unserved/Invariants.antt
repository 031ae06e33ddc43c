use Rattle.std.proofs.Common.{◌≡◌, ℕ, ◌<◌, ◌≤◌, true, false}
use Rattle.std.specs.Prelude.{slice_index, slice_index_or, IfSome, IfNone}
use Rattle.loop_seq.proofs.heaviest_unserved.Given as goal

abbrev pub invariant-loop-i : goal.invariant-loop-i
invariant-loop-i l = record {
  none : IfNone l.heaviest ((j : ℕ) → j < l.i → slice_index_or l.served j false ≡ true);
  inside : IfSome l.heaviest (λ i. i < l.i);
  unserved : IfSome l.heaviest (λ i. slice_index_or l.served i false ≡ false);
  heaviest : IfSome l.heaviest (λ i. (j : ℕ) → j < l.i → slice_index_or l.served j false ≡ false → slice_index l.weights j ≤ slice_index l.weights i);
}
