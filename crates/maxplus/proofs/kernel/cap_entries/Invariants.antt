use Rattle.std.proofs.Common.{◌≡◌, ℕ, ◌<◌, ◌≤◌, min}
use Rattle.maxplus.specs.MaxPlus.{cap, entries}
use Rattle.maxplus.proofs.kernel.cap_entries.Given as goal

abbrev pub invariant-loop-entry : goal.invariant-loop-entry
invariant-loop-entry l = record {
  capped : (k : ℕ) → k < l.entry-index → entries l.out k ≡ min (entries l.fn.out k) cap;
  kept : (k : ℕ) → l.entry-index ≤ k → entries l.out k ≡ entries l.fn.out k;
}
