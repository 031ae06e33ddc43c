use Rattle.std.proofs.Common.{ℕ, ◌<◌, ◌≤◌}
use Rattle.word_code.specs.Refused.{IsGoodAt}
use Rattle.code_check.specs.Routine.{IsRoutine}
use Rattle.code_check.proofs.rules.first_bad.Given as goal

-- those so far are good, and the next one stands in the routine or right behind it
abbrev pub invariant-loop-k : goal.invariant-loop-k
invariant-loop-k l = record {
  good : (j : ℕ) → j < l.k → IsGoodAt l.code j;
  routine : IsRoutine l.code l.routine;
  after : l.routine.first ≤ l.k;
  before : l.k ≤ l.routine.end;
}
