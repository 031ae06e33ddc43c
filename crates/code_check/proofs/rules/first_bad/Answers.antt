use Rattle.std.proofs.Common.{arith}
use Rattle.code_check.proofs.rules.first_bad.Goals as goal

pub returns-clause-none : goal.returns-clause-none
returns-clause-none c e k lt = c.loop-k.invariant.good k (omega (arith, c.len-k-end.ensures))
