use Rattle.std.proofs.Common.{arith}
use Rattle.std.proofs.Math.Nat.{pos_of_dvd_of_pos}
use Rattle.graph.proofs.Multiples.{multiple_by}
use Rattle.graph.proofs.limits.least_multiple.Goals as goal

pub nonzero_div-result : goal.nonzero_div-result
nonzero_div-result c = let is = rw (c.from.ensures, c.from-2.ensures) at c.gcd-common.ensures in pos_of_dvd_of_pos is.0 (omega arith)

pub returns-clause-multiple : goal.returns-clause-multiple
returns-clause-multiple c =
    let is = rw (c.from.ensures, c.from-2.ensures) at c.gcd-common.ensures in
    rw (c.from-3.ensures, c.from-4.ensures) (multiple_by c.args.a c.args.b c.gcd-common.result (omega arith) (omega arith) is).0

pub returns-clause-some : goal.returns-clause-some
returns-clause-some c =
    let is = rw (c.from.ensures, c.from-2.ensures) at c.gcd-common.ensures in
    rw (c.from-3.ensures, c.from-4.ensures) (multiple_by c.args.a c.args.b c.gcd-common.result (omega arith) (omega arith) is).1
