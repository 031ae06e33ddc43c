use Rattle.std.proofs.Common.{arith}
use Rattle.maxplus.specs.MaxPlus.{entries}
use Rattle.maxplus.proofs.Folds.{power_is}
use Rattle.maxplus.proofs.turns.power.Goals as goal

pub returns-then-is_concave : goal.returns-then-is_concave
returns-then-is_concave c k lt =
    power_is (entries c.args.a.now) (entries c.join_identity.new.out) c.args.n k _ (λ i le. c.join_identity.ensures i (omega arith)) (c.even_power.ensures k lt)

pub returns-else-n-gt0 : goal.returns-else-n-gt0
returns-else-n-gt0 c k lt =
    power_is (entries c.args.a.now) (entries c.join_identity.new.out) c.args.n k _ (λ i le. c.join_identity.ensures i (omega arith)) (c.power_by_squaring.ensures k lt)
