use Rattle.std.proofs.Common.{◌≡◌, map, take}
use Rattle.mc_fold.specs.Folded.{folded_expr}
use Rattle.mc_fold.proofs.expression.folded_args.Given as goal

abbrev pub invariant-loop-arg : goal.invariant-loop-arg
invariant-loop-arg l = l.folded ≡ map folded_expr (take l.arg-index l.args)
