use Rattle.std.proofs.Common.{◌≡◌, ◌++◌, drop, map}
use Rattle.mc_check.specs.View.{table}
use Rattle.mc_tree.specs.Numbered.{numbered_args}
use Rattle.mc_check.specs.View.{outside}
use Rattle.mc_tree.specs.RawPlain.{plain_expr}
use Rattle.mc_check.proofs.number.exprs.Given as goal

abbrev pub invariant-loop-e : goal.invariant-loop-e
invariant-loop-e l = l.all ++ numbered_args (outside l.globals) (table l.locals.names) (map plain_expr (drop l.e-index l.args)) ≡ numbered_args (outside l.globals) (table l.locals.names) (map plain_expr l.args)
