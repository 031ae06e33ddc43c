use Rattle.std.proofs.Common.{◌≡◌, drop, map}
use Rattle.mc_tree.specs.Rules.{earliest}
use Rattle.mc_check.specs.View.{table}
use Rattle.mc_tree.specs.Rules.{first}
use Rattle.mc_tree.specs.Sites.{args_sites}
use Rattle.mc_check.specs.View.{outside}
use Rattle.mc_tree.specs.RawPlain.{plain_expr}
use Rattle.mc_check.proofs.statement.arguments.Given as goal

abbrev pub invariant-loop-e : goal.invariant-loop-e
invariant-loop-e l = earliest l.best (first (args_sites (outside l.globals) (table l.locals.names) (map plain_expr (drop l.e-index l.args)))) ≡ first (args_sites (outside l.globals) (table l.locals.names) (map plain_expr l.args))
