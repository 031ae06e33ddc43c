use Rattle.std.proofs.Common.{◌≡◌, ◌∙◌, List, ap, arith, drop, map}
use Rattle.std.proofs.Math.ListN.{drop_of_length-le}
use Rattle.mc_tree.specs.declared.raw.RawExpr.{RawExpr}
use Rattle.mc_tree.specs.Sites.{args_need}
use Rattle.mc_tree.specs.RawPlain.{plain_expr}
use Rattle.mc_check.proofs.statement.need_of_args.Goals as goal

pub returns : goal.returns
returns c =
    let e = ap (λ (l : List RawExpr). args_need c.loop-i.i (map plain_expr l)) (drop_of_length-le c.args.args.now {i = c.loop-i.i} (omega arith)) in
    omega (arith, e, c.loop-i.invariant.words, c.loop-i.invariant.kept)
