use Rattle.std.proofs.Common.{◌≡◌, ◌≤◌, min, max, drop, map}
use Rattle.mc_tree.specs.Sites.{args_need}
use Rattle.mc_tree.specs.RawPlain.{plain_expr}
use Rattle.mc_check.proofs.statement.need_of_args.Given as goal

abbrev pub invariant-loop-i : goal.invariant-loop-i
invariant-loop-i l = record {
  words : min (max l.words (args_need l.i (map plain_expr (drop l.i l.args)))) 65 ≡ min (max 1 (args_need 0 (map plain_expr l.args))) 65;
  kept : l.words ≤ 65;
}
