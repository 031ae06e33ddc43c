use Rattle.std.proofs.Common.{◌≡◌, ◌+◌, ◌-◌, ◌^◌, ◌<◌, min, List, drop}
use Rattle.mc_tree.specs.declared.tree.Cell.{Cell}
use Rattle.mc_compile.specs.Translate.{args_len}
use Rattle.mc_tree.specs.Plain.{plain_args}
use Rattle.mc_compile.proofs.measure.args_total.Given as goal

abbrev pub invariant-loop-arg : goal.invariant-loop-arg
invariant-loop-arg l = record {
  small : l.total < 2 ^ 64;
  sum : (cells : List Cell) → min (l.total + args_len (plain_args cells (drop l.arg-index l.args))) (2 ^ 64 - 1) ≡ min (args_len (plain_args cells l.args)) (2 ^ 64 - 1);
}
