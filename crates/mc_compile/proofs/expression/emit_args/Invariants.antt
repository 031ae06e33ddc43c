use Rattle.std.proofs.Common.{◌≡◌, ◌+◌, ◌++◌, ◌≤◌, drop}
use Rattle.std.specs.Prelude.{vec_len, vec_capacity}
use Rattle.mc_compile.specs.Translate.{args_len, args_code}
use Rattle.mc_tree.specs.Height.{args_height}
use Rattle.mc_tree.specs.Plain.{plain_args}
use Rattle.mc_compile.proofs.expression.emit_args.Given as goal

abbrev pub invariant-loop-arg : goal.invariant-loop-arg
invariant-loop-arg l = record {
  items : l.code.items ++ args_code l.base (plain_args l.cells (drop l.arg-index l.args)) ≡ l.initial.code.items ++ args_code 0 (plain_args l.cells l.args);
  len : vec_len l.code + args_len (plain_args l.cells (drop l.arg-index l.args)) ≡ vec_len l.initial.code + args_len (plain_args l.cells l.args);
  capacity : vec_capacity l.code ≡ vec_capacity l.initial.code;
  low : l.base + args_height (plain_args l.cells (drop l.arg-index l.args)) ≤ 64;
}
