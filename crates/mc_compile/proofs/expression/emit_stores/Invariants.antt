use Rattle.std.proofs.Common.{◌≡◌, ◌+◌, ◌++◌, ◌≤◌, length, map, drop}
use Rattle.std.specs.Prelude.{vec_len, vec_capacity}
use Rattle.mc_compile.specs.Translate.{stores_code}
use Rattle.mc_tree.specs.Plain.{place_in}
use Rattle.mc_compile.proofs.expression.emit_stores.Given as goal

abbrev pub invariant-loop-left : goal.invariant-loop-left
invariant-loop-left l = record {
  within : l.left ≤ length l.params;
  items : l.code.items ≡ l.initial.code.items ++ stores_code l.left (map (place_in l.cells) (drop l.left l.params));
  len : vec_len l.code + l.left ≡ vec_len l.initial.code + length l.params;
  capacity : vec_capacity l.code ≡ vec_capacity l.initial.code;
}

abbrev pub decreases-loop-left : goal.decreases-loop-left
decreases-loop-left l = l.left
