use Rattle.std.proofs.Common.{◌≡◌, ◌+◌, ◌++◌, map, drop}
use Rattle.std.specs.Prelude.{vec_len, vec_capacity, slice_index}
use Rattle.mc_compile.specs.Emit.{params_of, length_of, slots_of}
use Rattle.mc_compile.specs.Whole.{fns_len, fns_code}
use Rattle.mc_tree.specs.Plain.{plain_func}
use Rattle.mc_compile.proofs.task.instructions.Given as goal

abbrev pub invariant-loop-function : goal.invariant-loop-function
invariant-loop-function l = record {
  items : l.code.items ++ fns_code (slice_index l.firsts) (params_of l.task) (vec_len l.code) (map (plain_func l.task.cells) (drop l.function-index l.function-items)) ≡ slots_of l.task l.firsts;
  len : vec_len l.code + fns_len (params_of l.task) (map (plain_func l.task.cells) (drop l.function-index l.function-items)) ≡ length_of l.task;
  capacity : vec_capacity l.code ≡ l.size;
}
