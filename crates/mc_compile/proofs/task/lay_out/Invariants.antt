use Rattle.std.proofs.Common.{◌≡◌, ◌+◌, ◌++◌, ◌∷◌, map, drop}
use Rattle.mc_compile.specs.Emit.{params_of, length_of, firsts_of}
use Rattle.mc_compile.specs.Whole.{fns_len, fn_starts}
use Rattle.mc_tree.specs.Plain.{plain_func}
use Rattle.mc_compile.proofs.Tasks.{kept}
use Rattle.mc_compile.proofs.task.lay_out.Given as goal

abbrev pub invariant-loop-function : goal.invariant-loop-function
invariant-loop-function l = record {
  length : l.next + fns_len (params_of l.task) (map (plain_func l.task.cells) (drop l.function-index l.functions)) ≡ length_of l.task;
  starts : l.starts.items ++ map kept (fn_starts (params_of l.task) l.next (map (plain_func l.task.cells) (drop l.function-index l.functions))) ≡ 0 ∷ map kept (firsts_of l.task);
}
