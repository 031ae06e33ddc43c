use Rattle.std.proofs.Common.{◌++◌, ◌∷◌, map, arith, ap, sym, ◌∙◌, append-nil}
use Rattle.std.proofs.Math.ListN.{drop_of_length-le}
use Rattle.mc_tree.specs.Plain.{plain_func}
use Rattle.mc_compile.specs.Emit.{params_of, main_of, functions_of}
use Rattle.mc_compile.specs.Whole.{fn_starts}
use Rattle.mc_compile.proofs.Tasks.{kept, starts_kept}
use Rattle.mc_compile.proofs.task.lay_out.Goals as goal

pub returns-clause-starts : goal.returns-clause-starts
returns-clause-starts c short =
    let task = c.args.task.now in
    let starts = c.loop-function.starts.items in
    let end = drop_of_length-le c.as_slice-functions.result.now {i = c.loop-function.function-index} (omega arith) in
    let none = ap (λ fs. starts ++ map kept (fn_starts (params_of task) c.loop-function.next (map (plain_func task.cells) fs))) end in
    sym (append-nil starts) ∙ sym none ∙ c.loop-function.invariant.starts
    ∙ ap (λ l. 0 ∷ l) (starts_kept (params_of task) (main_of task) (functions_of task) short)
