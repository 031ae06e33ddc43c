use Rattle.std.proofs.Common.{ℕ, ◌-◌, List, length, take, drop, ap, sym, ◌∙◌}
use Rattle.mc_tree.specs.Checked.{words_in}
use Rattle.mc_compile.specs.Whole.{shapes_of}
use Rattle.mc_compile.specs.Emit.{slots_of}
use Rattle.mc_compile.proofs.Tasks.{body_low, functions_low, assembled}
use Rattle.mc_compile.proofs.task.assemble.Goals as goal

pub instructions-requires-clause-body : goal.instructions-requires-clause-body
instructions-requires-clause-body c = body_low c.args.task.now c.requires.checked

pub instructions-requires-clause-functions : goal.instructions-requires-clause-functions
instructions-requires-clause-functions c = functions_low c.args.task.now c.requires.checked

pub returns : goal.returns
returns c =
    let t = c.args.task.now in
    let starts = c.args.layout.starts.items in
    let instrs = c.from_vec-2.ensures ∙ c.in_ok-instrs.ensures {u = tt} ∙ ap (λ (l : List ℕ). slots_of t (take (length l - 1) (drop 1 l))) (c.deref.ensures.value ∙ sym c.from_vec.ensures) in
    let words = c.words.ensures ∙ ap words_in c.as_slice-2.ensures in
    let cells = c.in_ok-cells.ensures {u = tt} ∙ ap shapes_of c.as_slice.ensures in
    assembled t c.from_vec.result c.from_vec-2.result c.words.result c.in_ok-cells.cells (c.from_vec.ensures ∙ c.requires.starts) instrs words cells
