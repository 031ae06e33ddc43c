use Rattle.std.proofs.Common.{ap, ◌∙◌}
use Rattle.std.specs.Prelude.{not}
use Rattle.mc_tree.specs.Instance.{ended}
use Rattle.mc_meaning.proofs.Instances.{body_left, gives, breaks}
use Rattle.mc_meaning.proofs.instance.run_body.Goals as goal

pub returns-then-is_none : goal.returns-then-is_none
returns-then-is_none c =
    let task = c.args.task.now in
    breaks task c.run_block.new.words c.in_ok-run_block.field-0 (c.is_none.ensures ∙ ap not c.if-is_none.true)
    ∙ ap (ended task.cells) (body_left task c.args.words.now c.run_block.new.words c.as_slice.result.now c.in_ok-run_block.field-0 c.len-known.result c.len-known.ensures c.as_slice.ensures (c.in_ok-run_block.ensures {u = tt}))

pub returns : goal.returns
returns c =
    let task = c.args.task.now in
    gives task c.run_block.new.words c.in_ok-state.state c.in_ok-outs.outs c.as_slice-2.result.now c.as_slice-3.result.now c.in_ok-run_block.field-0
    c.as_slice-2.ensures c.as_slice-3.ensures (c.in_ok-state.ensures {u = tt}) (c.in_ok-outs.ensures {u = tt}) (c.is_none.ensures ∙ ap not c.if-is_none.false)
    ∙ ap (ended task.cells) (body_left task c.args.words.now c.run_block.new.words c.as_slice.result.now c.in_ok-run_block.field-0 c.len-known.result c.len-known.ensures c.as_slice.ensures (c.in_ok-run_block.ensures {u = tt}))
