use Rattle.std.proofs.Common.{◌<◌, ◌∙◌, length, get_or, take, refl, ap, subst, arith}
use Rattle.std.proofs.lemmas.List.{take_more, take_all, length-set}
use Rattle.graph.specs.declared.net.Edge.{Edge}
use Rattle.graph.specs.Rules.{IsEdge}
use Rattle.graph.specs.Masks.{AreMasks}
use Rattle.graph.proofs.Masks.{mask_more, mask_none, small_more, small_none}
use Rattle.graph.proofs.order.producers.Goals as goal

pub loop-edge-init : goal.loop-edge-init
loop-edge-init c = (mask_none 64, refl, small_none 64)

pub loop-edge-preserved : goal.loop-edge-preserved
loop-edge-preserved c =
    let items = c.as_slice-edge-items.result.now in
    let none : Edge = record { from_task = 0; from_port = 0; to_task = 0; to_port = 0 } in
    let e = get_or items c.loop-edge.edge-index none in
    let low : c.loop-edge.edge-index < length items = omega arith in
    let is : IsEdge c.args.net.now e = rw c.as_slice-edge-items.ensures (c.requires.entries.edges c.loop-edge.edge-index none (omega (arith, low, ap length c.as_slice-edge-items.ensures))) in (
      rw (take_more items c.loop-edge.edge-index none low, c.from-to.ensures)
          (mask_more (take c.loop-edge.edge-index items) e c.loop-edge.masks c.loop-edge.invariant.1 (omega (arith, is.from_task, c.requires.counts.tasks)) (omega (arith, is.to_task, c.requires.counts.tasks)) c.loop-edge.invariant.0),
      length-set c.loop-edge.masks _ _ ∙ c.loop-edge.invariant.1,
      rw c.from-to.ensures (small_more c.loop-edge.masks e.to_task e.from_task (omega (arith, is.to_task, c.requires.counts.tasks, c.loop-edge.invariant.1)) c.loop-edge.invariant.2),
    )

pub returns-clause-masks : goal.returns-clause-masks
returns-clause-masks c =
    subst (λ es. AreMasks es c.loop-edge.masks) (take_all c.loop-edge.edge-index c.as_slice-edge-items.result.now (omega arith) ∙ c.as_slice-edge-items.ensures) c.loop-edge.invariant.0
