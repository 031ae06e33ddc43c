use Rattle.std.proofs.Common.{◌≡◌, arith, ap, ◌∙◌, insert}
use Rattle.std.proofs.lemmas.Grind.{common_steps}
use Rattle.placement.proofs.Looking.{fits_before, put_in}
use Rattle.placement.proofs.cursor.put.Goals as goal
use Rattle.placement.proofs.cursor.put.Goals.{else-loop-other-test, then-loop-other-test+then-other-fit}

pub returns-clause-items : goal.returns-clause-items
returns-clause-items c =
    let v = c.as_slice-other-items.ensures.value in
    let p : c.loop-other.place ≡ fits_before c.args.fit c.args.row.now.items = elim c.loop-other-test.branch [
      | else-loop-other-test w ↦ grind (arith, common_steps)
      | then-loop-other-test+then-other-fit w ↦ grind (arith, common_steps)
    ] in
    c.insert.ensures.items ∙ (ap (λ i. insert c.args.row.now.items i c.args.fit) p ∙ put_in c.args.fit c.args.row.now.items)
