use Rattle.std.proofs.Common.{◌∙◌, ap, map, sym, subst}
use Rattle.image_plant.specs.Image.{HasPorts}
use Rattle.image_sides.specs.Sides as sides
use Rattle.plant.specs.declared.system.Plant.{Plant}
use Rattle.plant.specs.InOrder.{IsInOrder}
use Rattle.project_image.proofs.InOrder.{whole_in_order, whole_ports}
use Rattle.project_image.proofs.Parts.{made_plant, listed_bounds}
use Rattle.task_source.specs.Built.{plain_built}
use Rattle.word_code.specs.declared.code.Code.{Code}
use Rattle.project_image.proofs.made.image_of.Goals as goal

pub new-requires-clause-in_order : goal.new-requires-clause-in_order
new-requires-clause-in_order c =
    let p = c.args.plan in
    let built = map plain_built p.tasks in
    let made = made_plant p.net p.graph p.tables built c.in_ok-programs.programs c.from_vec-maxts.result c.in_ok-states.states (c.in_ok-programs.ensures {u = tt})
    (listed_bounds c.from_vec-maxts.result c.in_ok-list_bounds.field-0.items c.as_slice.result.now p.tasks c.from_vec-maxts.ensures (c.in_ok-list_bounds.ensures {u = tt}) c.as_slice.ensures)
    ((c.in_ok-states.ensures {u = tt}) ∙ ap (map sides.state_words) c.as_slice-2.ensures) c.requires.whole.runnable in
    subst (λ (x : Plant Code). IsInOrder x) (sym made) (whole_in_order p.net p.graph p.tables built c.requires.whole)

pub new-requires-clause-ports : goal.new-requires-clause-ports
new-requires-clause-ports c =
    let p = c.args.plan in
    let built = map plain_built p.tasks in
    let made = made_plant p.net p.graph p.tables built c.in_ok-programs.programs c.from_vec-maxts.result c.in_ok-states.states (c.in_ok-programs.ensures {u = tt})
    (listed_bounds c.from_vec-maxts.result c.in_ok-list_bounds.field-0.items c.as_slice.result.now p.tasks c.from_vec-maxts.ensures (c.in_ok-list_bounds.ensures {u = tt}) c.as_slice.ensures)
    ((c.in_ok-states.ensures {u = tt}) ∙ ap (map sides.state_words) c.as_slice-2.ensures) c.requires.whole.runnable in
    subst (λ (x : Plant Code). HasPorts x) (sym made) (whole_ports p.net p.graph p.tables built c.requires.whole)

pub returns-clause-plant : goal.returns-clause-plant
returns-clause-plant c =
    let p = c.args.plan in
    let built = map plain_built p.tasks in
    c.new.ensures.value
    ∙ made_plant p.net p.graph p.tables built c.in_ok-programs.programs c.from_vec-maxts.result c.in_ok-states.states (c.in_ok-programs.ensures {u = tt})
    (listed_bounds c.from_vec-maxts.result c.in_ok-list_bounds.field-0.items c.as_slice.result.now p.tasks c.from_vec-maxts.ensures (c.in_ok-list_bounds.ensures {u = tt}) c.as_slice.ensures)
    ((c.in_ok-states.ensures {u = tt}) ∙ ap (map sides.state_words) c.as_slice-2.ensures) c.requires.whole.runnable
