use Rattle.std.proofs.Common.{arith}
use Rattle.image.proofs.TaskPlaces.{list_put}
use Rattle.image.proofs.bodies.put_task_list.Goals as goal

pub returns : goal.returns
returns c =
    list_put c.args.plant.now.net.tasks c.args.plant.now.maxts c.args.plant.now.programs c.requires.sides.maxts c.requires.sides.programs c.put_tasks.result
    c.args.into.now.items c.put_u8.new.into.items c.put_tasks.new.into.items _ c.in_ok-put_u8.ensures (omega (arith, c.len.ensures, c.requires.sides.few))
    (rw (c.as_slice.ensures, c.as_slice-2.ensures, c.as_slice-3.ensures) at c.put_tasks.ensures)
