use Rattle.image.proofs.TaskPlaces.{part_fits, one_more, all_put}
use Rattle.image.proofs.bodies.put_tasks.Goals as goal

pub put_task_at-requires-clause-fits : goal.put_task_at-requires-clause-fits
put_task_at-requires-clause-fits c = part_fits c.args.tasks.now c.args.maxts.now c.args.programs.now c.loop-place.place c.requires.maxts c.requires.programs c.loop-place-test.true c.requires.fits

pub loop-place-preserved : goal.loop-place-preserved
loop-place-preserved c =
    one_more c.args.tasks.now c.args.maxts.now c.args.programs.now c.loop-place.place c.requires.maxts c.requires.programs c.loop-place-test.true
    c.args.into.now.items c.loop-place.into.items c.put_task_at.new.into.items c.loop-place.invariant c.in_ok-put_task_at.ensures

pub returns : goal.returns
returns c = all_put c.args.tasks.now c.args.maxts.now c.args.programs.now c.loop-place.place c.requires.maxts c.requires.programs c.loop-place-test.false c.args.into.now.items c.loop-place.into.items c.loop-place.invariant
