use Rattle.project_image.proofs.Programs.{all_taken}
use Rattle.project_image.proofs.made.programs_of.Goals as goal

pub returns : goal.returns
returns c = all_taken c.each.programs c.each.left c.args.tasks (c.is_empty.ensures.0 c.each-test.false) c.each.invariant c.requires
