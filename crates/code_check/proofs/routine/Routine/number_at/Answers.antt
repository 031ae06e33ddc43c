use Rattle.std.proofs.Common.{sym}
use Rattle.code_check.proofs.Routines.{inside}
use Rattle.code_check.proofs.routine.Routine.number_at.Goals as goal

pub returns : goal.returns
returns c = sym (inside c.args.code.now c.args.self c.requires.whole c.requires.routine c.args.k c.requires.after c.requires.before)
