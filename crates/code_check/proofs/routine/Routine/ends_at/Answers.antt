use Rattle.std.proofs.Common.{◌+◌}
use Rattle.std.proofs.lemmas.Bool.{eqb-true, eq-eqb}
use Rattle.code_check.proofs.Routines.{last_here}
use Rattle.code_check.proofs.routine.Routine.ends_at.Goals as goal

pub returns : goal.returns
returns c =
    let here = last_here c.args.code.now c.args.self c.requires.whole c.requires.routine c.args.k c.requires.after c.requires.before in
    (λ t. here.0 (eqb-true (c.args.k + 1) c.args.self.end t), λ e. eq-eqb (c.args.k + 1) c.args.self.end (here.1 e))
