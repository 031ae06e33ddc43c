use Rattle.std.proofs.lemmas.Bool.{eqb-true, eq-eqb}
use Rattle.code_check.proofs.Routines.{start_here}
use Rattle.code_check.proofs.routine.Routine.begins_at.Goals as goal

pub returns : goal.returns
returns c =
    let here = start_here c.args.code.now c.args.self c.requires.whole c.requires.routine c.args.k c.requires.after c.requires.before in
    (λ t. here.0 (eqb-true c.args.k c.args.self.first t), λ e. eq-eqb c.args.k c.args.self.first (here.1 e))
