use Rattle.std.proofs.Common.{arith}
use Rattle.std.proofs.lemmas.Bool.{ltb-true, leb-true, lt-ltb}
use Rattle.code_check.proofs.Routines.{same_routine}
use Rattle.code_check.proofs.routine.Routine.has.Goals as goal

pub returns-then-self-target : goal.returns-then-self-target
returns-then-self-target c within =
    let h = same_routine c.args.code.now c.args.self c.requires.whole c.requires.routine c.args.k c.args.target c.requires.after c.requires.before within in
    (λ t. h.0 (c.if-self-target.true, ltb-true c.args.target c.args.self.end t), λ e. lt-ltb c.args.target c.args.self.end ((h.1 e).1))

pub returns-else-self-target : goal.returns-else-self-target
returns-else-self-target c within =
    let h = same_routine c.args.code.now c.args.self c.requires.whole c.requires.routine c.args.k c.args.target c.requires.after c.requires.before within in (
      λ t. absurd (omega (arith, leb-true c.args.self.first c.args.target t, c.if-self-target.false)),
      λ e. absurd (omega (arith, (h.1 e).0, c.if-self-target.false)),
    )
