use Rattle.std.proofs.Common.{◌∙◌, ◌∷◌, ◌+◌, ap, arith}
use Rattle.std.specs.Prelude.{slice_set}
use Rattle.std.specs.Int.{w32}
use Rattle.std.proofs.lemmas.Int.{to_z-of_z}
use Rattle.word_machine.specs.Stack.{operands}
use Rattle.word_machine.proofs.Stack.{put_on}
use Rattle.word_machine.proofs.operands.Operands.put.Goals as goal

pub returns : goal.returns
returns c =
    ap (λ w. operands (c.args.height + 1) (slice_set c.self.inside.words c.args.height w)) (to_z-of_z w32 c.args.word c.ranges.word)
    ∙ put_on c.args.height c.args.word c.self.inside.words (omega (arith, c.requires, c.self.told))
    ∙ ap (λ ws. c.args.word ∷ operands c.args.height ws) c.self.view_is
