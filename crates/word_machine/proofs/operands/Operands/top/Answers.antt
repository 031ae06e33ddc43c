use Rattle.std.proofs.Common.{◌≡◌, ◌∙◌, ◌∷◌, ◌-◌, pos, sym, ap, rules}
use Rattle.std.specs.Prelude.{slice_index_or}
use Rattle.std.specs.Int.{w32}
use mir.Val.{to_z, of_z}
use Rattle.word_machine.specs.Stack.{operands}
use Rattle.word_machine.proofs.Stack.{top_of}
use Rattle.word_machine.proofs.operands.Operands.top.Goals as goal

pub returns : goal.returns
returns c =
    let word = slice_index_or c.self.inside.words (c.args.height - 1) (pos 0) in
    let read : to_z w32 (of_z w32 word) ≡ word = search rules in
    ap (operands c.args.height) (sym c.self.view_is) ∙ top_of c.args.height c.self.inside.words c.requires.some
    ∙ ap (λ w. w ∷ operands (c.args.height - 1) c.self.inside.words) (sym read)
    ∙ ap (λ ws. to_z w32 (of_z w32 word) ∷ operands (c.args.height - 1) ws) c.self.view_is
