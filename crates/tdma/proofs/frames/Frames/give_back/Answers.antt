use Rattle.std.proofs.Common.{refl, sym, ◌∙◌}
use Rattle.std.proofs.lemmas.List.{length-set}
use Rattle.tdma.proofs.Words.{wrote_less, undone}
use Rattle.tdma.proofs.frames.Frames.give_back.Goals as goal

pub returns-clause-given : goal.returns-clause-given
returns-clause-given c =
    wrote_less c.self.inside.round c.self.inside.words.items c.args.self.now c.args.unit c.args.round c.args.words _ c.index_mut.result.now
    c.self.invariant.1 c.self.view_is c.requires.unit c.requires.round c.requires.taken (rw (c.from.ensures, c.rounds.ensures.value) refl) c.index_mut.ensures.value

pub returns-clause-undone : goal.returns-clause-undone
returns-clause-undone c before is h =
    sym (undone before c.args.self.now _ c.args.unit c.args.round c.args.words is (length-set c.self.inside.words.items _ _ ∙ c.self.invariant.1) h (returns-clause-given c))
