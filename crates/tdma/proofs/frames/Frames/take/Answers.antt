use Rattle.std.proofs.Common.{refl}
use Rattle.tdma.proofs.Words.{wrote_more}
use Rattle.tdma.proofs.frames.Frames.take.Goals as goal

pub returns-clause-taken : goal.returns-clause-taken
returns-clause-taken c =
    wrote_more c.self.inside.round c.self.inside.words.items c.args.self.now c.args.unit c.args.round c.args.words _ c.index-offset.result.now
    c.self.invariant.1 c.self.view_is c.requires.unit c.requires.round (rw (c.from.ensures, c.rounds.ensures.value) refl) c.index-offset.ensures
