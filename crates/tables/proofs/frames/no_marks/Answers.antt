use Rattle.tables.proofs.Sharing.{no_mark}
use Rattle.tables.proofs.frames.no_marks.Goals as goal

pub returns : goal.returns
returns c = λ tick m. no_mark 65536 tick m
