use Rattle.whole_meaning.proofs.Whole.{whole_meaning}
use Rattle.whole_meaning.proofs.whole_meaning.Goals as goal

pub returns : goal.returns
returns c = whole_meaning
