use Rattle.seen_cycles.proofs.Whole.{whole_texts}
use Rattle.seen_cycles.proofs.whole_texts.Goals as goal

pub returns : goal.returns
returns c = whole_texts
