use Rattle.cycle_text.proofs.Laws.{lines_are_text}
use Rattle.cycle_text.proofs.lines_are_text.Goals as goal

pub returns : goal.returns
returns c = lines_are_text
