use Rattle.lost_units.proofs.Whole.{losses_are_text}
use Rattle.lost_units.proofs.losses_are_text.Goals as goal

pub returns : goal.returns
returns c = losses_are_text
