use Rattle.went.proofs.Whole.{went_as_meant}
use Rattle.went.proofs.went_as_meant.Goals as goal

pub returns : goal.returns
returns c = went_as_meant
