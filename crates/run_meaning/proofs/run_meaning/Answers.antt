use Rattle.run_meaning.proofs.Whole.{run_meaning}
use Rattle.run_meaning.proofs.run_meaning.Goals as goal

pub returns : goal.returns
returns c = run_meaning
