use Rattle.carries.proofs.Agreeing.{carrying_holds}
use Rattle.carries.proofs.carrying.Goals as goal

pub returns : goal.returns
returns c = carrying_holds
