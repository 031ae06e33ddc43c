use Rattle.image_carries.proofs.Carrying.{image_carries}
use Rattle.image_carries.proofs.images_carry.Goals as goal

pub returns : goal.returns
returns c = image_carries
