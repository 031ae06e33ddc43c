use Rattle.image_carries.proofs.Carrying.{read_carries}
use Rattle.image_carries.proofs.decode_carried.Goals as goal

pub returns-clause-carried : goal.returns-clause-carried
returns-clause-carried c s carry = read_carries s carry.plant c.decode.result carry.carries (c.decode.ensures.only carry.plant carry.is_image carry.bytes_are)

pub returns-clause-read : goal.returns-clause-read
returns-clause-read c s carry = c.decode.ensures.only carry.plant carry.is_image carry.bytes_are
