use Rattle.std.proofs.Common.{◌≡◌, arith}
use Rattle.image_fields.proofs.Reading.{found, only}
use Rattle.image_fields.proofs.whole.read_fields.Goals as goal

pub returns-clause-found : goal.returns-clause-found
returns-clause-found c = found c.args.bytes.now c.read_whole.result (λ i. omega (arith, c.type_inv.bytes i)) c.read_whole.ensures

pub returns-clause-only : goal.returns-clause-only
returns-clause-only c parts fits is = only c.args.bytes.now c.read_whole.result parts fits is c.read_whole.ensures
