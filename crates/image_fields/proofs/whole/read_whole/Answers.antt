use Rattle.std.proofs.Common.{◌≡◌, arith}
use Rattle.formats.proofs.Lawful.{rest_within}
use Rattle.image_fields.specs.Image.{image}
use Rattle.image_fields.proofs.LawfulImage.{image_laws}
use Rattle.image_fields.proofs.whole.read_whole.Goals as goal

pub offset-requires-clause-within : goal.offset-requires-clause-within
offset-requires-clause-within c = rest_within image image_laws c.args.bytes.now c.in-Ok.parts c.in-Ok.rest.now (λ i. omega (arith, c.type_inv.bytes i)) c.in-Ok.ensures

pub offset-requires-in-Err-Left-clause-within : goal.offset-requires-in-Err-Left-clause-within
offset-requires-in-Err-Left-clause-within c = image_laws.within c.args.bytes.now c.in-Err-Left.left (λ i. omega (arith, c.type_inv.bytes i)) (rw c.in-Err-Left.field-0-is at c.in-Err-Left.ensures)
