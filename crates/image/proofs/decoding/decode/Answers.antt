use Rattle.image.proofs.Settled.{has_image, only, only_fault}
use Rattle.image.proofs.decoding.decode.Goals as goal

pub returns-clause-ok : goal.returns-clause-ok
returns-clause-ok c = has_image c.args.bytes.now c.decode_once.result c.decode_once.ensures.ok

pub returns-clause-only : goal.returns-clause-only
returns-clause-only c plant is e = only c.args.bytes.now plant c.decode_once.result is e c.decode_once.ensures.ok c.decode_once.ensures.fault

pub returns-clause-only_fault : goal.returns-clause-only_fault
returns-clause-only_fault c e first = only_fault c.args.bytes.now e c.decode_once.result first c.decode_once.ensures.ok c.decode_once.ensures.fault
