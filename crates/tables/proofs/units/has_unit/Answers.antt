use Rattle.std.proofs.Common.{arith}
use Rattle.std.proofs.lemmas.Nat.Bits.{bit_at_above}
use Rattle.graph.proofs.Answering.{no}
use Rattle.tables.proofs.units.has_unit.Goals as goal

pub returns-then-unit-ge8 : goal.returns-then-unit-ge8
returns-then-unit-ge8 c = no _ (λ h. let z = bit_at_above c.args.mask 8 c.args.unit (omega arith) (omega arith) in absurd (omega (arith, h, z)))
