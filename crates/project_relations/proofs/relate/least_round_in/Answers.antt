use Rattle.std.proofs.Common.{arith}
use Rattle.project_relations.proofs.Small.{is_small, byte_within}
use Rattle.project_relations.proofs.relate.least_round_in.Goals as goal

pub least_round-requires-clause-units : goal.least_round-requires-clause-units
least_round-requires-clause-units c = rw c.units_of.ensures (byte_within 1 8 c.args.cluster.now.units (omega arith) (is_small c.args.cluster.now c.requires).units)

pub least_round-requires-clause-slot_words : goal.least_round-requires-clause-slot_words
least_round-requires-clause-slot_words c = rw c.slot_words_of.ensures (byte_within 2 64 c.args.cluster.now.slot_words (omega arith) (is_small c.args.cluster.now c.requires).slot_words)

pub least_round-requires-clause-precision : goal.least_round-requires-clause-precision
least_round-requires-clause-precision c = rw c.precision_of.ensures (byte_within 1 8 c.args.cluster.now.precision (omega arith) (is_small c.args.cluster.now c.requires).precision)
