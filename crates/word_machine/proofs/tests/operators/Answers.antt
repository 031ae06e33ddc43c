use Rattle.std.proofs.Common.{refl}
use Rattle.word_code.proofs.Checked.{checked}
use Rattle.word_machine.proofs.tests.operators.Goals as goal

pub run-requires-clause-verified : goal.run-requires-clause-verified
run-requires-clause-verified c = checked _ refl
