use Rattle.std.proofs.Common.{length, ◌-◌}
use Rattle.mc_lex.proofs.Chain.{Kept}
use Rattle.mc_lex.proofs.cut.Given as goal

abbrev pub invariant-loop-at : goal.invariant-loop-at
invariant-loop-at l = Kept l.bytes l.at l.tokens.items

abbrev pub decreases-loop-at : goal.decreases-loop-at
decreases-loop-at l = length l.bytes - l.at
