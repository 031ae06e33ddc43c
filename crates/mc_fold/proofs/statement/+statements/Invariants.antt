use Rattle.std.proofs.Common.{◌≡◌, map, take}
use Rattle.mc_fold.specs.Folded.{folded_stmt}
use Rattle.mc_fold.proofs.statement.+statements.Given as goal

abbrev pub invariant-folded_block-loop-stmt : goal.invariant-folded_block-loop-stmt
invariant-folded_block-loop-stmt l = l.folded ≡ map folded_stmt (take l.stmt-index l.stmts)
