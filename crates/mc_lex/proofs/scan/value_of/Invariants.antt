use Rattle.std.proofs.Common.{◌≡◌, ◌^◌, take, min}
use Rattle.mc_tree.specs.Lexeme.{value}
use Rattle.mc_lex.proofs.scan.value_of.Given as goal

abbrev pub invariant-loop-digit : goal.invariant-loop-digit
invariant-loop-digit l = l.n ≡ min (value (take l.digit-index l.digits)) (2 ^ 32)
