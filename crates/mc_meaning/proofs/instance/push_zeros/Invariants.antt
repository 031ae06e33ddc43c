use Rattle.std.proofs.Common.{◌≡◌, ◌++◌, pos, replicate}
use Rattle.mc_meaning.proofs.instance.push_zeros.Given as goal

abbrev pub invariant-loop-done : goal.invariant-loop-done
invariant-loop-done l = l.words.items ≡ l.initial.words.items ++ replicate l._done (pos 0)
