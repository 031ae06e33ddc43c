use Rattle.std.proofs.Common.{◌≡◌, map, take}
use Rattle.mc_fold.specs.Folded.{folded_func}
use Rattle.mc_fold.proofs.task.folded_funcs.Given as goal

abbrev pub invariant-loop-func : goal.invariant-loop-func
invariant-loop-func l = l.folded ≡ map folded_func (take l.func-index l.funcs)
