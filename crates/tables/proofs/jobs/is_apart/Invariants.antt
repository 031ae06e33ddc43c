use Rattle.tables.specs.Progress.{IsApart}
use Rattle.tables.proofs.jobs.is_apart.Given as goal

abbrev pub invariant-loop-other : goal.invariant-loop-other
invariant-loop-other l = IsApart l.entries l.job l.other
