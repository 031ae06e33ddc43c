use Rattle.std.proofs.Common.{◌≡◌, ◌++◌, length, map}
use Rattle.project_image.proofs.Programs.{code_at}
use Rattle.project_image.proofs.made.programs_of.Given as goal

abbrev pub invariant-each : goal.invariant-each
invariant-each l = l.programs ++ map code_at l.left ≡ map code_at l.fn.tasks

abbrev pub decreases-each : goal.decreases-each
decreases-each l = length l.left
