use Rattle.std.proofs.Common.{ℕ, ◌<◌, get_or}
use Rattle.word_code.specs.Typing.{IsVerified}
use Rattle.image_tasks.specs.Task.{code}
use Rattle.image.specs.Helpers.{no_code}
use Rattle.image.proofs.ranges.programs_fit.Given as goal

abbrev pub invariant-loop-place : goal.invariant-loop-place
invariant-loop-place l = record {
  verified : (place : ℕ) → place < l.place → IsVerified (get_or l.programs place no_code);
  fits : (place : ℕ) → place < l.place → code.fits (get_or l.programs place no_code);
}
