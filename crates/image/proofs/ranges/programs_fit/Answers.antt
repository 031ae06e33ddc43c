use Rattle.std.proofs.Common.{get_or}
use Rattle.word_code.specs.Typing.{IsVerified}
use Rattle.image_tasks.specs.Task.{code}
use Rattle.image.specs.Helpers.{no_code}
use Rattle.image.proofs.Encoded.{one_more_place}
use Rattle.image.proofs.ranges.programs_fit.Goals as goal

pub loop-place-preserved : goal.loop-place-preserved
loop-place-preserved c = record {
  verified = one_more_place (λ k. IsVerified (get_or c.args.programs.now k no_code)) c.loop-place.place c.loop-place.invariant.verified c.program_fits_at.ensures.verified;
  fits = one_more_place (λ k. code.fits (get_or c.args.programs.now k no_code)) c.loop-place.place c.loop-place.invariant.fits c.program_fits_at.ensures.fits;
}
