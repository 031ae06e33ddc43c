use Rattle.std.proofs.Common.{ap, ◌∙◌}
use Rattle.std.specs.Prelude.{is_some, slice_get}
use Rattle.placement.specs.Feeding.{flat}
use Rattle.reached.proofs.Good.{good}
use Rattle.placement.proofs.Finding.{job_found, job_there}
use Rattle.placement.proofs.fits.is_placed.Goals as goal

pub returns : goal.returns
returns c =
    let s = c.args.state.now in
    let f = job_found s.problem s.placed.items s.places.items (good s.problem s.placed.items c.requires.reached) c.requires.jobs c.args.job in
    c.has_place.ensures ∙ (ap (λ t. is_some (flat (slice_get t c.from.result))) c.as_slice.ensures.value ∙ (ap (λ n. is_some (flat (slice_get s.places.items n))) c.from.ensures
    ∙ (job_there s.problem s.placed.items s.places.items c.requires.jobs c.args.job ∙ ap is_some f)))
