use Rattle.std.proofs.Common.{ap, ◌∙◌, ap₂}
use Rattle.placement.specs.Feeding.{place_in, spot_of}
use Rattle.reached.proofs.Good.{good}
use Rattle.placement.proofs.Finding.{job_found}
use Rattle.placement.proofs.fits.spot_of.Goals as goal

pub returns : goal.returns
returns c =
    let s = c.args.state.now in
    let f = job_found s.problem s.placed.items s.places.items (good s.problem s.placed.items c.requires.reached) c.requires.jobs c.args.job in
    c.spot.ensures ∙ (ap₂ (λ l t. spot_of (place_in l t c.from.result)) c.as_slice.ensures.value c.as_slice-2.ensures.value ∙ (ap (λ n. spot_of (place_in s.placed.items s.places.items n)) c.from.ensures ∙ ap spot_of f))
