use Rattle.std.proofs.Common.{ap, ◌∙◌, ap₂}
use Rattle.placement.specs.Feeding.{place_in}
use Rattle.reached.proofs.Good.{good}
use Rattle.placement.proofs.Finding.{job_found}
use Rattle.placement.proofs.into_tables.decision_on.Goals as goal

pub returns : goal.returns
returns c =
    let s = c.args.state.now in
    let f = job_found s.problem s.placed.items s.places.items (good s.problem s.placed.items c.requires.reached) c.requires.jobs c.args.job in
    c.find.ensures ∙ (ap₂ (λ l t. place_in l t c.from.result) c.as_slice.ensures.value c.as_slice-2.ensures.value ∙ (ap (λ n. place_in s.placed.items s.places.items n) c.from.ensures ∙ f))
