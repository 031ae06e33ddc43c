use Rattle.std.proofs.Common.{sym, subst}
use Rattle.std.proofs.lemmas.List.Elements.{All-from_get_or, All-same}
use Rattle.graph.specs.JobGraph.{JobGraph, IsJobGraph}
use Rattle.word_code.specs.Typing.{IsVerified}
use Rattle.image_tasks.specs.Task.{code}
use Rattle.image_plant.proofs.Fits.{is_image}
use Rattle.image_plant.specs.Image.{IsImage}
use Rattle.image.specs.Helpers.{no_code}
use Rattle.image.proofs.value.Image.new.Goals as goal

pub invariant_of-result : goal.invariant_of-result
invariant_of-result c =
    let p = c.args.plant in
    subst (λ (g : JobGraph). IsImage (record p { graph = g })) (sym c.whole.ensures.same)
    (is_image p c.requires.in_order c.requires.ports (subst IsJobGraph c.whole.ensures.same c.whole.ensures.whole)
    (All-same IsVerified p.programs c.as_slice.result.now (sym c.as_slice.ensures) (All-from_get_or IsVerified c.as_slice.result.now no_code c.programs_fit.ensures.verified))
    (All-same code.fits p.programs c.as_slice.result.now (sym c.as_slice.ensures) (All-from_get_or code.fits c.as_slice.result.now no_code c.programs_fit.ensures.fits)))

pub returns-clause-image : goal.returns-clause-image
returns-clause-image c =
    let p = c.args.plant in
    subst (λ (g : JobGraph). IsImage (record p { graph = g })) (sym c.whole.ensures.same)
    (is_image p c.requires.in_order c.requires.ports (subst IsJobGraph c.whole.ensures.same c.whole.ensures.whole)
    (All-same IsVerified p.programs c.as_slice.result.now (sym c.as_slice.ensures) (All-from_get_or IsVerified c.as_slice.result.now no_code c.programs_fit.ensures.verified))
    (All-same code.fits p.programs c.as_slice.result.now (sym c.as_slice.ensures) (All-from_get_or code.fits c.as_slice.result.now no_code c.programs_fit.ensures.fits)))
