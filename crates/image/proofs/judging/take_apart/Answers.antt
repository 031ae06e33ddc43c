use Rattle.image_plant.proofs.Made.{all_narrow}
use Rattle.image.proofs.judging.take_apart.Goals as goal

pub returns-then-not-are_all_narrow-clause-fault : goal.returns-then-not-are_all_narrow-clause-fault
returns-then-not-are_all_narrow-clause-fault c = λ sound.
    let narrow = c.are_all_narrow.ensures.1 (rw c.as_slice.ensures (all_narrow c.args.parts sound)) in
    absurd (cc (narrow, c.if-not-are_all_narrow.true))
