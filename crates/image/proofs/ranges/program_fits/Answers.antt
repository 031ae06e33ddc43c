use Rattle.std.proofs.Common.{sym, ap, ◌∙◌}
use Rattle.std.proofs.lemmas.List.Elements.{All-same}
use Rattle.word_code.specs.declared.code.Code.{Code}
use Rattle.image_parts.specs.Slot.{slot}
use Rattle.image_plant.proofs.Codes.{low_heights, code_fits}
use Rattle.image.proofs.ranges.program_fits.Goals as goal

pub slots_fit-requires : goal.slots_fit-requires
slots_fit-requires c = rw (c.as_slice.ensures, c.code.ensures.value) (low_heights c.args.program.now c.code.ensures.verified)

pub returns-clause-fits : goal.returns-clause-fits
returns-clause-fits c =
    let same = c.as_slice.ensures ∙ ap (λ (k : Code). k.instrs) c.code.ensures.value in
    code_fits c.args.program.now c.code.ensures.verified (All-same slot.fits c.args.program.now.instrs c.as_slice.result.now (sym same) c.slots_fit.ensures)
