use Rattle.image_sides.proofs.Widths.{few_states}
use Rattle.image_sides.proofs.state.words_of.Goals as goal

pub state_width-requires : goal.state_width-requires
state_width-requires c = rw (c.as_slice.ensures, c.code.ensures.value) (few_states c.args.program.now c.code.ensures.verified)
