use Rattle.std.proofs.Common.{◌≡◌, map, take}
use Rattle.image_sides.specs.Sides.{state_words}
use Rattle.image_sides.proofs.state.states_of.Given as goal

abbrev pub invariant-loop-program : goal.invariant-loop-program
invariant-loop-program l = l.states ≡ map state_words (take l.program-index l.programs)
