-- An image's bytes under a name, and then a text for the output.
use Rattle.std.specs.Prelude.{ℕ, List}
use Rattle.stages.specs.Files.{writing}
use Rattle.stages.specs.Stage.{Stage, in_turn, printing}

abbrev pub storing : (image bytes text : List ℕ) → Stage (Unit {0})
storing image bytes text = in_turn (writing image bytes) (λ u. printing text)
