-- What holds of every storing of an image.
use Rattle.std.proofs.Common.{ℕ, List}
use Rattle.stages.specs.Files.{writing}
use Rattle.stages.specs.Stage.{printing}
use Rattle.stages.proofs.Relations.{Passes}
use Rattle.stages.proofs.SoundFacts.{passes_turn, passes_writing, passes_printing}
use Rattle.build_store.specs.Store.{storing}

-- it means one answer, leaves the input as it was, only adds to the output, and where it is cut off a front of its text was put
pub passes_storing : (image bytes text : List ℕ) → Passes (storing image bytes text)
passes_storing image bytes text = passes_turn (writing image bytes) (λ u. printing text) (passes_writing image bytes) (λ u. passes_printing text)
