-- A text that goes out by way of a buffer, as a stage.
use Rattle.std.specs.Prelude.{◌≡◌, ℕ, List, Result, Ok}
use Rattle.refusals.specs.declared.refusal.Refusal.{Refusal}
use Rattle.stages.specs.Stage.{Stage, in_turn, judging, printing}

-- what takes memory alone gives nothing
abbrev pub IsDone : Result (Unit {0}) Refusal → Type 0
IsDone r = r ≡ Ok tt

-- memory for a buffer, and then the text
abbrev pub showing : (text : List ℕ) → Stage (Unit {0})
showing text = in_turn (judging IsDone) (λ u. printing text)
