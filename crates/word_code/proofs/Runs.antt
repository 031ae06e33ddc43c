-- The word machine's runs.
use Rattle.std.proofs.Common.{◌≡◌, List, ℤ}
use Rattle.processor.specs.Ends.{End}
use Rattle.word_code.specs.Runs.{Run}
use Rattle.word_code.specs.State.{State}
use Rattle.word_code.specs.Step.{machine_of}
use Rattle.processor.specs.System.{cycles_of}
use Rattle.word_code.specs.declared.code.Slot.{Slot}
use Rattle.word_code.proofs.Exec.{costed}
use Rattle.processor.proofs.Ties.{runs_once}

-- a state has one run: its end and its cycles
pub run_once : (instrs : List Slot) (s : State) (how other : End (List ℤ)) (r : Run instrs s how) (u : Run instrs s other)
    → (how ≡ other) × (cycles_of r ≡ cycles_of u)
run_once instrs s how other r u = runs_once (machine_of instrs) (costed instrs) s how other r u
