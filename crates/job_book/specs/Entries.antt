-- A job as the program holds it.
use Rattle.std.specs.Prelude.{ℕ, List, length, ℤ}
use Rattle.job_book.specs.declared.book.Entry.{Entry}
use Rattle.job_book.specs.declared.book.Stage.{Stage}
use Rattle.job_book.specs.declared.book.Stage.TheVariants as stage
use Rattle.job_book.specs.Known.{Known, Waiting, InHand, Gave, Broke, PassedOver}

abbrev pub known_at : Stage → (outs : List ℤ) → Known
known_at stage.Waiting outs = Waiting
known_at stage.InHand outs = InHand
known_at stage.Gave outs = Gave outs
known_at stage.Broke outs = Broke
known_at stage.PassedOver outs = PassedOver

abbrev pub known_of : Entry → Known
known_of e = known_at e.stage e.outs.items

abbrev pub room_of : Entry → ℕ
room_of e = length e.outs.items
