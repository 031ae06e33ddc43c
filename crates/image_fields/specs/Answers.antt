-- What reading all of the bytes answers.
use Rattle.std.specs.Prelude.{◌≡◌, ℕ, Result, Ok, Err}
use Rattle.image_fields.specs.declared.parts.Parts.{Parts}
use Rattle.image_fields.specs.declared.whole.BytesFault.{BytesFault}
use Rattle.image_fields.specs.declared.whole.BytesFault.TheVariants as fault

abbrev pub IsFault : BytesFault → Result Parts ℕ → Type 0
IsFault fault.Memory read = Unit {0}
IsFault (fault.Bytes offset) read = read ≡ Err offset

-- the answer is this one, unless memory ran out
abbrev pub Answers : Result Parts BytesFault → Result Parts ℕ → Type 0
Answers (Ok parts) read = read ≡ Ok parts
Answers (Err e) read = IsFault e read
