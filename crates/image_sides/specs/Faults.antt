-- What a fault says of the codes.
use Rattle.std.specs.Prelude.{List}
use Rattle.word_code.specs.declared.code.Code.{Code}
use Rattle.image_sides.specs.First.{IsFirstUnverified}
use Rattle.image_sides.specs.declared.codes.CodesFault.{CodesFault}
use Rattle.image_sides.specs.declared.codes.CodesFault.TheVariants as fault

abbrev pub IsCodesFault : List Code → CodesFault → Type 0
IsCodesFault codes (fault.Code k) = IsFirstUnverified codes k
IsCodesFault codes fault.Memory = Unit {0}
