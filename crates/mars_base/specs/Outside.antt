-- What the calls of the outside do to what it holds. An object that doesn't tell what it holds has None.
use Rattle.std.specs.Prelude.{◌≡◌, ◌≢◌, ◌<◌, ◌+◌, ℕ, List, [], ◌∷◌, length, take, Option, None, Some, Result, MatchResult, IsErrOf, if◌then◌else◌}
use Rattle.std.specs.Str.{bytes_eq}
use Rattle.std.specs.Io.KnownBytes.{append_known, prepend_known, IsAtEnd}
use Rattle.mars_base.specs.Causes.{Rose}
use Rattle.mars_base.specs.declared.outside.ShelfFault.{ShelfFault}
use Rattle.mars_base.specs.declared.outside.ShelfFault.TheVariants as fault
use Rattle.mars_base.specs.declared.file.File.{File}

-- the bytes of the first file with the name
abbrev pub file_at : List ℕ → List File → Option (List ℕ)
file_at name [] = None
file_at name (f ∷ files) = if bytes_eq f.name name then Some f.bytes else file_at name files

-- the place of the first file with the name, or the number of files
abbrev pub place_at : List ℕ → List File → ℕ
place_at name [] = 0
place_at name (f ∷ files) = if bytes_eq f.name name then 0 else place_at name files + 1

-- every file but that one is as it was
abbrev pub SameBut : List ℕ → List File → List File → Type 0
SameBut name old new = (other : List ℕ) → other ≢ name → file_at other new ≡ file_at other old

-- a write left the bytes under the name, and every other file as it was
abbrev pub Wrote : Option (List File) → Option (List File) → List ℕ → List ℕ → Type 0
Wrote None None name bytes = Unit {0}
Wrote None (Some new) name bytes = ⊥
Wrote (Some old) None name bytes = ⊥
Wrote (Some old) (Some new) name bytes = (file_at name new ≡ Some bytes) × SameBut name old new

-- a refused write left every other file as it was
abbrev pub Refused : Option (List File) → Option (List File) → List ℕ → Type 0
Refused None None name = Unit {0}
Refused None (Some new) name = ⊥
Refused (Some old) None name = ⊥
Refused (Some old) (Some new) name = SameBut name old new

-- what a read of a shelf that tells answers: the whole file, or which fault it is; a file that isn't there counts nowhere
abbrev pub ReadsTold : {V : Type 0} → (V → List ℕ) → List File → List ℕ → ℕ → Result V ShelfFault → ℕ → ℕ → Type 0
ReadsTold bytes_of files name limit result before now = MatchResult result
    (λ bytes. file_at name files ≡ Some (bytes_of bytes))
    (λ e. (e ≡ fault.Missing → (file_at name files ≡ None) × (now ≡ before))
    × (e ≡ fault.TooLong → (bytes : List ℕ) × (file_at name files ≡ Some bytes) × (limit < length bytes)))

-- a read of a shelf that doesn't tell answers these two only where a read failed
abbrev pub ReadsUntold : {V : Type 0} → Result V ShelfFault → ℕ → ℕ → Type 0
ReadsUntold result before now =
    (IsErrOf result fault.Missing → Rose before now) × (IsErrOf result fault.TooLong → Rose before now)

abbrev pub Reads : {V : Type 0} → (V → List ℕ) → Option (List File) → List ℕ → ℕ → Result V ShelfFault → ℕ → ℕ → Type 0
Reads bytes_of None name limit result before now = ReadsUntold result before now
Reads bytes_of (Some files) name limit result before now = ReadsTold bytes_of files name limit result before now

-- a write tells no other fault than these
abbrev pub WritesOnly : {V : Type 0} → Result V ShelfFault → Type 0
WritesOnly result = (IsErrOf result fault.Missing → ⊥) × (IsErrOf result fault.TooLong → ⊥)

-- a read moves n bytes from the front of what is left; it gives none only at the end or with no room
abbrev pub Takes : {E : Type 0} → Option (List ℕ) → Option (List ℕ) → Result ℕ E → List ℕ → Type 0
Takes old new result buf = MatchResult result
    (λ n. (old ≡ prepend_known (take n buf) new) × (n ≡ 0 → 0 < length buf → IsAtEnd new))
    (λ _. new ≡ old)

-- a put appends the bytes, or at an error a front of them
abbrev pub Puts : {E : Type 0} → Option (List ℕ) → Option (List ℕ) → Result (Unit {0}) E → List ℕ → Type 0
Puts old new result bytes = MatchResult result
    (λ _. new ≡ append_known old bytes)
    (λ _. (n : ℕ) × (new ≡ append_known old (take n bytes)))
