-- Reads and writes of files.
use Rattle.std.specs.Prelude.{◌≡◌, ◌⊎◌, ◌<◌, ◌≤◌, ℕ, List, length, Option, None, Some, Result, Ok, Err}
use Rattle.mars_base.specs.declared.file.File.{File}
use Rattle.mars_base.specs.Outside.{file_at, Wrote, Refused}
use Rattle.refusals.specs.declared.refusal.Refusal.{Refusal}
use Rattle.refusals.specs.declared.refusal.Refusal.TheVariants as refusal
use Rattle.stages.specs.Stage.{Stage}

-- the whole file, where the shelf tells
abbrev pub FileIs : Option (List File) → List ℕ → List ℕ → Type 0
FileIs None name bytes = Unit {0}
FileIs (Some files) name bytes = file_at name files ≡ Some bytes

-- a shelf that tells has no file of the name
abbrev pub IsMissing : Option (List File) → List ℕ → Type 0
IsMissing None name = ⊥
IsMissing (Some files) name = file_at name files ≡ None

-- a shelf that tells has a file above the limit
abbrev pub IsLong : Option (List File) → List ℕ → ℕ → Type 0
IsLong None name limit = ⊥
IsLong (Some files) name limit = (bytes : List ℕ) × (file_at name files ≡ Some bytes) × (limit < length bytes)

-- what a file of this name and limit gives
pub data FileGives (held : Option (List File)) (name : List ℕ) (limit : ℕ) (answer : Result (List ℕ) Refusal) : Type 0 where
  Whole : (bytes : List ℕ) → answer ≡ Ok bytes → FileIs held name bytes → length bytes ≤ limit → FileGives held name limit answer
  Missing : answer ≡ Err (refusal.ReadFault (Some name)) → IsMissing held name → FileGives held name limit answer
  Long : answer ≡ Err (refusal.TooLong (Some name)) → IsLong held name limit → FileGives held name limit answer

abbrev pub reading : List ℕ → ℕ → Stage (List ℕ)
reading name limit = record {
  meant = λ b n r. (n ≡ b) × FileGives b.files name limit r;
  cut = λ b n e. (n ≡ b) × ((e ≡ refusal.Memory) ⊎ ((e ≡ refusal.ReadFault (Some name)) ⊎ ((b.files ≡ None) × (e ≡ refusal.TooLong (Some name)))));
}

-- the file of this name holds the bytes, and every other file is as it was; after a refusal what the name holds is open
abbrev pub writing : List ℕ → List ℕ → Stage (Unit {0})
writing name bytes = record {
  meant = λ b n r. Wrote b.files n.files name bytes × (n.left ≡ b.left) × (n.out ≡ b.out) × (r ≡ Ok tt);
  cut = λ b n e. Refused b.files n.files name × (n.left ≡ b.left) × (n.out ≡ b.out) × ((e ≡ refusal.Memory) ⊎ (e ≡ refusal.WriteFault (Some name)));
}
