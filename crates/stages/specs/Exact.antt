-- What a call leaves is exactly what its stages mean, unless want of memory or a counted fault cut it off.
use Rattle.std.specs.Prelude.{◌≡◌, ◌⊎◌, ℕ, List, Option, None, Some, Result, Err}
use Rattle.std.specs.Io.KnownBytes.{append_known}
use Rattle.mars_base.specs.declared.file.File.{File}
use Rattle.mars_base.specs.Outside.{file_at}
use Rattle.refusals.specs.Causes.{Counts, Caused}
use Rattle.refusals.specs.declared.refusal.Refusal.{Refusal}
use Rattle.stages.specs.Stage.{Stage}
use Rattle.stages.specs.World.{Held}

-- both tell their files, and each name has the same bytes
abbrev pub FilesAlike : Option (List File) → Option (List File) → Type 0
FilesAlike None g = ⊥
FilesAlike (Some x) None = ⊥
FilesAlike (Some x) (Some y) = (name : List ℕ) → file_at name x ≡ file_at name y

-- both tell the input that is left, and it is the same
abbrev pub LeftAlike : Option (List ℕ) → Option (List ℕ) → Type 0
LeftAlike None g = ⊥
LeftAlike (Some x) None = ⊥
LeftAlike (Some x) (Some y) = x ≡ y

-- the same files and the same output
pub record SameEnd (a b : Held) : Type 0 where
  pub files_alike : FilesAlike a.files b.files
  pub out_same : a.out ≡ b.out

-- and the same input
pub record Alike (a b : Held) : Type 0 where
  pub ends_alike : SameEnd a b
  pub left_alike : LeftAlike a.left b.left

-- the output of the one is a front of the other's
abbrev pub IsFront : Held → Held → Type 0
IsFront n m = (rest : List ℕ) × (m.out ≡ append_known n.out rest)

-- Where the files and the input are told: what the stages mean is what was answered and left, or the call was cut
-- off, and a front of the output that they mean was put.
abbrev pub Exact : {A : Type 0} → Stage A → Held → Held → Counts → Counts → Result A Refusal → Type 0
Exact {A} stage before now counts counts' answer = Alike before before → (n : Held) (r : Result A Refusal) → stage.meant before n r
    → ((answer ≡ r) × SameEnd now n) ⊎ (((e : Refusal) × (answer ≡ Err e) × Caused counts counts' e) × IsFront now n)
