-- What stands first among bytes.
use Rattle.std.specs.Prelude.{◌≡◌, ℕ, ◌-◌, ◌<◌, ◌≤◌, List, length, slice_index, Option, ◌⊎◌}
use Rattle.std.specs.Io.KnownBytes.{IsAtEnd}
use Rattle.lines.specs.declared.reader.Found.{Found}
use Rattle.lines.specs.declared.reader.Found.TheVariants.{Line, Rest, Long}

-- no line feed stands below a place
abbrev pub NoFeedBelow : ℕ → List ℕ → Type 0
NoFeedBelow n bytes = (k : ℕ) → k < n → slice_index bytes k ≡ 10 → ⊥

-- a line feed stands among the bytes
abbrev pub HoldsFeed : List ℕ → Type 0
HoldsFeed bytes = (k : ℕ) × (k < length bytes) × (slice_index bytes k ≡ 10)

-- so many bytes stand up to the last line feed with it, or there is none
pub record IsWhole (n : ℕ) (bytes : List ℕ) : Type 0 where
  pub within : n ≤ length bytes
  pub none : (k : ℕ) → n ≤ k → k < length bytes → slice_index bytes k ≡ 10 → ⊥
  pub here : 0 < n → slice_index bytes (n - 1) ≡ 10

-- what so many bytes without a line feed mean
abbrev pub WithoutFeed : ℕ → Found → Type 0
WithoutFeed count Line = ⊥
WithoutFeed count Rest = count ≤ 65536
WithoutFeed count Long = 65536 < count

-- the first line feed stands at a place
pub record IsFirstFeed (n : ℕ) (bytes : List ℕ) : Type 0 where
  pub within : n < length bytes
  pub before : NoFeedBelow n bytes
  pub here : slice_index bytes n ≡ 10

-- a line feed stands among the bytes; or there is none, and either nothing follows or the line is too long
abbrev pub Finds : List ℕ → Option (List ℕ) → Found → Type 0
Finds kept left Line = HoldsFeed kept
Finds kept left Rest = NoFeedBelow (length kept) kept × (length kept ≤ 65536) × IsAtEnd left
Finds kept left Long = NoFeedBelow (length kept) kept × (65536 < length kept)

-- no line feed came: the bytes are too many for a line, or nothing follows them
abbrev pub NoneCame : List ℕ → Option (List ℕ) → Type 0
NoneCame kept left = (65536 < length kept) ⊎ ((length kept ≤ 65536) × IsAtEnd left)
