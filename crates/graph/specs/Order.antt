-- The order in which each place has the least number that may come next.
use Rattle.std.specs.Prelude.{◌≡◌, ℕ, ◌<◌, ◌≤◌, List, length, take, Contains, slice_index}

-- x is one of the n numbers, doesn't stand in the list yet, and all that come before x stand in it
pub record IsReady (Before : ℕ → ℕ → Type 0) (n : ℕ) (list : List ℕ) (x : ℕ) : Type 0 where
  pub is_one : x < n
  pub is_new : Contains list x → ⊥
  pub all_before : (p : ℕ) → Before p x → Contains list p

-- x is the least that is ready
pub record IsNext (Before : ℕ → ℕ → Type 0) (n : ℕ) (list : List ℕ) (x : ℕ) : Type 0 where
  pub ready : IsReady Before n list x
  pub least : (other : ℕ) → IsReady Before n list other → x ≤ other

-- each place has the least number that is ready there
abbrev pub IsInOrder : (ℕ → ℕ → Type 0) → ℕ → List ℕ → Type 0
IsInOrder Before n list = (place : ℕ) → place < length list → IsNext Before n (take place list) (slice_index list place)

-- the order of all n numbers
pub record IsOrder (Before : ℕ → ℕ → Type 0) (n : ℕ) (list : List ℕ) : Type 0 where
  pub size : length list ≡ n
  pub whole : (x : ℕ) → x < n → Contains list x
  pub each : IsInOrder Before n list

-- the numbers can be ranked so that each comes after all that come before it: nothing goes in a circle
abbrev pub HasNoCircle : (ℕ → ℕ → Type 0) → Type 0
HasNoCircle Before = (rank : ℕ → ℕ) × ((a b : ℕ) → Before a b → rank a < rank b)
