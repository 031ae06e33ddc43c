-- Vectors over the max-plus semiring of costs, after Baccelli, Cohen, Olsder and Quadrat, 'Synchronization and
-- Linearity', 1992: the sum of two costs is the greater one, and their product is the cost of both, one after
-- the other. A vector has an entry for each index. The entry 0 is impossible, the semiring's zero, and an entry
-- v above 0 is the cost v - 1, so that the entry 1 is its one.
use Rattle.std.specs.Prelude.{◌≡◌, ℕ, zero, suc, ◌+◌, ◌-◌, ◌^◌, ◌≤◌, List, max, min, slice_index, EachIndex}

-- the product of two entries: x + y - 1, the cost of both, where both are above 0, and impossible where one is not
abbrev pub product : ℕ → ℕ → ℕ
product zero y = 0
product (suc x) zero = 0
product (suc x) (suc y) = suc (x + y)

-- the sum of h at the indices below n: the greatest entry there, and impossible where no entry is possible
abbrev pub greatest_below : ℕ → (ℕ → ℕ) → ℕ
greatest_below zero h = 0
greatest_below (suc n) h = max (greatest_below n h) (h n)

-- at k the greatest product of f at i and g at j, over all i and j with i + j = k
unfoldable pub convolution : (ℕ → ℕ) → (ℕ → ℕ) → ℕ → ℕ
convolution f g k = greatest_below (suc k) (λ i. product (f i) (g (k - i)))

-- the vector 1, 0, 0 and so on: nothing is done, at no cost
abbrev pub identity : ℕ → ℕ
identity zero = 1
identity (suc k) = 0

-- the j-fold convolution of f
unfoldable pub fold_convolution : (ℕ → ℕ) → ℕ → ℕ → ℕ
fold_convolution f zero = identity
fold_convolution f (suc j) = convolution f (fold_convolution f j)

-- at k the greatest entry of the j-fold convolutions of f, over j from 0 to n
unfoldable pub greatest_fold : (ℕ → ℕ) → ℕ → ℕ → ℕ
greatest_fold f n k = greatest_below (suc n) (λ j. fold_convolution f j k)

-- the greatest entry that is told apart
abbrev pub cap : ℕ
cap = 2 ^ 40

-- the vector that a list holds, impossible past its end
abbrev pub entries : List ℕ → ℕ → ℕ
entries v k = slice_index v k

-- no entry passes the cap
abbrev pub IsWithinCap : List ℕ → Type 0
IsWithinCap v = EachIndex v (λ k. entries v k ≤ cap)

-- the list holds f as far as it goes, each entry capped
abbrev pub HoldsCapped : List ℕ → (ℕ → ℕ) → Type 0
HoldsCapped v f = EachIndex v (λ k. entries v k ≡ min (f k) cap)
