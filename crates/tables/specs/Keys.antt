-- The messages that must be there, and what is left of a list after them. Only the contracts of private functions cite this.
use Rattle.std.specs.Prelude.{ℕ, ◌&&◌, ◌==◌, List, [], ◌∷◌, Option, None, Some, if◌then◌else◌}

-- what is left after these keys, where the list begins with them
unfoldable pub strip : List (ℕ × ℕ) → List (ℕ × ℕ) → Option (List (ℕ × ℕ))
strip [] xs = Some xs
strip (k ∷ ks) [] = None
strip (k ∷ ks) (x ∷ xs) = if (k.0 == x.0) && (k.1 == x.1) then strip ks xs else None
