-- The first repeat of a name as the least entry of a rule.
use Rattle.std.proofs.Common.{◌≡◌, ℕ, List, map, Option, Some, None, subst}
use Rattle.project_sheet.specs.First.{IsLeast}
use Rattle.distinct_names.specs.Repeats.{Repeats, IsFirstRepeat}

as_least : (names : List (List ℕ)) (r : Option ℕ) → IsFirstRepeat names r → IsLeast (Repeats names) r
as_least names None h = record { least = h }
as_least names (Some i) h = record { least = h }

-- the first repeat of a section's names
pub names_of : {X : Type 0} (f : X → List ℕ) (xs ys : List X) (r : Option ℕ) → xs ≡ ys → IsFirstRepeat (map f xs) r → IsLeast (Repeats (map f ys)) r
names_of {X} f xs ys r e h = subst (λ (l : List X). IsLeast (Repeats (map f l)) r) e (as_least (map f xs) r h)
