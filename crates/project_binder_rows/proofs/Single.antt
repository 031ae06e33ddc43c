-- One entry differs from no other.
use Rattle.std.proofs.Common.{◌≡◌, ℕ, List, [], ◌∷◌, length, arith}
use Rattle.graph.specs.Name.{Differ}

pub single_differs : {X : Type 0} (name_of : X → List ℕ) (xs : List X) → length xs ≡ 1 → Differ name_of xs
single_differs name_of [] e = tt
single_differs name_of (x ∷ []) e = (λ w. absurd (omega (arith, w.2)), tt)
single_differs name_of (x ∷ y ∷ xs) e = absurd (omega (arith, e))
