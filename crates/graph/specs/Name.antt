-- The names of the entries of a section.
use Rattle.std.specs.Prelude.{◌≡◌, ℕ, List, [], ◌∷◌, All, Any}
use Rattle.mars_base.specs.Name.{IsName}

-- no two of the entries have the same name: each name differs from all after it
abbrev pub Differ : {X : Type 0} → (name_of : X → List ℕ) → List X → Type 0
Differ name_of [] = Unit {0}
Differ {X} name_of (e ∷ es) = (Any (λ (other : X). name_of other ≡ name_of e) es → ⊥) × Differ name_of es

-- the names of the entries of one section: each in its form, and no two the same
pub record AreNames {X : Type 0} (name_of : X → List ℕ) (entries : List X) : Type 0 where
  pub form : All (λ (e : X). IsName (name_of e)) entries
  pub differ : Differ name_of entries
