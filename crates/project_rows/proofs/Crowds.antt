-- How many entries a section has.
use Rattle.std.proofs.Common.{◌≡◌, ℕ, List, length, Option, subst}
use Rattle.project_sheet.specs.First.{IsLeast}
use Rattle.project_rows.specs.Rules.{Crowded}

-- a section's count is that of an equal list
pub crowd_at : {X : Type 0} (least most : ℕ) (xs ys : List X) (r : Option ℕ) → xs ≡ ys → IsLeast (Crowded least most (length xs)) r → IsLeast (Crowded least most (length ys)) r
crowd_at {X} least most xs ys r e h = subst (λ (l : List X). IsLeast (Crowded least most (length l)) r) e h
