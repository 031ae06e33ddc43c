-- What a test answers.
use Rattle.std.proofs.Common.{◌↔◌, true, false, refl}
use Rattle.std.specs.Prelude.{IsTrue}
use Rattle.std.proofs.lemmas.Bool.{false≢true}

-- false, where the fact can't hold
pub no : (P : Type 0) → (P → ⊥) → IsTrue false ↔ P
no P not = (λ e. absurd (false≢true e), λ h. absurd (not h))

-- true, where it holds
pub yes : (P : Type 0) → P → IsTrue true ↔ P
yes P h = (λ _. h, λ _. refl)
