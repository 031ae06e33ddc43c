-- Symbol tables: each name once, with what its first declaration makes of it.
use Rattle.std.specs.Prelude.{ℕ, Bool, true, false, cond, Option, Some, None, List, [], ◌∷◌, bytes_eq}

abbrev pub Table : Type 0 → Type 0
Table V = List (List ℕ × V)

-- what a name stands for
abbrev pub look : {V : Type 0} → List ℕ → Table V → Option V
look x [] = None
look x (e ∷ es) = cond (bytes_eq x e.0) (Some e.1) (look x es)

-- one more declaration; where the name is there already, the first one stays
abbrev pub declare : {V : Type 0} → List ℕ → V → Table V → Table V
declare x v [] = (x, v) ∷ []
declare x v (e ∷ es) = cond (bytes_eq x e.0) (e ∷ es) (e ∷ declare x v es)

abbrev pub is_some : {V : Type 0} → Option V → Bool
is_some None = false
is_some (Some v) = true

abbrev pub or_else : {V : Type 0} → Option V → Option V → Option V
or_else None b = b
or_else (Some v) b = Some v
