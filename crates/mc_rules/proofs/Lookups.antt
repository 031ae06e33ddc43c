-- Looking names up in symbol tables.
use Rattle.std.proofs.Common.{◌≡◌, ◌≢◌, ℕ, ◌⊎◌, inl, inr, Bool, true, false, cond, List, [], ◌∷◌, Option, Some, None, refl, ap, sym, ◌∙◌}
use Rattle.std.specs.Prelude.{bytes_eq}
use Rattle.std.proofs.lemmas.Slice.Eq.{bytes_eq-Decides}
use Rattle.mc_tree.specs.Symbols.{Table, look, declare, is_some, or_else}

pub same_bytes : (x y : List ℕ) → bytes_eq x y ≡ true → x ≡ y
same_bytes x y h = (bytes_eq-Decides x y).0 h

pub bytes_same : (x y : List ℕ) → x ≡ y → bytes_eq x y ≡ true
bytes_same x y h = (bytes_eq-Decides x y).1 h

-- a test that passes at y and fails at x tells them apart
apart : (x y z : List ℕ) → bytes_eq y z ≡ true → bytes_eq x z ≡ false → bytes_eq x y ≡ false
apart x y z h g =
    let e = same_bytes y z h in
    ap (bytes_eq x) e ∙ g

left_or : {V : Type 0} (o : Option V) → o ≡ or_else o None
left_or None = refl
left_or (Some u) = refl

-- what a name stands for after one more declaration
pub look_declared : {V : Type 0} (x y : List ℕ) (v : V) (t : Table V) → look x (declare y v t) ≡ or_else (look x t) (cond (bytes_eq x y) (Some v) None)
look_declared x y v [] = refl
look_declared {V} x y v (e ∷ es) = by (bytes_eq y e.0) (bytes_eq x e.0) refl refl (look_declared x y v es)
  where
    by : (a b : Bool) → bytes_eq y e.0 ≡ a → bytes_eq x e.0 ≡ b → look x (declare y v es) ≡ or_else (look x es) (cond (bytes_eq x y) (Some v) None)
        → look x (cond a (e ∷ es) (e ∷ declare y v es)) ≡ or_else (cond b (Some e.1) (look x es)) (cond (bytes_eq x y) (Some v) None)
    by true true h g r = ap (λ c. cond c (Some e.1) (look x es)) g
    by true false h g r = ap (λ c. cond c (Some e.1) (look x es)) g ∙ left_or (look x es) ∙ ap (λ c. or_else (look x es) (cond c (Some v) None)) (sym (apart x y e.0 h g))
    by false true h g r = ap (λ c. cond c (Some e.1) (look x (declare y v es))) g
    by false false h g r = ap (λ c. cond c (Some e.1) (look x (declare y v es))) g ∙ r

-- the test of bytes fails where they differ
pub differs : (x y : List ℕ) → bytes_eq x y ≡ false → x ≢ y
differs x y h e = let c : true ≡ false = sym (bytes_same x y e) ∙ h in cc

-- what was found is found after one more declaration; and what is found then was found before, or is the new one
pub still_some : {V : Type 0} (x y : List ℕ) (v : V) (t : Table V) → is_some (look x t) ≡ true → is_some (look x (declare y v t)) ≡ true
still_some {V} x y v t h = ap is_some (look_declared x y v t) ∙ by (look x t) h
  where
    by : (o : Option V) → is_some o ≡ true → is_some (or_else o (cond (bytes_eq x y) (Some v) None)) ≡ true
    by None h = absurd (let c : false ≡ true = h in cc)
    by (Some u) h = refl

pub now_some : {V : Type 0} (y : List ℕ) (v : V) (t : Table V) → is_some (look y (declare y v t)) ≡ true
now_some {V} y v t = ap is_some (look_declared y y v t) ∙ ap (λ b. is_some (or_else (look y t) (cond b (Some v) None))) (bytes_same y y refl) ∙ by (look y t)
  where
    by : (o : Option V) → is_some (or_else o (Some v)) ≡ true
    by None = refl
    by (Some u) = refl

pub found_before : {V : Type 0} (x y : List ℕ) (v u : V) (t : Table V) → look x (declare y v t) ≡ Some u → (look x t ≡ Some u) ⊎ ((look x t ≡ None) × (x ≡ y) × (v ≡ u))
found_before {V} x y v u t h = by (look x t) (bytes_eq x y) refl refl (sym (look_declared x y v t) ∙ h)
  where
    by : (o : Option V) (b : Bool) → look x t ≡ o → bytes_eq x y ≡ b → or_else o (cond (bytes_eq x y) (Some v) None) ≡ Some u → (look x t ≡ Some u) ⊎ ((look x t ≡ None) × (x ≡ y) × (v ≡ u))
    by (Some w) b o e h = inl (o ∙ h)
    by None true o e h =
        let g : Some v ≡ Some u = ap (λ c. cond c (Some v) None) (sym e) ∙ h in
        let same : v ≡ u = cc in
        inr (o, same_bytes x y e, same)
    by None false o e h = absurd (let g : None ≡ Some u = ap (λ c. cond c (Some v) None) (sym e) ∙ h in cc)

-- a name is found in the first of two tables or in the second
pub or_some : {V : Type 0} (a b : Option V) → is_some (or_else a b) ≡ true → (is_some a ≡ true) ⊎ (is_some b ≡ true)
or_some None b h = inr h
or_some (Some v) b h = inl refl

pub some_left : {V : Type 0} (a b : Option V) → is_some a ≡ true → is_some (or_else a b) ≡ true
some_left None b h = absurd (let c : false ≡ true = h in cc)
some_left (Some v) b h = refl

pub some_right : {V : Type 0} (a b : Option V) → is_some b ≡ true → is_some (or_else a b) ≡ true
some_right None b h = h
some_right (Some v) b h = refl

pub or_found : {V : Type 0} (a b : Option V) (v : V) → or_else a b ≡ Some v → (a ≡ Some v) ⊎ ((a ≡ None) × (b ≡ Some v))
or_found None b v h = inr (refl, h)
or_found (Some u) b v h = inl h

pub is_none : {V : Type 0} (a : Option V) → is_some a ≡ false → a ≡ None
is_none None h = refl
is_none (Some v) h = absurd (let c : true ≡ false = h in cc)
