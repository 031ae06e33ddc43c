-- Tokens at a place.
use Rattle.std.proofs.Common.{◌≡◌, ℕ, zero, suc, arith, ◌+◌, ◌<◌, List, [], ◌∷◌, ◌++◌, length, drop, get_or, map, Option, None, refl, ap, ◌∙◌, sym, subst, drop-cons, add-one}
use Rattle.mc_tree.specs.declared.token.Token.{Token}
use Rattle.mc_reader.specs.Reading.{Bad, Misses, taken, token, at_end}

pub cons_at : (ts : List Token) (i : ℕ) (d : Token) → i < length ts → drop i ts ≡ get_or ts i d ∷ drop (i + 1) ts
cons_at ts i d lt = drop-cons ts i d lt ∙ ap (λ n. get_or ts i d ∷ drop n ts) (sym (add-one i))

pub misses_at : {A : Type 0} (f : Token → Option A) (ts : List Token) (i : ℕ) (d : Token) → i < length ts → f (get_or ts i d) ≡ None → Misses f (drop i ts)
misses_at f ts i d lt h = subst (Misses f) (sym (drop-cons ts i d lt)) h

pub token_misses : {A : Type 0} (f : Token → Option A) (ts : List Token) → Misses f ts → token f ts ≡ Bad ts
token_misses f [] h = refl
token_misses f (t ∷ us) h = ap (λ o. taken o (t ∷ us) us) h

pub map_push : {X Y : Type 0} (f : X → Y) (xs : List X) (x : X) → map f (xs ++ x ∷ []) ≡ map f xs ++ f x ∷ []
map_push f [] x = refl
map_push f (y ∷ xs) x = ap (λ l. f y ∷ l) (map_push f xs x)

-- tokens after the last that is wanted
pub not_ended : {X : Type 0} (x : X) (ts : List Token) (i : ℕ) → i < length ts → at_end x (drop i ts) ≡ Bad (drop i ts)
not_ended x [] i lt = absurd (omega (arith, lt))
not_ended x (t ∷ ts) zero lt = refl
not_ended x (t ∷ ts) (suc i) lt = not_ended x ts i (omega (arith, lt))
