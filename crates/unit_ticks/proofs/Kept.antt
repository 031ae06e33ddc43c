-- The rows of units.
use Rattle.std.proofs.Common.{◌≡◌, ℕ, zero, suc, ◌<◌, List, [], ◌∷◌, ◌++◌, length, get_or, map, set, Some, refl, sym, ap, ◌∙◌, subst, arith, ap₂}
use Rattle.std.specs.Prelude.{slice_get, slice_set}
use Rattle.std.specs.Global.{Vec}
use Rattle.std.proofs.lemmas.List.{map-set, length-map}
use Rattle.std.proofs.lemmas.Option.{slice_get-get_or}
use Rattle.decisions.specs.declared.placed.Ticks.{Ticks}
use Rattle.unit_ticks.specs.Rows.{ticks_in, IsRow, AreRows}

get_map : (rows : List (Vec Ticks)) (i : ℕ) (row : Vec Ticks) → i < length rows → get_or (map ticks_in rows) i [] ≡ ticks_in (get_or rows i row)
get_map [] i row low = absurd (omega arith)
get_map (x ∷ rows) zero row low = refl
get_map (x ∷ rows) (suc i) row low = get_map rows i row (omega arith)

-- a row stands among the rows, and has the ticks of its unit
pub record IsAt (rows : List (Vec Ticks)) (held : List (List Ticks)) (unit k : ℕ) (row : Vec Ticks) : Type 0 where
  pub stands : slice_get rows k ≡ Some row
  pub items : ticks_in row ≡ get_or held unit []

pub row_at : (rows : List (Vec Ticks)) (held : List (List Ticks)) (unit k : ℕ) (row : Vec Ticks) → map ticks_in rows ≡ held → k ≡ unit → unit < length held → row ≡ get_or rows k row → IsAt rows held unit k row
row_at rows held unit k row e f low at =
    let n = length-map rows ticks_in in
    let m : length (map ticks_in rows) ≡ length held = ap length e in
    let less : k < length rows = omega arith in
    record {
      stands = slice_get-get_or rows k row less ∙ ap Some (sym at);
      items = ap ticks_in at ∙ (sym (get_map rows k row less) ∙ ap₂ (λ xs i. get_or xs i []) e f);
    }

-- one row is another
pub rows_set : (room : ℕ) (rows : List (Vec Ticks)) (k : ℕ) (new : Vec Ticks) → AreRows room rows → IsRow room new → (i : ℕ) (row : Vec Ticks) → slice_get (slice_set rows k new) i ≡ Some row → IsRow room row
rows_set room [] k new h g i row e = h i row e
rows_set room (x ∷ rows) zero new h g zero row e = let s : new ≡ row = cc in subst (IsRow room) s g
rows_set room (x ∷ rows) zero new h g (suc i) row e = h (suc i) row e
rows_set room (x ∷ rows) (suc k) new h g zero row e = h zero row e
rows_set room (x ∷ rows) (suc k) new h g (suc i) row e = rows_set room rows k new (λ j r f. h (suc j) r f) g i row e

pub rows_are : (rows : List (Vec Ticks)) (held : List (List Ticks)) (unit k : ℕ) (new : Vec Ticks) (ts : List Ticks) → map ticks_in rows ≡ held → k ≡ unit → ticks_in new ≡ ts → map ticks_in (slice_set rows k new) ≡ slice_set held unit ts
rows_are rows held unit k new ts e f g = map-set ticks_in rows k new ∙ (ap (λ x. set (map ticks_in rows) k x) g ∙ ap₂ (λ xs i. set xs i ts) e f)

-- one row more
pub rows_more : (room : ℕ) (rows : List (Vec Ticks)) (new : Vec Ticks) → AreRows room rows → IsRow room new → (i : ℕ) (row : Vec Ticks) → slice_get (rows ++ new ∷ []) i ≡ Some row → IsRow room row
rows_more room [] new h g zero row e = let s : new ≡ row = cc in subst (IsRow room) s g
rows_more room [] new h g (suc i) row e = absurd (cc)
rows_more room (x ∷ rows) new h g zero row e = h zero row e
rows_more room (x ∷ rows) new h g (suc i) row e = rows_more room rows new (λ j r f. h (suc j) r f) g i row e

pub none_more : (rows : List (Vec Ticks)) (new : Vec Ticks) → ticks_in new ≡ [] → ((unit : ℕ) → get_or (map ticks_in rows) unit [] ≡ []) → (unit : ℕ) → get_or (map ticks_in (rows ++ new ∷ [])) unit [] ≡ []
none_more [] new e h zero = e
none_more [] new e h (suc unit) = refl
none_more (x ∷ rows) new e h zero = h zero
none_more (x ∷ rows) new e h (suc unit) = none_more rows new e (λ u. h (suc u)) unit
