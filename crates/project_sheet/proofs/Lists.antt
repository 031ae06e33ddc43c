-- Tests over lists that are seen through a function, and the items of an array as a list.
use Rattle.std.proofs.Common.{◌≡◌, ℕ, ◌+◌, ◌<◌, length, take, get_or, ◌++◌, Option, Some, None, List, [], ◌∷◌, map, Bool, not, ◌||◌, ◌&&◌, refl, ap, sym, ◌∙◌, Global, String, string_bytes, bytes_eq}
use Rattle.std.specs.List.{list_any, list_all}
use Rattle.std.specs.Map.{keys_of}
use Rattle.std.proofs.lemmas.List.{take_more, map-append}
use Rattle.toml.specs.Data.{Data, Members, as_table}
use Rattle.project_sheet.specs.Sheet.{rows_of, add_row}
use Rattle.toml.specs.View.{items_of, view, members_view}
use Rattle.toml.specs.declared.value.Value.{Value}
use Rattle.project_sheet.specs.declared.form.Key.{Key}
use Rattle.project_sheet.specs.Form.{list_of, PlainKey, plain_key, has_unknown}

pub any_map : {A B : Type 0} (f : A → B) (test : B → Bool) (xs : List A) → list_any (λ x. test (f x)) xs ≡ list_any test (map f xs)
any_map f test [] = refl
any_map f test (x ∷ xs) = ap (λ b. test (f x) || b) (any_map f test xs)

pub all_map : {A B : Type 0} (f : A → B) (test : B → Bool) (xs : List A) → list_all (λ x. test (f x)) xs ≡ list_all test (map f xs)
all_map f test [] = refl
all_map f test (x ∷ xs) = ap (λ b. test (f x) && b) (all_map f test xs)

pub list_of_items : (ds : List Data) → list_of (items_of ds) ≡ ds
list_of_items [] = refl
list_of_items (d ∷ ds) = ap (λ (l : List Data). d ∷ l) (list_of_items ds)

pub unknown_view : (keys : List Key) (es : List (String Global × Value))
    → list_any (λ name. not (list_any (λ (key : Key). bytes_eq (string_bytes name) key.name.now) keys)) (keys_of es) ≡ has_unknown (map plain_key keys) (members_view es)
unknown_view keys [] = refl
unknown_view keys (e ∷ es) = rw (any_map plain_key (λ (key : PlainKey). bytes_eq (string_bytes e.0) key.name) keys, unknown_view keys es)

pub items_pass : (test : Data → Bool) (vs : List Value) → list_all (λ v. test (view v)) vs ≡ list_all test (list_of (items_of (map view vs)))
items_pass test vs = all_map view test vs ∙ ap (list_all test) (sym (list_of_items (map view vs)))

pub rows_append : {Row : Type 0} (row : Members → Row) (ds es : List Data) → rows_of row (ds ++ es) ≡ rows_of row ds ++ rows_of row es
rows_append row [] es = refl
rows_append {Row} row (d ∷ ds) es = ap (add_row row (as_table d)) (rows_append row ds es) ∙ first (as_table d)
  where
    first : (o : Option Members) → add_row row o (rows_of row ds ++ rows_of row es) ≡ add_row row o (rows_of row ds) ++ rows_of row es
    first None = refl
    first (Some ms) = refl

-- one more entry is read
pub rows_more : {Row : Type 0} (row : Members → Row) (vs : List Value) (i : ℕ) (v : Value) (old new : List Row) → i < length vs → v ≡ get_or vs i v
    → old ≡ rows_of row (map view (take i vs)) → new ≡ old ++ rows_of row (view v ∷ []) → new ≡ rows_of row (map view (take (i + 1) vs))
rows_more {Row} row vs i v old new lt is so more =
    let last : take (i + 1) vs ≡ take i vs ++ v ∷ [] = take_more vs i v lt ∙ ap (λ (w : Value). take i vs ++ w ∷ []) (sym is) in
    more ∙ ap (λ (l : List Row). l ++ rows_of row (view v ∷ [])) so ∙ sym (rows_append row (map view (take i vs)) (view v ∷ []))
    ∙ ap (rows_of row) (sym (map-append view (take i vs) (v ∷ []))) ∙ ap (λ (l : List Value). rows_of row (map view l)) (sym last)
