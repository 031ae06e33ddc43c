-- Names by their tests have the form of names, and differ where none repeats an earlier one.
use Rattle.std.proofs.Common.{◌≡◌, ℕ, zero, suc, ◌<◌, ◌≤◌, nat_le, true, ◌&&◌, List, [], ◌∷◌, length, map, get_or, arith}
use Rattle.std.specs.Prelude.{All}
use Rattle.std.specs.List.{list_all}
use Rattle.std.proofs.lemmas.Bool.Decides.{nat_tests}
use Rattle.mars_base.specs.Name.{IsNameStart, IsNameByte, BeginsName, IsName, is_name_start, is_name_byte, begins_name, is_name}
use Rattle.distinct_names.specs.Repeats.{Repeats}
use Rattle.graph.specs.Name.{AreNames}
use Rattle.graph.proofs.Repeats.{differ_if}
use Rattle.project_rules.proofs.Tests.{both_true}

start_is : (b : ℕ) → is_name_start b ≡ true → IsNameStart b
start_is b e = grind (arith, nat_tests)

byte_is : (b : ℕ) → is_name_byte b ≡ true → IsNameByte b
byte_is b e = grind (arith, nat_tests)

begins : (name : List ℕ) → begins_name name ≡ true → BeginsName name
begins [] e = cc
begins (b ∷ bs) e = start_is b e

bytes_are : (name : List ℕ) → list_all is_name_byte name ≡ true → (i d : ℕ) → i < length name → is_name_byte (get_or name i d) ≡ true
bytes_are [] e i d lt = absurd (omega arith)
bytes_are (b ∷ bs) e zero d lt = (both_true (is_name_byte b) (list_all is_name_byte bs) e).0
bytes_are (b ∷ bs) e (suc i) d lt = bytes_are bs (both_true (is_name_byte b) (list_all is_name_byte bs) e).1 i d (omega arith)

-- a name by its test has a name's form
pub name_is : (name : List ℕ) → is_name name ≡ true → IsName name
unfolding is_name
name_is name e =
    let w = both_true (begins_name name && list_all is_name_byte name) (nat_le (length name) 31) e in
    let v = both_true (begins_name name) (list_all is_name_byte name) w.0 in
    let few : length name ≤ 31 = grind (arith, nat_tests) in
    record { begins = begins name v.0; bytes = λ i d lt. byte_is (get_or name i d) (bytes_are name v.1 i d lt); short = few }

-- names of their form of which none repeats an earlier one
pub are_names : {X : Type 0} (name_of : X → List ℕ) (xs : List X) → All (λ (x : X). IsName (name_of x)) xs → ((i : ℕ) → Repeats (map name_of xs) i → ⊥) → AreNames name_of xs
are_names name_of xs form none = record { form = form; differ = differ_if name_of xs none }
