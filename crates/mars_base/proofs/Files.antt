-- A file put in its place, or behind the others, is found, and every other file as before.
use Rattle.std.proofs.Common.{◌≡◌, ◌≢◌, ℕ, suc, ◌+◌, ◌<◌, ◌≤◌, List, [], ◌∷◌, ◌++◌, length, Some, Bool, true, false, cond, refl, sym, ap, ◌∙◌, slice_set, slice_index_or, arith, add-one, subst}
use Rattle.std.proofs.lemmas.Bool.{false_from_ne_true}
use Rattle.std.specs.Str.{bytes_eq}
use Rattle.std.proofs.lemmas.Slice.Eq.{bytes_eq-Decides}
use Rattle.mars_base.specs.Outside.{file_at, place_at, SameBut}
use Rattle.mars_base.specs.declared.file.File.{File}

-- what is found, and where, by whether the first file has the name
found_by : (b : Bool) (f : File) (name : List ℕ) (files : List File) → bytes_eq f.name name ≡ b → file_at name (f ∷ files) ≡ cond b (Some f.bytes) (file_at name files)
found_by b f name files e = ap (λ t. cond t (Some f.bytes) (file_at name files)) e

placed_by : (b : Bool) (f : File) (name : List ℕ) (files : List File) → bytes_eq f.name name ≡ b → place_at name (f ∷ files) ≡ cond b 0 (place_at name files + 1)
placed_by b f name files e = ap (λ t. cond t 0 (place_at name files + 1)) e

-- a file's bytes matter to its own name alone
other_name : (other name : List ℕ) (f g : File) (files : List File) → other ≢ name → f.name ≡ name → g.name ≡ name → file_at other (g ∷ files) ≡ file_at other (f ∷ files)
other_name other name f g files ne ef eg =
    let no : (h : File) → h.name ≡ name → bytes_eq h.name other ≡ false = λ h e. false_from_ne_true _ (λ t. ne (sym ((bytes_eq-Decides h.name other).0 t) ∙ e)) in
    found_by false g other files (no g eg) ∙ sym (found_by false f other files (no f ef))

-- the file under the name, with its bytes in the place of the old ones
abbrev pub with_bytes : File → List ℕ → File
with_bytes f bytes = record { name = f.name; bytes = bytes }

-- what a change at a place does
abbrev pub Replaced : List ℕ → List ℕ → List File → ℕ → File → Type 0
Replaced name bytes files k f = (file_at name (slice_set files k (with_bytes f bytes)) ≡ Some bytes) × SameBut name files (slice_set files k (with_bytes f bytes))

replaced_first : (name bytes : List ℕ) (g : File) (files : List File) (f : File) → bytes_eq g.name name ≡ true → f ≡ g → Replaced name bytes (g ∷ files) 0 f
replaced_first name bytes g files f e is =
    let gname = (bytes_eq-Decides g.name name).0 e in
    let fname : f.name ≡ name = ap (λ (h : File). h.name) is ∙ gname in
    (found_by true (with_bytes f bytes) name files ((bytes_eq-Decides f.name name).1 fname), λ other ne. other_name other name g (with_bytes f bytes) files ne gname fname)

replaced_later : (name bytes : List ℕ) (g : File) (files : List File) (k : ℕ) (f : File) → bytes_eq g.name name ≡ false → Replaced name bytes files k f → Replaced name bytes (g ∷ files) (suc k) f
replaced_later name bytes g files k f e rest =
    let after = slice_set files k (with_bytes f bytes) in
    (found_by false g name after e ∙ rest.0, λ other ne. ap (λ t. cond (bytes_eq g.name other) (Some g.bytes) t) (rest.1 other ne))

replaced_by : (b : Bool) (name bytes : List ℕ) (g : File) (files : List File) (f : File) → bytes_eq g.name name ≡ b
    → (place_at name files < length files → f ≡ slice_index_or files (place_at name files) f → Replaced name bytes files (place_at name files) f)
    → place_at name (g ∷ files) < length (g ∷ files) → f ≡ slice_index_or (g ∷ files) (place_at name (g ∷ files)) f → Replaced name bytes (g ∷ files) (place_at name (g ∷ files)) f
replaced_by true name bytes g files f e rest below is =
    let at = placed_by true g name files e in
    subst (λ k. Replaced name bytes (g ∷ files) k f) (sym at) (replaced_first name bytes g files f e (is ∙ ap (λ k. slice_index_or (g ∷ files) k f) at))
replaced_by false name bytes g files f e rest below is =
    let at : place_at name (g ∷ files) ≡ suc (place_at name files) = placed_by false g name files e ∙ add-one (place_at name files) in
    subst (λ k. Replaced name bytes (g ∷ files) k f) (sym at)
    (replaced_later name bytes g files (place_at name files) f e (rest (omega arith) (is ∙ ap (λ k. slice_index_or (g ∷ files) k f) at)))

-- a write in the place of the file under the name
pub replaced : (name bytes : List ℕ) (files : List File) (f : File) → place_at name files < length files → f ≡ slice_index_or files (place_at name files) f → Replaced name bytes files (place_at name files) f
replaced name bytes [] f below is = absurd (omega arith)
replaced name bytes (g ∷ files) f below is = replaced_by (bytes_eq g.name name) name bytes g files f refl (replaced name bytes files f) below is

-- what a file behind the others does
abbrev pub Added : List ℕ → List ℕ → List File → Type 0
Added name bytes files =
    let new = files ++ (record { name = name; bytes = bytes }) ∷ [] in (file_at name new ≡ Some bytes) × SameBut name files new

added_by : (b : Bool) (name bytes : List ℕ) (g : File) (files : List File) → bytes_eq g.name name ≡ b → (length files ≤ place_at name files → Added name bytes files)
    → length (g ∷ files) ≤ place_at name (g ∷ files) → Added name bytes (g ∷ files)
added_by true name bytes g files e rest beyond = let at = placed_by true g name files e in absurd (omega arith)
added_by false name bytes g files e rest beyond =
    let at = placed_by false g name files e in
    let r = rest (omega arith) in
    (found_by false g name _ e ∙ r.0, λ other ne. ap (λ t. cond (bytes_eq g.name other) (Some g.bytes) t) (r.1 other ne))

-- a write of a name that no file has
pub added : (name bytes : List ℕ) (files : List File) → length files ≤ place_at name files → Added name bytes files
added name bytes [] beyond =
    let f : File = record { name = name; bytes = bytes } in
    (found_by true f name [] ((bytes_eq-Decides name name).1 refl), λ other ne. found_by false f other [] (false_from_ne_true _ (λ t. ne (sym ((bytes_eq-Decides name other).0 t)))))
added name bytes (g ∷ files) beyond = added_by (bytes_eq g.name name) name bytes g files refl (added name bytes files) beyond
