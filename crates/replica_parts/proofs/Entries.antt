-- The entries of an inbox and what they say.
use Rattle.std.proofs.Common.{◌≡◌, ℕ, zero, suc, ◌+◌, ◌<◌, List, [], ◌∷◌, map, length, get_or, set, ℤ, Option, None, Some, refl, sym, ◌∙◌, ap, arith}
use Rattle.std.specs.List.{All}
use Rattle.std.proofs.lemmas.List.{get_or-map}
use Rattle.replica_parts.specs.declared.inbox.Entry.{Entry}
use Rattle.replica_parts.specs.Entries.{entry_words, entry_width}

-- entries that are all empty say nothing
pub all_empty : (xs : List Entry) → All (λ e. entry_words e ≡ None) xs → (place : ℕ) → get_or (map entry_words xs) place None ≡ None
all_empty [] a place = refl
all_empty (x ∷ xs) a zero = a 0 x (omega arith)
all_empty (x ∷ xs) a (suc place) = all_empty xs (λ k d lt. a (suc k) d (omega arith)) place

-- another entry of the same width
pub width_kept : (xs : List Entry) (i : ℕ) (old new : Entry) → old ≡ get_or xs i old → entry_width new ≡ entry_width old → map entry_width (set xs i new) ≡ map entry_width xs
width_kept [] i old new at e = refl
width_kept (x ∷ xs) zero old new at e = ap (λ (w : ℕ). w ∷ map entry_width xs) (e ∙ ap entry_width at)
width_kept (x ∷ xs) (suc i) old new at e = ap (λ (ws : List ℕ). entry_width x ∷ ws) (width_kept xs i old new at e)

-- the width of an entry
pub width_at : (xs : List Entry) (i : ℕ) (old : Entry) → i < length xs → old ≡ get_or xs i old → entry_width old ≡ get_or (map entry_width xs) i 0
width_at xs i old lt at = ap entry_width at ∙ sym (get_or-map entry_width xs i old 0 lt)
