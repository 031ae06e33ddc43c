-- The entries of a book and what they say.
use Rattle.std.proofs.Common.{◌≡◌, ℕ, zero, suc, ◌+◌, ◌<◌, List, [], ◌∷◌, map, length, get_or, set, ℤ, refl, sym, ◌∙◌, ap, arith}
use Rattle.std.specs.List.{All}
use Rattle.std.proofs.lemmas.List.{get_or-map, map-set, length-map}
use Rattle.job_book.specs.declared.book.Entry.{Entry}
use Rattle.job_book.specs.Known.{Known, Waiting, Book}
use Rattle.job_book.specs.Entries.{known_of, room_of}

-- entries that all wait
pub all_waiting : (xs : List Entry) → All (λ e. known_of e ≡ Waiting) xs → (job : ℕ) → get_or (map known_of xs) job Waiting ≡ Waiting
all_waiting [] a job = refl
all_waiting (x ∷ xs) a zero = a 0 x (omega arith)
all_waiting (x ∷ xs) a (suc job) = all_waiting xs (λ k d lt. a (suc k) d (omega arith)) job

-- another entry of the same room
pub room_kept : (xs : List Entry) (i : ℕ) (old new : Entry) → old ≡ get_or xs i old → room_of new ≡ room_of old → map room_of (set xs i new) ≡ map room_of xs
room_kept [] i old new at e = refl
room_kept (x ∷ xs) zero old new at e = ap (λ (w : ℕ). w ∷ map room_of xs) (e ∙ ap room_of at)
room_kept (x ∷ xs) (suc i) old new at e = ap (λ (ws : List ℕ). room_of x ∷ ws) (room_kept xs i old new at e)

-- the room of an entry of the book
pub room_at : (xs : List Entry) (b : Book) (i : ℕ) (old : Entry) → record { rooms = map room_of xs; jobs = map known_of xs } ≡ b → i < length b.jobs → old ≡ get_or xs i old → room_of old ≡ get_or b.rooms i 0
room_at xs b i old view lt at =
    let long : i < length xs = omega (arith, length-map xs known_of, ap (λ (x : Book). length x.jobs) view, lt) in
    ap room_of at ∙ sym (get_or-map room_of xs i old 0 long) ∙ ap (λ (x : Book). get_or x.rooms i 0) view

-- what is known of an entry of the book
pub known_is : (xs : List Entry) (b : Book) (i : ℕ) (old : Entry) → record { rooms = map room_of xs; jobs = map known_of xs } ≡ b → i < length b.jobs → old ≡ get_or xs i old → known_of old ≡ get_or b.jobs i Waiting
known_is xs b i old view lt at =
    let long : i < length xs = omega (arith, length-map xs known_of, ap (λ (x : Book). length x.jobs) view, lt) in
    ap known_of at ∙ sym (get_or-map known_of xs i old Waiting long) ∙ ap (λ (x : Book). get_or x.jobs i Waiting) view

-- the book with another entry: its rooms, where the room is the same, and its jobs
pub rooms_after : (xs : List Entry) (b : Book) (i : ℕ) (old new : Entry) → record { rooms = map room_of xs; jobs = map known_of xs } ≡ b → old ≡ get_or xs i old → room_of new ≡ room_of old
    → map room_of (set xs i new) ≡ b.rooms
rooms_after xs b i old new view at e = room_kept xs i old new at e ∙ ap (λ (x : Book). x.rooms) view

pub jobs_after : (xs : List Entry) (b : Book) (i : ℕ) (new : Entry) (known : Known) → record { rooms = map room_of xs; jobs = map known_of xs } ≡ b → known_of new ≡ known
    → map known_of (set xs i new) ≡ set b.jobs i known
jobs_after xs b i new known view e = map-set known_of xs i new ∙ ap (set (map known_of xs) i) e ∙ ap (λ (x : Book). set x.jobs i known) view
