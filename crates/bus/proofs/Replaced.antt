-- A slot is taken out of a list, and another put in its place.
use Rattle.std.proofs.Common.{◌≡◌, inl, inr, ℕ, zero, suc, ◌+◌, ◌<◌, List, [], ◌∷◌, map, length, set, get_or, refl, sym, ◌∙◌, ap, arith, subst}
use Rattle.std.specs.List.{All}
use Rattle.std.proofs.lemmas.Bool.{cases_lt}
use Rattle.std.proofs.lemmas.List.{set-set, map-set, get_or-map, length-map}
use Rattle.std.proofs.lemmas.List.Elements.{All-set}
use Rattle.std.proofs.lemmas.List.{get_or-set_other}
use Rattle.std.proofs.lemmas.Grind.{get_or-set_at}
use Rattle.bus.specs.SlotState.{SlotState, Open}
use Rattle.bus.specs.Slots.{slot_state, HasRoom}
use Rattle.bus.specs.declared.slot.Slot.{Slot}

-- the others keep their room
pub room_kept : (n : ℕ) (xs : List Slot) (i : ℕ) (m s : Slot) → All (HasRoom n) xs → HasRoom n s → All (HasRoom n) (set (set xs i m) i s)
room_kept n xs i m s a h = rw (set-set xs i m s) (All-set (HasRoom n) xs i s h a)

-- the slot that stands at i becomes s
pub state_replaced : (xs : List Slot) (i : ℕ) (m s old d : Slot) (f : SlotState → SlotState) → i < length xs → old ≡ get_or xs i d → slot_state s ≡ f (slot_state old) →
    map slot_state (set (set xs i m) i s) ≡ set (map slot_state xs) i (f (get_or (map slot_state xs) i Open))
state_replaced xs i m s old d f l o e =
    ap (map slot_state) (set-set xs i m s) ∙ map-set slot_state xs i s
    ∙ ap (set (map slot_state xs) i) (e ∙ ap f (ap slot_state o ∙ sym (get_or-map slot_state xs i d Open l)))

-- a slot of the bus is taken out, and another put in its place
pub replaced : (xs : List Slot) (states : List SlotState) (n i : ℕ) (m s old : Slot) (f : ℕ → SlotState → SlotState) → i < length states → old ≡ get_or xs i old →
    map slot_state xs ≡ states → All (HasRoom n) xs → ((k : ℕ) → HasRoom k old → HasRoom k s × (slot_state s ≡ f k (slot_state old))) →
    All (HasRoom n) (set (set xs i m) i s) × (map slot_state (set (set xs i m) i s) ≡ set states i (f n (get_or states i Open)))
replaced xs states n i m s old f l o e a h =
    let l2 : i < length xs = omega (arith, length-map xs slot_state, ap length e, l) in
    let r : HasRoom n old = subst (HasRoom n) (sym o) (a i old l2) in
    let g = h n r in (
      room_kept n xs i m s a g.0,
      state_replaced xs i m s old old (f n) l2 o g.1 ∙ ap (λ ys. set ys i (f n (get_or ys i Open))) e,
    )

-- slots that are all open
pub all_open : (xs : List Slot) → All (λ s. slot_state s ≡ Open) xs → (n : ℕ) → get_or (map slot_state xs) n Open ≡ Open
all_open [] a n = refl
all_open (x ∷ xs) a zero = a 0 x (omega arith)
all_open (x ∷ xs) a (suc n) = all_open xs (λ k d lt. a (suc k) d (omega arith)) n

-- one slot more is open again
pub reopened : (xs : List Slot) (i : ℕ) (m s old : Slot) → i < length xs → old ≡ get_or xs i old → ((n : ℕ) → HasRoom n old → HasRoom n s × (slot_state s ≡ Open)) → (n : ℕ) → All (HasRoom n) xs →
    ((k : ℕ) (d : Slot) → k < i → slot_state (get_or xs k d) ≡ Open) → (k : ℕ) (d : Slot) → k < i + 1 → slot_state (get_or (set (set xs i m) i s) k d) ≡ Open
reopened xs i m s old lt at says n room opened k d le =
    ap (λ (ys : List Slot). slot_state (get_or ys k d)) (set-set xs i m s)
    ∙ (elim (cases_lt k i) [
      | inl low ↦ ap slot_state (get_or-set_other xs i k s d (λ e. absurd (omega (arith, low, e)))) ∙ opened k d low
      | inr high ↦ ap slot_state (get_or-set_at xs i k s d (omega arith) lt) ∙ (says n (subst (HasRoom n) (sym at) (room i old lt))).1
    ])
