-- A tick names at most one round, slot and word, and they name it.
use Rattle.std.proofs.Common.{◌≡◌, ℕ, ◌+◌, ◌-◌, ◌*◌, ◌/◌, ◌%◌, ◌<◌, ◌≤◌, ◌↔◌, ◌⊎◌, inl, inr, refl, sym, ◌∙◌, ap, arith, mul-le-mul_right}
use Rattle.std.proofs.Math.Nat.{div-add-mod'}
use Rattle.std.proofs.lemmas.Nat.{mul-add-lt, div-mul-add, mod-mul-add, div_below}
use Rattle.std.proofs.lemmas.Bool.{cases_lt}
use Rattle.std.proofs.lemmas.Grind.{div_ceil_times}
use Rattle.std.specs.Int.{div_ceil}
use Rattle.mars_base.specs.declared.shape.Side.{Side}
use Rattle.mars_base.specs.declared.shape.Side.TheVariants.{A, B}
use Rattle.tdma.specs.Layout.{Layout, IsLayout, cycle_ticks, slot_ticks, side_number, slot_start_of}
use Rattle.tdma.specs.Word.{IsPlace, IsAt, IsIdle, tick_of}
use Rattle.tdma.specs.declared.round.SlotPlace.{SlotPlace}

-- the multiples of n from b on that reach a tick are those from a rounded quotient on
pub reaches : (from b n k : ℕ) → 0 < n → (from ≤ k * n + b) ↔ (div_ceil (from - b) n ≤ k)
reaches from b n k some =
    let around = div_ceil_times (from - b) n some in (
      λ h. elim (cases_lt k (div_ceil (from - b) n)) [
        | inl low ↦ absurd (let more : (k + 1) * n ≤ div_ceil (from - b) n * n = mul-le-mul_right n (omega arith) in omega (arith, around.1, more))
        | inr high ↦ high
      ],
      λ h. let more : div_ceil (from - b) n * n ≤ k * n = mul-le-mul_right n h in omega (arith, around.0, more),
    )

-- quotient and rest of a number that is written by both
parts : (t k n w : ℕ) → w < n → k * n + w ≡ t → (t / n ≡ k) × (t % n ≡ w)
parts t k n w low e = (ap (λ x. x / n) (sym e) ∙ div-mul-add k n w low, ap (λ x. x % n) (sym e) ∙ mod-mul-add k n w low)

side_below : (side : Side) → side_number side < 2
side_below A = omega arith
side_below B = omega arith

one_side : (p q : Side) → side_number p ≡ side_number q → p ≡ q
one_side A A e = refl
one_side A B e = absurd (omega arith)
one_side B A e = absurd (omega arith)
one_side B B e = refl

-- the round, slot and word of a tick at which a word is on the bus
pub found : (l : Layout) (t : ℕ) (p : SlotPlace) → IsLayout l → IsPlace l p → tick_of l p ≡ t →
    (t / l.round_ticks ≡ p.round) × (t % l.round_ticks / slot_ticks l ≡ 2 * p.unit + side_number p.side) × (t % l.round_ticks % slot_ticks l ≡ p.word)
found l t p lay within e =
    let second = side_below p.side in
    let few : 2 * p.unit + side_number p.side < 2 * l.units = omega (arith, within.unit) in
    let word : p.word < slot_ticks l = omega (arith, within.word) in
    let inner : (2 * p.unit + side_number p.side) * slot_ticks l + p.word < slot_ticks l * (2 * l.units) = mul-add-lt (2 * p.unit + side_number p.side) (slot_ticks l) p.word (2 * l.units) few word in
    let fits = lay.fits in
    let rounds = parts t p.round l.round_ticks ((2 * p.unit + side_number p.side) * slot_ticks l + p.word) (omega arith) (omega (arith, e)) in
    let slots = parts (t % l.round_ticks) (2 * p.unit + side_number p.side) (slot_ticks l) p.word word (sym rounds.1) in
    (rounds.0, slots.0, slots.1)

same_place : (p q : SlotPlace) → p.round ≡ q.round → p.unit ≡ q.unit → p.side ≡ q.side → p.word ≡ q.word → p ≡ q
same_place p q a b c d =
    ap (λ (x : ℕ). record { round = x; unit = p.unit; side = p.side; word = p.word }) a
    ∙ ap (λ (x : ℕ). record { round = q.round; unit = x; side = p.side; word = p.word }) b
    ∙ ap (λ (x : Side). record { round = q.round; unit = q.unit; side = x; word = p.word }) c
    ∙ ap (λ (x : ℕ). record { round = q.round; unit = q.unit; side = q.side; word = x }) d

-- at most one word is on the bus at a tick
pub one_place : (l : Layout) (t : ℕ) (p q : SlotPlace) → IsLayout l → IsAt l t p → IsAt l t q → q ≡ p
one_place l t p q lay h g =
    let f = found l t p lay h.inside h.tick_is in
    let e = found l t q lay g.inside g.tick_is in
    let a = side_below p.side in
    let b = side_below q.side in
    let slots : 2 * q.unit + side_number q.side ≡ 2 * p.unit + side_number p.side = sym e.1 ∙ f.1 in
    same_place q p (sym e.0 ∙ f.0) (omega arith) (one_side q.side p.side (omega arith)) (sym e.2 ∙ f.2)

-- a round has ticks
pub round_some : (l : Layout) → IsLayout l → 0 < l.round_ticks
round_some l lay = let more : 1 * slot_ticks l ≤ 2 * l.units * slot_ticks l = mul-le-mul_right (slot_ticks l) (omega (arith, lay.some_unit)) in omega (arith, more, lay.fits, lay.some_words)

-- a slot's number by its unit and side
joined : (r j s w t n : ℕ) → n ≡ j % 2 → r + (j * s + w) ≡ t → r + 2 * (j / 2) * s + n * s + w ≡ t
joined r j s w t n e h =
    let halves : 2 * (j / 2) + n ≡ j = omega arith in
    let times : (2 * (j / 2) + n) * s ≡ j * s = ap (λ x. x * s) halves in
    omega (arith, times, h)

-- the round, slot and word of a tick name it
pub at_tick : (l : Layout) (t : ℕ) (side : Side) → IsLayout l → t < cycle_ticks l →
    t % l.round_ticks / slot_ticks l < 2 * l.units → t % l.round_ticks % slot_ticks l < l.slot_words →
    side_number side ≡ t % l.round_ticks / slot_ticks l % 2 →
    IsAt l t (record { round = t / l.round_ticks; unit = t % l.round_ticks / slot_ticks l / 2; side = side; word = t % l.round_ticks % slot_ticks l })
at_tick l t side lay inside slot word e =
    let some : 0 < l.round_ticks = round_some l lay in
    let whole = div-add-mod' t l.round_ticks in
    let part = div-add-mod' (t % l.round_ticks) (slot_ticks l) in
    record {
      inside = record { round = div_below t l.round_ticks l.rounds some inside; unit = omega arith; word = word };
      tick_is = joined (t / l.round_ticks * l.round_ticks) (t % l.round_ticks / slot_ticks l) (slot_ticks l) (t % l.round_ticks % slot_ticks l) t (side_number side) e (omega (arith, whole, part));
    }

-- the first round whose A slot of the unit begins at a tick or later
pub first_iff : (l : Layout) (unit from k d c : ℕ) → IsLayout l → d ≡ from - 2 * unit * slot_ticks l → c ≡ div_ceil d l.round_ticks →
    (from ≤ slot_start_of l k unit A) ↔ (c ≤ k)
first_iff l unit from k d c lay e f =
    let both = reaches from (2 * unit * slot_ticks l) l.round_ticks k (round_some l lay) in
    let c_is : c ≡ div_ceil (from - 2 * unit * slot_ticks l) l.round_ticks = f ∙ ap (λ x. div_ceil x l.round_ticks) e in
    (λ h. rw c_is (both.0 (omega (arith, h))), λ h. let g = both.1 (rw c_is at h) in omega (arith, g))

-- a tick past the slots of its round, or past the words of its slot, is idle
pub idle : (l : Layout) (t : ℕ) → IsLayout l → (2 * l.units ≤ t % l.round_ticks / slot_ticks l) ⊎ (l.slot_words ≤ t % l.round_ticks % slot_ticks l) → IsIdle l t
idle l t lay past p within e =
    let f = found l t p lay within e in
    let second = side_below p.side in
    elim past [
      | inl h ↦ absurd (omega (arith, h, f.1, second, within.unit))
      | inr h ↦ absurd (omega (arith, h, f.2, within.word))
    ]
