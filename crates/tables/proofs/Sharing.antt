-- Messages that share a word of a frame are those that share a tick of the A slots.
use Rattle.std.proofs.Common.{◌≡◌, ◌≢◌, ℕ, ◌+◌, ◌-◌, ◌<◌, ◌≤◌, ◌⊎◌, inl, inr, ◌↔◌, Bool, false, List, length, get_or, refl, sym, ap, ◌∙◌, subst, arith}
use Rattle.std.specs.Prelude.{replicate}
use Rattle.std.proofs.lemmas.Bool.{cases_lt}
use Rattle.std.proofs.lemmas.List.{get_or-replicate, get_or_past, length-replicate}
use Rattle.mars_base.specs.declared.shape.Side.TheVariants.{A}
use Rattle.graph.specs.declared.net.Net.{Net}
use Rattle.tdma.specs.Layout.{Layout, IsLayout, slot_start_of}
use Rattle.tdma.specs.Word.{IsAt}
use Rattle.tdma.specs.declared.round.SlotPlace.{SlotPlace}
use Rattle.tdma.proofs.Places.{one_place}
use Rattle.tables.specs.declared.table.Message.{Message}
use Rattle.tables.specs.Named.{no_message, words_of, HasWord, ShareAWord}
use Rattle.tables.specs.Progress.{tick_in, IsUsed, IsMarked, IsInFrame, AreApart}

place_of : Message → ℕ → SlotPlace
place_of m word = record { round = m.round; unit = m.unit; side = A; word = word }

is_at : (net : Net) (l : Layout) (m : Message) (word : ℕ) → IsInFrame net l m → HasWord net m word → IsAt l (tick_in l m word) (place_of m word)
unfolding place_of
is_at net l m word f h = record { inside = record { round = f.round; unit = f.unit; word = omega (arith, f.fits, h.0, h.1) }; tick_is = refl }

-- words at one tick are one word of one frame
pub one_word : (net : Net) (l : Layout) (m o : Message) (v w : ℕ) → IsLayout l → IsInFrame net l m → IsInFrame net l o → HasWord net m v → HasWord net o w → tick_in l m v ≡ tick_in l o w → ShareAWord net m o
unfolding place_of
one_word net l m o v w is f g h k e =
    let q : IsAt l (tick_in l m v) (place_of o w) = subst (λ t. IsAt l t (place_of o w)) (sym e) (is_at net l o w g k) in
    let p : place_of o w ≡ place_of m v = one_place l (tick_in l m v) (place_of m v) (place_of o w) is (is_at net l m v f h) q in
    let same : w ≡ v = ap (λ (x : SlotPlace). x.word) p in
    record {
      unit = sym (ap (λ (x : SlotPlace). x.unit) p);
      round = sym (ap (λ (x : SlotPlace). x.round) p);
      shared = (v, h, subst (HasWord net o) same k);
    }

-- a word that two messages share has one tick
same_tick : (l : Layout) (m o : Message) (word : ℕ) → m.unit ≡ o.unit → m.round ≡ o.round → tick_in l m word ≡ tick_in l o word
same_tick l m o word u r = ap (λ x. slot_start_of l x m.unit A + word) r ∙ ap (λ x. slot_start_of l o.round x A + word) u

-- the message at a place
abbrev it : List Message → ℕ → Message
it ms n = get_or ms n no_message

-- the ticks of the message at n
abbrev pub IsIn : Net → Layout → List Message → (n tick : ℕ) → Type 0
IsIn net l ms n tick = (tick_in l (get_or ms n no_message) (get_or ms n no_message).offset ≤ tick)
    × (tick < tick_in l (get_or ms n no_message) (get_or ms n no_message).offset + words_of net (get_or ms n no_message))

-- the word of the message at such a tick
record WordAt (net : Net) (l : Layout) (m : Message) (tick : ℕ) : Type 0 where
  word : ℕ
  has : HasWord net m word
  at_tick : tick_in l m word ≡ tick

word_at : (net : Net) (l : Layout) (ms : List Message) (n tick : ℕ) → IsIn net l ms n tick → WordAt net l (it ms n) tick
word_at net l ms n tick h = record { word = tick - slot_start_of l (it ms n).round (it ms n).unit A; has = (omega (arith, h.0), omega (arith, h.0, h.1)); at_tick = omega (arith, h.0) }

-- a marked tick among those of a message is a word shared with an earlier one
pub clash : (net : Net) (l : Layout) (ms : List Message) → IsLayout l → ((i : ℕ) → i < length ms → IsInFrame net l (get_or ms i no_message)) → (n tick : ℕ) (marks : List Bool) → n < length ms → AreApart net l ms n marks
    → IsIn net l ms n tick → IsMarked marks tick → (k : ℕ) × (k < n) × ShareAWord net (get_or ms k no_message) (get_or ms n no_message)
clash net l ms is frames n tick marks low a h m =
    let u = (a.marked tick).0 m in
    let w = word_at net l ms n tick h in
    let b : u.place < length ms = omega (arith, u.below) in
    (u.place, u.below, one_word net l (it ms u.place) (it ms n) u.word w.word is (frames u.place b) (frames n low) u.has w.has (u.at_tick ∙ sym w.at_tick))

-- a shared word is used by the earlier message at a tick of the later one
shared_used : (net : Net) (l : Layout) (ms : List Message) (k n : ℕ) → k < n → ShareAWord net (it ms k) (it ms n) → (tick : ℕ) × IsUsed net l ms n tick × IsIn net l ms n tick
shared_used net l ms k n low s =
    let w = s.shared.0 in
    let e = same_tick l (it ms k) (it ms n) w s.unit s.round in
    (tick_in l (it ms n) w, record { place = k; below = low; word = w; has = s.shared.1; at_tick = e }, (omega (arith, s.shared.2.0), omega (arith, s.shared.2.1)))

turned : (net : Net) (m o : Message) → ShareAWord net m o → ShareAWord net o m
turned net m o s = record { unit = sym s.unit; round = sym s.round; shared = (s.shared.0, s.shared.2, s.shared.1) }

-- the next message, none of whose ticks was marked, and whose ticks are marked now
pub next_apart : (net : Net) (l : Layout) (ms : List Message) (n : ℕ) (marks new : List Bool) → AreApart net l ms n marks
    → ((tick : ℕ) → IsIn net l ms n tick → IsMarked marks tick → ⊥) → ((tick : ℕ) → IsMarked new tick ↔ (IsMarked marks tick ⊎ IsIn net l ms n tick)) → AreApart net l ms (n + 1) new
next_apart net l ms n marks new a free marked = record {
  apart = λ i k low there differ s. apart i k (cases_lt i n) (cases_lt k n) low there differ s;
  marked = λ tick. (
    λ m. elim ((marked tick).0 m) [
      | inl before ↦ (let u = (a.marked tick).0 before in record { place = u.place; below = omega (arith, u.below); word = u.word; has = u.has; at_tick = u.at_tick })
      | inr now ↦ (let w = word_at net l ms n tick now in record { place = n; below = omega arith; word = w.word; has = w.has; at_tick = w.at_tick })
    ],
    λ u. (marked tick).1 (used tick u (cases_lt u.place n)),
  );
} where
  earlier : (i : ℕ) → i < n → ShareAWord net (it ms i) (it ms n) → ⊥
  earlier i low s = let u = shared_used net l ms i n low s in free u.0 u.2 ((a.marked u.0).1 u.1)

  apart : (i k : ℕ) → (i < n) ⊎ (n ≤ i) → (k < n) ⊎ (n ≤ k) → i < n + 1 → k < n + 1 → i ≢ k → ShareAWord net (it ms i) (it ms k) → ⊥
  apart i k (inl low) (inl there) x y differ s = a.apart i k low there differ s
  apart i k (inl low) (inr last) x y differ s = let e : k ≡ n = omega arith in earlier i low (subst (λ z. ShareAWord net (it ms i) (it ms z)) e s)
  apart i k (inr last) (inl there) x y differ s = let e : i ≡ n = omega arith in earlier k there (turned net (it ms n) (it ms k) (subst (λ z. ShareAWord net (it ms z) (it ms k)) e s))
  apart i k (inr last) (inr too) x y differ s = differ (omega arith)

  used : (tick : ℕ) (u : IsUsed net l ms (n + 1) tick) → (u.place < n) ⊎ (n ≤ u.place) → IsMarked marks tick ⊎ IsIn net l ms n tick
  used tick u (inl low) = inl ((a.marked tick).1 (record { place = u.place; below = low; word = u.word; has = u.has; at_tick = u.at_tick }))
  used tick u (inr last) =
      let e : u.place ≡ n = omega (arith, u.below) in
      let h : HasWord net (it ms n) u.word = subst (λ z. HasWord net (it ms z) u.word) e u.has in
      let t : tick_in l (it ms n) u.word ≡ tick = subst (λ z. tick_in l (it ms z) u.word ≡ tick) e u.at_tick in
      inr (omega (arith, t, h.0), omega (arith, t, h.1))

-- no tick is marked at first
pub no_mark : (n tick : ℕ) → IsMarked (replicate n false) tick → ⊥
no_mark n tick m = elim (cases_lt tick n) [
  | inl low ↦ (let e : get_or (replicate n false) tick false ≡ false = get_or-replicate n tick false false low in absurd (cc (e, m)))
  | inr past ↦ (let e : get_or (replicate n false) tick false ≡ false = get_or_past (replicate n false) tick false (let l : length (replicate n false) ≡ n = length-replicate n false in omega (arith, l, past)) in absurd (cc (e, m)))
]
