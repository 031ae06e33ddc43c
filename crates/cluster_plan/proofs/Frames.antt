-- A frame's words depend on its own messages alone, and say again what was put.
use Rattle.std.proofs.Common.{◌≡◌, ◌≢◌, ℕ, zero, suc, ◌+◌, ◌-◌, ◌<◌, ◌≤◌, inl, inr, ◌==◌, ◌&&◌, nat_le, nat_lt, Bool, true, false, cond, List, [], ◌∷◌, length, get_or, drop, ℤ, pos, Option, Some, None, refl, sym, ◌∙◌, ap, arith, length-drop}
use Rattle.std.specs.Ordering.{int_eq}
use Rattle.std.proofs.lemmas.Bool.{cases_Bool, and_parts, and_from, eq-eqb, eqb-true, le-leb, leb-true, lt-ltb, ltb-true}
use Rattle.std.proofs.lemmas.List.{ext_get_or, get_or-take, get_or-drop, length-take-le}
use Rattle.std.proofs.lemmas.List.FromFn.{get_or-map-range_with_len, length-map-range_with_len}
use Rattle.graph.specs.declared.net.Net.{Net}
use Rattle.tables.specs.Named.{no_message, words_of, HasWord, ShareAWord}
use Rattle.tables.specs.declared.table.Message.{Message}
use Rattle.net_run.specs.Words.{part}
use Rattle.cluster_model.specs.Frame.{packed, covers, word_from, message_in}
use Rattle.cluster_model.specs.Plan.{listed}

-- what it means that a word of a frame is a message's
covered : (net : Net) (round unit word : ℕ) (said : ℕ → Option (List ℤ)) (m : Message) → covers net round unit said word m ≡ true → (m.unit ≡ unit) × (m.round ≡ round) × HasWord net m word
covered net round unit word said m e =
    let w = and_parts (m.unit == unit && m.round == round) (nat_le m.offset word && nat_lt word (m.offset + words_of net m)) e in
    let a = and_parts (m.unit == unit) (m.round == round) w.0 in
    let b = and_parts (nat_le m.offset word) (nat_lt word (m.offset + words_of net m)) w.1 in
    (eqb-true m.unit unit a.0, eqb-true m.round round a.1, (leb-true m.offset word b.0, ltb-true word (m.offset + words_of net m) b.1))

covering : (net : Net) (round unit word : ℕ) (said : ℕ → Option (List ℤ)) (m : Message) → m.unit ≡ unit → m.round ≡ round → HasWord net m word → covers net round unit said word m ≡ true
covering net round unit word said m a b c =
    and_from (m.unit == unit && m.round == round) (nat_le m.offset word && nat_lt word (m.offset + words_of net m))
    (and_from (m.unit == unit) (m.round == round) (eq-eqb m.unit unit a) (eq-eqb m.round round b))
    (and_from (nat_le m.offset word) (nat_lt word (m.offset + words_of net m)) (le-leb m.offset word c.0) (lt-ltb word (m.offset + words_of net m) c.1))

module _ (net : Net) (round unit word : ℕ) where
  -- the words are the same where the frame's messages say the same
  pub words_same : (one other : ℕ → Option (List ℤ)) (messages : List Message) (place : ℕ)
      → ((k : ℕ) → k < length messages → (get_or messages k no_message).round ≡ round → (get_or messages k no_message).unit ≡ unit → one (place + k) ≡ other (place + k))
      → word_from net round unit one word messages place ≡ word_from net round unit other word messages place
  words_same one other [] place h = refl
  words_same one other (m ∷ messages) place h =
      let rest = words_same one other messages (suc place) (λ k low a b.
      let e : suc place + k ≡ place + suc k = omega arith in
      ap one e ∙ h (suc k) (omega (arith, low)) a b ∙ ap other (sym e)) in
      by (covers net round unit one word m) refl rest
    where
      by : (b : Bool) → covers net round unit one word m ≡ b → word_from net round unit one word messages (suc place) ≡ word_from net round unit other word messages (suc place)
          → cond b (packed (one place) (word - m.offset)) (word_from net round unit one word messages (suc place)) ≡ cond b (packed (other place) (word - m.offset)) (word_from net round unit other word messages (suc place))
      by true e rest =
          let w = covered net round unit word one m e in
          let z : place + 0 ≡ place = omega arith in
          ap (λ o. packed o (word - m.offset)) (ap one (sym z) ∙ h 0 (omega arith) w.1 w.0 ∙ ap other z)
      by false e rest = rest

  -- a word is that of the one message that has it
  pub word_of : (said : ℕ → Option (List ℤ)) (messages : List Message) (place m : ℕ) → m < length messages
      → (get_or messages m no_message).unit ≡ unit → (get_or messages m no_message).round ≡ round → HasWord net (get_or messages m no_message) word
      → ((k : ℕ) → k < length messages → k ≢ m → ShareAWord net (get_or messages k no_message) (get_or messages m no_message) → ⊥)
      → word_from net round unit said word messages place ≡ packed (said (place + m)) (word - (get_or messages m no_message).offset)
  word_of said [] place m low a b c apart = absurd (omega (arith, low))
  word_of said (x ∷ messages) place zero low a b c apart =
      let z : place ≡ place + 0 = omega arith in
      ap (λ t. cond t (packed (said place) (word - x.offset)) (word_from net round unit said word messages (suc place))) (covering net round unit word said x a b c)
      ∙ ap (λ k. packed (said k) (word - x.offset)) z
  word_of said (x ∷ messages) place (suc m) low a b c apart =
      let e : suc place + m ≡ place + suc m = omega arith in
      let not_here : covers net round unit said word x ≡ false = elim (cases_Bool (covers net round unit said word x)) [
        | inl here ↦
            let w = covered net round unit word said x here in
            absurd (apart 0 (omega arith) (λ f. absurd (omega (arith, f))) (record { unit = w.0 ∙ sym a; round = w.1 ∙ sym b; shared = (word, w.2, c) }))
        | inr no_word ↦ no_word
      ] in
      ap (λ t. cond t (packed (said place) (word - x.offset)) (word_from net round unit said word messages (suc place))) not_here
      ∙ word_of said messages (suc place) m (omega (arith, low)) a b c (λ k inside other. apart (suc k) (omega (arith, inside)) (λ f. other (omega (arith, f))))
      ∙ ap (λ k. packed (said k) (word - (get_or messages m no_message).offset)) e

-- a part of a list that is made from a function
pub part_listed : (from count all : ℕ) (f : ℕ → ℤ) (words : List ℤ) → from + count ≤ all → length words ≡ count → ((i : ℕ) → i < count → f (from + i) ≡ get_or words i (pos 0)) → part from count (listed all f) ≡ words
part_listed from count all f words low size same =
    let length_is : length (part from count (listed all f)) ≡ count =
    length-take-le count (drop from (listed all f)) (omega (arith, length-drop from (listed all f), length-map-range_with_len f 0 all, low)) in
    ext_get_or (pos 0) (part from count (listed all f)) words (omega (arith, length_is, size))
    (λ i inside.
    let less : i < count = omega (arith, inside, length_is) in
    get_or-take count (drop from (listed all f)) i (pos 0) less
    ∙ get_or-drop from (listed all f) i (pos 0)
    ∙ get_or-map-range_with_len f 0 all (from + i) (from + i) (pos 0) (omega (arith, less, low)) (omega arith)
    ∙ same i less)

-- a message that is put in a frame is read there
pub read_again : (offset width all : ℕ) (f : ℕ → ℤ) (said : Option (List ℤ)) → offset + (1 + width) ≤ all → ((words : List ℤ) → said ≡ Some words → length words ≡ width)
    → ((i : ℕ) → i < 1 + width → f (offset + i) ≡ packed said i) → message_in offset width (listed all f) ≡ said
read_again offset width all f None fits size same =
    let z : offset + 0 ≡ offset = omega arith in
    let first : get_or (listed all f) offset (pos 0) ≡ pos 0 =
    get_or-map-range_with_len f 0 all offset offset (pos 0) (omega (arith, fits)) (omega arith) ∙ ap f (sym z) ∙ same 0 (omega arith) in
    ap (λ x. cond (int_eq x (pos 1)) (Some (part (offset + 1) width (listed all f))) None) first
read_again offset width all f (Some words) fits size same =
    let z : offset + 0 ≡ offset = omega arith in
    let first : get_or (listed all f) offset (pos 0) ≡ pos 1 =
    get_or-map-range_with_len f 0 all offset offset (pos 0) (omega (arith, fits)) (omega arith) ∙ ap f (sym z) ∙ same 0 (omega arith) in
    ap (λ x. cond (int_eq x (pos 1)) (Some (part (offset + 1) width (listed all f))) None) first
    ∙ ap (λ ws. Some ws) (part_listed (offset + 1) width all f words (omega (arith, fits)) (size words refl)
    (λ i low. let e : offset + 1 + i ≡ offset + suc i = omega arith in ap f e ∙ same (suc i) (omega (arith, low))))
