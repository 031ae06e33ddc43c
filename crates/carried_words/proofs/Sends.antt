-- Which messages have a word of a frame.
use Rattle.std.proofs.Common.{◌≡◌, inl, inr, ℕ, zero, suc, ◌+◌, ◌-◌, ◌<◌, List, [], ◌∷◌, length, get_or, ℤ, pos, Option, Bool, true, false, refl, sym, ◌∙◌, ap, arith}
use Rattle.std.specs.Prelude.{◌==◌, ◌&&◌, if◌then◌else◌}
use Rattle.std.proofs.lemmas.Bool.{cases_eq, eq-eqb, ne_eqb}
use Rattle.graph.specs.declared.net.Net.{Net}
use Rattle.tables.specs.Named.{no_message}
use Rattle.tables.specs.declared.table.Message.{Message}
use Rattle.tdma.specs.Layout.{Layout}
use Rattle.timetable.specs.Keys.{sending_of}
use Rattle.cluster_model.specs.Frame.{packed, covers, word_from}

module _ (net : Net) (round unit : ℕ) (said : ℕ → Option (List ℤ)) (word : ℕ) where
  -- the first message that has the word, behind some that haven't
  pub found : (ms : List Message) (k n : ℕ) → n < length ms → ((i : ℕ) → i < n → covers net round unit said word (get_or ms i no_message) ≡ false)
      → covers net round unit said word (get_or ms n no_message) ≡ true → word_from net round unit said word ms k ≡ packed (said (k + n)) (word - (get_or ms n no_message).offset)
  found [] k n low none here = absurd (omega (arith, low))
  found (m ∷ ms) k zero low none here =
      let z : k ≡ k + 0 = omega arith in
      ap (λ (b : Bool). if b then packed (said k) (word - m.offset) else word_from net round unit said word ms (suc k)) here
      ∙ ap (λ n. packed (said n) (word - m.offset)) z
  found (m ∷ ms) k (suc n) low none here =
      let z : suc k + n ≡ k + suc n = omega arith in
      ap (λ (b : Bool). if b then packed (said k) (word - m.offset) else word_from net round unit said word ms (suc k)) (none 0 (omega arith))
      ∙ found ms (suc k) n (omega (arith, low)) (λ i less. none (suc i) (omega (arith, less))) here
      ∙ ap (λ x. packed (said x) (word - (get_or ms n no_message).offset)) z

  -- no message has the word
  pub nothing : (ms : List Message) (k : ℕ) → ((i : ℕ) → i < length ms → covers net round unit said word (get_or ms i no_message) ≡ false) → word_from net round unit said word ms k ≡ pos 0
  nothing [] k none = refl
  nothing (m ∷ ms) k none =
      ap (λ (b : Bool). if b then packed (said k) (word - m.offset) else word_from net round unit said word ms (suc k)) (none 0 (omega arith))
      ∙ nothing ms (suc k) (λ i less. none (suc i) (omega (arith, less)))

both : (a b : Bool) → a ≡ true → b ≡ true → (a && b) ≡ true
both a b ea eb = rw (ea, eb) refl

neither : (a b c : Bool) → a ≡ false → ((a && b) && c) ≡ false
neither a b c ea = rw ea refl

not_second : (a b c : Bool) → b ≡ false → ((a && b) && c) ≡ false
not_second true b c eb = rw eb refl
not_second false b c eb = refl

not_last : (a b : Bool) → b ≡ false → (a && b) ≡ false
not_last true b eb = eb
not_last false b eb = refl

module _ (layout : Layout) (round unit : ℕ) (m : Message) where
  sends : (unit == unit) ≡ true
  sends = eq-eqb unit unit refl

  -- a message that the unit sends in the round is due there
  pub is_sent : round < layout.rounds → sending_of layout unit m ≡ round → (m.unit == unit && m.round == round) ≡ true
  is_sent low due = elim (cases_eq m.unit unit) [
    | inl same ↦
        let t = eq-eqb m.unit unit same in
        let e : m.round ≡ round = ap (λ (b : Bool). if b then m.round else layout.rounds) (sym t) ∙ due in
        both (m.unit == unit) (m.round == round) t (eq-eqb m.round round e)
    | inr differ ↦
        let f = ne_eqb m.unit unit differ in
        let e : layout.rounds ≡ round = ap (λ (b : Bool). if b then m.round else layout.rounds) (sym f) ∙ due in
        absurd (omega (arith, e, low))
  ]

  -- a message that isn't due there has none of its words
  pub is_not_sent : (has : Bool) → (sending_of layout unit m ≡ round → ⊥) → ((m.unit == unit && m.round == round) && has) ≡ false
  is_not_sent has other = elim (cases_eq m.unit unit) [
    | inl same ↦
        let t = eq-eqb m.unit unit same in
        not_second (m.unit == unit) (m.round == round) has
        (ne_eqb m.round round (λ e. other (ap (λ (b : Bool). if b then m.round else layout.rounds) t ∙ e)))
    | inr differ ↦ neither (m.unit == unit) (m.round == round) has (ne_eqb m.unit unit differ)
  ]

  pub covers_now : (has : Bool) → round < layout.rounds → sending_of layout unit m ≡ round → has ≡ true → ((m.unit == unit && m.round == round) && has) ≡ true
  covers_now has low due h = both (m.unit == unit && m.round == round) has (is_sent low due) h

  pub covers_not : (has : Bool) → has ≡ false → ((m.unit == unit && m.round == round) && has) ≡ false
  covers_not has h = not_last (m.unit == unit && m.round == round) has h
