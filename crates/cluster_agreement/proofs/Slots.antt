-- The slots of a replica after a tick.
use Rattle.std.proofs.Common.{◌≡◌, ℕ, suc, ◌+◌, ◌-◌, ◌<◌, ◌≤◌, ◌⊎◌, inl, inr, List, [], ◌∷◌, ◌++◌, length, ℤ, refl, sym, ◌∙◌, ap, arith}
use Rattle.std.proofs.lemmas.Bool.{cases_eq, eq-eqb, ne_eqb, lt-ltb, le-ltb, le-leb, lt-leb}
use Rattle.std.proofs.lemmas.List.FromFn.{length-map-range_with_len, map-range_with_len_more}
use Rattle.mars_base.specs.declared.shape.Side.{Side}
use Rattle.mars_base.specs.declared.shape.Side.TheVariants.{A, B}
use Rattle.bus.specs.SlotState.{SlotState, Open, Sending, Whole, slot_at, sent, put, cut}
use Rattle.net_run.specs.NetRun.{JobResult}
use Rattle.cluster_model.specs.Plan.{Plan, listed}
use Rattle.cluster_model.specs.PlanRun.{along}
use Rattle.cluster_model.specs.Sound.{IsSoundPlan, maker_of}
use Rattle.cluster_model.specs.State.{told, Held, status_in, Mode, Running, Silent, Member}
use Rattle.cluster_model.specs.Tick.{fed, slot_after, slots_after}
use Rattle.cluster_agreement.specs.Keeps.{partly, Falling, word, Keeps}
use Rattle.cluster_agreement.proofs.Reading.{listed_at}

-- one value more
pub listed_more : {X : Type 0} (n : ℕ) (g : ℕ → X) → listed (suc n) g ≡ listed n g ++ g n ∷ []
listed_more n g = let e : suc n ≡ n + 1 = omega arith in ap (λ k. listed k g) e ∙ map-range_with_len_more g 0 n n (omega arith)

pub length_listed : {X : Type 0} (n : ℕ) (g : ℕ → X) → length (listed n g) ≡ n
length_listed n g = length-map-range_with_len g 0 n

pub sent_short : (w : ℕ) (ws : List ℤ) → length ws < w → sent w ws ≡ Sending ws
sent_short w ws l = rw (ne_eqb (length ws) w (λ e. absurd (omega (arith, l, e)))) refl

pub sent_full : (w : ℕ) (ws : List ℤ) → length ws ≡ w → sent w ws ≡ Whole ws
sent_full w ws e = rw (eq-eqb (length ws) w e) refl

pub cut_partly : (mode : Mode) (ws : List ℤ) → cut (partly mode ws) ≡ partly Silent ws
cut_partly Running ws = refl
cut_partly Silent ws = refl

-- a word more in a slot that is open or sending
put_more : (w n : ℕ) (g : ℕ → ℤ) (s : SlotState) → ((n ≡ 0) × (s ≡ Open)) ⊎ (s ≡ Sending (listed n g)) → put w s (g n) ≡ sent w (listed (suc n) g)
put_more w n g s (inl e) = rw (e.1, e.0) refl
put_more w n g s (inr e) = rw e (ap (sent w) (sym (listed_more n g)))

module _ (p : Plan) (u : ℕ) (x : Side) (h : Held) (slots : List SlotState) where
  -- outside its ticks a slot stays
  pub slot_stays : (n : ℕ) → (h.clock < p.slot n u x) ⊎ (p.slot n u x + p.words ≤ h.clock) → slot_after p u x h slots n ≡ slot_at slots n
  slot_stays n (inl l) = rw (lt-leb (p.slot n u x) h.clock l) refl
  slot_stays n (inr l) = rw (le-leb (p.slot n u x) h.clock (omega (arith, l)), le-ltb h.clock (p.slot n u x + p.words) l) refl

  pub slot_put : (n : ℕ) → p.slot n u x ≤ h.clock → h.clock < p.slot n u x + p.words →
      slot_after p u x h slots n ≡ put p.words (slot_at slots n) (p.frame_word n u (λ m. fed p (status_in h) (p.edge_of m) (p.instance_of m)) (h.clock - p.slot n u x))
  slot_put n l m = rw (le-leb (p.slot n u x) h.clock l, lt-ltb h.clock (p.slot n u x + p.words) m) refl

  pub slot_now : (n : ℕ) → n < p.rounds → slot_at (slots_after p u x h slots) n ≡ slot_after p u x h slots n
  slot_now n b = listed_at p.rounds (slot_after p u x h slots) n Open b

module _ (p : Plan) (out_words : ℕ → ℕ) (start : ℕ → List ℤ) (line : List ℤ) (res : ℕ → JobResult) (falling : Falling) (u : ℕ) (x : Side) (m : Member)
    (d : IsSoundPlan p out_words) (k : Keeps p start line res falling u x m) (q : m.mode ≡ Running) (inside : u < p.units) where
  a_before : (n : ℕ) → n < p.rounds → p.slot n u A ≤ p.slot n u x
  a_before n b = by x
    where
      by : (y : Side) → p.slot n u A ≤ p.slot n u y
      by A = omega arith
      by B = (d.slots n u b inside).a_first

  -- each word that is put is the word of the results
  word_right : (n : ℕ) → n < p.rounds → p.slot n u x ≤ m.held.clock → (i : ℕ) →
      p.frame_word n u (λ v. fed p (status_in m.held) (p.edge_of v) (p.instance_of v)) i ≡ word p res n u i
  word_right n b l i = d.frame_same n u (λ v. fed p (status_in m.held) (p.edge_of v) (p.instance_of v)) (λ v. along p res (p.edge_of v) (p.instance_of v))
      (λ v low r s.
      let c = d.crosses v low in
      let unit : p.unit (maker_of p v) ≡ u = sym c.sender ∙ s in
      let first : p.slot (p.round_of v) (p.sender v) A ≡ p.slot n u A = ap (λ y. p.slot y (p.sender v) A) r ∙ ap (λ y. p.slot n y A) s in
      d.carries (p.edge_of v) (p.instance_of v) (status_in m.held) (λ j. told (res j))
      (k.over (maker_of p v) c.made unit (omega (arith, c.early, first, a_before n b, l)))) i

  -- a slot after a tick in it
  puts_right : (n : ℕ) → n < p.rounds → p.slot n u x ≤ m.held.clock → m.held.clock < p.slot n u x + p.words →
      slot_after p u x m.held m.slots n ≡ sent p.words (listed (suc (m.held.clock - p.slot n u x)) (word p res n u))
  puts_right n b l o =
      slot_put p u x m.held m.slots n l o
      ∙ ap (put p.words (slot_at m.slots n)) (word_right n b l (m.held.clock - p.slot n u x))
      ∙ put_more p.words (m.held.clock - p.slot n u x) (word p res n u) (slot_at m.slots n) (elim (cases_eq (p.slot n u x) m.held.clock) [
        | inl e ↦ inl (omega (arith, e), k.ahead n b (omega (arith, e)))
        | inr e ↦ inr (k.amid n b (omega (arith, l, e)) o ∙ ap (λ y. partly y (listed (m.held.clock - p.slot n u x) (word p res n u))) q)
      ])

  pub next_ahead : (n : ℕ) → n < p.rounds → suc m.held.clock ≤ p.slot n u x → slot_at (slots_after p u x m.held m.slots) n ≡ Open
  next_ahead n b l = slot_now p u x m.held m.slots n b ∙ slot_stays p u x m.held m.slots n (inl (omega (arith, l))) ∙ k.ahead n b (omega (arith, l))

  pub next_amid : (n : ℕ) → n < p.rounds → p.slot n u x < suc m.held.clock → suc m.held.clock < p.slot n u x + p.words →
      slot_at (slots_after p u x m.held m.slots) n ≡ partly m.mode (listed (suc m.held.clock - p.slot n u x) (word p res n u))
  next_amid n b l o =
      let e : suc (m.held.clock - p.slot n u x) ≡ suc m.held.clock - p.slot n u x = omega (arith, l) in
      slot_now p u x m.held m.slots n b
      ∙ puts_right n b (omega (arith, l)) (omega (arith, o))
      ∙ sent_short p.words (listed (suc (m.held.clock - p.slot n u x)) (word p res n u)) (omega (arith, length_listed (suc (m.held.clock - p.slot n u x)) (word p res n u), l, o))
      ∙ ap (λ i. Sending (listed i (word p res n u))) e
      ∙ sym (ap (λ y. partly y (listed (suc m.held.clock - p.slot n u x) (word p res n u))) q)

  pub next_past : (n : ℕ) → n < p.rounds → p.slot n u x + p.words ≤ suc m.held.clock → slot_at (slots_after p u x m.held m.slots) n ≡ Whole (listed p.words (word p res n u))
  next_past n b l = slot_now p u x m.held m.slots n b ∙ elim (cases_eq (p.slot n u x + p.words) (suc m.held.clock)) [
    | inl e ↦
        let i : suc (m.held.clock - p.slot n u x) ≡ p.words = omega (arith, d.wide, e) in
        puts_right n b (omega (arith, d.wide, e)) (omega (arith, e))
        ∙ ap (λ i. sent p.words (listed i (word p res n u))) i
        ∙ sent_full p.words (listed p.words (word p res n u)) (length_listed p.words (word p res n u))
    | inr o ↦ slot_stays p u x m.held m.slots n (inr (omega (arith, l, o))) ∙ k.past n b (omega (arith, l, o))
  ]
