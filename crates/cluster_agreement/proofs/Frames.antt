-- A receiver finds a frame whole at its first usable tick, on A's side or on B's, and its words are those of the results.
use Rattle.std.proofs.Common.{◌≡◌, ℕ, ◌+◌, ◌-◌, ◌<◌, ◌⊎◌, inl, inr, List, ℤ, false, Option, Some, None, refl, sym, ◌∙◌, ap, arith}
use Rattle.std.proofs.lemmas.Bool.{cases_eq, cases_lt, eq-eqb, ne_eqb, true≢false}
use Rattle.mars_base.specs.declared.shape.Side.{Side}
use Rattle.mars_base.specs.declared.shape.Side.TheVariants.{A, B}
use Rattle.bus.specs.SlotState.{slot_at, whole}
use Rattle.net_run.specs.NetRun.{JobResult}
use Rattle.net_run.specs.Words.{with_words}
use Rattle.cluster_model.specs.Plan.{Plan, listed}
use Rattle.cluster_model.specs.Sound.{IsSoundPlan, AreGiven, maker_of}
use Rattle.cluster_model.specs.State.{told, Mode, Running, Silent, Member, member_of, bus_in}
use Rattle.cluster_model.specs.Tick.{a_or_b, received}
use Rattle.cluster_model.specs.Cluster.{IsEnabled}
use Rattle.cluster_agreement.specs.Keeps.{partly, Falling, word, Keeps, Holds}
use Rattle.cluster_agreement.proofs.Jobs.{TakesRight}

cases_mode : (mode : Mode) → (mode ≡ Running) ⊎ (mode ≡ Silent)
cases_mode Running = inl refl
cases_mode Silent = inr refl

partly_not_whole : (mode : Mode) (words : List ℤ) → whole (partly mode words) ≡ None
partly_not_whole Running words = refl
partly_not_whole Silent words = refl

a_or_b_left : (a b : Option (List ℤ)) (words : List ℤ) → a ≡ Some words → a_or_b a b ≡ Some words
a_or_b_left a b words e = ap (λ o. a_or_b o b) e

a_or_b_right : (a b : Option (List ℤ)) (words : List ℤ) → (a ≡ None) ⊎ (a ≡ Some words) → b ≡ Some words → a_or_b a b ≡ Some words
a_or_b_right a b words (inl n) e = ap (λ o. a_or_b o b) n ∙ e
a_or_b_right a b words (inr s) e = ap (λ o. a_or_b o b) s

module _ (p : Plan) (start : ℕ → List ℤ) (line : List ℤ) (res : ℕ → JobResult) (falling : Falling) where
  -- a replica that falls at no tick of the cycle runs
  pub alive : (u : ℕ) (x : Side) (m : Member) → Keeps p start line res falling u x m → ((t : ℕ) → t < p.cycle → falling u x t ≡ false) → m.mode ≡ Running
  alive u x m k h = elim (cases_mode m.mode) [
    | inl r ↦ r
    | inr s ↦ let f = k.fell s in absurd (true≢false (sym f.0 ∙ h m.held.clock f.1))
  ]

  -- whatever a replica's clock, its slot is not whole or has the words of the results
  whole_or_not : (u : ℕ) (x : Side) (m : Member) (n : ℕ) → Keeps p start line res falling u x m → n < p.rounds →
      (whole (slot_at m.slots n) ≡ None) ⊎ (whole (slot_at m.slots n) ≡ Some (listed p.words (word p res n u)))
  whole_or_not u x m n k l = elim (cases_lt (p.slot n u x) m.held.clock) [
    | inr a ↦ inl (ap whole (k.ahead n l a))
    | inl a ↦ elim (cases_lt m.held.clock (p.slot n u x + p.words)) [
      | inl b ↦ inl (ap whole (k.amid n l a b) ∙ partly_not_whole m.mode (listed (m.held.clock - p.slot n u x) (word p res n u)))
      | inr b ↦ inr (ap whole (k.past n l b))
    ]
  ]

  module _ (out_words : ℕ → ℕ) (members : List Member) (d : IsSoundPlan p out_words) (h : Holds p start line res falling members)
      (runs : (u : ℕ) → u < p.units → (x : Side) × ((t : ℕ) → t < p.cycle → falling u x t ≡ false)) (fits : AreGiven p out_words (λ j. told (res j))) where
    frame : (n : ℕ) → List ℤ
    frame n = listed p.words (word p res (p.round_of n) (p.sender n))

    sent_by : (n : ℕ) → n < p.messages → p.sender n < p.units
    sent_by n low = let c = d.crosses n low in omega (arith, c.sender, d.placed (maker_of p n) c.made)

    found : (u : ℕ) (x : Side) → IsEnabled p members u x → (n : ℕ) → n < p.messages → p.usable (p.round_of n) (p.sender n) ≡ (member_of members u x).held.clock
        → (y : Side) → ((t : ℕ) → t < p.cycle → falling (p.sender n) y t ≡ false)
        → received p (bus_in members) (p.sender n) (p.round_of n) ≡ Some (listed p.words (word p res (p.round_of n) (p.sender n)))
    found u x e n low a A g =
        let c = d.crosses n low in
        let v = sent_by n low in
        let slot = d.slots (p.round_of n) (p.sender n) c.round v in
        let k = h.each (p.sender n) A v in
        let close = e.close (p.sender n) A v (alive (p.sender n) A (member_of members (p.sender n) A) k g) in
        a_or_b_left _ _ (listed p.words (word p res (p.round_of n) (p.sender n))) (ap whole (k.past (p.round_of n) c.round (omega (arith, slot.a_usable, a, close))))
    found u x e n low a B g =
        let c = d.crosses n low in
        let v = sent_by n low in
        let slot = d.slots (p.round_of n) (p.sender n) c.round v in
        let k = h.each (p.sender n) B v in
        let close = e.close (p.sender n) B v (alive (p.sender n) B (member_of members (p.sender n) B) k g) in
        a_or_b_right _ _ (listed p.words (word p res (p.round_of n) (p.sender n)))
        (whole_or_not (p.sender n) A (member_of members (p.sender n) A) (p.round_of n) (h.each (p.sender n) A v) c.round)
        (ap whole (k.past (p.round_of n) c.round (omega (arith, slot.b_usable, a, close))))

    pub takes_right : (u : ℕ) (x : Side) → IsEnabled p members u x → TakesRight p res (bus_in members) u (member_of members u x).held
    takes_right u x e n low r l = elim (cases_eq (p.usable (p.round_of n) (p.sender n)) (member_of members u x).held.clock) [
      | inl s ↦
          let v = sent_by n low in
          let y = runs (p.sender n) v in
          rw (eq-eqb (p.receiver n) u r, eq-eqb (p.usable (p.round_of n) (p.sender n)) (member_of members u x).held.clock s)
          (ap (λ o. with_words o (p.read n)) (found u x e n low s y.0 y.1) ∙ d.frame_read n (λ j. told (res j)) low fits)
      | inr s ↦
          rw (eq-eqb (p.receiver n) u r, ne_eqb (p.usable (p.round_of n) (p.sender n)) (member_of members u x).held.clock s)
          ((h.each u x e.unit_is).taken n low r (omega (arith, l, s)))
    ]
