-- What clocks and slots tell of where a replica stands.
use Rattle.std.proofs.Common.{◌≡◌, ℕ, suc, ◌+◌, ◌-◌, ◌<◌, ◌≤◌, inl, inr, List, ℤ, sym, ◌∙◌, ap, subst, refl, arith}
use Rattle.std.proofs.lemmas.Bool.{cases_eq, cases_lt, cases_Bool}
use Rattle.mars_base.specs.declared.shape.Side.{Side}
use Rattle.bus.specs.SlotState.{SlotState, StandsAt, IsSending, slot_at}
use Rattle.script.specs.declared.script.Silence.{Silence}
use Rattle.cluster_agreement.specs.Keeps.{partly}
use Rattle.cluster_model.specs.Cluster.{is_over, settled}
use Rattle.cluster_model.specs.Plan.{Plan}
use Rattle.cluster_model.specs.State.{Mode, Running, Silent, Member, member_of, State}
use Rattle.cluster_slots.proofs.Shapes.{Said, ShapeIn, ShapesIn, turn_shapes}
use Rattle.cluster_reached.specs.InPlace.{IsInSlot, HasLists, IsInPlace, AreInPlace}
use Rattle.cluster_reached.proofs.Lists.{AllLists, settled_lists}

-- any word may be said
abbrev pub Any : Said
Any u x k i w = Unit {0}

sends_running : (mode : Mode) (words : List ℤ) → IsSending (partly mode words) → mode ≡ Running
sends_running Running words h = refl
sends_running Silent words h = absurd h

module _ (p : Plan) (silences : List Silence) where
  module _ (cycle : ℕ) (u : ℕ) (x : Side) (m : Member) (k : ShapeIn p silences cycle Any u x m) where
    stands_at : m.mode ≡ Running → (n : ℕ) → n < p.rounds → IsInSlot p n u x m.held.clock → StandsAt (slot_at m.slots n) (m.held.clock - p.slot n u x)
    stands_at q n b i = elim (cases_eq (p.slot n u x) m.held.clock) [
      | inl e ↦ subst (λ (s : SlotState). StandsAt s (m.held.clock - p.slot n u x)) (sym (k.ahead n b (omega (arith, e)))) (omega (arith, e))
      | inr e ↦
          let a = k.amid n b (omega (arith, i.from, e)) i.to in
          subst (λ (s : SlotState). StandsAt s (m.held.clock - p.slot n u x)) (sym (a.2 ∙ ap (λ mode. partly mode a.0) q)) a.1.count_is
    ]

    sends_in : (n : ℕ) → n < p.rounds → IsSending (slot_at m.slots n) → (m.mode ≡ Running) × IsInSlot p n u x m.held.clock
    sends_in n b h = elim (cases_lt (p.slot n u x) m.held.clock) [
      | inr l ↦ absurd (subst (λ (s : SlotState). IsSending s) (k.ahead n b l) h)
      | inl l ↦ elim (cases_lt m.held.clock (p.slot n u x + p.words)) [
        | inr o ↦ let a = k.past n b o in absurd (subst (λ (s : SlotState). IsSending s) a.2 h)
        | inl o ↦
            let a = k.amid n b l o in
            (sends_running m.mode a.0 (subst (λ (s : SlotState). IsSending s) a.2 h), record { from = omega (arith, l); to = o })
      ]
    ]

    in_place : HasLists p m → IsInPlace p u x m
    in_place h = record { lists = h; clock = k.clock; stands = stands_at; sends = sends_in }

  pub all_in_place : (s : State) → ShapesIn p silences s.cycle Any s.members → AllLists p s → AreInPlace p s
  all_in_place s h l = record {
    size = h.size;
    each = λ u x b. in_place s.cycle u x (member_of s.members u x) (h.each u x b) (l.each u x b);
    start = l.start;
  }

  settled_shapes : 1 < p.words → (s : State) → ShapesIn p silences s.cycle Any s.members → ShapesIn p silences (settled p s).cycle Any (settled p s).members
  settled_shapes wide s h = elim (cases_Bool (is_over p s.members)) [
    | inl o ↦ rw o (turn_shapes p silences s.cycle Any Any wide s.members h)
    | inr o ↦ rw o h
  ]

  pub settled_in_place : 1 < p.words → (s : State) → ShapesIn p silences s.cycle Any s.members → AllLists p s → AreInPlace p (settled p s)
  settled_in_place wide s h l = all_in_place (settled p s) (settled_shapes wide s h) (settled_lists p s l)
