-- The slots of a replica that falls silent.
use Rattle.std.proofs.Common.{◌≡◌, ℕ, ◌<◌, inl, inr, List, [], ◌∷◌, length, set, map, ℤ, Bool, true, false, refl, sym, ◌∙◌, ap, arith}
use Rattle.std.specs.Prelude.{if◌then◌else◌}
use Rattle.std.proofs.lemmas.Bool.{cases_eq}
use Rattle.std.proofs.lemmas.List.{get_or-map, get_or-set_other, get_or-set_same, length-map, ext_get_or}
use Rattle.std.proofs.lemmas.List.Folds.{list_any_none, list_any_at}
use Rattle.mars_base.specs.declared.shape.Side.{Side}
use Rattle.bus.specs.Numbers.{BusState, slot_number, slot_of, slot_count}
use Rattle.bus.proofs.Below.{number_below}
use Rattle.bus.specs.SlotState.{SlotState, Open, Sending, Whole, Cut, IsSending, slot_at, cut}
use Rattle.tdma.specs.Layout.{Layout}
use Rattle.replica_parts.specs.Inbox.{HasFullFrames}
use Rattle.cluster_model.specs.Effects.{is_sending, fall_effects}
use Rattle.cluster_model.specs.Plan.{listed}
use Rattle.cluster_model.specs.declared.effect.Effect.TheVariants as effect
use Rattle.tick_parts.specs.OnBus.{slots_on}
use Rattle.tick_parts.proofs.Lists.{listed_at, listed_same, length_listed}
use Rattle.tick_parts.proofs.OwnSlots.{one_slot}

-- a slot that isn't sending stays as it is
cut_same : (s : SlotState) → (IsSending s → ⊥) → cut s ≡ s
cut_same Open h = refl
cut_same (Sending ws) h = absurd (h tt)
cut_same (Whole ws) h = refl
cut_same (Cut ws) h = refl

not_sending : (s : SlotState) → (IsSending s → ⊥) → is_sending s ≡ false
not_sending Open h = refl
not_sending (Sending ws) h = absurd (h tt)
not_sending (Whole ws) h = refl
not_sending (Cut ws) h = refl

sends : (s : SlotState) → IsSending s → is_sending s ≡ true
sends Open h = absurd h
sends (Sending ws) h = refl
sends (Whole ws) h = absurd h
sends (Cut ws) h = absurd h

cut_whole : (s : SlotState) (ws : List ℤ) → cut s ≡ Whole ws → s ≡ Whole ws
cut_whole Open ws e = absurd (let clash : ⊥ = cc in clash)
cut_whole (Sending xs) ws e = absurd (let clash : ⊥ = cc in clash)
cut_whole (Whole xs) ws e = e
cut_whole (Cut xs) ws e = absurd (let clash : ⊥ = cc in clash)

-- where none is sending, all stay and nothing is cut
module _ (b : BusState) (unit : ℕ) (side : Side) (none : (k : ℕ) → k < b.layout.rounds → IsSending (slot_of b k unit side) → ⊥) where
  pub none_cut : slots_on b unit side ≡ map cut (slots_on b unit side)
  none_cut = ext_get_or Open (slots_on b unit side) (map cut (slots_on b unit side)) (sym (length-map (slots_on b unit side) cut))
      (λ k low. let few : k < b.layout.rounds = omega (arith, low, length_listed b.layout.rounds (λ round. slot_of b round unit side)) in
      let at = listed_at b.layout.rounds (λ round. slot_of b round unit side) k Open few in
      at ∙ sym (cut_same (slot_of b k unit side) (none k few)) ∙ sym (ap cut at) ∙ sym (get_or-map cut (slots_on b unit side) k Open Open low))

  pub fell_alone : fall_effects (slots_on b unit side) ≡ effect.Fell ∷ []
  fell_alone = ap (λ (t : Bool). effect.Fell ∷ (if t then effect.Cut ∷ [] else []))
      (list_any_none is_sending (slots_on b unit side) (λ k d low. let few : k < b.layout.rounds = omega (arith, low, length_listed b.layout.rounds (λ round. slot_of b round unit side)) in
      ap is_sending (listed_at b.layout.rounds (λ round. slot_of b round unit side) k d few) ∙ not_sending (slot_of b k unit side) (none k few)))

-- where one is, it alone is cut
module _ (b new : BusState) (unit : ℕ) (side : Side) (round : ℕ) (u : unit < b.layout.units) (low : round < b.layout.rounds) (count : length b.slots ≡ slot_count b.layout) (layout : new.layout ≡ b.layout)
    (slots : new.slots ≡ set b.slots (slot_number b.layout round unit side) (cut (slot_of b round unit side))) (sending : IsSending (slot_of b round unit side))
    (only : (k : ℕ) → k < b.layout.rounds → IsSending (slot_of b k unit side) → k ≡ round) where
  slots_new : (v : ℕ) (x : Side) → slots_on new v x ≡ listed b.layout.rounds (λ k. slot_at (set b.slots (slot_number b.layout round unit side) (cut (slot_of b round unit side))) (slot_number b.layout k v x))
  slots_new v x =
      ap (λ (l : Layout). listed l.rounds (λ k. slot_at new.slots (slot_number l k v x))) layout
      ∙ ap (λ (ss : List SlotState). listed b.layout.rounds (λ k. slot_at ss (slot_number b.layout k v x))) slots

  below : slot_number b.layout round unit side < length b.slots
  below = let z = number_below b.layout round unit side low u in omega (arith, z, count)

  at : (k : ℕ) → k < b.layout.rounds → slot_at (set b.slots (slot_number b.layout round unit side) (cut (slot_of b round unit side))) (slot_number b.layout k unit side) ≡ cut (slot_of b k unit side)
  at k few = elim (cases_eq k round) [
    | inl here ↦
        ap (λ k. slot_at (set b.slots (slot_number b.layout round unit side) (cut (slot_of b round unit side))) (slot_number b.layout k unit side)) here
        ∙ get_or-set_same b.slots (slot_number b.layout round unit side) (cut (slot_of b round unit side)) Open below
        ∙ ap (λ k. cut (slot_of b k unit side)) (sym here)
    | inr other ↦
        get_or-set_other b.slots (slot_number b.layout round unit side) (slot_number b.layout k unit side) (cut (slot_of b round unit side)) Open (λ e. other (one_slot b.layout k unit side round unit side u u e).0)
        ∙ sym (cut_same (slot_of b k unit side) (λ s. other (only k few s)))
  ]

  pub own_cut : slots_on new unit side ≡ map cut (slots_on b unit side)
  own_cut = slots_new unit side ∙ listed_same b.layout.rounds _ (λ k. cut (slot_of b k unit side)) at
      ∙ ext_get_or Open (listed b.layout.rounds (λ k. cut (slot_of b k unit side))) (map cut (slots_on b unit side))
      (length_listed b.layout.rounds (λ k. cut (slot_of b k unit side)) ∙ sym (length-map (slots_on b unit side) cut ∙ length_listed b.layout.rounds (λ round. slot_of b round unit side)))
      (λ k lk. let few : k < b.layout.rounds = omega (arith, lk, length_listed b.layout.rounds (λ k. cut (slot_of b k unit side))) in
      listed_at b.layout.rounds (λ k. cut (slot_of b k unit side)) k Open few
      ∙ sym (ap cut (listed_at b.layout.rounds (λ round. slot_of b round unit side) k Open few))
      ∙ sym (get_or-map cut (slots_on b unit side) k Open Open (omega (arith, few, length_listed b.layout.rounds (λ round. slot_of b round unit side)))))

  pub others_cut : (v : ℕ) (x : Side) → v < b.layout.units → (v ≡ unit → x ≡ side → ⊥) → slots_on new v x ≡ slots_on b v x
  others_cut v x lv differ = slots_new v x ∙ listed_same b.layout.rounds _ (λ k. slot_of b k v x)
      (λ k few. get_or-set_other b.slots (slot_number b.layout round unit side) (slot_number b.layout k v x) (cut (slot_of b round unit side)) Open
      (λ e. let w = one_slot b.layout k v x round unit side lv u e in differ w.1 w.2))

  pub full_cut : HasFullFrames b → HasFullFrames new
  full_cut full n words e = elim (cases_eq n (slot_number b.layout round unit side)) [
    | inl here ↦
        full (slot_number b.layout round unit side) words
        (cut_whole (slot_of b round unit side) words
        (sym (get_or-set_same b.slots (slot_number b.layout round unit side) (cut (slot_of b round unit side)) Open below)
        ∙ ap (slot_at (set b.slots (slot_number b.layout round unit side) (cut (slot_of b round unit side)))) (sym here)
        ∙ ap (λ (ss : List SlotState). slot_at ss n) (sym slots) ∙ e))
        ∙ ap (λ (l : Layout). l.slot_words) (sym layout)
    | inr there ↦
        full n words
        (sym (get_or-set_other b.slots (slot_number b.layout round unit side) n (cut (slot_of b round unit side)) Open there)
        ∙ ap (λ (ss : List SlotState). slot_at ss n) (sym slots) ∙ e)
        ∙ ap (λ (l : Layout). l.slot_words) (sym layout)
  ]

  pub fell_and_cut : fall_effects (slots_on b unit side) ≡ effect.Fell ∷ effect.Cut ∷ []
  fell_and_cut = ap (λ (t : Bool). effect.Fell ∷ (if t then effect.Cut ∷ [] else []))
      (list_any_at is_sending (slots_on b unit side) round Open (omega (arith, low, length_listed b.layout.rounds (λ round. slot_of b round unit side)))
      (ap is_sending (listed_at b.layout.rounds (λ round. slot_of b round unit side) round Open low) ∙ sends (slot_of b round unit side) sending))
