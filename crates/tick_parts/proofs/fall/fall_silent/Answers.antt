use Rattle.std.proofs.Common.{◌≡◌, ◌<◌, ℕ, List, [], ◌∷◌, ◌++◌, Option, None, sym, ◌∙◌, ap, subst, arith, rules, append_assoc}
use Rattle.bus.specs.Numbers.{slot_of}
use Rattle.bus.specs.SlotState.{IsSending}
use Rattle.tdma.specs.Layout.{Layout}
use Rattle.tdma.specs.declared.round.SlotPlace.{SlotPlace}
use Rattle.cluster_model.specs.declared.effect.Effect.{Effect}
use Rattle.cluster_model.specs.declared.effect.Effect.TheVariants as effect
use Rattle.tick_parts.specs.OnBus.{IsOwn, OwnPlace}
use Rattle.tick_parts.proofs.Falls.{none_cut, fell_alone, own_cut, others_cut, fell_and_cut}
use Rattle.tick_parts.proofs.fall.fall_silent.Goals as goal

pub returns-in_default-clause-own : goal.returns-in_default-clause-own
returns-in_default-clause-own c =
    let b = c.args.bus.now in let unit = c.args.unit in let side = c.args.side in
    let rounds = ap (λ (l : Layout). l.rounds) c.requires.bus.layout in
    let idle : OwnPlace c.args.round.now unit side c.args.tick None = subst (λ (o : Option SlotPlace). OwnPlace c.args.round.now unit side c.args.tick o) c.in_default.is c.own_place.ensures in
    let none : (k : ℕ) → k < b.layout.rounds → IsSending (slot_of b k unit side) → ⊥ =
    λ k low s. idle k (omega (arith, low, rounds)) (c.requires.sends k (omega (arith, low, rounds)) s) in
    none_cut b unit side none

pub returns-in_default-clause-effects : goal.returns-in_default-clause-effects
returns-in_default-clause-effects c =
    let b = c.args.bus.now in let unit = c.args.unit in let side = c.args.side in
    let rounds = ap (λ (l : Layout). l.rounds) c.requires.bus.layout in
    let idle : OwnPlace c.args.round.now unit side c.args.tick None = subst (λ (o : Option SlotPlace). OwnPlace c.args.round.now unit side c.args.tick o) c.in_default.is c.own_place.ensures in
    let none : (k : ℕ) → k < b.layout.rounds → IsSending (slot_of b k unit side) → ⊥ =
    λ k low s. idle k (omega (arith, low, rounds)) (c.requires.sends k (omega (arith, low, rounds)) s) in
    c.push.ensures ∙ ap (λ (xs : List Effect). c.args.seen.now ++ xs) (sym (fell_alone b unit side none))

pub returns-then-is_sending-clause-own : goal.returns-then-is_sending-clause-own
returns-then-is_sending-clause-own c =
    let b = c.args.bus.now in let unit = c.args.unit in let side = c.args.side in
    let rounds = ap (λ (l : Layout). l.rounds) c.requires.bus.layout in
    let units = ap (λ (l : Layout). l.units) c.requires.bus.layout in
    let own : IsOwn c.args.round.now unit side c.args.tick c.in-Some.place = subst (λ (o : Option SlotPlace). OwnPlace c.args.round.now unit side c.args.tick o) c.in-Some.is c.own_place.ensures in
    let here = own.round in
    let only : (k : ℕ) → k < b.layout.rounds → IsSending (slot_of b k unit side) → k ≡ c.in-Some.place.round =
    λ k low s. own.only k (omega (arith, low, rounds)) (c.requires.sends k (omega (arith, low, rounds)) s) in
    let sending : IsSending (slot_of b c.in-Some.place.round unit side) = search rules in
    own_cut b c.cut.new.self unit side c.in-Some.place.round (omega (arith, c.requires.unit, units)) (omega (arith, here, rounds)) c.requires.bus.slots c.cut.ensures.layout c.cut.ensures.slots sending only

pub returns-then-is_sending-clause-others : goal.returns-then-is_sending-clause-others
returns-then-is_sending-clause-others c =
    let b = c.args.bus.now in let unit = c.args.unit in let side = c.args.side in
    let rounds = ap (λ (l : Layout). l.rounds) c.requires.bus.layout in
    let units = ap (λ (l : Layout). l.units) c.requires.bus.layout in
    let own : IsOwn c.args.round.now unit side c.args.tick c.in-Some.place = subst (λ (o : Option SlotPlace). OwnPlace c.args.round.now unit side c.args.tick o) c.in-Some.is c.own_place.ensures in
    let here = own.round in
    let only : (k : ℕ) → k < b.layout.rounds → IsSending (slot_of b k unit side) → k ≡ c.in-Some.place.round =
    λ k low s. own.only k (omega (arith, low, rounds)) (c.requires.sends k (omega (arith, low, rounds)) s) in
    let sending : IsSending (slot_of b c.in-Some.place.round unit side) = search rules in
    λ u x low differ. others_cut b c.cut.new.self unit side c.in-Some.place.round (omega (arith, c.requires.unit, units)) (omega (arith, here, rounds)) c.requires.bus.slots c.cut.ensures.layout c.cut.ensures.slots sending only u x (omega (arith, low, units)) differ

pub returns-then-is_sending-clause-effects : goal.returns-then-is_sending-clause-effects
returns-then-is_sending-clause-effects c =
    let b = c.args.bus.now in let unit = c.args.unit in let side = c.args.side in
    let rounds = ap (λ (l : Layout). l.rounds) c.requires.bus.layout in
    let units = ap (λ (l : Layout). l.units) c.requires.bus.layout in
    let own : IsOwn c.args.round.now unit side c.args.tick c.in-Some.place = subst (λ (o : Option SlotPlace). OwnPlace c.args.round.now unit side c.args.tick o) c.in-Some.is c.own_place.ensures in
    let here = own.round in
    let only : (k : ℕ) → k < b.layout.rounds → IsSending (slot_of b k unit side) → k ≡ c.in-Some.place.round =
    λ k low s. own.only k (omega (arith, low, rounds)) (c.requires.sends k (omega (arith, low, rounds)) s) in
    let sending : IsSending (slot_of b c.in-Some.place.round unit side) = search rules in
    c.push-then-is_sending.ensures
    ∙ ap (λ (xs : List Effect). xs ++ effect.Cut ∷ []) c.push.ensures
    ∙ append_assoc c.args.seen.now (effect.Fell ∷ []) (effect.Cut ∷ [])
    ∙ ap (λ (xs : List Effect). c.args.seen.now ++ xs) (sym (fell_and_cut b c.cut.new.self unit side c.in-Some.place.round (omega (arith, c.requires.unit, units)) (omega (arith, here, rounds)) c.requires.bus.slots c.cut.ensures.layout c.cut.ensures.slots sending only))

pub returns-else-is_sending-clause-own : goal.returns-else-is_sending-clause-own
returns-else-is_sending-clause-own c =
    let b = c.args.bus.now in let unit = c.args.unit in let side = c.args.side in
    let rounds = ap (λ (l : Layout). l.rounds) c.requires.bus.layout in
    let units = ap (λ (l : Layout). l.units) c.requires.bus.layout in
    let own : IsOwn c.args.round.now unit side c.args.tick c.in-Some.place = subst (λ (o : Option SlotPlace). OwnPlace c.args.round.now unit side c.args.tick o) c.in-Some.is c.own_place.ensures in
    let here = own.round in
    let only : (k : ℕ) → k < b.layout.rounds → IsSending (slot_of b k unit side) → k ≡ c.in-Some.place.round =
    λ k low s. own.only k (omega (arith, low, rounds)) (c.requires.sends k (omega (arith, low, rounds)) s) in
    let still : IsSending (slot_of b c.in-Some.place.round unit side) → ⊥ = search rules in
    let none : (k : ℕ) → k < b.layout.rounds → IsSending (slot_of b k unit side) → ⊥ =
    λ k low s. still (subst (λ k. IsSending (slot_of b k unit side)) (only k low s) s) in
    none_cut b unit side none

pub returns-else-is_sending-clause-effects : goal.returns-else-is_sending-clause-effects
returns-else-is_sending-clause-effects c =
    let b = c.args.bus.now in let unit = c.args.unit in let side = c.args.side in
    let rounds = ap (λ (l : Layout). l.rounds) c.requires.bus.layout in
    let units = ap (λ (l : Layout). l.units) c.requires.bus.layout in
    let own : IsOwn c.args.round.now unit side c.args.tick c.in-Some.place = subst (λ (o : Option SlotPlace). OwnPlace c.args.round.now unit side c.args.tick o) c.in-Some.is c.own_place.ensures in
    let here = own.round in
    let only : (k : ℕ) → k < b.layout.rounds → IsSending (slot_of b k unit side) → k ≡ c.in-Some.place.round =
    λ k low s. own.only k (omega (arith, low, rounds)) (c.requires.sends k (omega (arith, low, rounds)) s) in
    let still : IsSending (slot_of b c.in-Some.place.round unit side) → ⊥ = search rules in
    let none : (k : ℕ) → k < b.layout.rounds → IsSending (slot_of b k unit side) → ⊥ =
    λ k low s. still (subst (λ k. IsSending (slot_of b k unit side)) (only k low s) s) in
    c.push.ensures ∙ ap (λ (xs : List Effect). c.args.seen.now ++ xs) (sym (fell_alone b unit side none))
