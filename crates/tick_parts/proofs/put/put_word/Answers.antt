use Rattle.std.proofs.Common.{◌≡◌, ℕ, List, [], ◌∷◌, ◌++◌, ℤ, Option, None, Some, sym, ◌∙◌, ap, subst, arith, append-nil, rules, to_z, of_z, w32}
use Rattle.std.proofs.lemmas.List.{length-set}
use Rattle.bus.specs.Numbers.{slot_count}
use Rattle.tdma.specs.Layout.{Layout}
use Rattle.tdma.specs.declared.round.SlotPlace.{SlotPlace}
use Rattle.tables.specs.Valid.{bus_of}
use Rattle.cluster_model.specs.declared.effect.Effect.{Effect}
use Rattle.tick_parts.specs.OnBus.{slots_on, IsOwn, OwnPlace}
use Rattle.tick_parts.proofs.OwnSlots.{whole_rounds, own_after, own_same, others_after, full_after, to_plan, said_word, says, puts_none, puts_one}
use Rattle.tick_parts.proofs.put.put_word.Goals as goal

pub own_place-requires-clause-tick : goal.own_place-requires-clause-tick
own_place-requires-clause-tick c =
    let net = c.args.net.now in let g = c.args.graph.now in
    omega (arith, c.requires.tick, whole_rounds net g c.requires.net, ap (λ (l : Layout). Rattle.tdma.specs.Layout.cycle_ticks l) c.requires.round)

pub returns-in_default-clause-own : goal.returns-in_default-clause-own
returns-in_default-clause-own c =
    let net = c.args.net.now in let g = c.args.graph.now in let t = c.args.tables.now in let b = c.args.bus.now in
    let none : OwnPlace b.layout c.args.unit c.args.side c.args.tick None =
    subst (λ (l : Layout). OwnPlace l c.args.unit c.args.side c.args.tick None) (c.requires.round ∙ sym c.requires.bus.layout)
    (subst (λ (o : Option SlotPlace). OwnPlace c.args.round.now c.args.unit c.args.side c.args.tick o) c.in_default.is c.own_place.ensures) in
    λ words exec cost h clock tells. to_plan net g t words exec cost c.args.unit c.args.side c.args.tick h clock b.layout c.requires.bus.layout (slots_on b c.args.unit c.args.side) (slots_on b c.args.unit c.args.side)
    (own_same b c.args.unit c.args.side c.args.tick (says net g t words exec cost c.args.unit c.args.side c.args.tick h clock) none)

pub returns-in_default-clause-effects : goal.returns-in_default-clause-effects
returns-in_default-clause-effects c =
    let net = c.args.net.now in let g = c.args.graph.now in let t = c.args.tables.now in
    let none : OwnPlace (bus_of net g) c.args.unit c.args.side c.args.tick None =
    subst (λ (l : Layout). OwnPlace l c.args.unit c.args.side c.args.tick None) c.requires.round
    (subst (λ (o : Option SlotPlace). OwnPlace c.args.round.now c.args.unit c.args.side c.args.tick o) c.in_default.is c.own_place.ensures) in
    λ words exec cost h clock tells. sym (append-nil c.args.seen.now) ∙ ap (λ (xs : List Effect). c.args.seen.now ++ xs) (sym (puts_none net g t words exec cost c.args.unit c.args.side c.args.tick h clock none))

pub returns-clause-bus : goal.returns-clause-bus
returns-clause-bus c =
    let net = c.args.net.now in let g = c.args.graph.now in let b = c.args.bus.now in
    let l : c.args.round.now ≡ b.layout = c.requires.round ∙ sym c.requires.bus.layout in
    let own : IsOwn b.layout c.args.unit c.args.side c.args.tick c.in-Some.place =
    subst (λ (l : Layout). IsOwn l c.args.unit c.args.side c.args.tick c.in-Some.place) l
    (subst (λ (o : Option SlotPlace). OwnPlace c.args.round.now c.args.unit c.args.side c.args.tick o) c.in-Some.is c.own_place.ensures) in
    let units = ap (λ (l : Layout). l.units) c.requires.bus.layout in
    record {
      layout = c.put.ensures.layout ∙ c.requires.bus.layout;
      slots = ap Rattle.std.proofs.Common.length c.put.ensures.slots ∙ length-set b.slots _ _ ∙ c.requires.bus.slots ∙ ap slot_count (sym c.put.ensures.layout);
      frames = full_after b c.put.new.self c.args.unit c.args.side c.args.tick c.in-Some.place (to_z w32 (of_z w32 c.frame_word-word.result)) (omega (arith, c.requires.unit, units)) c.requires.bus.slots c.put.ensures.layout own c.put.ensures.slots c.requires.bus.frames;
    }

pub returns-clause-own : goal.returns-clause-own
returns-clause-own c =
    let back : to_z w32 (of_z w32 c.frame_word-word.result) ≡ c.frame_word-word.result = search rules in
    let net = c.args.net.now in let g = c.args.graph.now in let t = c.args.tables.now in let b = c.args.bus.now in
    let l : c.args.round.now ≡ b.layout = c.requires.round ∙ sym c.requires.bus.layout in
    let own : IsOwn b.layout c.args.unit c.args.side c.args.tick c.in-Some.place =
    subst (λ (l : Layout). IsOwn l c.args.unit c.args.side c.args.tick c.in-Some.place) l
    (subst (λ (o : Option SlotPlace). OwnPlace c.args.round.now c.args.unit c.args.side c.args.tick o) c.in-Some.is c.own_place.ensures) in
    let units = ap (λ (l : Layout). l.units) c.requires.bus.layout in
    λ words exec cost h clock tells. to_plan net g t words exec cost c.args.unit c.args.side c.args.tick h clock b.layout c.requires.bus.layout (slots_on b c.args.unit c.args.side) (slots_on c.put.new.self c.args.unit c.args.side)
    (own_after b c.put.new.self c.args.unit c.args.side c.args.tick c.in-Some.place (to_z w32 (of_z w32 c.frame_word-word.result)) (omega (arith, c.requires.unit, units)) c.requires.bus.slots c.put.ensures.layout own c.put.ensures.slots
    (says net g t words exec cost c.args.unit c.args.side c.args.tick h clock)
    (said_word net g t words exec cost c.args.unit c.args.side c.args.tick h clock c.args.book.now tells b.layout c.in-Some.place own (to_z w32 (of_z w32 c.frame_word-word.result)) (back ∙ c.frame_word-word.ensures)))

pub returns-clause-others : goal.returns-clause-others
returns-clause-others c =
    let net = c.args.net.now in let g = c.args.graph.now in let b = c.args.bus.now in
    let l : c.args.round.now ≡ b.layout = c.requires.round ∙ sym c.requires.bus.layout in
    let own : IsOwn b.layout c.args.unit c.args.side c.args.tick c.in-Some.place =
    subst (λ (l : Layout). IsOwn l c.args.unit c.args.side c.args.tick c.in-Some.place) l
    (subst (λ (o : Option SlotPlace). OwnPlace c.args.round.now c.args.unit c.args.side c.args.tick o) c.in-Some.is c.own_place.ensures) in
    let units = ap (λ (l : Layout). l.units) c.requires.bus.layout in
    λ u x low differ. others_after b c.put.new.self c.args.unit c.args.side c.args.tick c.in-Some.place (to_z w32 (of_z w32 c.frame_word-word.result)) (omega (arith, c.requires.unit, units)) c.requires.bus.slots c.put.ensures.layout own c.put.ensures.slots u x (omega (arith, low, units)) differ

pub returns-clause-effects : goal.returns-clause-effects
returns-clause-effects c =
    let back : to_z w32 (of_z w32 c.frame_word-word.result) ≡ c.frame_word-word.result = search rules in
    let net = c.args.net.now in let g = c.args.graph.now in let t = c.args.tables.now in
    let own : IsOwn (bus_of net g) c.args.unit c.args.side c.args.tick c.in-Some.place =
    subst (λ (l : Layout). IsOwn l c.args.unit c.args.side c.args.tick c.in-Some.place) c.requires.round
    (subst (λ (o : Option SlotPlace). OwnPlace c.args.round.now c.args.unit c.args.side c.args.tick o) c.in-Some.is c.own_place.ensures) in
    λ words exec cost h clock tells. c.push.ensures
    ∙ ap (λ (xs : List Effect). c.args.seen.now ++ xs) (sym (puts_one net g t words exec cost c.args.unit c.args.side c.args.tick h clock c.args.book.now tells c.in-Some.place own (to_z w32 (of_z w32 c.frame_word-word.result)) (back ∙ c.frame_word-word.ensures)))
