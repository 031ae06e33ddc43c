use Rattle.std.proofs.Common.{◌<◌, ℕ, List, [], ◌∷◌, ◌++◌, Option, None, sym, ◌∙◌, ap, subst, arith, append-nil}
use Rattle.mars_base.specs.declared.shape.Side.TheVariants.{A, B}
use Rattle.bus.specs.Numbers.{slot_of}
use Rattle.bus.specs.SlotState.{whole}
use Rattle.agenda.specs.Due.{IsDue, FirstFrom}
use Rattle.tables.specs.Valid.{bus_of}
use Rattle.tables.specs.declared.table.Message.{Message}
use Rattle.tdma.specs.Layout.{Layout}
use Rattle.timetable.proofs.Few.{of_cycle}
use Rattle.cluster_model.specs.PlanOf.{plan_of}
use Rattle.cluster_model.specs.Effects.{taking}
use Rattle.cluster_model.specs.declared.effect.Effect.{Effect}
use Rattle.tick_parts.proofs.Arrivals.{count}
use Rattle.tick_parts.proofs.Shown.{shows_nothing, shows_one, first_due}
use Rattle.tick_parts.proofs.take.show_frame.Goals as goal

pub returns-in_default-clause-effects : goal.returns-in_default-clause-effects
returns-in_default-clause-effects c =
    let net = c.args.net.now in let g = c.args.graph.now in let t = c.args.tables.now in let a = c.args.arrivals.now in
    let none : FirstFrom a.due 0 c.args.tick None = subst (λ (o : Option ℕ). FirstFrom a.due 0 c.args.tick o) c.in_default.is c.first.ensures in
    λ words exec cost. sym (append-nil c.args.seen.now)
    ∙ ap (λ (xs : List Effect). c.args.seen.now ++ xs) (sym (shows_nothing net g t c.requires.net c.requires.valid c.args.unit a c.requires.arrivals c.args.tick c.requires.tick c.args.bus.now c.requires.bus words exec cost none))

pub taking-requires-clause-round : goal.taking-requires-clause-round
taking-requires-clause-round c =
    let net = c.args.net.now in let g = c.args.graph.now in let t = c.args.tables.now in let a = c.args.arrivals.now in
    let due : IsDue a.due c.args.tick c.in-Some.first = first_due a.due c.args.tick c.first.result c.in-Some.first c.in-Some.is c.first.ensures in
    let w = due.within in
    let here = of_cycle net g t c.in-Some.first c.requires.net c.requires.valid (omega (arith, w, count net g t c.requires.net c.requires.valid c.args.unit a c.requires.arrivals)) in
    subst (λ (l : Layout). c.message_at-message.result.round < l.rounds) (sym c.requires.bus.layout)
    (subst (λ (m : Message). m.round < (bus_of net g).rounds) (sym c.message_at-message.ensures) here.round)

pub taking-requires-clause-unit : goal.taking-requires-clause-unit
taking-requires-clause-unit c =
    let net = c.args.net.now in let g = c.args.graph.now in let t = c.args.tables.now in let a = c.args.arrivals.now in
    let due : IsDue a.due c.args.tick c.in-Some.first = first_due a.due c.args.tick c.first.result c.in-Some.first c.in-Some.is c.first.ensures in
    let w = due.within in
    let here = of_cycle net g t c.in-Some.first c.requires.net c.requires.valid (omega (arith, w, count net g t c.requires.net c.requires.valid c.args.unit a c.requires.arrivals)) in
    subst (λ (l : Layout). c.message_at-message.result.unit < l.units) (sym c.requires.bus.layout)
    (subst (λ (m : Message). m.unit < (bus_of net g).units) (sym c.message_at-message.ensures) here.unit)

pub returns-clause-effects : goal.returns-clause-effects
returns-clause-effects c =
    let net = c.args.net.now in let g = c.args.graph.now in let t = c.args.tables.now in let a = c.args.arrivals.now in let b = c.args.bus.now in
    let due : IsDue a.due c.args.tick c.in-Some.first = first_due a.due c.args.tick c.first.result c.in-Some.first c.in-Some.is c.first.ensures in
    λ words exec cost. c.push.ensures
    ∙ ap (λ (e : Effect). c.args.seen.now ++ e ∷ [])
    (c.taking.ensures (plan_of net g t words exec cost)
    ∙ ap (λ (m : Message). taking (plan_of net g t words exec cost) m.unit m.round (whole (slot_of b m.round m.unit A)) (whole (slot_of b m.round m.unit B))) c.message_at-message.ensures)
    ∙ ap (λ (xs : List Effect). c.args.seen.now ++ xs) (sym (shows_one net g t c.requires.net c.requires.valid c.args.unit a c.requires.arrivals c.args.tick c.requires.tick b c.requires.bus words exec cost c.in-Some.first due))
