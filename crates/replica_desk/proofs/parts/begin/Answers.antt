use Rattle.std.proofs.Common.{◌≡◌, ℕ, ◌<◌, List, ◌++◌, length, map, ℤ, Option, None, Some, refl, sym, ◌∙◌, ap, subst, arith}
use Rattle.std.specs.Prelude.{IfSome, slice_set, sum}
use Rattle.graph.specs.Net.{ins_of}
use Rattle.tables.specs.Named.{job_at, entry_at}
use Rattle.job_book.specs.Known.{InHand, status_of}
use Rattle.cluster_model.specs.Effects.{take_effects, put_effects, start_effects}
use Rattle.cluster_model.specs.PlanOf.{plan_of}
use Rattle.cluster_model.specs.declared.effect.Effect.{Effect}
use Rattle.tick_parts.specs.OnBus.{bus_on}
use Rattle.tick_parts.specs.Opens.{StartsAt, Opened}
use Rattle.tick_parts.specs.Takes.{AreWidths}
use Rattle.replica_desk.specs.Desk.{state_in_hand, held_in}
use Rattle.replica_desk.proofs.Begun.{tells, free, started, stays, went_on, seen_same}
use Rattle.replica_desk.proofs.parts.begin.Goals as goal

pub open_job-started-requires-clause-free : goal.open_job-started-requires-clause-free
open_job-started-requires-clause-free c = λ job k low starts.
    free c.args.net.now c.args.graph.now c.args.tables.now c.requires.net c.requires.valid c.args.duties.now.unit c.args.desk.now c.requires.desk job k low starts

pub returns-in-Some-clause-desk : goal.returns-in-Some-clause-desk
returns-in-Some-clause-desk c =
    let net = c.args.net.now in let g = c.args.graph.now in let t = c.args.tables.now in let unit = c.args.duties.now.unit in let d = c.args.desk.now in
    let after = c.open_job-started.new in let is = c.in-Some.is in let job = c.in-Some.job in
    started net g t c.requires.net c.requires.valid unit d c.requires.desk after.book c.take_frames.new.inbox after.ins
    c.open_job-started.ensures.book c.take_frames.ensures.inbox
    (subst (λ ws. AreWidths net t ws) (sym c.take_frames.ensures.widths) c.requires.desk.widths)
    job
    (subst (λ (o : Option ℕ). IfSome o (λ job. job < length g.jobs)) is c.open_job-started.ensures.known)
    (subst (λ (o : Option ℕ). IfSome o (StartsAt t unit d.clock)) is c.open_job-started.ensures.starts)
    (subst (λ (o : Option ℕ). IfSome o (λ job. length after.ins ≡ sum (ins_of net (job_at g job).task))) is c.open_job-started.ensures.count)
    (subst (λ (o : Option ℕ). IfSome o (λ job. after.book.jobs ≡ slice_set d.book.jobs job InHand)) is c.open_job-started.ensures.in_hand)
    c.requires.clock

pub returns-in-Some-clause-goes_on : goal.returns-in-Some-clause-goes_on
returns-in-Some-clause-goes_on c = λ job e before.
    let t = c.args.tables.now in let d = c.args.desk.now in
    let starts : StartsAt t c.args.duties.now.unit d.clock c.in-Some.job = subst (λ (o : Option ℕ). IfSome o (StartsAt t c.args.duties.now.unit d.clock)) c.in-Some.is c.open_job-started.ensures.starts in
    let same : c.in-Some.job ≡ job = (let some : Some c.in-Some.job ≡ Some job = e in cc) in
    absurd (omega (arith, starts.start_is, before, ap (λ x. (entry_at t x).start) same))

pub returns-in-Some-clause-own : goal.returns-in-Some-clause-own
returns-in-Some-clause-own c = λ words exec cost. c.put_word.ensures.own words exec cost (held_in c.args.graph.now c.args.desk.now) refl (tells c.args.graph.now c.args.desk.now)

pub returns-in-Some-clause-jobs : goal.returns-in-Some-clause-jobs
returns-in-Some-clause-jobs c = λ words exec cost.
    let net = c.args.net.now in let g = c.args.graph.now in let t = c.args.tables.now in let unit = c.args.duties.now.unit in let d = c.args.desk.now in
    let h = held_in g d in let s = state_in_hand g d.states d.hand in
    subst (Opened (plan_of net g t words exec cost) (bus_on c.args.bus.now) unit c.args.line.now h s d.ins c.open_job-started.new.ins c.open_job-started.new.book) c.in-Some.is
    (c.open_job-started.ensures.jobs words exec cost (bus_on c.args.bus.now) h s d.ins refl (tells g d) (c.take_frames.ensures.taken words exec cost h refl refl) refl)

pub returns-in-Some-clause-effects : goal.returns-in-Some-clause-effects
returns-in-Some-clause-effects c = λ words exec cost.
    let net = c.args.net.now in let g = c.args.graph.now in let t = c.args.tables.now in let unit = c.args.duties.now.unit in let d = c.args.desk.now in
    let h = held_in g d in let p = plan_of net g t words exec cost in let bus = bus_on c.args.bus.now in
    c.open_job-started.ensures.effects words exec cost bus h refl (tells g d) (c.take_frames.ensures.taken words exec cost h refl refl)
    ∙ ap (λ (xs : List Effect). xs ++ start_effects p bus c.args.line.now unit h) (c.put_word.ensures.effects words exec cost h refl (tells g d)
    ∙ ap (λ (xs : List Effect). xs ++ put_effects p unit c.args.duties.now.side h) (c.take_frames.ensures.effects words exec cost))

pub returns-in_default-clause-desk : goal.returns-in_default-clause-desk
returns-in_default-clause-desk c =
    let net = c.args.net.now in let g = c.args.graph.now in let t = c.args.tables.now in let unit = c.args.duties.now.unit in let d = c.args.desk.now in
    let after = c.open_job-started.new in
    stays net g t c.requires.net c.requires.valid unit d c.requires.desk after.book c.take_frames.new.inbox after.ins
    c.open_job-started.ensures.book c.take_frames.ensures.inbox
    (subst (λ ws. AreWidths net t ws) (sym c.take_frames.ensures.widths) c.requires.desk.widths)
    (c.open_job-started.ensures.no_more c.in_default.is) c.open_job-started.ensures.keeps c.open_job-started.ensures.still

pub returns-in_default-clause-goes_on : goal.returns-in_default-clause-goes_on
returns-in_default-clause-goes_on c = λ job e before.
    let net = c.args.net.now in let g = c.args.graph.now in let t = c.args.tables.now in let unit = c.args.duties.now.unit in let d = c.args.desk.now in
    let after = c.open_job-started.new in (
      e,
      went_on net g t c.requires.net c.requires.valid unit d c.requires.desk after.book c.take_frames.new.inbox after.ins
          c.open_job-started.ensures.book c.take_frames.ensures.inbox
          (subst (λ ws. AreWidths net t ws) (sym c.take_frames.ensures.widths) c.requires.desk.widths)
          (c.open_job-started.ensures.no_more c.in_default.is) c.open_job-started.ensures.keeps c.open_job-started.ensures.still job e,
    )

pub returns-in_default-clause-own : goal.returns-in_default-clause-own
returns-in_default-clause-own c = λ words exec cost. c.put_word.ensures.own words exec cost (held_in c.args.graph.now c.args.desk.now) refl (tells c.args.graph.now c.args.desk.now)

pub returns-in_default-clause-jobs : goal.returns-in_default-clause-jobs
returns-in_default-clause-jobs c = λ words exec cost.
    let net = c.args.net.now in let g = c.args.graph.now in let t = c.args.tables.now in let unit = c.args.duties.now.unit in let d = c.args.desk.now in
    let h = held_in g d in let s = state_in_hand g d.states d.hand in let after = c.open_job-started.new in
    seen_same net g t c.requires.net c.requires.valid unit d c.requires.desk after.book c.take_frames.new.inbox after.ins
    c.open_job-started.ensures.book c.take_frames.ensures.inbox
    (subst (λ ws. AreWidths net t ws) (sym c.take_frames.ensures.widths) c.requires.desk.widths)
    (c.open_job-started.ensures.no_more c.in_default.is) c.open_job-started.ensures.keeps c.open_job-started.ensures.still s
    ∙ subst (Opened (plan_of net g t words exec cost) (bus_on c.args.bus.now) unit c.args.line.now h s d.ins after.ins after.book) c.in_default.is
    (c.open_job-started.ensures.jobs words exec cost (bus_on c.args.bus.now) h s d.ins refl (tells g d) (c.take_frames.ensures.taken words exec cost h refl refl) refl)

pub returns-in_default-clause-effects : goal.returns-in_default-clause-effects
returns-in_default-clause-effects c = λ words exec cost.
    let net = c.args.net.now in let g = c.args.graph.now in let t = c.args.tables.now in let unit = c.args.duties.now.unit in let d = c.args.desk.now in
    let h = held_in g d in let p = plan_of net g t words exec cost in let bus = bus_on c.args.bus.now in
    c.open_job-started.ensures.effects words exec cost bus h refl (tells g d) (c.take_frames.ensures.taken words exec cost h refl refl)
    ∙ ap (λ (xs : List Effect). xs ++ start_effects p bus c.args.line.now unit h) (c.put_word.ensures.effects words exec cost h refl (tells g d)
    ∙ ap (λ (xs : List Effect). xs ++ put_effects p unit c.args.duties.now.side h) (c.take_frames.ensures.effects words exec cost))
