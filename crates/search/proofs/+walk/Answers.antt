use Rattle.std.proofs.Common.{rules, ◌≡◌, ◌+◌, ◌-◌, ◌<◌, length, drop, true, refl, sym, ap, ◌∙◌, arith}
use Rattle.walks.specs.Walk.{either}
use Rattle.decisions.specs.Choices.{rules_of, choices}
use Rattle.placement.specs.Held.{Held}
use Rattle.passes.proofs.Going.{going_start}
use Rattle.passes.proofs.Steps.{pruned_answers, stopped_answers, whole_answers}
use Rattle.search.proofs.Stepping.{Pick, pick, Stepped, stepped, nearer, found_answers, stop_answers, cut_answers, end_answers, missing_goes, restored, not_whole, goes_moved, left_moved}
use Rattle.search.proofs.+walk.Goals as goal

pub returns-then-pruned-clause-answer : goal.returns-then-pruned-clause-answer
returns-then-pruned-clause-answer t c =
    let h = c.args.prefix.now in
    pruned_answers (rules_of h.problem) (length h.problem.works) h.list c.args.left c.args.steps.now c.args.limit (cc) c.requires.limit

pub returns-then-taken-limit-clause-answer : goal.returns-then-taken-limit-clause-answer
returns-then-taken-limit-clause-answer t c =
    let h = c.args.prefix.now in
    stopped_answers (rules_of h.problem) (length h.problem.works) h.list h.list c.args.left c.args.steps.now c.args.limit (cc) (cc)

pub returns-then-whole-clause-answer : goal.returns-then-whole-clause-answer
returns-then-whole-clause-answer t c =
    let h = c.args.prefix.now in
    whole_answers (rules_of h.problem) (length h.problem.works) h.list c.args.left c.args.steps.now c.tick.new.self c.args.limit (cc) (c.whole.ensures.whole.0 c.if-whole.true) c.tick.ensures (omega arith)

pub loop-choice-init : goal.loop-choice-init
loop-choice-init t c =
    let h = c.args.prefix.now in record {
      prefix = refl;
      at = c.cursor-cursor.ensures;
      going = going_start (rules_of h.problem) (length h.problem.works) h.list c.args.left c.args.steps.now c.tick.new.self (cc) (not_whole c.whole.result (length h.list) (length h.problem.works) c.if-whole.false c.whole.ensures.whole c.whole.ensures.few) c.tick.ensures;
      within = omega arith;
    }

pub returns-then-rank-left-clause-answer : goal.returns-then-rank-left-clause-answer
returns-then-rank-left-clause-answer t c =
    let h = c.loop-choice.prefix in
    let i = c.loop-choice.rank in
    let p = pick h.problem h.list i (i + 1) c.in-Some.choice c.next.new.cursor refl (c.in-Some.ensures (drop i (choices h.problem h.list)) c.loop-choice.invariant.at) in
    cut_answers c.args.prefix.now h c.args.left c.args.steps.now i (i + 1) c.loop-choice.steps c.args.limit c.loop-choice.cut c.in-Some.choice c.next.new.cursor c.loop-choice.invariant.prefix c.loop-choice.invariant.going p c.if-rank-left.true c.loop-choice.invariant.within

pub place-requires : goal.place-requires
place-requires t c =
    let h = c.loop-choice.prefix in
    let i = c.loop-choice.rank in
    (pick h.problem h.list i (i + 1) c.in-Some.choice c.next.new.cursor refl (c.in-Some.ensures (drop i (choices h.problem h.list)) c.loop-choice.invariant.at)).choice_is

pub walk-requires : goal.walk-requires
walk-requires t c =
    let h = c.loop-choice.prefix in
    let i = c.loop-choice.rank in
    let z = c.args.prefix.now in
    let p = pick h.problem h.list i (i + 1) c.in-Some.choice c.next.new.cursor refl (c.in-Some.ensures (drop i (choices h.problem h.list)) c.loop-choice.invariant.at) in
    let s = stepped h c.place.new.self i (i + 1) c.in-Some.choice c.next.new.cursor p c.place.ensures.problem c.place.ensures.list in
    let e = c.loop-choice.invariant.prefix in
    let low = not_whole c.whole.result (length z.list) (length z.problem.works) c.if-whole.false c.whole.ensures.whole c.whole.ensures.few in
    let a : length h.list ≡ length z.list = ap (λ (x : Held). length x.list) e in
    let b : length h.problem.works ≡ length z.problem.works = ap (λ (x : Held). length x.problem.works) e in
    let n = nearer h c.place.new.self p.decision s (omega arith) in
    (omega (arith, c.decreases), (omega arith, c.loop-choice.invariant.within))

pub returns-in-Found-clause-answer : goal.returns-in-Found-clause-answer
returns-in-Found-clause-answer t c =
    let h = c.loop-choice.prefix in
    let i = c.loop-choice.rank in
    let p = pick h.problem h.list i (i + 1) c.in-Some.choice c.next.new.cursor refl (c.in-Some.ensures (drop i (choices h.problem h.list)) c.loop-choice.invariant.at) in
    let s = stepped h c.place.new.self i (i + 1) c.in-Some.choice c.next.new.cursor p c.place.ensures.problem c.place.ensures.list in
    found_answers c.args.prefix.now h c.place.new.self c.args.left c.args.steps.now i (i + 1) c.loop-choice.steps c.walk.new.steps c.args.limit c.loop-choice.cut c.in-Some.choice c.next.new.cursor c.walk.new.prefix.list
    c.loop-choice.invariant.prefix c.loop-choice.invariant.going p s (omega arith) c.in-Found.ensures.answer

pub returns-in-Stopped-clause-answer : goal.returns-in-Stopped-clause-answer
returns-in-Stopped-clause-answer t c =
    let h = c.loop-choice.prefix in
    let i = c.loop-choice.rank in
    let p = pick h.problem h.list i (i + 1) c.in-Some.choice c.next.new.cursor refl (c.in-Some.ensures (drop i (choices h.problem h.list)) c.loop-choice.invariant.at) in
    let s = stepped h c.place.new.self i (i + 1) c.in-Some.choice c.next.new.cursor p c.place.ensures.problem c.place.ensures.list in
    stop_answers c.args.prefix.now h c.place.new.self c.args.left c.args.steps.now i (i + 1) c.loop-choice.steps c.walk.new.steps c.args.limit c.loop-choice.cut c.in-Some.choice c.next.new.cursor c.walk.new.prefix.list
    c.loop-choice.invariant.prefix c.loop-choice.invariant.going p s (omega arith) c.in-Stopped.ensures.answer

pub loop-choice-smaller : goal.loop-choice-smaller
loop-choice-smaller t c =
    let h = c.loop-choice.prefix in
    let i = c.loop-choice.rank in
    let p = pick h.problem h.list i (i + 1) c.in-Some.choice c.next.new.cursor refl (c.in-Some.ensures (drop i (choices h.problem h.list)) c.loop-choice.invariant.at) in
    let e = ap (λ (x : Held). length (choices x.problem x.list)) c.loop-choice.invariant.prefix in
    omega (arith, p.below)

pub loop-choice-preserved : goal.loop-choice-preserved
loop-choice-preserved t c =
    let h = c.loop-choice.prefix in
    let i = c.loop-choice.rank in
    let p = pick h.problem h.list i (i + 1) c.in-Some.choice c.next.new.cursor refl (c.in-Some.ensures (drop i (choices h.problem h.list)) c.loop-choice.invariant.at) in
    let s = stepped h c.place.new.self i (i + 1) c.in-Some.choice c.next.new.cursor p c.place.ensures.problem c.place.ensures.list in
    let a = c.in-Missing.ensures.answer in
    let q : c.undo.new.self ≡ h = restored h c.place.new.self c.walk.new.prefix c.undo.new.self p.decision s c.in-Missing.ensures.problem a.4 c.undo.ensures.problem c.undo.ensures.list in
    record {
      prefix = q ∙ c.loop-choice.invariant.prefix;
      at = left_moved h c.undo.new.self (i + 1) (i + 1) c.next.new.cursor q refl p.left;
      going = goes_moved h c.undo.new.self c.args.left c.args.steps.now (i + 1) (i + 1) c.walk.new.steps c.walk.new.steps (either c.loop-choice.cut c.in-Missing.also_cut) c.either-cut.result q refl refl c.either-cut.ensures
          (missing_goes h c.place.new.self c.args.left c.args.steps.now i (i + 1) c.loop-choice.steps c.walk.new.steps c.args.limit c.loop-choice.cut c.in-Missing.also_cut c.in-Some.choice c.next.new.cursor c.walk.new.prefix.list c.loop-choice.invariant.going p s (omega arith) a refl);
      within = a.3;
    }

pub returns-clause-answer : goal.returns-clause-answer
returns-clause-answer t c =
    let h = c.loop-choice.prefix in
    let i = c.loop-choice.rank in
    end_answers c.args.prefix.now h c.args.left c.args.steps.now i c.loop-choice.steps c.args.limit c.loop-choice.cut c.loop-choice.invariant.prefix c.loop-choice.invariant.going
    (c.in_default.ensures (drop i (choices h.problem h.list)) c.loop-choice.invariant.at) c.loop-choice.invariant.within
