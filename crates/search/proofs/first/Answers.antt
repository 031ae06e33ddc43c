use Rattle.std.proofs.Common.{◌≡◌, ◌+◌, [], length, refl, sym, ap, ◌∙◌, arith}
use Rattle.decisions.specs.Choices.{rules_of}
use Rattle.passes.specs.declared.Ended.TheVariants.{Found, Missing, Stopped}
use Rattle.placement.specs.Held.{Held}
use Rattle.search.proofs.Searching.{first_pass, first_found, first_none, first_spent, first_next}
use Rattle.search.proofs.first.Goals as goal

pub returns-in-Found-clause-answer : goal.returns-in-Found-clause-answer
returns-in-Found-clause-answer c =
    first_found c.args.prefix.now c.loop-cut.prefix c.loop-cut.pass c.args.steps.now c.loop-cut.steps c.walk.new.steps c.args.budget (c.taken.result + c.from.result) c.walk.new.prefix.list c.requires.empty c.loop-cut.invariant.prefix c.loop-cut.invariant.passed (omega arith) c.in-Found.ensures.answer

pub returns-in-Stopped-clause-answer : goal.returns-in-Stopped-clause-answer
returns-in-Stopped-clause-answer c =
    first_spent c.args.prefix.now c.loop-cut.prefix c.loop-cut.pass c.args.steps.now c.loop-cut.steps c.walk.new.steps c.args.budget (c.taken.result + c.from.result) c.walk.new.prefix.list c.requires.empty c.loop-cut.invariant.prefix c.loop-cut.invariant.passed (omega arith) c.in-Stopped.ensures.answer

pub returns-then-not-cut-clause-answer : goal.returns-then-not-cut-clause-answer
returns-then-not-cut-clause-answer c =
    first_none c.args.prefix.now c.loop-cut.prefix c.loop-cut.pass c.args.steps.now c.loop-cut.steps c.walk.new.steps c.args.budget (c.taken.result + c.from.result) c.walk.new.prefix.list c.in-Missing.cut c.requires.empty c.loop-cut.invariant.prefix c.loop-cut.invariant.passed (omega arith) c.if-not-cut.true c.in-Missing.ensures.answer

pub loop-cut-smaller : goal.loop-cut-smaller
loop-cut-smaller c =
    let n = first_next c.args.prefix.now c.loop-cut.prefix c.walk.new.prefix c.loop-cut.pass (c.loop-cut.pass + 1) c.args.steps.now c.loop-cut.steps c.walk.new.steps (c.taken.result + c.from.result) c.in-Missing.cut c.requires.empty c.loop-cut.invariant.prefix c.loop-cut.invariant.passed refl c.if-not-cut.false c.in-Missing.ensures.problem c.in-Missing.ensures.answer in
    omega (arith, n.steps, n.within)

pub loop-cut-preserved : goal.loop-cut-preserved
loop-cut-preserved c =
    let n = first_next c.args.prefix.now c.loop-cut.prefix c.walk.new.prefix c.loop-cut.pass (c.loop-cut.pass + 1) c.args.steps.now c.loop-cut.steps c.walk.new.steps (c.taken.result + c.from.result) c.in-Missing.cut c.requires.empty c.loop-cut.invariant.prefix c.loop-cut.invariant.passed refl c.if-not-cut.false c.in-Missing.ensures.problem c.in-Missing.ensures.answer in
    record { prefix = n.same; passed = n.passed; within = n.within }

pub loop-cut-init : goal.loop-cut-init
loop-cut-init c = record { prefix = refl; passed = first_pass c.args.prefix.now c.args.steps.now; within = omega arith }
