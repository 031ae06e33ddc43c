use Rattle.std.proofs.Common.{◌≤◌, ◌∙◌, get_or, refl, arith}
use Rattle.lines.proofs.FirstLine.{below_next, digit_more, number_step}
use Rattle.lines.proofs.grammar.number.Goals as goal

pub loop-at-preserved : goal.loop-at-preserved
loop-at-preserved c =
    let i = c.loop-at.invariant in
    let text = c.args.text.now in
    let at = c.loop-at.at in
    let lt = c.loop-at-test.true in
    let low : 48 ≤ get_or text at 0 = grind arith in
    let high : get_or text at 0 ≤ 57 = grind arith in
    let more = digit_more text at c.loop-at.n _ lt low high refl in
    record {
      begun = omega (arith, i.begun);
      within = omega (arith, lt);
      line = below_next text at i.line (λ e. omega (arith, e, low));
      long = omega (arith, i.begun, i.long, more.long);
      behind = i.behind ∙ more.behind;
      small = λ few. (number_step text c.args.from at c.loop-at.n c.from.result i.begun lt low high c.from.ensures few (i.small (omega (arith, few)))).small;
      value = λ few. i.value (omega (arith, few)) ∙ (number_step text c.args.from at c.loop-at.n c.from.result i.begun lt low high c.from.ensures few (i.small (omega (arith, few)))).value;
    }
