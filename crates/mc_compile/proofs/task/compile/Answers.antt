use Rattle.std.proofs.Common.{◌≡◌, arith, sym, ◌∙◌, subst}
use Rattle.mc_tree.specs.Plain.{plain_task}
use Rattle.word_code.specs.Typing.{IsVerified}
use Rattle.mc_compile.specs.Correct.{IsRight}
use Rattle.mc_compile.specs.Widths.{HasWidths}
use Rattle.mc_compile.proofs.Instances.{translation_right}
use Rattle.mc_compile.proofs.Tasks.{length_is, length_small, has_widths}
use Rattle.mc_compile.proofs.TypedTask.{typed_task}
use Rattle.mc_compile.proofs.task.compile.Goals as goal

pub lay_out-requires : goal.lay_out-requires
lay_out-requires c = length_small c.args.task.now c.requires

pub returns-then-layout-gt65535-clause-too_long : goal.returns-then-layout-gt65535-clause-too_long
returns-then-layout-gt65535-clause-too_long c n e =
    let same : c.in_ok-layout.layout.length ≡ n = cc in
    let len = (c.in_ok-layout.ensures {u = tt}).length ∙ length_is c.args.task.now in
    (sym same ∙ len, omega (arith, same))

pub from_code-requires : goal.from_code-requires
from_code-requires c =
    let t = plain_task c.args.task.now in
    let len = (c.in_ok-layout.ensures {u = tt}).length ∙ length_is c.args.task.now in
    subst IsVerified (sym (c.in_ok-code.ensures {u = tt})) (typed_task t c.requires.tree (omega (arith, len)))

pub returns-clause-short : goal.returns-clause-short
returns-clause-short c =
    let len = (c.in_ok-layout.ensures {u = tt}).length ∙ length_is c.args.task.now in
    omega (arith, len)

pub returns-clause-right : goal.returns-clause-right
returns-clause-right c =
    let t = plain_task c.args.task.now in
    subst (IsRight t) (sym (c.from_code.ensures ∙ c.in_ok-code.ensures {u = tt})) (translation_right t c.requires.tree)

pub returns-clause-widths : goal.returns-clause-widths
returns-clause-widths c =
    let t = plain_task c.args.task.now in
    subst (HasWidths t) (sym (c.from_code.ensures ∙ c.in_ok-code.ensures {u = tt})) (has_widths t c.requires.tree)
