use Rattle.std.proofs.Common.{◌≡◌, ◌∙◌, ℕ, ap, length, arith}
use Rattle.report_text.specs.Report.{report_of}
use Rattle.build_command.proofs.Steps.{image_refused, no_report, image_stored}
use Rattle.build_command.proofs.stored.store_made.Goals as goal

pub returns-in-Err-clause-answer : goal.returns-in-Err-clause-answer
returns-in-Err-clause-answer g c left input = image_refused c.args.name.now c.args.made.now c.in-Err.refused _ _ (c.in-Err.ensures {u = tt})

pub returns-clause-answer : goal.returns-clause-answer
returns-clause-answer g c left input =
    let size : c.len.result ≡ length c.in-Ok.bytes.items = omega (arith, c.len.ensures, c.as_slice.ensures.len, ap length c.as_slice.ensures.value) in
    image_stored c.args.name.now c.args.made.now c.in-Ok.bytes.items c.as_slice.result.now c.as_slice-2.result.now (c.in-Ok.ensures {u = tt}) c.as_slice.ensures.value
    (c.as_slice-2.ensures.value ∙ ((c.in-Ok-report_of.ensures {u = tt}) ∙ ap (λ (n : ℕ). report_of c.args.made.now.net.tasks c.args.made.now.maxts n) size)) (c.store_image.ensures.answer left input)
