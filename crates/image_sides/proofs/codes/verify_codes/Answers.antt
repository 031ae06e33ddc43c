use Rattle.std.proofs.Common.{◌≡◌, ◌++◌, ◌∷◌, [], ◌∙◌, ap, sym, refl, append_assoc, List, length, All, arith}
use Rattle.std.proofs.lemmas.Grind.{common_steps}
use Rattle.std.proofs.lemmas.List.Elements.{All-push}
use Rattle.word_code.specs.declared.code.Code.{Code}
use Rattle.word_code.specs.Typing.{IsVerified}
use Rattle.image_sides.proofs.Unverified.{unverified}
use Rattle.image_sides.proofs.codes.verify_codes.Goals as goal

pub loop-code-preserved : goal.loop-code-preserved
loop-code-preserved c =
    let steps = c.in-Some.ensures.steps in
    let good : c.in-Ok.good ≡ c.in-Some.code = c.in-Ok.ensures.ok.0 in
    let pushed = c.in-Ok-push.ensures.ok in
    record {
      same = rw (pushed, good, c.loop-code.invariant.same) refl;
      each = All-push IsVerified c.loop-code.yielded c.in-Some.code c.loop-code.invariant.each c.in-Ok.ensures.ok.1;
      parts = c.loop-code.invariant.parts ∙ ap (λ (xs : List Code). c.loop-code.yielded ++ xs) steps.0 ∙ sym (append_assoc c.loop-code.yielded (c.in-Some.code ∷ []) c.next.new.self.rest.items);
    }

pub returns-in-Err-clause-bad : goal.returns-in-Err-clause-bad
returns-in-Err-clause-bad c =
    let steps = c.in-Some.ensures.steps in
    unverified c.args.codes.items c.loop-code.yielded c.in-Some.code c.next.new.self.rest.items _ c.len.result
    (c.loop-code.invariant.parts ∙ ap (λ (xs : List Code). c.loop-code.yielded ++ xs) steps.0)
    (c.len.ensures ∙ ap length c.loop-code.invariant.same) c.loop-code.invariant.each c.in-Err.ensures.bad
