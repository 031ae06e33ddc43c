use Rattle.std.proofs.Common.{◌≡◌, ◌⊎◌, subst, List, ℕ, Err}
use Rattle.image_file.specs.Gives.{ImageGives}
use Rattle.refusals.specs.declared.refusal.Refusal.TheVariants as refusal
use Rattle.stages.specs.Files.{reading}
use Rattle.stages.specs.Stage.{judging}
use Rattle.stages.proofs.Turns.{stopped, went, judged}
use Rattle.image_file.proofs.read.read_image.Goals as goal

pub returns-in-Err-clause-answer : goal.returns-in-Err-clause-answer
returns-in-Err-clause-answer g c left out input output =
    stopped (reading c.args.file.now 4194304) (λ bytes. judging (ImageGives bytes)) ((c.in-Err.ensures {u = tt}).answer left out input output)

pub returns-clause-answer : goal.returns-clause-answer
returns-clause-answer g c left out input output =
    let r = c.judge_bytes.result in
    went (reading c.args.file.now 4194304) (λ bytes. judging (ImageGives bytes)) ((c.in-Ok.ensures {u = tt}).answer left out input output)
    (judged (ImageGives c.in-Ok.bytes.items) _ _ r (subst (λ (bytes : List ℕ). ImageGives bytes r ⊎ (r ≡ Err refusal.Memory)) c.deref.ensures.value c.judge_bytes.ensures.answer))
