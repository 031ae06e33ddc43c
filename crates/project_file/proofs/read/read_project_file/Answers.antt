use Rattle.std.proofs.Common.{◌≡◌, ◌⊎◌, subst, List, ℕ, Err}
use Rattle.project_file.specs.Gives.{ProjectGives}
use Rattle.refusals.specs.declared.refusal.Refusal.TheVariants as refusal
use Rattle.stages.specs.Files.{reading}
use Rattle.stages.specs.Stage.{judging}
use Rattle.stages.proofs.Turns.{stopped, went, judged}
use Rattle.project_file.proofs.read.read_project_file.Goals as goal

pub returns-in-Err-clause-answer : goal.returns-in-Err-clause-answer
returns-in-Err-clause-answer g c left out input output =
    stopped (reading c.args.file.now 1048576) (λ bytes. judging (ProjectGives c.args.file.now bytes)) ((c.in-Err.ensures {u = tt}).answer left out input output)

pub returns-clause-answer : goal.returns-clause-answer
returns-clause-answer g c left out input output =
    let r = c.read_text.result in
    went (reading c.args.file.now 1048576) (λ bytes. judging (ProjectGives c.args.file.now bytes)) ((c.in-Ok.ensures {u = tt}).answer left out input output)
    (judged (ProjectGives c.args.file.now c.in-Ok.bytes.items) _ _ r (subst (λ (bytes : List ℕ). ProjectGives c.args.file.now bytes r ⊎ (r ≡ Err refusal.Memory)) c.deref.ensures.value c.read_text.ensures.answer))
