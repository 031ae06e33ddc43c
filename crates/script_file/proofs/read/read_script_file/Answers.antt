use Rattle.std.proofs.Common.{◌≡◌, ◌⊎◌, subst, List, ℕ, Err}
use Rattle.refusals.specs.declared.refusal.Refusal.TheVariants as refusal
use Rattle.script_file.specs.Gives.{ScriptGives}
use Rattle.script_reader.specs.Reading.{events_of}
use Rattle.stages.specs.Files.{reading}
use Rattle.stages.specs.Stage.{judging, given}
use Rattle.stages.proofs.Turns.{stopped, went, judged}
use Rattle.script_file.proofs.read.read_script_file.Goals as goal

pub returns-in-Err-clause-answer : goal.returns-in-Err-clause-answer
returns-in-Err-clause-answer g c left out input output =
    stopped (reading c.args.file.now 1048576) (λ bytes. judging (ScriptGives c.args.units c.args.ticks bytes)) ((c.in-Err.ensures {u = tt}).answer left out input output)

pub returns-clause-answer : goal.returns-clause-answer
returns-clause-answer g c left out input output =
    let r = given events_of c.judge_bytes.result in
    went (reading c.args.file.now 1048576) (λ bytes. judging (ScriptGives c.args.units c.args.ticks bytes)) ((c.in-Ok.ensures {u = tt}).answer left out input output)
    (judged (ScriptGives c.args.units c.args.ticks c.in-Ok.bytes.items) _ _ r
    (subst (λ (bytes : List ℕ). ScriptGives c.args.units c.args.ticks bytes r ⊎ (r ≡ Err refusal.Memory)) c.deref.ensures.value c.judge_bytes.ensures))
