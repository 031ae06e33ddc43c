use Rattle.std.proofs.Common.{◌∙◌, inl, refl}
use Rattle.project_file.proofs.Told.{told}
use Rattle.project_file.specs.Gives.{Sound}
use Rattle.project_rules.proofs.Keeping.{keeps_project}
use Rattle.project_file.proofs.read.read_text.Goals as goal

pub returns-in-Ok-read_project-clause-answer : goal.returns-in-Ok-read_project-clause-answer
returns-in-Ok-read_project-clause-answer c = inl (Sound c.in-Ok-read_project.project refl (c.in-Ok-read_project.ensures {u = tt}).ok)

pub returns-in-Ok-read_project-clause-kept : goal.returns-in-Ok-read_project-clause-kept
returns-in-Ok-read_project-clause-kept c = keeps_project c.args.bytes.now c.in-Ok-read_project.project (c.in-Ok-read_project.ensures {u = tt}).ok

pub returns-in-Err-clause-answer : goal.returns-in-Err-clause-answer
returns-in-Err-clause-answer c =
    told c.args.file.now c.in-Ok.name c.args.bytes.now c.in-Err.fault c.refusal_of.result ((c.in-Ok.ensures {u = tt}) ∙ c.as_bytes.ensures.value) (c.in-Err.ensures {u = tt}).fault c.refusal_of.ensures
