use Rattle.std.proofs.Common.{inl, refl}
use Rattle.image_file.proofs.Once.{told}
use Rattle.image_file.specs.Gives.{Sound}
use Rattle.image_file.proofs.read.judge_bytes.Goals as goal

pub returns-in-Ok-clause-answer : goal.returns-in-Ok-clause-answer
returns-in-Ok-clause-answer c = let ok = (c.in-Ok.ensures {u = tt}).ok in inl (Sound c.in-Ok.image refl ok.0 ok.1)

pub returns-in-Err-clause-answer : goal.returns-in-Err-clause-answer
returns-in-Err-clause-answer c = told c.args.bytes.now c.in-Err.fault c.refusal_of.result (c.in-Err.ensures {u = tt}).fault c.refusal_of.ensures
