use Rattle.image_plant.proofs.Fitting.{few_codes, short_codes}
use Rattle.image.proofs.Judged.{bad_code, is_checked}
use Rattle.image.proofs.judging.judge_codes.Goals as goal

pub check_codes-requires-clause-few : goal.check_codes-requires-clause-few
check_codes-requires-clause-few c = rw c.requires.2.codes (few_codes c.requires.0 c.requires.1)

pub check_codes-requires-clause-short : goal.check_codes-requires-clause-short
check_codes-requires-clause-short c = rw c.requires.2.codes (short_codes c.requires.0 c.requires.1)

pub assemble-requires : goal.assemble-requires
assemble-requires c = (c.requires.0, is_checked c.requires.0 c.args.taken c.in-Ok.programs c.requires.1 c.requires.2 c.in-Ok.ensures.ok.0 c.in-Ok.ensures.ok.1)

pub returns-in-Ok-clause-ok : goal.returns-in-Ok-clause-ok
returns-in-Ok-clause-ok c p fits is = c.assemble.ensures.ok p (is_checked p c.args.taken c.in-Ok.programs fits is c.in-Ok.ensures.ok.0 c.in-Ok.ensures.ok.1)

pub returns-in-Ok-clause-fault : goal.returns-in-Ok-clause-fault
returns-in-Ok-clause-fault c p fits is = c.assemble.ensures.fault p (is_checked p c.args.taken c.in-Ok.programs fits is c.in-Ok.ensures.ok.0 c.in-Ok.ensures.ok.1)

pub returns-in-Err-clause-fault : goal.returns-in-Err-clause-fault
returns-in-Err-clause-fault c p fits is = bad_code p c.args.taken is c.in-Err.fault c.in-Err.ensures.fault
