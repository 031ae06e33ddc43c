use Rattle.image.proofs.judging.judge.Goals as goal

pub judge_codes-requires : goal.judge_codes-requires
judge_codes-requires c = (c.args.parts, c.requires, (c.in-Ok.ensures {u = tt}).ok)

pub returns-clause-ok : goal.returns-clause-ok
returns-clause-ok c = c.judge_codes.ensures.ok c.args.parts c.requires (c.in-Ok.ensures {u = tt}).ok

pub returns-clause-fault : goal.returns-clause-fault
returns-clause-fault c = c.judge_codes.ensures.fault c.args.parts c.requires (c.in-Ok.ensures {u = tt}).ok
