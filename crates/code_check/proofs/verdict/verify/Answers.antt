use Rattle.std.proofs.Common.{Err, ap}
use Rattle.word_code.proofs.Refused.{refused_not_verified, refused_once}
use Rattle.code_check.specs.declared.verdict.CodeFault.TheVariants.{Bad}
use Rattle.code_check.proofs.verdict.verify.Goals as goal

pub returns-in-None-clause-refused : goal.returns-in-None-clause-refused
returns-in-None-clause-refused c at r = absurd (refused_not_verified c.args.code at r (c.fault_of.ensures.none c.in-None.is))

pub returns-in-Some-clause-verified : goal.returns-in-Some-clause-verified
returns-in-Some-clause-verified c v = absurd (refused_not_verified c.args.code c.in-Some.k ((c.in-Some.ensures {u = tt}).some) v)

pub returns-in-Some-clause-refused : goal.returns-in-Some-clause-refused
returns-in-Some-clause-refused c at r = ap (λ k. Err (Bad k)) (refused_once c.args.code c.in-Some.k at ((c.in-Some.ensures {u = tt}).some) r)
