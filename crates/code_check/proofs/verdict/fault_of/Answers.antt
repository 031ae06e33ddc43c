use Rattle.std.proofs.Common.{refl, subst, Option}
use Rattle.std.proofs.lemmas.Option.{slice_get_within}
use Rattle.word_code.specs.Refused.{MeetsRules}
use Rattle.word_code.specs.declared.code.Slot.{Slot}
use Rattle.code_check.proofs.verdict.fault_of.Goals as goal

pub returns-clause-none : goal.returns-clause-none
returns-clause-none c e = record {
  whole = c.if-not-is_whole.ensures.0 refl;
  each = λ k slot stands.
      subst (λ (o : Option Slot). MeetsRules c.args.code.now k o) stands (c.first_bad.ensures.none e k (slice_get_within c.args.code.now.instrs k slot stands));
}
