use Rattle.std.proofs.Common.{◌≡◌, subst, List, ℤ, length}
use Rattle.word_code.specs.Cells.{width_of, is_in, is_state}
use Rattle.word_code.specs.Course.{NeverStuck}
use Rattle.word_code.specs.Tied.{IsTied}
use Rattle.word_code.proofs.Course.{never_stuck}
use Rattle.word_code.proofs.FreeRuns.{halts_free}
use Rattle.word_code.proofs.Tied.{tied}
use Rattle.word_code.specs.declared.code.Code.{Code}
use Rattle.word_code.proofs.verified.Verified.code.Goals as goal

pub returns-clause-never_stuck : goal.returns-clause-never_stuck
returns-clause-never_stuck c = subst (λ (code : Code). NeverStuck code) c.self.view_is (never_stuck c.self.inside.code c.self.invariant.0)

pub returns-clause-tied : goal.returns-clause-tied
returns-clause-tied c =
    subst (λ (code : Code). (state ins : List ℤ) → length state ≡ width_of is_state code.cells → length ins ≡ width_of is_in code.cells → IsTied code state ins)
    c.self.view_is (tied c.self.inside.code c.self.invariant.0)

pub returns-clause-free : goal.returns-clause-free
returns-clause-free c = halts_free c.args.self.now
