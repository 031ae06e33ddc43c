-- Refused code isn't verified, and is refused at one number.
use Rattle.std.proofs.Common.{◌≡◌, ◌⊎◌, inl, inr, ℕ, ◌<◌, ◌≤◌, refl, sym, ap, ◌∙◌, subst, arith, Option, None, Some}
use Rattle.std.specs.Prelude.{slice_get}
use Rattle.std.proofs.lemmas.Bool.{cases_lt}
use Rattle.std.proofs.lemmas.Option.{slice_get_within}
use Rattle.word_code.specs.Refused.{MeetsRules, IsGoodAt, IsBadAt, IsFirstBad, IsRefusedAt}
use Rattle.word_code.specs.Typing.{IsVerified, IsTypedAt}
use Rattle.word_code.specs.declared.code.Code.{Code}
use Rattle.word_code.specs.declared.code.Slot.{Slot}

-- an instruction that fails a rule doesn't meet them
bad_not_good : (code : Code) (k : ℕ) → IsBadAt code k → IsGoodAt code k → ⊥
bad_not_good code k b good = b.fails (subst (λ (o : Option Slot). MeetsRules code k o) b.stands good)

-- each instruction of verified code meets the rules
pub verified_good : (code : Code) (k : ℕ) → IsVerified code → IsGoodAt code k
verified_good code k v = by_slot (slice_get code.instrs k) refl
  where
    by_slot : (o : Option Slot) → slice_get code.instrs k ≡ o → MeetsRules code k o
    by_slot None e = tt
    by_slot (Some slot) e = v.each k slot e

-- refused code isn't verified
pub refused_not_verified : (code : Code) (k : ℕ) → IsRefusedAt code k → IsVerified code → ⊥
refused_not_verified code k (inl whole) v = whole.0 v.whole
refused_not_verified code k (inr first) v = bad_not_good code k first.1.bad (verified_good code k v)

-- code is refused at one number
pub refused_once : (code : Code) (j k : ℕ) → IsRefusedAt code j → IsRefusedAt code k → j ≡ k
refused_once code j k (inl a) (inl b) = a.1 ∙ sym b.1
refused_once code j k (inl a) (inr b) = absurd (a.0 b.0)
refused_once code j k (inr a) (inl b) = absurd (b.0 a.0)
refused_once code j k (inr a) (inr b) = by_less (cases_lt j k) (cases_lt k j)
  where
    by_less : ((j < k) ⊎ (k ≤ j)) → ((k < j) ⊎ (j ≤ k)) → j ≡ k
    by_less (inl lt) y = absurd (bad_not_good code j a.1.bad (b.1.first j lt))
    by_less x (inl lt) = absurd (bad_not_good code k b.1.bad (a.1.first k lt))
    by_less (inr x) (inr y) = omega (arith, x, y)
