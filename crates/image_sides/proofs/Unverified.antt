-- The first code that isn't verified.
use Rattle.std.proofs.Common.{◌≡◌, ℕ, ◌<◌, ◌+◌, List, [], ◌∷◌, ◌++◌, length, take, All, Some, refl, sym, subst, arith, inl, inr, ◌⊎◌, length-append}
use Rattle.std.specs.Prelude.{slice_get}
use Rattle.std.proofs.lemmas.List.{take_at, get_or_at}
use Rattle.std.proofs.lemmas.Option.{slice_get_read}
use Rattle.word_code.specs.Refused.{IsRefusedAt}
use Rattle.word_code.specs.declared.code.Code.{Code}
use Rattle.word_code.specs.Typing.{IsVerified}
use Rattle.image_sides.specs.First.{IsFirstUnverified}

-- verified code is refused nowhere
fault_breaks : (code : Code) (k : ℕ) → IsRefusedAt code k → IsVerified code → ⊥
fault_breaks code k (inl whole) v = whole.0 v.whole
fault_breaks code k (inr first) v = first.1.bad.fails (v.each k first.1.bad.slot first.1.bad.stands)

-- the code after verified ones that is refused is the first that isn't verified
pub unverified : (codes front : List Code) (code : Code) (rest : List Code) (k n : ℕ) → codes ≡ front ++ code ∷ rest → n ≡ length front → All IsVerified front → IsRefusedAt code k → IsFirstUnverified codes n
unverified codes front code rest k n parts is each fault =
    let size : length (front ++ code ∷ rest) ≡ length front + length (code ∷ rest) = length-append front (code ∷ rest) in
    let made : IsFirstUnverified (front ++ code ∷ rest) (length front) = record {
      code = code;
      stands = slice_get_read (front ++ code ∷ rest) (length (front ++ code ∷ rest)) (length front) code refl (omega (arith, size)) (sym (get_or_at front code rest code (length front) refl));
      breaks = λ v. fault_breaks code k fault v;
      before = rw (take_at front (code ∷ rest) (length front) refl) each;
    } in
    rw (parts, is) made
