use Rattle.std.proofs.Common.{◌≡◌, ◌≤◌, ◌<◌, ℕ, length, arith, Option, Some, None, sym, ◌∙◌, zero, suc}
use Rattle.mc_tree.specs.declared.token.Sign.{Sign}
use Rattle.mc_lex.proofs.Fronts.{two_longest, one_longest, nothing_begins}
use Rattle.mc_lex.proofs.scan.sign.Goals as goal

-- where two bytes spell a sign, there are two
two_bytes : (n : ℕ) (x : Option Sign) (s : Sign) → (n < 2 → x ≡ None) → x ≡ Some s → 2 ≤ n
two_bytes zero x s short is = let e : None ≡ Some s = sym (short (omega arith)) ∙ is in cc
two_bytes (suc zero) x s short is = let e : None ≡ Some s = sym (short (omega arith)) ∙ is in cc
two_bytes (suc (suc n)) x s short is = omega arith

pub returns-in-Some-clause-some : goal.returns-in-Some-clause-some
returns-in-Some-clause-some c =
    let two = two_bytes (length c.args.rest.now) c.sign_of_first.result c.in-Some.sign c.sign_of_first.ensures.short c.in-Some.is in
    rw c.sign_front.ensures
    (two_longest c.args.rest.now c.requires.some c.requires.other c.requires.no_comment c.in-Some.sign two (sym (c.sign_of_first.ensures.long two) ∙ c.in-Some.is))

pub returns-in-Some-sign_of_first-clause-some : goal.returns-in-Some-sign_of_first-clause-some
returns-in-Some-sign_of_first-clause-some c =
    rw c.sign_front-in-Some-sign_of_first.ensures
    (one_longest c.args.rest.now c.requires.some c.requires.other c.requires.no_comment c.in-Some-sign_of_first.sign
    (λ two. sym (c.sign_of_first.ensures.long two) ∙ c.in-None.is) (sym (c.sign_of_first-in-None.ensures.long (omega (arith, c.requires.some))) ∙ c.in-Some-sign_of_first.is))

pub returns-in-None-sign_of_first-clause-none : goal.returns-in-None-sign_of_first-clause-none
returns-in-None-sign_of_first-clause-none c e =
    nothing_begins c.args.rest.now c.requires.some c.requires.other c.requires.no_comment
    (λ two. sym (c.sign_of_first.ensures.long two) ∙ c.in-None.is) (sym (c.sign_of_first-in-None.ensures.long (omega (arith, c.requires.some))) ∙ c.in-None-sign_of_first.is)
