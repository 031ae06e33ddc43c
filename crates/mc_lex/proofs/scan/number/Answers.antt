use Rattle.std.proofs.Common.{take, arith, ◌∙◌, subst}
use Rattle.std.specs.Char.{is_ascii_digit}
use Rattle.mc_tree.specs.Lexeme.{Lexeme, number_of}
use Rattle.mc_tree.specs.Tokens.{Longest}
use Rattle.mc_lex.proofs.Fronts.{number_longest, zero_first, number_first, taken, run_passes}
use Rattle.mc_lex.proofs.scan.number.Goals as goal

pub value_of-value-requires : goal.value_of-value-requires
value_of-value-requires c = rw c.digit_count-len.ensures (run_passes is_ascii_digit c.args.rest.now)

pub returns-then-len-gt1 : goal.returns-then-len-gt1
returns-then-len-gt1 c =
    let h : Longest c.args.rest.now c.digit_count-len.result (number_of (take c.digit_count-len.result c.args.rest.now)) =
    rw c.digit_count-len.ensures (number_longest c.args.rest.now c.requires.some c.requires.blank c.requires.first) in
    let t = taken c.args.rest.now c.digit_count-len.result h.some h.within in
    subst (λ (s : Lexeme). Longest c.args.rest.now c.digit_count-len.result s) (zero_first (take c.digit_count-len.result c.args.rest.now) (t.0 ∙ c.if-rest-eq48.true) (omega (arith, t.1))) h

pub returns-else-rest-eq48 : goal.returns-else-rest-eq48
returns-else-rest-eq48 c =
    let h : Longest c.args.rest.now c.digit_count-len.result (number_of (take c.digit_count-len.result c.args.rest.now)) =
    rw c.digit_count-len.ensures (number_longest c.args.rest.now c.requires.some c.requires.blank c.requires.first) in
    let t = taken c.args.rest.now c.digit_count-len.result h.some h.within in
    rw c.value_of-value.ensures
    (subst (λ (s : Lexeme). Longest c.args.rest.now c.digit_count-len.result s) (number_first (take c.digit_count-len.result c.args.rest.now) (rw (t.0, t.1) c.else-rest-eq48.either)) h)
