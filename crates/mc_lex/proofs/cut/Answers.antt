use Rattle.std.proofs.Common.{refl}
use Rattle.std.proofs.lemmas.List.{take_rest}
use Rattle.mc_lex.proofs.Chain.{step_gap, step_token, malformed, nothing, all_cut, told}
use Rattle.mc_lex.proofs.cut.Goals as goal

pub returns-in-Malformed-clause-bad : goal.returns-in-Malformed-clause-bad
returns-in-Malformed-clause-bad c o e =
    told c.args.bytes.now c.loop-at.at o (malformed c.args.bytes.now c.loop-at.at _ (take_rest c.args.bytes.now c.loop-at.at) c.in-Some.front.len c.loop-at.tokens.items (rw c.in-Malformed.is at c.in-Some.ensures.some) c.loop-at.invariant) e

pub loop-at-preserved-in-Gap : goal.loop-at-preserved-in-Gap
loop-at-preserved-in-Gap c =
    step_gap c.args.bytes.now c.loop-at.at _ (take_rest c.args.bytes.now c.loop-at.at) c.in-Some.front.len c.loop-at.tokens.items c.loop-at.tokens.items (rw c.in-Gap.is at c.in-Some.ensures.some) refl c.loop-at.invariant

pub loop-at-preserved : goal.loop-at-preserved
loop-at-preserved c =
    step_token c.args.bytes.now c.loop-at.at _ (take_rest c.args.bytes.now c.loop-at.at) c.in-Some.front.len c.in-Token.kind c.loop-at.tokens.items c.push.new.self.items (rw c.in-Token.is at c.in-Some.ensures.some) (rw c.spanned.ensures at c.in_ok-push-in-Token.ensures.items) c.loop-at.invariant

pub returns-in_default-clause-bad : goal.returns-in_default-clause-bad
returns-in_default-clause-bad c o e =
    told c.args.bytes.now c.loop-at.at o (nothing c.args.bytes.now c.loop-at.at _ (take_rest c.args.bytes.now c.loop-at.at) c.loop-at.tokens.items (c.in_default.ensures.none refl) c.loop-at-test.true c.loop-at.invariant) e

pub returns-clause-ok : goal.returns-clause-ok
returns-clause-ok c = all_cut c.args.bytes.now c.loop-at.at c.loop-at.tokens.items c.loop-at-test.false c.loop-at.invariant
