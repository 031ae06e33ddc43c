use Rattle.std.proofs.Common.{◌≡◌, ◌∙◌, ap, sym, subst, List, Err}
use Rattle.mc_tree.specs.RawPlain.{plain_task}
use Rattle.mc_tree.specs.Tokens.{IsTokens}
use Rattle.mc_tree.specs.declared.token.Token.{Token}
use Rattle.task_source.proofs.Texts.{give_bad, give_syntax, give_rule, give_sound}
use Rattle.task_source.proofs.source.read_text.Goals as goal

pub returns-in-Err-Bad-clause-answer : goal.returns-in-Err-Bad-clause-answer
returns-in-Err-Bad-clause-answer c =
    give_bad c.args.file.now c.in-Ok.name c.args.bytes.now _ c.in-Err-Bad.at (c.in-Ok.ensures {u = tt} ∙ c.as_bytes.ensures.value) (let h = c.in-Err-Bad.at-is in cc)
    (c.lex.ensures.bad c.in-Err-Bad.at (let h = c.in-Err-Bad.is in let k = c.in-Err-Bad.field-0-is in cc))

pub returns-in-Err-Syntax-clause-answer : goal.returns-in-Err-Syntax-clause-answer
returns-in-Err-Syntax-clause-answer c =
    give_syntax c.args.file.now c.in-Ok.name c.args.bytes.now c.deref.result.now _ c.in-Err-Syntax.token (c.in-Ok.ensures {u = tt} ∙ c.as_bytes.ensures.value) (let h = c.in-Err-Syntax.token-is in cc)
    (subst (λ (ts : List Token). IsTokens c.args.bytes.now ts) (sym c.deref.ensures.value) (c.in-Ok-lex.ensures {u = tt}).ok)
    (c.read.ensures.bad c.in-Err-Syntax.token (let h = c.in-Err-Syntax.is in let k = c.in-Err-Syntax.field-0-is in cc))

pub returns-in-Ok-check-clause-answer : goal.returns-in-Ok-check-clause-answer
returns-in-Ok-check-clause-answer c =
    give_sound c.args.file.now c.args.bytes.now c.deref.result.now (plain_task c.in-Ok-read.tree) c.in-Ok-check.task (c.in-Ok-read.ensures {u = tt}).ok (c.in-Ok-check.ensures {u = tt}).none (c.in-Ok-check.ensures {u = tt}).task

pub returns-in-Err-Bad-check-clause-answer : goal.returns-in-Err-Bad-check-clause-answer
returns-in-Err-Bad-check-clause-answer c =
    give_rule c.args.file.now c.in-Ok.name c.args.bytes.now c.deref.result.now (plain_task c.in-Ok-read.tree) c.in-Err-Bad-check.field-0 _ c.in-Err-Bad-check.span _ c.in-Err-Bad-check.kind
    (c.in-Ok.ensures {u = tt} ∙ c.as_bytes.ensures.value) (let h = c.in-Err-Bad-check.field-0-is in cc) (let h = c.in-Err-Bad-check.kind-is in cc) (let h = c.in-Err-Bad-check.span-is in cc)
    (c.in-Ok-read.ensures {u = tt}).ok (c.in-Err-Bad-check.ensures {u = tt}).bad
