use Rattle.std.proofs.Common.{◌+◌, drop, arith}
use Rattle.lines.specs.First.{line_text}
use Rattle.lines.proofs.FirstWord.{place_behind, read_word}
use Rattle.lines.proofs.grammar.word_at.Goals as goal

pub returns-clause-word : goal.returns-clause-word
returns-clause-word c =
    let text = c.args.text.now in
    read_word text c.args.from (c.args.from + c.from.result) c.begins_minus-negative.result (λ next. line_text (drop next text)) c.digits_at.result (omega (arith, place_behind c.begins_minus-negative.result c.args.from c.from.result c.from.ensures)) c.begins_minus-negative.ensures.minus c.begins_minus-negative.ensures.other c.requires.begins
    c.digits_at.ensures.word
