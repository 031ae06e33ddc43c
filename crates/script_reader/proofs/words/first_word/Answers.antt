use Rattle.std.proofs.Common.{◌∙◌, ◌-◌, List, ℕ, ◌∷◌, ap, sym, take, drop, length}
use Rattle.std.proofs.lemmas.List.{take_rest}
use Rattle.script_reader.specs.Words.{words_between}
use Rattle.script_reader.proofs.FirstWord.{none_left, first_behind}
use Rattle.script_reader.proofs.words.first_word.Goals as goal

pub returns-then-start-text : goal.returns-then-start-text
returns-then-start-text c = none_left c.blanks-start.result c.args.text.now c.blanks-start.ensures.within c.blanks-start.ensures.before c.if-start-text.true

pub returns : goal.returns
returns c =
    let text = c.args.text.now in
    let start = c.blanks-start.result in
    let rest = take (length text - start) (drop start text) in
    first_behind start c.word_len.result text rest c.blanks-start.ensures.within c.if-start-text.false c.blanks-start.ensures.before c.blanks-start.ensures.ends
    (take_rest text start) c.word_len.ensures.within c.word_len.ensures.before c.word_len.ensures.ends
    ∙ ap (λ (w : List ℕ). w ∷ words_between (drop c.word_len.result rest)) (sym c.split_at.ensures.front)
    ∙ ap (λ (t : List ℕ). c.split_at.result.0.now ∷ words_between t) (sym c.split_at.ensures.back)
