use Rattle.std.proofs.Common.{◌≡◌, ◌<◌, ℕ, ℤ, List, Option, false, ap, ◌∙◌, take, drop, length, subst, sym, arith, rules}
use Rattle.lines.specs.First.{line_text}
use Rattle.lines.specs.Grammar.{◌>>=◌, is_blank, parts, words_in, of_width}
use Rattle.lines.proofs.Reading.{behind, goes_on, if_none, read_more}
use Rattle.lines.proofs.grammar.read_line.Goals as goal

pub loop-word-preserved : goal.loop-word-preserved
loop-word-preserved c =
    let i = c.loop-word.invariant in
    let text = c.args.text.now in
    let into = c.loop-word.into in
    let front = take c.loop-word.word-index into in
    let lt : c.loop-word.word-index < length into = omega (arith, c.loop-word.auto.into, c.loop-word-test.true) in
    let word = c.in_ok-value.ensures.word in
    record {
      within = c.in_ok-value.ensures.within;
      line = c.in_ok-value.ensures.line;
      read = i.read ∙ ap (behind front) (c.behind_blanks.ensures.words ∙ word) ∙ read_more into c.loop-word.word-index c.in_ok-value.value (words_in (parts (line_text (drop c.in_ok-value.next text)))) lt
          ∙ search rules;
    }

pub returns-clause-none : goal.returns-clause-none
returns-clause-none c =
    let i = c.loop-word.invariant in
    let text = c.args.text.now in
    let into = c.loop-word.into in
    let n = length c.args.into.now in
    let at = c.behind_blanks-2.result in
    let line = line_text (drop at text) in
    let all : c.loop-word.word-index ≡ n = omega (arith, c.loop-word-test.false, c.loop-word.auto.word-index-end) in
    if_none c.line_end.result _ _ (λ h.
    ap (λ (o : Option (List ℤ)). o >>= of_width n) (i.read ∙ ap (behind (take c.loop-word.word-index into)) c.behind_blanks-2.ensures.words)
    ∙ ap (λ (k : ℕ). behind (take k into) (words_in (parts line)) >>= of_width n) all
    ∙ goes_on n into line h.1 (subst (λ (b : ℕ). is_blank b ≡ false) (sym h.2) (c.behind_blanks-2.ensures.begins h.0)) c.loop-word.auto.into) c.line_end.ensures.none
