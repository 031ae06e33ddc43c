use Rattle.std.proofs.Common.{◌∙◌, List, ℕ, ap, subst, sym, length, refl}
use Rattle.lines.specs.First.{line_text, EndsLine}
use Rattle.lines.specs.Grammar.{words_of}
use Rattle.lines.proofs.Judged.{line_used, none_refused}
use Rattle.lines.proofs.reader.LineReader.read_first.Goals as goal

pub returns-in_default-clause-bad : goal.returns-in_default-clause-bad
returns-in_default-clause-bad c n is = (
  cc (is),
  none_refused c.args.last c.args.self.now.window (length c.args.into.now) n (record { ends = c.requires.last; fed = c.requires.fed })
      (ap (λ (t : List ℕ). words_of (length c.args.into.now) (line_text t)) (sym c.bytes.ensures) ∙ (c.in_default.ensures {u = tt}).none),
)

pub returns-clause-line : goal.returns-clause-line
returns-clause-line c is =
    let read = c.in-Some.ensures {u = tt} in
    record {
      few = c.if-self-ge-MOST_LINES.false;
      one_more = refl;
      used = line_used c.args.last c.args.self.now.window c.consume.new.self (length c.args.into.now) c.in-Some.taken c.read_line.new.into (record { ends = c.requires.last; fed = c.requires.fed })
          (subst (λ (t : List ℕ). EndsLine t c.in-Some.taken) c.bytes.ensures read.end) c.if-taken.false
          (ap (λ (t : List ℕ). words_of (length c.args.into.now) (line_text t)) (sym c.bytes.ensures) ∙ read.words) c.consume.ensures;
    }
