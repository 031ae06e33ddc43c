use Rattle.std.proofs.Common.{◌<◌, ◌+◌, ◌∙◌, ℕ, ap, arith, eq-eqb, length, refl, subst, take}
use Rattle.lines.specs.Found.{Finds}
use Rattle.lines.specs.Lines.{without_return}
use Rattle.lines.proofs.Feeds.{single_fed}
use Rattle.lines.proofs.Fits.{words_fit}
use Rattle.lines.proofs.Left.{fed, fed_next, fed_reads, fed_refuses, fed_words, long_refused, some_kept, unfed, unfed_next, unfed_reads, unfed_refuses, unfed_words}
use Rattle.lines.proofs.reader.LineReader.next.Goals as goal

pub returns-in-Line-clause-line : goal.returns-in-Line-clause-line
returns-in-Line-clause-line g c is =
    let ok = c.in_ok-find_line.ensures {u = tt} in
    let kept = c.find_line.new.self.window in
    let p = c.read_first.ensures.line is in
    let u = p.used in
    fed_next (c.args.self.now.count + 1) c.read_first.new.self.count (length c.args.into.now) u.0 c.args.self.now.window kept c.read_first.new.self.window
    (without_return (take u.0 kept)) (g.I.Source.left c.args.source.now) (g.I.Source.left c.find_line.new.source) c.read_first.new.into ok.bytes u.1 u.2 refl u.4
    (omega (arith, p.few, ok.count)) (p.one_more ∙ ap (λ (n : ℕ). n + 1) ok.count) u.3

pub returns-in-Line-clause-bad : goal.returns-in-Line-clause-bad
returns-in-Line-clause-bad g c n is =
    let ok = c.in_ok-find_line.ensures {u = tt} in
    let p = c.read_first.ensures.bad n is in
    fed_refuses n (c.args.self.now.count + 1) (length c.args.into.now) c.args.self.now.window c.find_line.new.self.window
    (g.I.Source.left c.args.source.now) (g.I.Source.left c.find_line.new.source) ok.bytes p.1 (p.0 ∙ ap (λ (k : ℕ). k + 1) ok.count)

pub returns-in-Line-clause-fits : goal.returns-in-Line-clause-fits
returns-in-Line-clause-fits g c is =
    let u = (c.read_first.ensures.line is).used in
    words_fit (length c.args.into.now) (without_return (take u.0 c.find_line.new.self.window)) c.read_first.new.into u.4

pub returns-in-Line-clause-reads : goal.returns-in-Line-clause-reads
returns-in-Line-clause-reads g c is =
    let ok = c.in_ok-find_line.ensures {u = tt} in
    let kept = c.find_line.new.self.window in
    let u = (c.read_first.ensures.line is).used in
    record {
      began = c.if-self.false;
      line = fed kept u.0;
      bytes = fed_reads u.0 c.args.self.now.window kept c.read_first.new.self.window (g.I.Source.left c.args.source.now) (g.I.Source.left c.find_line.new.source) ok.bytes u.1.within u.1.here u.3;
      single = single_fed u.0 kept u.1.before;
      read = fed_words (length c.args.into.now) u.0 kept _ u.2 u.4;
      more = λ _. c.read_first.ensures.over is;
      last = λ none. absurd (cc (none));
    }

-- some bytes are kept
some_left : (g : _) (c : goal.After-into-in-Rest-2-1 g) → 0 < length c.find_line.new.self.window
some_left g c = some_kept c.bytes.result.now c.find_line.new.self.window c.bytes.ensures (λ e. absurd (cc (c.if-is_empty.ensures {u = tt}, eq-eqb (length c.bytes.result.now) 0 e)))

pub returns-in-Rest-2-clause-line : goal.returns-in-Rest-2-clause-line
returns-in-Rest-2-clause-line g c is =
    let ok = c.in_ok-find_line.ensures {u = tt} in
    let kept = c.find_line.new.self.window in
    let left = g.I.Source.left c.find_line.new.source in
    let found = subst (Finds kept left) c.in-Rest-2.is ok.found in
    let p = c.read_first-in-Rest-2.ensures.line is in
    unfed_next (c.args.self.now.count + 1) c.read_first-in-Rest-2.new.self.count (length c.args.into.now) c.args.self.now.window kept c.read_first-in-Rest-2.new.self.window
    (g.I.Source.left c.args.source.now) left c.read_first-in-Rest-2.new.into ok.bytes (some_left g c) found.0 found.1 found.2 p.used.1
    (omega (arith, p.few, ok.count)) (p.one_more ∙ ap (λ (n : ℕ). n + 1) ok.count) p.used.0

pub returns-in-Rest-2-clause-bad : goal.returns-in-Rest-2-clause-bad
returns-in-Rest-2-clause-bad g c n is =
    let ok = c.in_ok-find_line.ensures {u = tt} in
    let kept = c.find_line.new.self.window in
    let left = g.I.Source.left c.find_line.new.source in
    let found = subst (Finds kept left) c.in-Rest-2.is ok.found in
    let p = c.read_first-in-Rest-2.ensures.bad n is in
    unfed_refuses n (c.args.self.now.count + 1) (length c.args.into.now) c.args.self.now.window kept
    (g.I.Source.left c.args.source.now) left ok.bytes (some_left g c) found.0 found.1 found.2 p.1 (p.0 ∙ ap (λ (k : ℕ). k + 1) ok.count)

pub returns-in-Rest-2-clause-fits : goal.returns-in-Rest-2-clause-fits
returns-in-Rest-2-clause-fits g c is = words_fit (length c.args.into.now) c.find_line.new.self.window c.read_first-in-Rest-2.new.into (c.read_first-in-Rest-2.ensures.line is).used.1

pub returns-in-Rest-2-clause-reads : goal.returns-in-Rest-2-clause-reads
returns-in-Rest-2-clause-reads g c is =
    let ok = c.in_ok-find_line.ensures {u = tt} in
    let kept = c.find_line.new.self.window in
    let left = g.I.Source.left c.find_line.new.source in
    let found = subst (Finds kept left) c.in-Rest-2.is ok.found in
    let u = (c.read_first-in-Rest-2.ensures.line is).used in
    record {
      began = c.if-self.false;
      line = unfed kept;
      bytes = unfed_reads c.args.self.now.window kept c.read_first-in-Rest-2.new.self.window (g.I.Source.left c.args.source.now) left ok.bytes u.0;
      single = found.0;
      read = unfed_words (length c.args.into.now) kept _ found.1 u.1;
      more = λ fed. absurd (cc (fed));
      last = λ _. c.read_first-in-Rest-2.ensures.over is;
    }

pub returns-in-Long-clause-bad : goal.returns-in-Long-clause-bad
returns-in-Long-clause-bad g c m is =
    let ok = c.in_ok-find_line.ensures {u = tt} in
    let kept = c.find_line.new.self.window in
    let left = g.I.Source.left c.find_line.new.source in
    let found = subst (Finds kept left) c.in-Long.is ok.found in
    long_refused (c.args.self.now.count + 1) m (length c.args.into.now) c.args.self.now.window kept (g.I.Source.left c.args.source.now) left ok.bytes (length kept, found.1, omega arith, found.0) (cc (is))
