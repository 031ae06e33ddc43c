-- The first line of a text, and lines one after another.
use Rattle.std.proofs.Common.{◌≡◌, ◌≢◌, ℕ, zero, suc, ◌+◌, ◌-◌, ◌<◌, ◌≤◌, Bool, true, false, cond, List, [], ◌∷◌, ◌++◌, length, get_or, take, drop, refl, sym, ap, ◌∙◌, arith, eqb, eq-eqb, append_assoc, add-one, Option, Some, None}
use Rattle.std.proofs.lemmas.Bool.{false_from_ne_true, eqb-true}
use Rattle.std.proofs.lemmas.List.{append-nil, length-drop}
use Rattle.lines.proofs.Split.{line_at_feed, line_at_end}
use Rattle.lines.specs.Found.{NoFeedBelow}
use Rattle.lines.specs.Lines.{RawLine, without_return, lines_in}
use Rattle.memchr.specs.Find.{NoneBefore, Passes, is_byte}
use Rattle.script.specs.declared.script.Silence.{Silence}
use Rattle.script.specs.declared.script.Pace.{Pace}
use Rattle.script_reader.specs.Entry.{Restart, Entry, Nothing, Silent, Paced, Restarted, text_entry}
use Rattle.script_reader.specs.Reading.{Events, Reading, Good, Bad, before_rest, onto_reading, reading_from}
use Rattle.script_reader.specs.FirstLine.{IsFirstLine, then_entry, then_reading}

-- a line that ends with a carriage return loses it
drops_last : (n : ℕ) (line : List ℕ) → suc n ≡ length line → get_or line n 0 ≡ 13 → take n line ≡ without_return line
drops_last n [] long here = absurd (omega arith)
drops_last zero (b ∷ []) long here = sym (ap (λ (t : Bool). cond t [] (b ∷ [])) (eq-eqb b 13 here))
drops_last (suc n) (b ∷ []) long here = absurd (omega arith)
drops_last zero (b ∷ c ∷ bs) long here = absurd (omega arith)
drops_last (suc n) (b ∷ c ∷ bs) long here = ap (λ (t : List ℕ). b ∷ t) (drops_last n (c ∷ bs) (omega arith) here)

keeps_last : (n : ℕ) (line : List ℕ) → suc n ≡ length line → get_or line n 0 ≢ 13 → line ≡ without_return line
keeps_last n [] long other = absurd (omega arith)
keeps_last zero (b ∷ []) long other = sym (ap (λ (t : Bool). cond t [] (b ∷ [])) (false_from_ne_true (eqb b 13) (λ t. other (eqb-true b 13 t))))
keeps_last (suc n) (b ∷ []) long other = absurd (omega arith)
keeps_last zero (b ∷ c ∷ bs) long other = absurd (omega arith)
keeps_last (suc n) (b ∷ c ∷ bs) long other = ap (λ (t : List ℕ). b ∷ t) (keeps_last n (c ∷ bs) (omega arith) other)

pub empty_line : (line : List ℕ) → length line ≡ 0 → line ≡ without_return line
empty_line [] none = refl
empty_line (b ∷ bs) none = absurd (omega arith)

pub loses_return : (line : List ℕ) → 1 ≤ length line → get_or line (length line - 1) 0 ≡ 13 → take (length line - 1) line ≡ without_return line
loses_return line some here = drops_last (length line - 1) line (omega arith) here

pub keeps_line : (line : List ℕ) → 1 ≤ length line → get_or line (length line - 1) 0 ≢ 13 → line ≡ without_return line
keeps_line line some other = keeps_last (length line - 1) line (omega arith) other

pub ruleset return_rules = (empty_line, loses_return, keeps_line)

-- the line that a line feed ends
pub fed_line : (text line behind : List ℕ) (at : ℕ) → NoneBefore (Passes (is_byte 10) text) 0 (length text) at × Passes (is_byte 10) text at → line ≡ without_return (take at text) → behind ≡ drop (at + 1) text → IsFirstLine text line behind
fed_line text line behind at found is rest =
    let none : NoFeedBelow at text = λ k lt here. found.0.before k (omega arith) lt (eq-eqb (get_or text k 0) 10 here) in
    let here : get_or text at 0 ≡ 10 = eqb-true (get_or text at 0) 10 found.1 in
    record {
      raw = record { bytes = take at text; feed = true };
      lines = ap lines_in (sym (append-nil text)) ∙ line_at_feed at text [] found.0.high none here
          ∙ ap (λ (t : List ℕ). (record { bytes = take at text; feed = true }) ∷ lines_in t) (append-nil (drop (suc at) text) ∙ ap (λ (n : ℕ). drop n text) (sym (add-one at)) ∙ sym rest);
      text_is = sym is;
      shorter = let high = found.0.high in omega (arith, high, ap length rest, length-drop (at + 1) text);
    }

-- the line that the end of the text ends
pub last_line : (text behind : List ℕ) → false ≡ eqb (length text) 0 → ((k : ℕ) → 0 ≤ k → k < length text → Passes (is_byte 10) text k → ⊥) → behind ≡ [] → IsFirstLine text text behind
last_line [] behind some none rest = absurd (cc (some))
last_line (b ∷ bs) behind some none rest = record {
  raw = record { bytes = b ∷ bs; feed = false };
  lines = line_at_end (b ∷ bs) (omega arith) (λ k lt here. none k (omega arith) lt (eq-eqb (get_or (b ∷ bs) k 0) 10 here))
      ∙ ap (λ (t : List ℕ). (record { bytes = b ∷ bs; feed = false }) ∷ lines_in t) (sym rest);
  text_is = refl;
  shorter = omega (arith, ap length rest);
}

then_silences : (xs ys : List Silence) (s : Silence) → (xs ++ s ∷ []) ++ ys ≡ xs ++ s ∷ ys
then_silences xs ys s = append_assoc xs (s ∷ []) ys

then_paces : (xs ys : List Pace) (p : Pace) → (xs ++ p ∷ []) ++ ys ≡ xs ++ p ∷ ys
then_paces xs ys p = append_assoc xs (p ∷ []) ys

then_restarts : (xs ys : List Restart) (r : Restart) → (xs ++ r ∷ []) ++ ys ≡ xs ++ r ∷ ys
then_restarts xs ys r = append_assoc xs (r ∷ []) ys

-- what a line says stands between what was before and what comes behind
pub then_both : (events : Events) (entry : Entry) (rest : Reading) → then_reading (then_entry events entry) rest ≡ then_reading events (before_rest entry rest)
then_both events Nothing (Good more) = refl
then_both events Nothing (Bad n) = refl
then_both events (Silent s) (Good more) = ap (λ (l : List Silence). Good (record { silences = l; paces = events.paces ++ more.paces; restarts = events.restarts ++ more.restarts })) (then_silences events.silences more.silences s)
then_both events (Silent s) (Bad n) = refl
then_both events (Paced p) (Good more) = ap (λ (l : List Pace). Good (record { silences = events.silences ++ more.silences; paces = l; restarts = events.restarts ++ more.restarts })) (then_paces events.paces more.paces p)
then_both events (Paced p) (Bad n) = refl
then_both events (Restarted r) (Good more) = ap (λ (l : List Restart). Good (record { silences = events.silences ++ more.silences; paces = events.paces ++ more.paces; restarts = l })) (then_restarts events.restarts more.restarts r)
then_both events (Restarted r) (Bad n) = refl

-- one line more is read
pub line_more : (units ticks number : ℕ) (events new : Events) (entry : Entry) (rest line behind : List ℕ) → IsFirstLine rest line behind → Some entry ≡ text_entry false units ticks line → new ≡ then_entry events entry
    → then_reading events (reading_from false units ticks number (lines_in rest)) ≡ then_reading new (reading_from false units ticks (number + 1) (lines_in behind))
line_more units ticks number events new entry rest line behind first says is =
    let others = reading_from false units ticks (number + 1) (lines_in behind) in
    ap (λ (ls : List RawLine). then_reading events (reading_from false units ticks number ls)) first.lines
    ∙ ap (λ (o : Option Entry). then_reading events (onto_reading number o others)) (ap (text_entry false units ticks) first.text_is ∙ sym says)
    ∙ sym (then_both events entry others)
    ∙ ap (λ (e : Events). then_reading e others) (sym is)

-- the first line isn't in the grammar
pub line_bad : (units ticks number : ℕ) (events : Events) (rest line behind : List ℕ) → IsFirstLine rest line behind → None ≡ text_entry false units ticks line
    → then_reading events (reading_from false units ticks number (lines_in rest)) ≡ Bad number
line_bad units ticks number events rest line behind first says =
    let others = reading_from false units ticks (number + 1) (lines_in behind) in
    ap (λ (ls : List RawLine). then_reading events (reading_from false units ticks number ls)) first.lines
    ∙ ap (λ (o : Option Entry). then_reading events (onto_reading number o others)) (ap (text_entry false units ticks) first.text_is ∙ sym says)
