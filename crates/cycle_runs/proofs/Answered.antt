-- A run over lines, by the bytes that were taken so far: which lines they had, and what was written for these.
use Rattle.std.proofs.Common.{◌≡◌, ◌⊎◌, inl, inr, ℕ, ◌+◌, ◌<◌, Bool, true, false, cond, List, [], ◌∷◌, ◌++◌, length, Option, Some, None, Ok, ℤ, refl, sym, ap, ◌∙◌, subst, arith}
use Rattle.std.specs.Io.KnownBytes.{append_known, prepend_known}
use Rattle.std.proofs.KnownBytes.{prepend_known-nil}
use Rattle.std.proofs.lemmas.List.{append-nil, append_assoc}
use Rattle.lines.specs.Found.{NoFeedBelow}
use Rattle.lines.specs.Gathered.{Gathered, Writes}
use Rattle.lines.specs.Lines.{RawLine, Lines, Line, lines_in, lines_from, fed_lines, whole_bytes, whole_lines_of}
use Rattle.lines.specs.Reader.{ReadsLine, StillHolds, kept_of, is_over}
use Rattle.lines.specs.declared.reader.LineReader.{LineReader}
use Rattle.lines.proofs.Gather.{nothing_gathered, all_gathered}
use Rattle.lines.proofs.Left.{one_line}
use Rattle.lines.proofs.Split.{line_then_feed, no_line_fed}
use Rattle.mars_base.specs.declared.outside.SinkFault.{SinkFault}
use Rattle.run_texts.specs.RunText.{Broken, Lost}
use Rattle.cycle_runs.specs.Closing.{WritesFor}
use Rattle.cycle_runs.specs.Cycling.{Cycling, by_end, answers_from, ending_from}
use Rattle.cycle_runs.specs.Progress.{HasAnswered}
use Rattle.cycle_runs.specs.declared.ended.CycleEnd.{CycleEnd}
use Rattle.cycle_runs.specs.declared.ended.CycleEnd.TheVariants as ended

abbrev made : List ℕ → Bool → RawLine
made bytes feed = record { bytes = bytes; feed = feed }

known-append : (xs ys : List ℕ) (o : Option (List ℕ)) → prepend_known xs (prepend_known ys o) ≡ prepend_known (xs ++ ys) o
known-append xs ys None = refl
known-append xs ys (Some zs) = ap Some (sym (append_assoc xs ys zs))

pub nothing_waits : {P : Type 0} {waiting : List ℕ} → (P → ⊥) → P ⊎ (waiting ≡ []) → waiting ≡ []
nothing_waits none (inl held) = absurd (none held)
nothing_waits none (inr empty) = empty

module _ {S : Type 0} (c : Cycling S) (first : S) (width : ℕ) where
  -- the bytes that were used up, the lines they had, and what was written for these
  pub record Answering (base input left : Option (List ℕ)) (kept : List ℕ) (over : Bool) (count : ℕ) (now : S) (out : Option (List ℕ)) (waiting : List ℕ) : Type 0 where
    pub used : List ℕ
    pub lines : List RawLine
    pub written : List ℕ
    pub taken : input ≡ prepend_known used (prepend_known kept left)
    pub cut : over ≡ false → (more : List ℕ) → fed_lines (lines_in (used ++ more)) ≡ lines ++ fed_lines (lines_in more)
    pub text : (more : List RawLine) → answers_from c first (lines_from 1 width (lines ++ more)) ≡ written ++ answers_from c now (lines_from (count + 1) width more)
    pub ends : (more : List RawLine) → ending_from c first (lines_from 1 width (lines ++ more)) ≡ ending_from c now (lines_from (count + 1) width more)
    pub gathered : Gathered base written out waiting

  -- at the first line
  pub answering_first : (base left : Option (List ℕ)) (kept waiting : List ℕ) (over : Bool) (count : ℕ) → kept ≡ [] → waiting ≡ [] → count ≡ 0
      → Answering base left left kept over count first base waiting
  answering_first base left kept waiting over count ek ew ec = record {
    used = [];
    lines = [];
    written = [];
    taken = sym (ap (λ (k : List ℕ). prepend_known [] (prepend_known k left)) ek ∙ prepend_known-nil (prepend_known [] left) ∙ prepend_known-nil left);
    cut = λ _ more. refl;
    text = λ more. ap (λ (n : ℕ). answers_from c first (lines_from (n + 1) width more)) (sym ec);
    ends = λ more. ap (λ (n : ℕ). ending_from c first (lines_from (n + 1) width more)) (sym ec);
    gathered = subst (λ (w : List ℕ). Gathered base [] base w) (sym ew) (nothing_gathered base);
  }

  -- what waited was sent
  pub answering_sent : (base input left : Option (List ℕ)) (kept : List ℕ) (over : Bool) (count : ℕ) (now : S) (out new : Option (List ℕ)) (waiting rest : List ℕ)
      → Writes {E = SinkFault} out waiting [] new rest (Ok tt) → Answering base input left kept over count now out waiting → Answering base input left kept over count now new rest
  answering_sent base input left kept over count now out new waiting rest sent a = record {
    used = a.used;
    lines = a.lines;
    written = a.written;
    taken = a.taken;
    cut = a.cut;
    text = a.text;
    ends = a.ends;
    gathered = subst (λ (w : List ℕ). Gathered base w new rest) (append-nil a.written) (sent base a.written a.gathered);
  }

  -- the text and the ending of a line whose cycle is clean
  line_text : (now next : S) (ins : List ℤ) (rest : Lines) → c.ended now ins ≡ ended.Clean → next ≡ c.next now ins
      → answers_from c now (Line ins rest) ≡ c.text now ins ++ answers_from c next rest
  line_text now next ins rest clean is = ap (λ (end : CycleEnd). c.text now ins ++ by_end end (answers_from c (c.next now ins) rest) [] []) clean
      ∙ ap (λ (s : S). c.text now ins ++ answers_from c s rest) (sym is)

  line_ends : (now next : S) (ins : List ℤ) (rest : Lines) → c.ended now ins ≡ ended.Clean → next ≡ c.next now ins
      → ending_from c now (Line ins rest) ≡ ending_from c next rest
  line_ends now next ins rest clean is = ap (λ (end : CycleEnd). by_end end (ending_from c (c.next now ins) rest) Broken Lost) clean ∙ ap (λ (s : S). ending_from c s rest) (sym is)

  -- one more line that a line feed ends, and one that the end of the input ends
  cut_more : (used : List ℕ) (lines : List RawLine) (l : RawLine) (over : Bool) → ((more : List ℕ) → fed_lines (lines_in (used ++ more)) ≡ lines ++ fed_lines (lines_in more))
      → NoFeedBelow (length l.bytes) l.bytes → (l.feed ≡ false → over ≡ true) → over ≡ false
      → (more : List ℕ) → fed_lines (lines_in ((used ++ whole_bytes l) ++ more)) ≡ (lines ++ l ∷ []) ++ fed_lines (lines_in more)
  cut_more used lines l over cut single last going more = go l.feed refl where
    go : (f : Bool) → l.feed ≡ f → fed_lines (lines_in ((used ++ whole_bytes l) ++ more)) ≡ (lines ++ l ∷ []) ++ fed_lines (lines_in more)
    go false e = let over_now = last e in cc
    go true e =
        ap (λ (b : Bool). fed_lines (lines_in ((used ++ cond b (l.bytes ++ 10 ∷ []) l.bytes) ++ more))) e
        ∙ ap (λ (u : List ℕ). fed_lines (lines_in u)) (append_assoc used (l.bytes ++ 10 ∷ []) more ∙ ap (λ (u : List ℕ). used ++ u) (append_assoc l.bytes (10 ∷ []) more))
        ∙ cut (l.bytes ++ 10 ∷ more)
        ∙ ap (λ (ls : List RawLine). lines ++ fed_lines ls) (line_then_feed l.bytes more single)
        ∙ ap (λ (r : RawLine). lines ++ (r ∷ fed_lines (lines_in more))) (ap (made l.bytes) (sym e))
        ∙ sym (append_assoc lines (l ∷ []) (fed_lines (lines_in more)))

  -- one line further
  pub answering_on : (base input old left : Option (List ℕ)) (r s : LineReader) (count more_count : ℕ) (now next : S) (ins : List ℤ) (end : CycleEnd) (out new : Option (List ℕ)) (waiting more : List ℕ)
      → Answering base input old (kept_of r) (is_over r) count now out waiting → ReadsLine r s old left width ins → count < 1000000 → more_count ≡ count + 1
      → c.ended now ins ≡ ended.Clean → next ≡ c.next now ins
      → WritesFor {E = SinkFault} out waiting (c.text now ins) new more (Ok end) → Answering base input left (kept_of s) (is_over s) more_count next new more
  answering_on base input old left r s count more_count now next ins end out new waiting more a reads few one_more clean is written =
      subst (λ (n : ℕ). Answering base input left (kept_of s) (is_over s) n next new more) (sym one_more)
      (record {
        used = a.used ++ whole_bytes reads.line;
        lines = a.lines ++ reads.line ∷ [];
        written = a.written ++ c.text now ins;
        taken = a.taken ∙ ap (prepend_known a.used) reads.bytes ∙ known-append a.used (whole_bytes reads.line) (prepend_known (kept_of s) left);
        cut = cut_more a.used a.lines reads.line (is_over s) (a.cut reads.began) reads.single reads.last;
        text = λ rest.
            ap (λ (ls : List RawLine). answers_from c first (lines_from 1 width ls)) (append_assoc a.lines (reads.line ∷ []) rest)
            ∙ a.text (reads.line ∷ rest)
            ∙ ap (λ (ls : Lines). a.written ++ answers_from c now ls) (one_line (count + 1) width reads.line rest ins reads.read (omega arith))
            ∙ ap (λ (b : List ℕ). a.written ++ b) (line_text now next ins (lines_from (count + 1 + 1) width rest) clean is)
            ∙ sym (append_assoc a.written (c.text now ins) (answers_from c next (lines_from (count + 1 + 1) width rest)));
        ends = λ rest.
            ap (λ (ls : List RawLine). ending_from c first (lines_from 1 width ls)) (append_assoc a.lines (reads.line ∷ []) rest)
            ∙ a.ends (reads.line ∷ rest)
            ∙ ap (ending_from c now) (one_line (count + 1) width reads.line rest ins reads.read (omega arith))
            ∙ line_ends now next ins (lines_from (count + 1 + 1) width rest) clean is;
        gathered = written base a.written a.gathered;
      })

  -- where a read failed
  pub has_answered : (base input old left : Option (List ℕ)) (r s : LineReader) (count : ℕ) (now : S) (out : Option (List ℕ)) (waiting : List ℕ)
      → Answering base input old (kept_of r) (is_over r) count now out waiting → StillHolds r s old left → waiting ≡ [] → HasAnswered c first width input left base out
  has_answered base input old left r s count now out waiting a still none =
      let taken = a.used ++ kept_of s in
      let same : whole_lines_of width taken ≡ lines_from 1 width (a.lines ++ []) =
      ap (lines_from 1 width) (a.cut still.began (kept_of s) ∙ ap (λ (ls : List RawLine). a.lines ++ ls) (no_line_fed (kept_of s) still.now)) in
      record {
        taken = taken;
        were = a.taken ∙ ap (prepend_known a.used) (sym still.bytes) ∙ known-append a.used (kept_of s) left;
        ends = ap (ending_from c first) same ∙ a.ends [];
        text = all_gathered base a.written out (subst (Gathered base a.written out) none a.gathered)
            ∙ ap (append_known base) (sym (ap (answers_from c first) same ∙ a.text [] ∙ append-nil a.written));
      }
