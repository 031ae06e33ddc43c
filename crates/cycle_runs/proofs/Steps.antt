-- A run over lines that is under way.
use Rattle.std.proofs.Common.{◌≡◌, ℕ, ◌+◌, List, [], ◌++◌, Option, Some, None, Ok, Err, ℤ, refl, sym, ap, ◌∙◌, subst}
use Rattle.std.specs.Option.{option_map}
use Rattle.std.specs.Io.KnownBytes.{prepend_known}
use Rattle.std.proofs.KnownBytes.{prepend_known-nil}
use Rattle.std.proofs.lemmas.List.{append-nil, append_assoc}
use Rattle.lines.specs.Gathered.{Gathered, Writes}
use Rattle.lines.specs.Lines.{Lines, Line, lines_of, lines_from, lines_in}
use Rattle.lines.proofs.Gather.{nothing_gathered, front_of_gathered, front_of_front}
use Rattle.mars_base.specs.declared.outside.SinkFault.{SinkFault}
use Rattle.run_texts.specs.RunText.{RunEnding, Lost, Broken}
use Rattle.cycle_runs.specs.Closing.{WritesFor}
use Rattle.cycle_runs.specs.Cycling.{Cycling, by_end, text_from, ending_from, state_from}
use Rattle.cycle_runs.specs.Progress.{RanInto}
use Rattle.cycle_runs.specs.declared.ended.CycleEnd.{CycleEnd}
use Rattle.cycle_runs.specs.declared.ended.CycleEnd.TheVariants as ended

module _ {S : Type 0} (c : Cycling S) (first : S) where
  -- what was written, and what is still to come for the lines that are left
  pub record Underway (base : Option (List ℕ)) (all : Lines) (now : S) (left : Lines) (out : Option (List ℕ)) (waiting : List ℕ) : Type 0 where
    pub written : List ℕ
    pub gathered : Gathered base written out waiting
    pub text : written ++ text_from c now left ≡ text_from c first all
    pub ends : ending_from c now left ≡ ending_from c first all
    pub leaves : state_from c now left ≡ state_from c first all

  -- the same where the lines are told
  abbrev pub Going : Option (List ℕ) → Option Lines → S → Option Lines → Option (List ℕ) → List ℕ → Type 0
  Going base None now None out waiting = Unit {0}
  Going base None now (Some left) out waiting = ⊥
  Going base (Some all) now None out waiting = ⊥
  Going base (Some all) now (Some left) out waiting = Underway base all now left out waiting

  begun : (base : Option (List ℕ)) (all : Option Lines) → Going base all first all base []
  begun base None = tt
  begun base (Some all) = record { written = []; gathered = nothing_gathered base; text = refl; ends = refl; leaves = refl }

  same_left : (width count : ℕ) (kept : List ℕ) (left : Option (List ℕ)) → kept ≡ [] → count ≡ 0
      → option_map (lines_of width) left ≡ option_map (λ bytes. lines_from (count + 1) width (lines_in bytes)) (prepend_known kept left)
  same_left width count kept left ek ec =
      sym (ap (λ (n : ℕ). option_map (λ bytes. lines_from (n + 1) width (lines_in bytes)) (prepend_known kept left)) ec
      ∙ ap (λ (k : List ℕ). option_map (λ bytes. lines_from (0 + 1) width (lines_in bytes)) (prepend_known k left)) ek
      ∙ ap (option_map (λ bytes. lines_from (0 + 1) width (lines_in bytes))) (prepend_known-nil left))

  -- at the first line
  pub going_first : (base : Option (List ℕ)) (width : ℕ) (left : Option (List ℕ)) (count : ℕ) (kept waiting : List ℕ) → kept ≡ [] → count ≡ 0 → waiting ≡ []
      → Going base (option_map (lines_of width) left) first (option_map (λ bytes. lines_from (count + 1) width (lines_in bytes)) (prepend_known kept left)) base waiting
  going_first base width left count kept waiting ek ec ew =
      let all = option_map (lines_of width) left in
      subst (λ (w : List ℕ). Going base all first (option_map (λ bytes. lines_from (count + 1) width (lines_in bytes)) (prepend_known kept left)) base w) (sym ew)
      (subst (λ (o : Option Lines). Going base all first o base []) (same_left width count kept left ek ec) (begun base all))

  -- what waited was sent
  pub going_sent : (base : Option (List ℕ)) (all left : Option Lines) (now : S) (out new : Option (List ℕ)) (waiting rest : List ℕ)
      → Writes {E = SinkFault} out waiting [] new rest (Ok tt) → Going base all now left out waiting → Going base all now left new rest
  going_sent base None None now out new waiting rest sent g = tt
  going_sent base None (Some left) now out new waiting rest sent g = absurd g
  going_sent base (Some all) None now out new waiting rest sent g = absurd g
  going_sent base (Some all) (Some left) now out new waiting rest sent g = record {
    written = g.written;
    gathered = subst (λ (w : List ℕ). Gathered base w new rest) (append-nil g.written) (sent base g.written g.gathered);
    text = g.text;
    ends = g.ends;
    leaves = g.leaves;
  }

  -- a front of the text is there, where nothing more was put
  pub into_kept : (base : Option (List ℕ)) (all left : Option Lines) (now : S) (out : Option (List ℕ)) (waiting : List ℕ)
      → Going base all now left out waiting → RanInto c first all base out
  into_kept base None left now out waiting g = tt
  into_kept base (Some all) None now out waiting g = absurd g
  into_kept base (Some all) (Some left) now out waiting g = front_of_gathered base g.written (text_from c now left) (text_from c first all) out waiting (sym g.text) g.gathered

  -- where nothing was put yet
  pub into_nothing : (base : Option (List ℕ)) (all : Option Lines) → RanInto c first all base base
  into_nothing base all = into_kept base all all first base [] (begun base all)

  -- and where a put of what waits failed
  pub into_unsent : (base : Option (List ℕ)) (all left : Option Lines) (now : S) (e : SinkFault) (out new : Option (List ℕ)) (waiting rest : List ℕ)
      → Writes out waiting [] new rest (Err e) → Going base all now left out waiting → RanInto c first all base new
  into_unsent base None left now e out new waiting rest failed g = tt
  into_unsent base (Some all) None now e out new waiting rest failed g = absurd g
  into_unsent base (Some all) (Some left) now e out new waiting rest failed g =
      front_of_front base (g.written ++ []) (text_from c now left) (text_from c first all) new
      (sym g.text ∙ ap (λ (w : List ℕ). w ++ text_from c now left) (sym (append-nil g.written))) (failed base g.written g.gathered)

  -- what follows a line's cycle in the text
  abbrev pub after_cycle : S → List ℤ → Lines → CycleEnd → List ℕ
  after_cycle now ins rest end = by_end end (text_from c (c.next now ins) rest) [] []

  -- a front of the text is there, where a cycle's text could not be written
  into_told : (base : Option (List ℕ)) (all : Lines) (rest : Option Lines) (now : S) (ins : List ℤ) (e : SinkFault) (out new : Option (List ℕ)) (waiting more : List ℕ)
      → Going base (Some all) now (option_map (Line ins) rest) out waiting → WritesFor {A = CycleEnd} out waiting (c.text now ins) new more (Err e) → RanInto c first (Some all) base new
  into_told base all None now ins e out new waiting more g failed = absurd g
  into_told base all (Some rest) now ins e out new waiting more g failed =
      let later = after_cycle now ins rest (c.ended now ins) in
      front_of_front base (g.written ++ c.text now ins) later (text_from c first all) new
      (sym g.text ∙ sym (append_assoc g.written (c.text now ins) later)) (failed base g.written g.gathered)

  pub into_unwritten : (base : Option (List ℕ)) (all before rest : Option Lines) (now : S) (ins : List ℤ) (e : SinkFault) (out new : Option (List ℕ)) (waiting more : List ℕ)
      → Going base all now before out waiting → before ≡ option_map (Line ins) rest → WritesFor {A = CycleEnd} out waiting (c.text now ins) new more (Err e) → RanInto c first all base new
  into_unwritten base None before rest now ins e out new waiting more g at failed = tt
  into_unwritten base (Some all) before rest now ins e out new waiting more g at failed =
      into_told base all rest now ins e out new waiting more (subst (λ (o : Option Lines). Going base (Some all) now o out waiting) at g) failed

  -- one clean cycle on
  step_told : (base : Option (List ℕ)) (all rest : Option Lines) (now next : S) (ins : List ℤ) (end : CycleEnd) (out new : Option (List ℕ)) (waiting more : List ℕ)
      → Going base all now (option_map (Line ins) rest) out waiting → c.ended now ins ≡ ended.Clean → next ≡ c.next now ins
      → WritesFor {E = SinkFault} out waiting (c.text now ins) new more (Ok end) → Going base all next rest new more
  step_told base None None now next ins end out new waiting more g clean is written = tt
  step_told base None (Some rest) now next ins end out new waiting more g clean is written = absurd g
  step_told base (Some all) None now next ins end out new waiting more g clean is written = absurd g
  step_told base (Some all) (Some rest) now next ins end out new waiting more g clean is written = record {
    written = g.written ++ c.text now ins;
    gathered = written base g.written g.gathered;
    text = append_assoc g.written (c.text now ins) (text_from c next rest)
        ∙ ap (λ (s : S). g.written ++ (c.text now ins ++ text_from c s rest)) is
        ∙ ap (λ (end : CycleEnd). g.written ++ (c.text now ins ++ after_cycle now ins rest end)) (sym clean) ∙ g.text;
    ends = ap (λ (s : S). ending_from c s rest) is ∙ ap (λ (end : CycleEnd). by_end end (ending_from c (c.next now ins) rest) Broken Lost) (sym clean) ∙ g.ends;
    leaves = ap (λ (s : S). state_from c s rest) is ∙ ap (λ (end : CycleEnd). by_end end (state_from c (c.next now ins) rest) (c.next now ins) (c.next now ins)) (sym clean) ∙ g.leaves;
  }

  pub going_on : (base : Option (List ℕ)) (all before rest : Option Lines) (now next : S) (ins : List ℤ) (end : CycleEnd) (out new : Option (List ℕ)) (waiting more : List ℕ)
      → Going base all now before out waiting → before ≡ option_map (Line ins) rest → c.ended now ins ≡ ended.Clean → next ≡ c.next now ins
      → WritesFor {E = SinkFault} out waiting (c.text now ins) new more (Ok end) → Going base all next rest new more
  going_on base all before rest now next ins end out new waiting more g at clean is written =
      step_told base all rest now next ins end out new waiting more (subst (λ (o : Option Lines). Going base all now o out waiting) at g) clean is written
