-- A run over lines that is under way.
use Rattle.std.proofs.Common.{◌≡◌, inl, inr, ℕ, ◌+◌, max, List, [], ◌++◌, Option, Some, None, IfSome, Result, Ok, Err, ℤ, refl, sym, ap, ◌∙◌, subst}
use Rattle.std.specs.Option.{option_map}
use Rattle.std.specs.Io.KnownBytes.{append_known, prepend_known}
use Rattle.std.proofs.KnownBytes.{prepend_known-nil}
use Rattle.std.proofs.lemmas.List.{append-nil, append_assoc}
use Rattle.lines.specs.Gathered.{Gathered, HasFront, Writes}
use Rattle.lines.specs.Lines.{Lines, Line, Bad, End, lines_of, lines_from, lines_in}
use Rattle.lines.proofs.Gather.{nothing_gathered, front_of_gathered, front_of_front}
use Rattle.mars_base.specs.declared.outside.SinkFault.{SinkFault}
use Rattle.mc_tree.specs.Instance.{Outcome, Gives, Breaks, instance_of}
use Rattle.mc_tree.specs.Tree.{Tree}
use Rattle.processor.specs.Ends.{cycles_in}
use Rattle.processor.specs.Results.{Ran}
use Rattle.task_run.specs.Closing.{Closed, Failed, Closes}
use Rattle.task_run.specs.Progress.{RunAnswers, RanInto}
use Rattle.task_run.specs.Text.{Ending, Finished, BadLine, Broken, task_text, text_from, ending_of, ending_from, ends_after, after, out_line, broken_line, task_line, first_state}
use Rattle.task_run.specs.declared.fault.RunFault.{RunFault}
use Rattle.task_run.specs.declared.fault.RunFault.TheVariants as fault

module _ (t : Tree) (maxt : ℕ) (run : List ℤ → List ℤ → Ran) where
  -- what was written, and what is still to be written for the lines that are left
  pub record Underway (base : Option (List ℕ)) (all : Lines) (line seen : ℕ) (state : List ℤ) (left : Lines) (out : Option (List ℕ)) (waiting : List ℕ) : Type 0 where
    pub written : List ℕ
    pub gathered : Gathered base written out waiting
    pub text : written ++ text_from t maxt run line seen state left ≡ task_text t maxt run all
    pub ends : ending_from t state left ≡ ending_of t all

  -- the same where the lines are told
  abbrev pub Going : Option (List ℕ) → Option Lines → (line seen : ℕ) → List ℤ → Option Lines → Option (List ℕ) → List ℕ → Type 0
  Going base None line seen state None out waiting = Unit {0}
  Going base None line seen state (Some left) out waiting = ⊥
  Going base (Some all) line seen state None out waiting = ⊥
  Going base (Some all) line seen state (Some left) out waiting = Underway base all line seen state left out waiting

  begun : (base : Option (List ℕ)) (all : Option Lines) → Going base all 0 0 (first_state t) all base []
  begun base None = tt
  begun base (Some all) = record { written = []; gathered = nothing_gathered base; text = refl; ends = refl }

  same_left : (width count : ℕ) (kept : List ℕ) (left : Option (List ℕ)) → kept ≡ [] → count ≡ 0
      → option_map (lines_of width) left ≡ option_map (λ bytes. lines_from (count + 1) width (lines_in bytes)) (prepend_known kept left)
  same_left width count kept left ek ec =
      sym (ap (λ (n : ℕ). option_map (λ bytes. lines_from (n + 1) width (lines_in bytes)) (prepend_known kept left)) ec
      ∙ ap (λ (k : List ℕ). option_map (λ bytes. lines_from (0 + 1) width (lines_in bytes)) (prepend_known k left)) ek
      ∙ ap (option_map (λ bytes. lines_from (0 + 1) width (lines_in bytes))) (prepend_known-nil left))

  -- at the first line
  pub going_first : (base : Option (List ℕ)) (width : ℕ) (left : Option (List ℕ)) (state : List ℤ) (count : ℕ) (kept waiting : List ℕ) → kept ≡ [] → count ≡ 0 → state ≡ first_state t → waiting ≡ []
      → Going base (option_map (lines_of width) left) 0 0 state (option_map (λ bytes. lines_from (count + 1) width (lines_in bytes)) (prepend_known kept left)) base waiting
  going_first base width left state count kept waiting ek ec es ew =
      let all = option_map (lines_of width) left in
      subst (λ (w : List ℕ). Going base all 0 0 state (option_map (λ bytes. lines_from (count + 1) width (lines_in bytes)) (prepend_known kept left)) base w) (sym ew)
      (subst (λ (s : List ℤ). Going base all 0 0 s (option_map (λ bytes. lines_from (count + 1) width (lines_in bytes)) (prepend_known kept left)) base []) (sym es)
      (subst (λ (o : Option Lines). Going base all 0 0 (first_state t) o base []) (same_left width count kept left ek ec) (begun base all)))

  -- what waited was sent
  pub going_sent : (base : Option (List ℕ)) (all left : Option Lines) (line seen : ℕ) (state : List ℤ) (out new : Option (List ℕ)) (waiting rest : List ℕ)
      → Writes {E = SinkFault} out waiting [] new rest (Ok tt) → Going base all line seen state left out waiting → Going base all line seen state left new rest
  going_sent base None None line seen state out new waiting rest sent g = tt
  going_sent base None (Some left) line seen state out new waiting rest sent g = absurd g
  going_sent base (Some all) None line seen state out new waiting rest sent g = absurd g
  going_sent base (Some all) (Some left) line seen state out new waiting rest sent g = record {
    written = g.written;
    gathered = subst (λ (w : List ℕ). Gathered base w new rest) (append-nil g.written) (sent base g.written g.gathered);
    text = g.text;
    ends = g.ends;
  }

  -- a front of the text is there, where nothing more was put
  pub into_kept : (base : Option (List ℕ)) (all left : Option Lines) (line seen : ℕ) (state : List ℤ) (out : Option (List ℕ)) (waiting : List ℕ)
      → Going base all line seen state left out waiting → RanInto t maxt run all base out
  into_kept base None left line seen state out waiting g = tt
  into_kept base (Some all) None line seen state out waiting g = absurd g
  into_kept base (Some all) (Some left) line seen state out waiting g = front_of_gathered base g.written (text_from t maxt run line seen state left) (task_text t maxt run all) out waiting (sym g.text) g.gathered

  -- and where a put of what waits failed
  pub into_unsent : (base : Option (List ℕ)) (all left : Option Lines) (line seen : ℕ) (state : List ℤ) (e : SinkFault) (out new : Option (List ℕ)) (waiting rest : List ℕ)
      → Writes out waiting [] new rest (Err e) → Going base all line seen state left out waiting → RanInto t maxt run all base new
  into_unsent base None left line seen state e out new waiting rest failed g = tt
  into_unsent base (Some all) None line seen state e out new waiting rest failed g = absurd g
  into_unsent base (Some all) (Some left) line seen state e out new waiting rest failed g =
      front_of_front base (g.written ++ []) (text_from t maxt run line seen state left) (task_text t maxt run all) new
      (sym g.text ∙ ap (λ (w : List ℕ). w ++ text_from t maxt run line seen state left) (sym (append-nil g.written))) (failed base g.written g.gathered)

  -- a run that closes with the rest of its text
  closed_whole : (base : Option (List ℕ)) (all : Lines) (left : Lines) (line seen : ℕ) (state : List ℤ) (out new : Option (List ℕ)) (waiting bytes : List ℕ) (result answer : Result (Unit {0}) RunFault)
      → text_from t maxt run line seen state left ≡ bytes → Underway base all line seen state left out waiting → Closed out waiting bytes new result answer → new ≡ append_known base (task_text t maxt run all)
  closed_whole base all left line seen state out new waiting bytes result answer is g closed =
      closed.whole base g.written g.gathered ∙ ap (append_known base) (ap (λ (b : List ℕ). g.written ++ b) (sym is) ∙ g.text)

  failed_front : (base : Option (List ℕ)) (all : Lines) (left : Lines) (line seen : ℕ) (state : List ℤ) (out new : Option (List ℕ)) (waiting bytes : List ℕ) (before now : ℕ) (result : Result (Unit {0}) RunFault)
      → text_from t maxt run line seen state left ≡ bytes → Underway base all line seen state left out waiting → Failed out waiting bytes new before now result → HasFront base (task_text t maxt run all) new
  failed_front base all left line seen state out new waiting bytes before now result is g failed =
      subst (λ (w : List ℕ). HasFront base w new) (ap (λ (b : List ℕ). g.written ++ b) (sym is) ∙ g.text) (failed.front base g.written g.gathered)

  -- what a close says of a told run
  told_close : (base : Option (List ℕ)) (all : Lines) (left : Lines) (line seen : ℕ) (state : List ℤ) (out new : Option (List ℕ)) (waiting bytes : List ℕ) (before now : ℕ) (result answer : Result (Unit {0}) RunFault) (ending : Ending)
      → (ending_of t all ≡ ending → new ≡ append_known base (task_text t maxt run all) → RunAnswers t maxt run (Some all) base new answer)
      → text_from t maxt run line seen state left ≡ bytes → ending_from t state left ≡ ending → Underway base all line seen state left out waiting
      → Closes out waiting bytes new before now result answer → RunAnswers t maxt run (Some all) base new result
  told_close base all left line seen state out new waiting bytes before now result answer ending says is ends g (inl closed) =
      subst (λ (r : Result (Unit {0}) RunFault). RunAnswers t maxt run (Some all) base new r) (sym closed.answered)
      (says (sym g.ends ∙ ends) (closed_whole base all left line seen state out new waiting bytes result answer is g closed))
  told_close base all left line seen state out new waiting bytes before now result answer ending says is ends g (inr failed) =
      subst (λ (r : Result (Unit {0}) RunFault). RunAnswers t maxt run (Some all) base new r) (sym failed.answered)
      (failed_front base all left line seen state out new waiting bytes before now result is g failed)

  untold : (base new : Option (List ℕ)) (result : Result (Unit {0}) RunFault) → RunAnswers t maxt run None base new result
  untold base new (Ok u) = tt
  untold base new (Err fault.Memory) = tt
  untold base new (Err fault.Read) = tt
  untold base new (Err fault.Write) = tt
  untold base new (Err (fault.BadLine n)) = tt
  untold base new (Err fault.Broken) = tt

  pub answers_finished : (base : Option (List ℕ)) (all left : Option Lines) (line seen : ℕ) (state : List ℤ) (out new : Option (List ℕ)) (waiting : List ℕ) (before now : ℕ) (result : Result (Unit {0}) RunFault)
      → Going base all line seen state left out waiting → IfSome left (λ lines. lines ≡ End) → Closes out waiting (task_line t.name maxt seen) new before now result (Ok tt) → RunAnswers t maxt run all base new result
  answers_finished base None left line seen state out new waiting before now result g end closes = untold base new result
  answers_finished base (Some all) None line seen state out new waiting before now result g end closes = absurd g
  answers_finished base (Some all) (Some left) line seen state out new waiting before now result g end closes =
      told_close base all left line seen state out new waiting (task_line t.name maxt seen) before now result (Ok tt) Finished (λ e w. (e, w))
      (ap (text_from t maxt run line seen state) end) (ap (ending_from t state) end) g closes

  pub answers_bad : (base : Option (List ℕ)) (all left : Option Lines) (line seen n : ℕ) (state : List ℤ) (out new : Option (List ℕ)) (waiting : List ℕ) (before now : ℕ) (result : Result (Unit {0}) RunFault)
      → Going base all line seen state left out waiting → IfSome left (λ lines. lines ≡ Bad n) → Closes out waiting [] new before now result (Err (fault.BadLine n)) → RunAnswers t maxt run all base new result
  answers_bad base None left line seen n state out new waiting before now result g bad closes = untold base new result
  answers_bad base (Some all) None line seen n state out new waiting before now result g bad closes = absurd g
  answers_bad base (Some all) (Some left) line seen n state out new waiting before now result g bad closes =
      told_close base all left line seen state out new waiting [] before now result (Err (fault.BadLine n)) (BadLine n) (λ e w. (e, w))
      (ap (text_from t maxt run line seen state) bad) (ap (ending_from t state) bad) g closes

  -- the text and the ending from a line on, by its instance
  line_text : (line seen : ℕ) (state ins : List ℤ) (rest : Lines) (o : Outcome) → instance_of t state ins ≡ o
      → text_from t maxt run line seen state (Line ins rest) ≡ after o (λ new outs. out_line outs ++ text_from t maxt run (line + 1) (max seen (cycles_in (run state ins))) new rest) (broken_line line t.name)
  line_text line seen state ins rest o e = ap (λ (x : Outcome). after x (λ new outs. out_line outs ++ text_from t maxt run (line + 1) (max seen (cycles_in (run state ins))) new rest) (broken_line line t.name)) e

  line_ends : (state ins : List ℤ) (rest : Lines) (o : Outcome) → instance_of t state ins ≡ o → ending_from t state (Line ins rest) ≡ ends_after o (λ new. ending_from t new rest)
  line_ends state ins rest o e = ap (λ (x : Outcome). ends_after x (λ new. ending_from t new rest)) e

  broken_told : (base : Option (List ℕ)) (all : Lines) (rest : Option Lines) (line seen : ℕ) (state ins : List ℤ) (out new : Option (List ℕ)) (waiting : List ℕ) (before now : ℕ) (result : Result (Unit {0}) RunFault)
      → Going base (Some all) line seen state (option_map (Line ins) rest) out waiting → instance_of t state ins ≡ Breaks
      → Closes out waiting (broken_line line t.name) new before now result (Err fault.Broken) → RunAnswers t maxt run (Some all) base new result
  broken_told base all None line seen state ins out new waiting before now result g breaks closes = absurd g
  broken_told base all (Some rest) line seen state ins out new waiting before now result g breaks closes =
      told_close base all (Line ins rest) line seen state out new waiting (broken_line line t.name) before now result (Err fault.Broken) Broken (λ e w. (e, w))
      (line_text line seen state ins rest Breaks breaks) (line_ends state ins rest Breaks breaks) g closes

  pub answers_broken : (base : Option (List ℕ)) (all left rest : Option Lines) (line seen : ℕ) (state ins : List ℤ) (out new : Option (List ℕ)) (waiting : List ℕ) (before now : ℕ) (result : Result (Unit {0}) RunFault)
      → Going base all line seen state left out waiting → left ≡ option_map (Line ins) rest → instance_of t state ins ≡ Breaks
      → Closes out waiting (broken_line line t.name) new before now result (Err fault.Broken) → RunAnswers t maxt run all base new result
  answers_broken base None left rest line seen state ins out new waiting before now result g is breaks closes = untold base new result
  answers_broken base (Some all) left rest line seen state ins out new waiting before now result g is breaks closes =
      broken_told base all rest line seen state ins out new waiting before now result (subst (λ (o : Option Lines). Going base (Some all) line seen state o out waiting) is g) breaks closes

  -- one line on
  step_told : (base : Option (List ℕ)) (all : Option Lines) (rest : Option Lines) (line seen cycles : ℕ) (state ins left outs : List ℤ) (out new : Option (List ℕ)) (waiting more : List ℕ)
      → Going base all line seen state (option_map (Line ins) rest) out waiting → instance_of t state ins ≡ Gives left outs → cycles ≡ cycles_in (run state ins)
      → Writes {E = SinkFault} out waiting (out_line outs) new more (Ok tt) → Going base all (line + 1) (max seen cycles) left rest new more
  step_told base None None line seen cycles state ins left outs out new waiting more g gives is written = tt
  step_told base None (Some rest) line seen cycles state ins left outs out new waiting more g gives is written = absurd g
  step_told base (Some all) None line seen cycles state ins left outs out new waiting more g gives is written = absurd g
  step_told base (Some all) (Some rest) line seen cycles state ins left outs out new waiting more g gives is written = record {
    written = g.written ++ out_line outs;
    gathered = written base g.written g.gathered;
    text = append_assoc g.written (out_line outs) (text_from t maxt run (line + 1) (max seen cycles) left rest)
        ∙ ap (λ (k : ℕ). g.written ++ (out_line outs ++ text_from t maxt run (line + 1) (max seen k) left rest)) is
        ∙ ap (λ (b : List ℕ). g.written ++ b) (sym (line_text line seen state ins rest (Gives left outs) gives)) ∙ g.text;
    ends = sym (line_ends state ins rest (Gives left outs) gives) ∙ g.ends;
  }

  pub going_on : (base : Option (List ℕ)) (all before rest : Option Lines) (line seen cycles : ℕ) (state ins left outs : List ℤ) (out new : Option (List ℕ)) (waiting more : List ℕ)
      → Going base all line seen state before out waiting → before ≡ option_map (Line ins) rest → instance_of t state ins ≡ Gives left outs → cycles ≡ cycles_in (run state ins)
      → Writes {E = SinkFault} out waiting (out_line outs) new more (Ok tt) → Going base all (line + 1) (max seen cycles) left rest new more
  going_on base all before rest line seen cycles state ins left outs out new waiting more g at gives is written =
      step_told base all rest line seen cycles state ins left outs out new waiting more (subst (λ (o : Option Lines). Going base all line seen state o out waiting) at g) gives is written

  into_told : (base : Option (List ℕ)) (all : Option Lines) (rest : Option Lines) (line seen : ℕ) (state ins left outs : List ℤ) (e : SinkFault) (out new : Option (List ℕ)) (waiting more : List ℕ)
      → Going base all line seen state (option_map (Line ins) rest) out waiting → instance_of t state ins ≡ Gives left outs
      → Writes out waiting (out_line outs) new more (Err e) → RanInto t maxt run all base new
  into_told base None rest line seen state ins left outs e out new waiting more g gives failed = tt
  into_told base (Some all) None line seen state ins left outs e out new waiting more g gives failed = absurd g
  into_told base (Some all) (Some rest) line seen state ins left outs e out new waiting more g gives failed =
      let later = text_from t maxt run (line + 1) (max seen (cycles_in (run state ins))) left rest in
      front_of_front base (g.written ++ out_line outs) later (task_text t maxt run all) new
      (sym g.text ∙ ap (λ (b : List ℕ). g.written ++ b) (line_text line seen state ins rest (Gives left outs) gives) ∙ sym (append_assoc g.written (out_line outs) later)) (failed base g.written g.gathered)

  -- a front of the text is there, where the line of an instance could not be written
  pub into_unwritten : (base : Option (List ℕ)) (all before rest : Option Lines) (line seen : ℕ) (state ins left outs : List ℤ) (e : SinkFault) (out new : Option (List ℕ)) (waiting more : List ℕ)
      → Going base all line seen state before out waiting → before ≡ option_map (Line ins) rest → instance_of t state ins ≡ Gives left outs
      → Writes out waiting (out_line outs) new more (Err e) → RanInto t maxt run all base new
  into_unwritten base all before rest line seen state ins left outs e out new waiting more g at gives failed =
      into_told base all rest line seen state ins left outs e out new waiting more (subst (λ (o : Option Lines). Going base all line seen state o out waiting) at g) gives failed

  -- nothing was put yet
  pub into_nothing : (base : Option (List ℕ)) (all : Option Lines) → RanInto t maxt run all base base
  into_nothing base all = into_kept base all all 0 0 (first_state t) base [] (begun base all)
