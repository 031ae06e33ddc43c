-- A run over lines that comes to its end.
use Rattle.std.proofs.Common.{◌≡◌, inl, inr, ℕ, List, [], ◌++◌, Option, Some, None, IfSome, Result, Ok, Err, ℤ, refl, sym, ap, ◌∙◌, subst}
use Rattle.std.specs.Option.{option_map}
use Rattle.std.specs.Io.KnownBytes.{append_known}
use Rattle.std.proofs.lemmas.List.{append-nil, append_assoc}
use Rattle.lines.specs.Gathered.{Gathered, HasFront}
use Rattle.lines.specs.Lines.{Lines, Line, Bad, End}
use Rattle.mars_base.specs.declared.outside.SinkFault.{SinkFault}
use Rattle.run_texts.specs.RunText.{RunEnding, Finished, BadLine, Lost, Broken}
use Rattle.cycle_runs.specs.Closing.{WritesFor, Closed, Failed, Closes}
use Rattle.cycle_runs.specs.Cycling.{Cycling, by_end, text_from, ending_from, state_from}
use Rattle.cycle_runs.specs.Progress.{RunAnswers, RunLeaves}
use Rattle.cycle_runs.specs.declared.ended.CycleEnd.{CycleEnd}
use Rattle.cycle_runs.specs.declared.fault.RunFault.{RunFault}
use Rattle.cycle_runs.specs.declared.fault.RunFault.TheVariants as fault
use Rattle.cycle_runs.proofs.Steps.{Going}

-- the answer of a run that ends so
abbrev pub answer_for : RunEnding → Result (Unit {0}) RunFault
answer_for Finished = Ok tt
answer_for (BadLine n) = Err (fault.BadLine n)
answer_for Lost = Err fault.Lost
answer_for Broken = Err fault.Broken

module _ {S : Type 0} (c : Cycling S) (first : S) where
  -- what was written, the bytes with which the run ends, how it ends and the state that it leaves
  pub record Ending (base : Option (List ℕ)) (all : Lines) (bytes : List ℕ) (ending : RunEnding) (last : S) (out : Option (List ℕ)) (waiting : List ℕ) : Type 0 where
    pub written : List ℕ
    pub gathered : Gathered base written out waiting
    pub text : written ++ bytes ≡ text_from c first all
    pub ends : ending_from c first all ≡ ending
    pub leaves : last ≡ state_from c first all

  -- the same where the lines are told
  abbrev pub EndsAt : Option (List ℕ) → Option Lines → List ℕ → RunEnding → S → Option (List ℕ) → List ℕ → Type 0
  EndsAt base all bytes ending last out waiting = IfSome all (λ told. Ending base told bytes ending last out waiting)

  -- at the end of the lines
  pub ends_finished : (base : Option (List ℕ)) (all left : Option Lines) (now : S) (out : Option (List ℕ)) (waiting : List ℕ)
      → Going c first base all now left out waiting → IfSome left (λ lines. lines ≡ End) → EndsAt base all (c.closing now) Finished now out waiting
  ends_finished base None left now out waiting g end = tt
  ends_finished base (Some all) None now out waiting g end = absurd g
  ends_finished base (Some all) (Some left) now out waiting g end = record {
    written = g.written;
    gathered = g.gathered;
    text = ap (λ (ls : Lines). g.written ++ text_from c now ls) (sym end) ∙ g.text;
    ends = sym g.ends ∙ ap (ending_from c now) end;
    leaves = ap (state_from c now) (sym end) ∙ g.leaves;
  }

  -- at a bad line
  pub ends_bad : (base : Option (List ℕ)) (all left : Option Lines) (now : S) (n : ℕ) (out : Option (List ℕ)) (waiting : List ℕ)
      → Going c first base all now left out waiting → IfSome left (λ lines. lines ≡ Bad n) → EndsAt base all [] (BadLine n) now out waiting
  ends_bad base None left now n out waiting g bad = tt
  ends_bad base (Some all) None now n out waiting g bad = absurd g
  ends_bad base (Some all) (Some left) now n out waiting g bad = record {
    written = g.written;
    gathered = g.gathered;
    text = ap (λ (ls : Lines). g.written ++ text_from c now ls) (sym bad) ∙ g.text;
    ends = sym g.ends ∙ ap (ending_from c now) bad;
    leaves = ap (state_from c now) (sym bad) ∙ g.leaves;
  }

  -- how a run ends with a cycle that isn't clean
  abbrev pub IsEndedBy : CycleEnd → RunEnding → Type 0
  IsEndedBy end ending = (text : List ℕ) (ends : RunEnding) (one other : S) → (by_end end text [] [] ≡ []) × (by_end end ends Broken Lost ≡ ending) × (by_end end one other other ≡ other)

  ended_told : (base : Option (List ℕ)) (all : Lines) (rest : Option Lines) (now next : S) (ins : List ℤ) (end given : CycleEnd) (ending : RunEnding) (out new : Option (List ℕ)) (waiting more : List ℕ)
      → Going c first base (Some all) now (option_map (Line ins) rest) out waiting → c.ended now ins ≡ end → IsEndedBy end ending → next ≡ c.next now ins
      → WritesFor {E = SinkFault} out waiting (c.text now ins) new more (Ok given) → Ending base all [] ending next new more
  ended_told base all None now next ins end given ending out new waiting more g is by last written = absurd g
  ended_told base all (Some rest) now next ins end given ending out new waiting more g is by last written =
      let text = text_from c (c.next now ins) rest in
      let ends = ending_from c (c.next now ins) rest in
      let one = state_from c (c.next now ins) rest in
      let other = c.next now ins in
      let says = by text ends one other in
      record {
        written = g.written ++ c.text now ins;
        gathered = written base g.written g.gathered;
        text = append_assoc g.written (c.text now ins) []
            ∙ ap (λ (w : List ℕ). g.written ++ (c.text now ins ++ w)) (sym (ap (λ (e : CycleEnd). by_end e text [] []) is ∙ says.0)) ∙ g.text;
        ends = sym g.ends ∙ ap (λ (e : CycleEnd). by_end e ends Broken Lost) is ∙ says.1;
        leaves = last ∙ sym (ap (λ (e : CycleEnd). by_end e one other other) is ∙ says.2) ∙ g.leaves;
      }

  -- at a cycle that isn't clean
  pub ends_ended : (base : Option (List ℕ)) (all before rest : Option Lines) (now next : S) (ins : List ℤ) (end given : CycleEnd) (ending : RunEnding) (out new : Option (List ℕ)) (waiting more : List ℕ)
      → Going c first base all now before out waiting → before ≡ option_map (Line ins) rest → c.ended now ins ≡ end → IsEndedBy end ending → next ≡ c.next now ins
      → WritesFor {E = SinkFault} out waiting (c.text now ins) new more (Ok given) → EndsAt base all [] ending next new more
  ends_ended base None before rest now next ins end given ending out new waiting more g at is by last written = tt
  ends_ended base (Some all) before rest now next ins end given ending out new waiting more g at is by last written =
      ended_told base all rest now next ins end given ending out new waiting more (subst (λ (o : Option Lines). Going c first base (Some all) now o out waiting) at g) is by last written

  untold_answers : (base new : Option (List ℕ)) (result : Result (Unit {0}) RunFault) → RunAnswers c first None base new result
  untold_answers base new (Ok u) = tt
  untold_answers base new (Err fault.Memory) = tt
  untold_answers base new (Err fault.Read) = tt
  untold_answers base new (Err fault.Write) = tt
  untold_answers base new (Err (fault.BadLine n)) = tt
  untold_answers base new (Err fault.Broken) = tt
  untold_answers base new (Err fault.Lost) = tt

  untold_leaves : (last : S) (result : Result (Unit {0}) RunFault) → RunLeaves c first None last result
  untold_leaves last (Ok u) = tt
  untold_leaves last (Err fault.Memory) = tt
  untold_leaves last (Err fault.Read) = tt
  untold_leaves last (Err fault.Write) = tt
  untold_leaves last (Err (fault.BadLine n)) = tt
  untold_leaves last (Err fault.Broken) = tt
  untold_leaves last (Err fault.Lost) = tt

  -- the answer for an ending says that the run ended so
  answers_for : (base new : Option (List ℕ)) (all : Lines) (ending : RunEnding) → ending_from c first all ≡ ending → new ≡ append_known base (text_from c first all)
      → RunAnswers c first (Some all) base new (answer_for ending)
  answers_for base new all Finished ends whole = (ends, whole)
  answers_for base new all (BadLine n) ends whole = (ends, whole)
  answers_for base new all Lost ends whole = (ends, whole)
  answers_for base new all Broken ends whole = (ends, whole)

  leaves_for : (all : Lines) (last : S) (ending : RunEnding) → last ≡ state_from c first all → RunLeaves c first (Some all) last (answer_for ending)
  leaves_for all last Finished leaves = leaves
  leaves_for all last (BadLine n) leaves = leaves
  leaves_for all last Lost leaves = leaves
  leaves_for all last Broken leaves = leaves

  -- what a close says of the text
  pub run_answers : (base : Option (List ℕ)) (all : Option Lines) (bytes : List ℕ) (ending : RunEnding) (last : S) (out new : Option (List ℕ)) (waiting : List ℕ) (before now : ℕ) (result : Result (Unit {0}) RunFault)
      → EndsAt base all bytes ending last out waiting → Closes out waiting bytes new before now result (answer_for ending) → RunAnswers c first all base new result
  run_answers base None bytes ending last out new waiting before now result e closes = untold_answers base new result
  run_answers base (Some all) bytes ending last out new waiting before now result e (inl closed) =
      subst (λ (r : Result (Unit {0}) RunFault). RunAnswers c first (Some all) base new r) (sym closed.answered)
      (answers_for base new all ending e.ends (closed.whole base e.written e.gathered ∙ ap (append_known base) e.text))
  run_answers base (Some all) bytes ending last out new waiting before now result e (inr failed) =
      subst (λ (r : Result (Unit {0}) RunFault). RunAnswers c first (Some all) base new r) (sym failed.answered)
      (subst (λ (w : List ℕ). HasFront base w new) e.text (failed.front base e.written e.gathered))

  -- and what it says of the state
  pub run_leaves : (base : Option (List ℕ)) (all : Option Lines) (bytes : List ℕ) (ending : RunEnding) (last : S) (out new : Option (List ℕ)) (waiting : List ℕ) (before now : ℕ) (result : Result (Unit {0}) RunFault)
      → EndsAt base all bytes ending last out waiting → Closes out waiting bytes new before now result (answer_for ending) → RunLeaves c first all last result
  run_leaves base None bytes ending last out new waiting before now result e closes = untold_leaves last result
  run_leaves base (Some all) bytes ending last out new waiting before now result e (inl closed) =
      subst (λ (r : Result (Unit {0}) RunFault). RunLeaves c first (Some all) last r) (sym closed.answered) (leaves_for all last ending e.leaves)
  run_leaves base (Some all) bytes ending last out new waiting before now result e (inr failed) =
      subst (λ (r : Result (Unit {0}) RunFault). RunLeaves c first (Some all) last r) (sym failed.answered) tt
