-- The text of a run is the answers that its source means and the last line.
use Rattle.std.proofs.Common.{◌≡◌, ◌⊎◌, inl, inr, ℕ, ◌+◌, max, List, ◌++◌, Option, Some, Result, Ok, Err, ℤ, refl, sym, ap, ◌∙◌, subst, arith}
use Rattle.std.specs.Io.KnownBytes.{append_known}
use Rattle.std.proofs.lemmas.List.{append_assoc, append-nil}
use Rattle.lines.specs.Lines.{Lines, End, Bad, Line, lines_of}
use Rattle.mars_base.specs.declared.file.File.{File}
use Rattle.mc_tree.specs.Instance.{Outcome, Gives, Breaks, is_in, width_of, instance_of}
use Rattle.mc_tree.specs.Plain.{plain_task}
use Rattle.mc_tree.specs.Tree.{Tree}
use Rattle.processor.specs.Ends.{cycles_in}
use Rattle.processor.specs.Results.{Ran}
use Rattle.refusals.specs.Causes.{Counts, Caused}
use Rattle.refusals.specs.Status.{status_of, status_of_result}
use Rattle.refusals.specs.declared.refusal.Refusal.{Refusal}
use Rattle.refusals.specs.declared.refusal.Refusal.TheVariants as refusal
use Rattle.stages.specs.Files.{FileIs}
use Rattle.stages.specs.Stage.{Does}
use Rattle.stages.specs.World.{Held}
use Rattle.task_command.specs.Running.{running, answer_of, execution, input_lines}
use Rattle.task_command.specs.Task.{tasking}
use Rattle.task_command.specs.TaskRan.{IsRunStatus, TaskRan, last_line, seen_after, seen_from}
use Rattle.task_run.specs.Progress.{RanTo}
use Rattle.task_run.specs.Text.{Ending, after, answers_from, broken_line, ending_from, ends_after, first_state, out_line, task_text, text_from}
use Rattle.task_source.specs.Bound.{code_of}
use Rattle.task_source.specs.Built.{Built, built}
use Rattle.task_source.proofs.BuiltFacts.{refuses_built, was_built}

-- what follows an instance, split where the text is
split_after : (name : List ℕ) (maxt seen : ℕ) (o : Outcome) (text answers : List ℤ → List ℕ) (most : List ℤ → ℕ) (ends : List ℤ → Ending) (broken : List ℕ)
    → ((new : List ℤ) → text new ≡ answers new ++ last_line name maxt (most new) (ends new))
    → after o (λ new outs. out_line outs ++ text new) broken ≡ after o (λ new outs. out_line outs ++ answers new) broken ++ last_line name maxt (seen_after o most seen) (ends_after o ends)
split_after name maxt seen (Gives new outs) text answers most ends broken same =
    ap (λ (t : List ℕ). out_line outs ++ t) (same new) ∙ sym (append_assoc (out_line outs) (answers new) (last_line name maxt (most new) (ends new)))
split_after name maxt seen Breaks text answers most ends broken same = sym (append-nil broken)

text_split : (t : Tree) (maxt : ℕ) (run : List ℤ → List ℤ → Ran) (line seen : ℕ) (state : List ℤ) (lines : Lines)
    → text_from t maxt run line seen state lines ≡ answers_from t line state lines ++ last_line t.name maxt (seen_from t run seen state lines) (ending_from t state lines)
text_split t maxt run line seen state End = refl
text_split t maxt run line seen state (Bad n) = refl
text_split t maxt run line seen state (Line ins rest) =
    split_after t.name maxt seen (instance_of t state ins) (λ new. text_from t maxt run (line + 1) (max seen (cycles_in (run state ins))) new rest) (λ new. answers_from t (line + 1) new rest)
    (λ new. seen_from t run (max seen (cycles_in (run state ins))) new rest) (λ new. ending_from t new rest) (broken_line line t.name)
    (λ new. text_split t maxt run (line + 1) (max seen (cycles_in (run state ins))) new rest)

-- refusals that no run to an end answers
abbrev NoEnd : Refusal → Type 0
NoEnd e = IsRunStatus (status_of e) → ⊥

none_of : (status : ℕ) → (status ≡ 0 → ⊥) → (status ≡ 8 → ⊥) → (status ≡ 11 → ⊥) → IsRunStatus status → ⊥
none_of status done bad broken (inl is) = done is
none_of status done bad broken (inr (inl is)) = bad is
none_of status done bad broken (inr (inr is)) = broken is

caused_no_end : (c d : Counts) (e : Refusal) → Caused c d e → NoEnd e
caused_no_end c d refusal.Memory caused = none_of 1 (λ e. omega (arith, e)) (λ e. omega (arith, e)) (λ e. omega (arith, e))
caused_no_end c d (refusal.ReadFault name) caused = none_of 6 (λ e. omega (arith, e)) (λ e. omega (arith, e)) (λ e. omega (arith, e))
caused_no_end c d (refusal.WriteFault name) caused = none_of 7 (λ e. omega (arith, e)) (λ e. omega (arith, e)) (λ e. omega (arith, e))
caused_no_end c d (refusal.TooLong name) caused = none_of 13 (λ e. omega (arith, e)) (λ e. omega (arith, e)) (λ e. omega (arith, e))
caused_no_end c d other caused = absurd caused

never_built : (file : List ℕ) (b n : Held) (e : Refusal) → (built file).meant b n (Err e) → NoEnd e
never_built file b n e meant =
    refuses_built NoEnd file (none_of 6 (λ e. omega (arith, e)) (λ e. omega (arith, e)) (λ e. omega (arith, e))) (none_of 13 (λ e. omega (arith, e)) (λ e. omega (arith, e)) (λ e. omega (arith, e)))
    (λ f. none_of 3 (λ e. omega (arith, e)) (λ e. omega (arith, e)) (λ e. omega (arith, e))) b n (Err e) e meant refl

-- what was run to an end did what its source means
ran_meant : (file : List ℕ) (b n : Held) (it : Built) (m : Held) (r : Result (Unit {0}) Refusal) (files : List File) (input : List ℕ) → b.files ≡ Some files → b.left ≡ Some input
    → (built file).meant b m (Ok it) → (running (plain_task it.task) (code_of it.task) it.maxt).meant m n r → TaskRan file files input b.out n.out (status_of_result r)
ran_meant file b n it m r files input told left building run =
    let t = plain_task it.task in
    let was = was_built file b m it building in
    let lines = lines_of (width_of is_in t.cells) input in
    let same : m.left ≡ Some input = ap (λ (h : Held). h.left) was.stays ∙ left in
    let to = subst (λ (l : Option (List ℕ)). RanTo t it.maxt (execution (code_of it.task) it.maxt) (input_lines t l) run.0 m.out n.out) same run.2 in
    record {
      bytes = was.bytes;
      task = it.task;
      maxt = it.maxt;
      is_file = subst (λ (f : Option (List File)). FileIs f file was.bytes) told was.file_is;
      is_source = was.source_is;
      is_bound = was.bound;
      ended = ap status_of_result (run.1 ∙ ap answer_of (sym to.0));
      text = to.1 ∙ ap (λ (h : Held). append_known h.out (task_text t it.maxt (execution (code_of it.task) it.maxt) lines)) was.stays
          ∙ ap (append_known b.out) (text_split t it.maxt (execution (code_of it.task) it.maxt) 0 0 (first_state t) lines);
    }

pub ran_of : (file : List ℕ) (b n : Held) (c d : Counts) (r : Result (Unit {0}) Refusal) → Does (tasking file) b n c d r → IsRunStatus (status_of_result r)
    → (files : List File) (input : List ℕ) → b.files ≡ Some files → b.left ≡ Some input → TaskRan file files input b.out n.out (status_of_result r)
ran_of file b n c d r does ends files input told left = by does.how
  where
    by : (tasking file).meant b n r ⊎ ((e : Refusal) × (r ≡ Err e) × (tasking file).cut b n e × Caused c d e) → TaskRan file files input b.out n.out (status_of_result r)
    by (inl (inl stop)) = absurd (never_built file b n stop.0 stop.1 (subst IsRunStatus (ap status_of_result stop.2) ends))
    by (inl (inr go)) = ran_meant file b n go.0 go.1 r files input told left go.2 go.3
    by (inr cut) = absurd (caused_no_end c d cut.0 cut.3 (subst IsRunStatus (ap status_of_result cut.1) ends))
