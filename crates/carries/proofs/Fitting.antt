-- The words of ports, of states and of executions fit a task.
use Rattle.std.proofs.Common.{◌≡◌, ◌+◌, ◌<◌, ◌≤◌, ℕ, zero, suc, ℤ, Bool, true, false, cond, List, [], ◌∷◌, length, map, None, Some, refl, sym, ap, ◌∙◌, subst, arith}
use Rattle.std.specs.Prelude.{filter, sum, if◌then◌else◌, All, slice_get, slice_index}
use Rattle.std.proofs.lemmas.List.Sums.{sum_by-cons}
use Rattle.mars_base.specs.declared.word.Role.{Role}
use Rattle.maxt.proofs.Limits.{enough}
use Rattle.mc_compile.proofs.Instances.{keeps_words}
use Rattle.mc_compile.proofs.Lengths.{code_length}
use Rattle.mc_compile.proofs.TypedTask.{typed_task}
use Rattle.mc_compile.specs.Correct.{AreGiven, AreLeft}
use Rattle.mc_compile.specs.Follows.{Matches, Follows}
use Rattle.mc_compile.specs.Whole.{code_len}
use Rattle.mc_fold.proofs.Meaning.{instance_folded}
use Rattle.mc_fold.proofs.Plainly.{plain_folded_task}
use Rattle.mc_fold.proofs.Within.{task_folded}
use Rattle.mc_fold.specs.Folded.{folded_task}
use Rattle.mc_tree.specs.CheckedTask.{IsCheckedTask}
use Rattle.mc_tree.specs.Instance.{Outcome, Gives, Breaks, is_in, is_out, is_state, width_of, instance_of}
use Rattle.mc_tree.specs.Plain.{plain_task}
use Rattle.mc_tree.specs.declared.tree.Cell.{Cell}
use Rattle.mc_tree.specs.declared.tree.Task.{Task}
use Rattle.net_run.specs.Alike.{HasWords}
use Rattle.processor.specs.Ends.{Halted, Broken, Over, Cut, end_under}
use Rattle.processor.specs.Results.{Results, Ran}
use Rattle.project_source.specs.Project.{widths_of}
use Rattle.project_source.specs.Run.{end_of}
use Rattle.task_source.specs.Bound.{code_of, instructions_of, IsBound}
use Rattle.word_code.specs.Execution.{exec}
use Rattle.word_code.specs.Typing.{IsVerified}

-- the words of a role's ports are those of its cells
pub ports_words : (p : Role → Bool) (cells : List Cell) → sum (map (λ (c : Cell). c.width) (filter (λ (c : Cell). p c.role) cells)) ≡ width_of p cells
ports_words p [] = refl
ports_words p (c ∷ cells) = go (p c.role) (ports_words p cells)
  where
    rest : List Cell
    rest = filter (λ (d : Cell). p d.role) cells

    go : (b : Bool) → sum (map (λ (d : Cell). d.width) rest) ≡ width_of p cells
        → sum (map (λ (d : Cell). d.width) (cond b (c ∷ rest) rest)) ≡ (if b then c.width else 0) + width_of p cells
    go true h = sum_by-cons (λ (n : ℕ). n) c.width (map (λ (d : Cell). d.width) rest) ∙ ap (λ n. c.width + n) h
    go false h = omega (arith, h)

-- an execution that matches an instance ends as it does
pub same_end : (o : Outcome) (r : Ran) (bound : ℕ) → Matches o r bound → end_under r ≡ end_of o
same_end (Gives state outs) (Over (Halted (left, given)) cycles) bound m = let e = m.0 in let f = m.1 in cc
same_end (Gives state outs) (Over Broken cycles) bound m = absurd m
same_end (Gives state outs) (Cut cycles) bound m = absurd m
same_end Breaks (Over (Halted (left, given)) cycles) bound m = absurd m
same_end Breaks (Over Broken cycles) bound m = refl
same_end Breaks (Cut cycles) bound m = refl

-- a short code
short : (t : Task) → instructions_of t ≤ 65535 → code_len (plain_task (folded_task t)) ≤ 65535
short t le = subst (λ (n : ℕ). n ≤ 65535) (code_length (plain_task (folded_task t))) le

-- the code of a checked task meets the typing rules
pub code_typed : (t : Task) → IsCheckedTask t → instructions_of t ≤ 65535 → IsVerified (code_of t)
code_typed t checked le = typed_task (plain_task (folded_task t)) (task_folded t checked).tree (short t le)

-- under its bound it does what the task does
pub code_follows : (t : Task) (maxt : ℕ) → IsCheckedTask t → instructions_of t ≤ 65535 → IsBound t maxt → Follows (plain_task t) (code_of t) maxt
code_follows t maxt checked le bound state ins given =
    subst (λ o. Matches o (exec (code_of t) maxt state ins) maxt) same
    (enough (plain_task (folded_task t)) (task_folded t checked).tree (short t le) maxt bound state ins (record { state_len = given.state_len; ins_len = given.ins_len; state_words = given.state_words; ins_words = given.ins_words }))
  where
    same : instance_of (plain_task (folded_task t)) state ins ≡ instance_of (plain_task t) state ins
    same = ap (λ x. instance_of x state ins) (plain_folded_task t) ∙ instance_folded (plain_task t) state ins

-- words that fit the task's state and its in ports are given to it
pub are_given : (t : Task) (state ins : List ℤ) → HasWords (width_of is_state t.cells) state → HasWords (sum (widths_of is_in t)) ins → AreGiven (plain_task t) state ins
are_given t state ins one two = record {
  state_len = one.count_is;
  ins_len = two.count_is ∙ ports_words is_in t.cells;
  state_words = one.are_words;
  ins_words = two.are_words;
}

-- and those that an instance gives fit its state and its out ports
pub are_left : (t : Task) (state ins left outs : List ℤ) → IsCheckedTask t → AreGiven (plain_task t) state ins → instance_of (plain_task t) state ins ≡ Gives left outs → HasWords (width_of is_state t.cells) left × HasWords (sum (widths_of is_out t)) outs
are_left t state ins left outs checked given gives =
    let h = keeps_words (plain_task t) checked.tree state ins left outs given gives in
    (record { count_is = h.left_len; are_words = h.left_words }, record { count_is = h.outs_len ∙ sym (ports_words is_out t.cells); are_words = h.outs_words })
