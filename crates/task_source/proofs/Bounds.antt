-- What bounding a task gives.
use Rattle.std.proofs.Common.{◌≡◌, ◌⊎◌, inl, ◌∙◌, refl, ap, sym, subst, ℕ, ◌<◌, ◌≤◌, ◌+◌, suc, ℤ, List, [], ◌∷◌, length, Result, Ok, Err, arith}
use Rattle.std.specs.List.{All}
use Rattle.maxt.specs.Answer as answer
use Rattle.maxt.specs.declared.answer.MaxtFault.{MaxtFault}
use Rattle.maxt.specs.declared.answer.MaxtFault.TheVariants as maxt
use Rattle.maxt.proofs.Limits.{enough}
use Rattle.mc_compile.proofs.Lengths.{code_length}
use Rattle.mc_compile.specs.Correct.{AreGiven}
use Rattle.mc_compile.specs.Follows.{Matches, Follows}
use Rattle.mc_compile.specs.Whole.{translate, code_len}
use Rattle.mc_compile.specs.Widths.{HasWidths}
use Rattle.mc_fold.specs.Folded.{folded_task}
use Rattle.mc_tree.specs.Checked.{words_in, HasWidth}
use Rattle.mc_tree.specs.CheckedTask.{IsCheckedTask}
use Rattle.mc_tree.specs.Instance.{is_in, is_out, is_state, width_of, instance_of}
use Rattle.mc_tree.specs.Plain.{plain_task}
use Rattle.mc_tree.specs.declared.tree.Cell.{Cell}
use Rattle.mc_tree.specs.declared.tree.Task.{Task}
use Rattle.refusals.specs.declared.fault.Fault.TheVariants as fault
use Rattle.refusals.specs.declared.refusal.Refusal.{Refusal}
use Rattle.refusals.specs.declared.refusal.Refusal.TheVariants as refusal
use Rattle.stages.proofs.Turns.{fails}
use Rattle.task_source.specs.Bound.{code_of, instructions_of, BoundGives, Bound, CodeTooLong, MaxtTooLong}
use Rattle.task_source.specs.Built.{IsBuilt}
use Rattle.word_code.specs.Cells as machine
use Rattle.word_code.specs.Execution.{exec}
use Rattle.word_code.specs.Free.{FreeRun, Greatest}
use Rattle.word_code.specs.declared.code.Code.{Code}

-- a bound, or want of memory
abbrev pub Gives : List ℕ → Task → Result ℕ Refusal → Type 0
Gives file t r = BoundGives file t r ⊎ (r ≡ Err refusal.Memory)

-- the instructions are as many as were counted beforehand
counted : (t folded : Task) → folded ≡ folded_task t → code_len (plain_task folded) ≡ instructions_of t
counted t folded is = ap (λ (u : Task). code_len (plain_task u)) is ∙ sym (code_length (plain_task (folded_task t)))

short : (t folded : Task) → folded ≡ folded_task t → code_len (plain_task folded) ≤ 65535 → instructions_of t ≤ 65535
short t folded is le = subst (λ (n : ℕ). n ≤ 65535) (counted t folded is) le

pub give_long : (file name : List ℕ) (t folded : Task) (x n : ℕ) → name ≡ file → x ≡ n → folded ≡ folded_task t → (n ≡ code_len (plain_task folded)) × (65535 < n) → Gives file t (Err (refusal.Fault (fault.CodeTooLong name x)))
give_long file name t folded x n same is folds long =
    let all : n ≡ instructions_of t = long.0 ∙ counted t folded folds in
    inl (CodeTooLong (ap (λ m. fails ℕ (refusal.Fault (fault.CodeTooLong m x))) same ∙ ap (λ y. fails ℕ (refusal.Fault (fault.CodeTooLong file y))) (is ∙ all)) (subst (λ (m : ℕ). 65535 < m) all long.1))

pub give_bound : (file : List ℕ) (t folded : Task) (m : ℕ) → folded ≡ folded_task t → code_len (plain_task folded) ≤ 65535 → answer.Answers (translate (plain_task folded)) (Ok m) → Gives file t (Ok m)
give_bound file t folded m is le answers = inl (Bound m refl (short t folded is le) (subst (λ (u : Task). Greatest (translate (plain_task u)) m) is answers.0) answers.1)

pub give_far : (file name : List ℕ) (t folded : Task) (f : MaxtFault) → name ≡ file → f ≡ maxt.TooLong → folded ≡ folded_task t → code_len (plain_task folded) ≤ 65535 → answer.Fault (translate (plain_task folded)) f
    → Gives file t (Err (refusal.Fault (fault.MaxtTooLong name)))
give_far file name t folded f same is folds le broken =
    let far : answer.Fault (translate (plain_task folded)) maxt.TooLong = subst (answer.Fault (translate (plain_task folded))) is broken in
    inl (MaxtTooLong far.0 (ap (λ m. fails ℕ (refusal.Fault (fault.MaxtTooLong m))) same) (short t folded folds le) (subst (λ (u : Task). FreeRun (translate (plain_task u)) far.0) folds far.1) far.2)

-- each cell has a word
few_cells : (cells : List Cell) → All HasWidth cells → length cells ≤ words_in cells
few_cells [] widths = omega arith
few_cells (c ∷ cells) widths =
    let w : 1 ≤ c.width = (widths 0 c (omega arith)).0 in
    let h = few_cells cells (λ k d lt. widths (suc k) d (omega (arith, lt))) in
    omega (arith, h, w)

pub is_built : (t folded : Task) (code : Code) (m : ℕ) → folded ≡ folded_task t → IsCheckedTask t → IsCheckedTask folded → ((state ins : List ℤ) → instance_of (plain_task folded) state ins ≡ instance_of (plain_task t) state ins)
    → code ≡ translate (plain_task folded) → HasWidths (plain_task folded) code → code_len (plain_task folded) ≤ 65535 → answer.Answers (translate (plain_task folded)) (Ok m) → IsBuilt (record { task = t; code = code; maxt = m })
is_built t folded code m is checked sound same coded widths le answers = record {
  is_code = coded ∙ ap (λ (u : Task). translate (plain_task u)) is;
  follows = follows;
  small = (let h : m ≤ 2147483647 = answers.1 in omega (arith, h));
  cells = (let h = few_cells t.cells checked.tree.widths in let w = checked.tree.words in omega (arith, h, w));
  few = (let h : width_of is_in t.cells + width_of is_out t.cells ≤ 256 = subst (λ (cells : List Cell). width_of is_in cells + width_of is_out cells ≤ 256) cells_same widths.few in omega (arith, h));
  in_words = widths.ins ∙ ap (width_of is_in) cells_same;
  out_words = widths.outs ∙ ap (width_of is_out) cells_same;
  state_words = widths.states ∙ ap (width_of is_state) cells_same;
}
  where
    cells_same : folded.cells ≡ t.cells
    cells_same = ap (λ (u : Task). u.cells) is

    under : Follows (plain_task folded) (translate (plain_task folded)) m
    under = enough (plain_task folded) sound.tree le m answers.0

    given_too : (state ins : List ℤ) → AreGiven (plain_task t) state ins → AreGiven (plain_task folded) state ins
    given_too state ins given = record {
      state_len = given.state_len ∙ ap (width_of is_state) (sym cells_same);
      ins_len = given.ins_len ∙ ap (width_of is_in) (sym cells_same);
      state_words = given.state_words;
      ins_words = given.ins_words;
    }

    follows : Follows (plain_task t) code m
    follows state ins given =
        subst (λ o. Matches o (exec code m state ins) m) (same state ins)
        (subst (λ (k : Code). Matches (instance_of (plain_task folded) state ins) (exec k m state ins) m) (sym coded) (under state ins (given_too state ins given)))
