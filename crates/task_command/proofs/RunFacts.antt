-- What holds of every run of a task over the lines of the input.
use Rattle.std.proofs.Common.{◌≡◌, ℕ, List, Option, Some, None, Result, Err, sym, ap, ◌∙◌, subst}
use Rattle.std.specs.Io.KnownBytes.{append_known}
use Rattle.lines.specs.Lines.{lines_of}
use Rattle.mars_base.specs.declared.file.File.{File}
use Rattle.mc_tree.specs.Instance.{is_in, width_of}
use Rattle.mc_tree.specs.Tree.{Tree}
use Rattle.refusals.specs.declared.refusal.Refusal.{Refusal}
use Rattle.refusals.specs.declared.refusal.Refusal.TheVariants as refusal
use Rattle.stages.specs.Exact.{FilesAlike, LeftAlike, SameEnd}
use Rattle.stages.proofs.FrontFacts.{appended_both}
use Rattle.stages.proofs.Relations.{Within, Refuses, KeepsFiles, OnceTo, Grows, CutsFront, Lasts}
use Rattle.stages.proofs.WithinFacts.{refuses_none, refuses_one}
use Rattle.task_command.specs.Running.{running, answer_of, input_lines, execution}
use Rattle.task_run.specs.Progress.{RanTo, RanInto}
use Rattle.word_code.specs.declared.code.Code.{Code}
use Rattle.task_run.specs.Text.{Ending, Finished, BadLine, Broken, ending_of, task_text}

pub files_running : (t : Tree) (code : Code) (maxt : ℕ) → Within KeepsFiles (running t code maxt)
files_running t code maxt = record { by_meant = λ b n r m. m.3; by_cut = λ b n e m. m.1 }

-- a run refuses a bad line and a broken instance
refuses_ending : (P : Refusal → Type 0) (ending : Ending) (r : Result (Unit {0}) Refusal) (e : Refusal) → ((n : ℕ) → P (refusal.BadInput n)) → P refusal.Broken → r ≡ answer_of ending → r ≡ Err e → P e
refuses_ending P Finished r e bad broken ends is = refuses_none P tt r e ends is
refuses_ending P (BadLine n) r e bad broken ends is = refuses_one P (refusal.BadInput n) r e (bad n) ends is
refuses_ending P Broken r e bad broken ends is = refuses_one P refusal.Broken r e broken ends is

pub refuses_running : (P : Refusal → Type 0) (t : Tree) (code : Code) (maxt : ℕ) → ((n : ℕ) → P (refusal.BadInput n)) → P refusal.Broken → Refuses P (running t code maxt)
refuses_running P t code maxt bad broken b n r e meant is = refuses_ending P meant.0 r e bad broken meant.1 is

-- a run means one answer and one text
ran_once : (t : Tree) (code : Code) (maxt : ℕ) (l k : Option (List ℕ)) (e f : Ending) (out o p : Option (List ℕ)) → LeftAlike l k → RanTo t maxt (execution code maxt) (input_lines t l) e out o → RanTo t maxt (execution code maxt) (input_lines t k) f out p → (e ≡ f) × (o ≡ p)
ran_once t code maxt None k e f out o p alike left right = absurd alike
ran_once t code maxt (Some l) None e f out o p alike left right = absurd alike
ran_once t code maxt (Some l) (Some k) e f out o p alike left right =
    (sym left.0 ∙ (ap (λ x. ending_of t (lines_of (width_of is_in t.cells) x)) alike ∙ right.0), left.1 ∙ (ap (λ x. append_known out (task_text t maxt (execution code maxt) (lines_of (width_of is_in t.cells) x))) alike ∙ sym right.1))

once_running : (t : Tree) (code : Code) (maxt : ℕ) → OnceTo SameEnd (running t code maxt)
once_running t code maxt b c n m r s alike left right =
    let out = alike.ends_alike.out_same in
    let both = ran_once t code maxt b.left c.left left.0 right.0 c.out n.out m.out alike.left_alike (subst (λ (o : Option (List ℕ)). RanTo t maxt (execution code maxt) (input_lines t b.left) left.0 o n.out) out left.2) right.2 in (
      left.1 ∙ (ap answer_of both.0 ∙ sym right.1),
      record {
        files_alike = subst (λ (f : Option (List File)). FilesAlike f m.files) (sym left.3) (subst (λ (f : Option (List File)). FilesAlike b.files f) (sym right.3) alike.ends_alike.files_alike);
        out_same = both.1;
      },
    )

grows_running : (t : Tree) (code : Code) (maxt : ℕ) → Grows (running t code maxt)
grows_running t code maxt b n r left told meant =
    (task_text t maxt (execution code maxt) (lines_of (width_of is_in t.cells) left), (subst (λ (l : Option (List ℕ)). RanTo t maxt (execution code maxt) (input_lines t l) meant.0 b.out n.out) told meant.2).1)

ran_front : (t : Tree) (code : Code) (maxt : ℕ) (l k : Option (List ℕ)) (e : Ending) (out o p : Option (List ℕ)) → LeftAlike l k → RanInto t maxt (execution code maxt) (input_lines t l) out o → RanTo t maxt (execution code maxt) (input_lines t k) e out p → (rest : List ℕ) × (p ≡ append_known o rest)
ran_front t code maxt None k e out o p alike into to = absurd alike
ran_front t code maxt (Some l) None e out o p alike into to = absurd alike
ran_front t code maxt (Some l) (Some k) e out o p alike into to = (
  into.rest,
  to.1 ∙ (ap (λ x. append_known out (task_text t maxt (execution code maxt) (lines_of (width_of is_in t.cells) x))) (sym alike)
      ∙ (ap (λ x. append_known out x) into.whole ∙ (sym (appended_both out into.front into.rest) ∙ ap (λ x. append_known x into.rest) (sym into.stands)))),
)

front_running : (t : Tree) (code : Code) (maxt : ℕ) → CutsFront (running t code maxt)
front_running t code maxt b c n m e r alike cut meant =
    ran_front t code maxt b.left c.left meant.0 c.out n.out m.out alike.left_alike (subst (λ (o : Option (List ℕ)). RanInto t maxt (execution code maxt) (input_lines t b.left) o n.out) alike.ends_alike.out_same cut.0) meant.2

pub lasts_running : (t : Tree) (code : Code) (maxt : ℕ) → Lasts (running t code maxt)
lasts_running t code maxt = record { once = once_running t code maxt; grows = grows_running t code maxt; front = front_running t code maxt }
