-- What holds of every run of the command `task`.
use Rattle.std.proofs.Common.{◌≡◌, ◌⊎◌, inl, inr, ℕ, List, Some, Result, Ok, Err, sym, ap, ◌∙◌, subst, arith}
use Rattle.std.specs.Io.KnownBytes.{IsAtEnd}
use Rattle.mars_base.specs.Causes.{Rose}
use Rattle.mc_tree.specs.Tree.{Tree}
use Rattle.refusals.specs.Causes.{Counts, Caused}
use Rattle.refusals.specs.Status.{status_of, status_of_result}
use Rattle.refusals.specs.declared.fault.Fault.{Fault}
use Rattle.refusals.specs.declared.refusal.Refusal.{Refusal}
use Rattle.refusals.specs.declared.refusal.Refusal.TheVariants as refusal
use Rattle.stages.specs.Stage.{Does}
use Rattle.stages.specs.World.{Held}
use Rattle.stages.proofs.MissingFacts.{refused_turn, refused_does}
use Rattle.stages.proofs.Relations.{Within, Refuses, KeepsFiles, KeepsOut, Lasts}
use Rattle.stages.proofs.SoundFacts.{lasts_turn}
use Rattle.stages.proofs.Turns.{not_err}
use Rattle.stages.proofs.WithinFacts.{within_turn, within_does, files_kept, out_kept, refuses_turn}
use Rattle.task_command.specs.Running.{running, answer_of, Stops, NoMemory, ReadFailed, PutFailed}
use Rattle.task_command.specs.Task.{tasking, TaskPromises}
use Rattle.task_command.proofs.Meaning.{ran_of}
use Rattle.task_command.proofs.RunFacts.{files_running, lasts_running, refuses_running}
use Rattle.task_run.specs.Text.{Ending, Finished, BadLine, Broken}
use Rattle.mc_tree.specs.Plain.{plain_task}
use Rattle.task_source.specs.Bound.{code_of}
use Rattle.task_source.specs.Built.{built}
use Rattle.task_source.proofs.BuiltFacts.{kept_built, missing_built, refuses_built, passes_built}

pub lasts_tasking : (file : List ℕ) → Lasts (tasking file)
lasts_tasking file = lasts_turn (built file) (λ b. running (plain_task b.task) (code_of b.task) b.maxt) (passes_built file) (λ b. lasts_running (plain_task b.task) (code_of b.task) b.maxt)

-- what `task` refuses
pub refuses_tasking : (P : Refusal → Type 0) (file : List ℕ) → P (refusal.ReadFault (Some file)) → P (refusal.TooLong (Some file)) → ((f : Fault) → P (refusal.Fault f)) → ((n : ℕ) → P (refusal.BadInput n)) → P refusal.Broken → Refuses P (tasking file)
refuses_tasking P file missing long fault bad broken =
    refuses_turn P (built file) (λ b. running (plain_task b.task) (code_of b.task) b.maxt) (refuses_built P file missing long fault) (λ b. refuses_running P (plain_task b.task) (code_of b.task) b.maxt bad broken)

files_tasking : (file : List ℕ) → Within KeepsFiles (tasking file)
files_tasking file = within_turn KeepsFiles (built file) (λ b. running (plain_task b.task) (code_of b.task) b.maxt) files_kept (kept_built KeepsFiles file files_kept) (λ b. files_running (plain_task b.task) (code_of b.task) b.maxt)

-- an answer of status 0 read the input to its end
at_end_of : (file : List ℕ) (b n : Held) (c d : Counts) (r : Result (Unit {0}) Refusal) → Does (tasking file) b n c d r → r ≡ Ok tt → IsAtEnd n.left
at_end_of file b n c d r does ok = by does.how
  where
    by : (tasking file).meant b n r ⊎ ((e : Refusal) × (r ≡ Err e) × (tasking file).cut b n e × Caused c d e) → IsAtEnd n.left
    by (inl (inl stop)) = not_err tt stop.0 (sym stop.2 ∙ ok)
    by (inl (inr go)) = go.3.4 ok
    by (inr cut) = not_err tt cut.0 (sym cut.1 ∙ ok)

-- with status 6 a fault of the input was counted, or nothing was put
unread_ending : (ending : Ending) (r : Result (Unit {0}) Refusal) → r ≡ answer_of ending → status_of_result r ≡ 6 → ⊥
unread_ending Finished r is six = let h = ap status_of_result is in omega (arith, h, six)
unread_ending (BadLine n) r is six = let h = ap status_of_result is in omega (arith, h, six)
unread_ending Broken r is six = let h = ap status_of_result is in omega (arith, h, six)

unread_cut : (t : Tree) (b n : Held) (c d : Counts) (e : Refusal) → Stops t b n e → status_of e ≡ 6 → Caused c d e → Rose c.input d.input
unread_cut t b n c d e (NoMemory is) six caused = absurd (let h = ap status_of is in omega (arith, h, six))
unread_cut t b n c d e (ReadFailed is answered) six caused = subst (Caused c d) is caused
unread_cut t b n c d e (PutFailed is) six caused = absurd (let h = ap status_of is in omega (arith, h, six))

unread_of : (file : List ℕ) (b n : Held) (c d : Counts) (r : Result (Unit {0}) Refusal) → Does (tasking file) b n c d r → status_of_result r ≡ 6 → Rose c.input d.input ⊎ (n.out ≡ b.out)
unread_of file b n c d r does six = by does.how
  where
    kept : Within KeepsOut (built file)
    kept = kept_built KeepsOut file out_kept

    by : (tasking file).meant b n r ⊎ ((e : Refusal) × (r ≡ Err e) × (tasking file).cut b n e × Caused c d e) → Rose c.input d.input ⊎ (n.out ≡ b.out)
    by (inl (inl stop)) = inr (kept.by_meant b n (Err stop.0) stop.1)
    by (inl (inr go)) = absurd (unread_ending go.3.0 r go.3.1 six)
    by (inr (e, is, inl cut, caused)) = inr (kept.by_cut b n e cut)
    by (inr (e, is, inr go, caused)) = inl (unread_cut (plain_task go.0.task) go.1 n c d e go.3.2 (sym (ap status_of_result is) ∙ six) caused)

-- whatever the objects tell
pub promises : (file : List ℕ) (b n : Held) (c d : Counts) (r : Result (Unit {0}) Refusal) → d.writes ≡ c.writes → Does (tasking file) b n c d r → TaskPromises file b n c d r
promises file b n c d r writes does = record {
  files_stay = within_does KeepsFiles (tasking file) (files_tasking file) does;
  writes_stay = writes;
  at_end = at_end_of file b n c d r does;
  missing = λ missing. refused_does (refusal.ReadFault (Some file)) (tasking file) (refused_turn b (refusal.ReadFault (Some file)) (built file) (λ b. running (plain_task b.task) (code_of b.task) b.maxt) (missing_built file b missing)) does;
  unread = unread_of file b n c d r does;
  ran = ran_of file b n c d r does;
}
