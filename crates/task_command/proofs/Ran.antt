-- The call that runs lines does the stage.
use Rattle.std.proofs.Common.{◌≡◌, inl, inr, ℕ, None, Result, Ok, Err, refl, subst}
use Rattle.std.specs.Io.KnownBytes.{IsAtEnd}
use Rattle.mars_base.specs.Causes.{Rose}
use Rattle.mc_tree.specs.Instance.{is_in, width_of}
use Rattle.mc_tree.specs.Tree.{Tree}
use Rattle.refusals.specs.Causes.{Counts, Later}
use Rattle.refusals.specs.declared.refusal.Refusal.{Refusal}
use Rattle.refusals.specs.declared.refusal.Refusal.TheVariants as refusal
use Rattle.stages.specs.Stage.{Does}
use Rattle.stages.specs.World.{Held}
use Rattle.task_command.specs.Helpers.{refusal_of}
use Rattle.task_command.specs.Running.{running, input_lines, execution, NoMemory, ReadFailed, PutFailed}
use Rattle.task_run.specs.Progress.{RunAnswers, HasAnswered}
use Rattle.task_run.specs.Text.{Finished, BadLine, Broken}
use Rattle.task_run.specs.declared.fault.RunFault.{RunFault}
use Rattle.task_run.specs.declared.fault.RunFault.TheVariants as run
use Rattle.task_run.proofs.Steps.{into_nothing}
use Rattle.word_code.specs.Execution.{exec}
use Rattle.word_code.specs.declared.code.Code.{Code}

abbrev pub refused : Result (Unit {0}) RunFault → Result (Unit {0}) Refusal
refused (Ok u) = Ok u
refused (Err e) = Err (refusal_of e)

-- a run of the task's own code
ran_own : (t : Tree) (code : Code) (maxt : ℕ) (b n : Held) (c d : Counts) (r : Result (Unit {0}) RunFault) → RunAnswers t maxt (execution code maxt) (input_lines t b.left) b.out n.out r
    → n.files ≡ b.files → (r ≡ Ok tt → IsAtEnd n.left) → (r ≡ Err run.Read → HasAnswered t (width_of is_in t.cells) b.left n.left b.out n.out) → (r ≡ Err run.Read → Rose c.input d.input) → (r ≡ Err run.Write → Rose c.output d.output) → Later c d → Does (running t code maxt) b n c d (refused r)
ran_own t code maxt b n c d (Ok u) answer files end answered read write later = record { later = later; how = inl (Finished, refl, answer, files, λ is. end refl) }
ran_own t code maxt b n c d (Err run.Memory) answer files end answered read write later = record { later = later; how = inr (refusal.Memory, refl, (answer, files, NoMemory refl), tt) }
ran_own t code maxt b n c d (Err run.Read) answer files end answered read write later = record { later = later; how = inr (refusal.ReadFault None, refl, (answer, files, ReadFailed refl (answered refl)), read refl) }
ran_own t code maxt b n c d (Err run.Write) answer files end answered read write later = record { later = later; how = inr (refusal.WriteFault None, refl, (answer, files, PutFailed refl), write refl) }
ran_own t code maxt b n c d (Err (run.BadLine m)) answer files end answered read write later = record { later = later; how = inl (BadLine m, refl, answer, files, λ is. absurd (cc)) }
ran_own t code maxt b n c d (Err run.Broken) answer files end answered read write later = record { later = later; how = inl (Broken, refl, answer, files, λ is. absurd (cc)) }

pub ran : (t : Tree) (code own : Code) (maxt : ℕ) (b n : Held) (c d : Counts) (r : Result (Unit {0}) RunFault) → code ≡ own → RunAnswers t maxt (exec code maxt) (input_lines t b.left) b.out n.out r
    → n.files ≡ b.files → (r ≡ Ok tt → IsAtEnd n.left) → (r ≡ Err run.Read → HasAnswered t (width_of is_in t.cells) b.left n.left b.out n.out) → (r ≡ Err run.Read → Rose c.input d.input) → (r ≡ Err run.Write → Rose c.output d.output)
    → Later c d → Does (running t own maxt) b n c d (refused r)
ran t code own maxt b n c d r is answer files end answered read write later =
    ran_own t own maxt b n c d r (subst (λ (k : Code). RunAnswers t maxt (exec k maxt) (input_lines t b.left) b.out n.out r) is answer) files end answered read write later

-- want of memory before the first line
pub no_run : (t : Tree) (code : Code) (maxt : ℕ) (b : Held) (c : Counts) → Later c c → Does (running t code maxt) b b c c (Err refusal.Memory)
no_run t code maxt b c later = record { later = later; how = inr (refusal.Memory, refl, (into_nothing t maxt (execution code maxt) b.out (input_lines t b.left), refl, NoMemory refl), tt) }
