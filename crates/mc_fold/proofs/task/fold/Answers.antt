use Rattle.std.proofs.Common.{◌≡◌, ℤ, List, Result, Ok, Err, sym, ap, ◌∙◌, subst}
use Rattle.std.specs.Result.{IfOk}
use Rattle.mc_tree.specs.declared.tree.Task.{Task}
use Rattle.mc_tree.specs.CheckedTask.{IsCheckedTask}
use Rattle.mc_tree.specs.Instance.{instance_of}
use Rattle.mc_tree.specs.Plain.{plain_task}
use Rattle.mc_fold.specs.Folded.{folded_task}
use Rattle.mc_fold.proofs.Meaning.{instance_folded}
use Rattle.mc_fold.proofs.Plainly.{plain_folded_task}
use Rattle.mc_fold.proofs.Within.{task_folded}
use Rattle.mc_fold.proofs.task.fold.Goals as goal

-- what holds of the folded task holds of the answer
if_folded : {E : Type 0} (P : Task → Type 0) (t : Task) (r : Result Task E) → P (folded_task t) → IfOk r (λ x. x ≡ folded_task t) → IfOk r P
if_folded P t (Ok x) p is = subst P (sym is) p
if_folded P t (Err e) p is = tt

pub returns-clause-checked : goal.returns-clause-checked
returns-clause-checked c = if_folded IsCheckedTask c.args.task.now c.folded_task.result (task_folded c.args.task.now c.requires) c.folded_task.ensures

pub returns-clause-same : goal.returns-clause-same
returns-clause-same c =
    let t = c.args.task.now in
    let same : (state ins : List ℤ) → instance_of (plain_task (folded_task t)) state ins ≡ instance_of (plain_task t) state ins =
    (λ state ins. ap (λ x. instance_of x state ins) (plain_folded_task t) ∙ instance_folded (plain_task t) state ins) in
    if_folded (λ x. (state ins : List ℤ) → instance_of (plain_task x) state ins ≡ instance_of (plain_task t) state ins) t c.folded_task.result same c.folded_task.ensures
