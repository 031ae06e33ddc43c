-- A command as it was given, and what holds of every command.
use Rattle.std.proofs.Common.{◌≡◌, ◌⊎◌, inl, inr, ◌∙◌, ap, refl, sym, subst, ◌≤◌, ℕ, Option, None, Some, Result, Ok, Err, arith}
use Rattle.build_command.proofs.BuildFacts.{lasts_building, refuses_building}
use Rattle.build_command.specs.Stored.{HasStored}
use Rattle.mars_top.specs.Asked.{plain_asked}
use Rattle.mars_top.specs.Command.{Command, Build, Plan, Show, Task, stage_of}
use Rattle.mars_top.specs.Helpers.{Acts}
use Rattle.mars_top.specs.Ran.{RanOf}
use Rattle.mars_top.specs.Replies.{Replies}
use Rattle.mars_top.specs.declared.asked.Asked.{Asked}
use Rattle.plan_command.proofs.PlanFacts.{lasts_planning, refuses_planning}
use Rattle.plan_meaning.proofs.PlanMeaning.{plan_ran}
use Rattle.plan_meaning.specs.PlanRan.{IsSearchStatus, PlanRan}
use Rattle.refusals.proofs.CauseFacts.{caused_not_usage}
use Rattle.refusals.specs.Causes.{Counts, Caused}
use Rattle.refusals.specs.Said.{Said}
use Rattle.refusals.specs.Status.{status_of, status_of_result}
use Rattle.refusals.specs.declared.refusal.Refusal.{Refusal}
use Rattle.refusals.specs.declared.refusal.Refusal.TheVariants as refusal
use Rattle.show_command.proofs.ShowFacts.{lasts_showing, refuses_show}
use Rattle.show_command.proofs.ShowMeaning.{show_ran}
use Rattle.show_command.specs.ShowRan.{IsShowStatus, ShowRan}
use Rattle.stages.specs.Stage.{Does}
use Rattle.stages.specs.World.{Held, World}
use Rattle.stages.proofs.ExactFacts.{exact}
use Rattle.stages.proofs.Relations as fact
use Rattle.stages.proofs.Turns.{fails}
use Rattle.task_command.specs.TaskRan.{IsRunStatus, TaskRan}
use Rattle.task_command.proofs.TaskFacts.{lasts_tasking, refuses_tasking}

-- what is performed for known words
pub acts_as : (given known : Asked) (b n : Held) (c d : Counts) (r : Result (Unit {0}) Refusal) → given ≡ known → Acts (plain_asked known) b n c d r → Acts (plain_asked given) b n c d r
acts_as given known b n c d r is acts = subst (λ (k : Asked). Acts (plain_asked k) b n c d r) (sym is) acts

-- every command is sound
lasts : (command : Command) → fact.Lasts (stage_of command)
lasts (Task file) = lasts_tasking file
lasts (Plan project budget) = lasts_planning project budget
lasts (Build project budget image) = lasts_building project budget image
lasts (Show file) = lasts_showing file

-- no command answers that the words are none
abbrev NoUsage : Refusal → Type 0
NoUsage e = status_of e ≡ 2 → ⊥

never_meant : (command : Command) → fact.Refuses NoUsage (stage_of command)
never_meant (Task file) = refuses_tasking NoUsage file (λ e. omega (arith, e)) (λ e. omega (arith, e)) (λ f e. omega (arith, e)) (λ n e. omega (arith, e)) (λ e. omega (arith, e))
never_meant (Plan project budget) = refuses_planning NoUsage project budget (λ name e. omega (arith, e)) (λ name e. omega (arith, e)) (λ f e. omega (arith, e)) (λ e. omega (arith, e)) (λ e. omega (arith, e))
never_meant (Build project budget image) = refuses_building NoUsage project budget image (λ name e. omega (arith, e)) (λ name e. omega (arith, e)) (λ f e. omega (arith, e)) (λ e. omega (arith, e)) (λ e. omega (arith, e))
never_meant (Show file) = refuses_show NoUsage file (λ e. omega (arith, e)) (λ e. omega (arith, e)) (λ b e. omega (arith, e))

never_two : (command : Command) (b n : Held) (c d : Counts) (r : Result (Unit {0}) Refusal) → Does (stage_of command) b n c d r → status_of_result r ≡ 2 → ⊥
never_two command b n c d (Ok u) does is = omega (arith, is)
never_two command b n c d (Err e) does is = by does.how
  where
    by : (stage_of command).meant b n (Err e) ⊎ ((f : Refusal) × (fails (Unit {0}) e ≡ Err f) × (stage_of command).cut b n f × Caused c d f) → ⊥
    by (inl meant) = never_meant command b n (Err e) e meant refl is
    by (inr cut) = let same : e ≡ cut.0 = (let h = cut.1 in cc) in caused_not_usage c d cut.0 cut.3 (ap status_of (sym same) ∙ is)

pub usage_only : (command : Option Command) (before now : World) (status : ℕ) → Replies command before now status → status ≡ 2 → command ≡ None
usage_only None before now status replies two = refl
usage_only (Some command) before now status replies two = absurd (never_two command before.held now.held before.counts now.counts replies.answer replies.does (sym replies.status_is ∙ two))

pub usage_always : (command : Option Command) (before now : World) (status : ℕ) → Replies command before now status → command ≡ None → status ≡ 2
usage_always None before now status replies none = replies.status_is
usage_always (Some command) before now status replies none = absurd (cc)

-- a call that performed what the words ask for, and said its answer
replied : (command : Option Command) (before now : World) (status : ℕ) (answer : Result (Unit {0}) Refusal) → status ≡ status_of_result answer → Acts command before.held now.held before.counts now.counts answer
    → Said before.err now.err before.errors now.errors answer → Replies command before now status
replied None before now status answer is acts said = record {
  status_is = is ∙ ap status_of_result acts.0;
  held_stays = acts.1;
  counts_stay = acts.2;
  said = subst (Said before.err now.err before.errors now.errors) acts.0 said;
}
replied (Some command) before now status answer is acts said = record {
  answer = answer;
  status_is = is;
  does = acts.0;
  exact = exact (stage_of command) (lasts command) before.held now.held before.counts now.counts answer acts.0;
  promises = acts.1;
  said = said;
}

pub performed : (words asked : Option Command) (before now : World) (status : ℕ) (answer : Result (Unit {0}) Refusal) → asked ≡ words → status ≡ status_of_result answer → Acts asked before.held now.held before.counts now.counts answer
    → Said before.err now.err before.errors now.errors answer → Replies words before now status
performed words asked before now status answer same is acts said = subst (λ (w : Option Command). Replies w before now status) same (replied asked before now status answer is acts said)

-- each refusal has a status of its own, and none has 0
some_status : (e : Refusal) → 1 ≤ status_of e
some_status refusal.Memory = omega arith
some_status refusal.Usage = omega arith
some_status (refusal.Fault f) = omega arith
some_status (refusal.Spent n) = omega arith
some_status refusal.NoTable = omega arith
some_status (refusal.ReadFault name) = omega arith
some_status (refusal.WriteFault name) = omega arith
some_status (refusal.BadInput n) = omega arith
some_status (refusal.BadScript n) = omega arith
some_status (refusal.BadImage bad) = omega arith
some_status refusal.Broken = omega arith
some_status refusal.Lost = omega arith
some_status (refusal.TooLong name) = omega arith

-- so with status 0 nothing was refused
all_done : (r : Result (Unit {0}) Refusal) → status_of_result r ≡ 0 → r ≡ Ok tt
all_done (Ok u) is = refl
all_done (Err e) is = absurd (omega (arith, some_status e, is))

-- what a command came to
pub ran_as : (command : Option Command) (before now : World) (status : ℕ) → Replies command before now status → RanOf command before now status
ran_as None before now status replies = tt
ran_as (Some (Plan project budget)) before now status replies = λ ends files told.
    subst (λ (s : ℕ). PlanRan project budget files before.held.out now.held.out s) (sym replies.status_is)
    (plan_ran project budget before.held now.held before.counts now.counts replies.answer replies.does (subst IsSearchStatus replies.status_is ends) files told)
ran_as (Some (Show file)) before now status replies = λ ends files told.
    subst (λ (s : ℕ). ShowRan file files before.held.out now.held.out s) (sym replies.status_is)
    (show_ran file before.held now.held before.counts now.counts replies.answer replies.does (subst IsShowStatus replies.status_is ends) files told)
ran_as (Some (Build project budget image)) before now status replies = λ zero.
    let ok : replies.answer ≡ Ok tt = all_done replies.answer (sym replies.status_is ∙ zero) in
    subst (λ (r : Result (Unit {0}) Refusal). HasStored project image before.held now.held r) ok (replies.promises.carries (inl ok))
ran_as (Some (Task file)) before now status replies = λ ends files input told left.
    subst (λ (s : ℕ). TaskRan file files input before.held.out now.held.out s) (sym replies.status_is) (replies.promises.ran (subst IsRunStatus replies.status_is ends) files input told left)
