-- What holds of every run of the command `plan`.
use Rattle.std.proofs.Common.{◌≡◌, ◌⊎◌, ◌<◌, inl, inr, ℕ, List, Some, Result, Ok, Err, refl, sym, ap, ◌∙◌, subst, arith}
use Rattle.mars_base.specs.Causes.{Rose}
use Rattle.plan_command.proofs.Steps.{show_it}
use Rattle.plan_command.specs.Plan.{IsDone, planning, showing, shown, shown_plan, text_of, without_input, PlanPromises}
use Rattle.planned_plant.specs.Plant.{plant_of}
use Rattle.plant.specs.declared.system.Plant.{Plant}
use Rattle.project_image.proofs.Within.{image_once, refuses_image}
use Rattle.project_image.specs.Gives.{ImageGives}
use Rattle.project_tables.specs.Planned.{planned}
use Rattle.project_tables.proofs.PlannedFacts.{passes_planned, kept_planned, refuses_planned, missing_planned}
use Rattle.refusals.specs.Causes.{Counts, Caused}
use Rattle.refusals.specs.Status.{status_of, status_of_result}
use Rattle.refusals.specs.declared.fault.Fault.{Fault}
use Rattle.refusals.specs.declared.refusal.Refusal.{Refusal}
use Rattle.refusals.specs.declared.refusal.Refusal.TheVariants as refusal
use Rattle.stages.specs.Stage.{Stage, Does, judging, printing}
use Rattle.stages.specs.World.{Held}
use Rattle.stages.proofs.ExactFacts.{exact}
use Rattle.stages.proofs.MissingFacts.{refused_turn, refused_does}
use Rattle.stages.proofs.Relations.{Within, Refuses, KeepsFiles, KeepsOut, OneAnswer, Passes, Lasts}
use Rattle.stages.proofs.SoundFacts.{passes_turn, passes_judging, passes_printing, passes_lasts}
use Rattle.stages.proofs.Turns.{not_err}
use Rattle.stages.proofs.WithinFacts.{within_turn, within_does, within_judging, files_kept, files_printing, out_kept, refuses_turn, refuses_none, refuses_printing}
use Rattle.word_code.specs.declared.code.Code.{Code}

abbrev print_it : Plant Code → Unit {0} → Stage (Unit {0})
print_it plant u = printing (text_of plant)

is_done : OneAnswer IsDone
is_done r s one two = one ∙ sym two

passes_showing : (plant : Plant Code) → Passes (showing plant)
passes_showing plant = passes_turn (judging IsDone) (print_it plant) (passes_judging IsDone is_done) (λ u. passes_printing (text_of plant))

passes_shown : (project : List ℕ) (plant : Plant Code) → Passes (shown project plant)
passes_shown project plant = passes_turn (judging (ImageGives project plant)) (show_it plant) (passes_judging (ImageGives project plant) (image_once project plant)) (λ bytes. passes_showing plant)

pub lasts_planning : (project : List ℕ) (budget : ℕ) → Lasts (planning project budget)
lasts_planning project budget = passes_lasts (planning project budget) (passes_turn (planned project budget) (shown_plan project) (passes_planned project budget) (λ p. passes_shown project (plant_of p)))

-- what `plan` refuses
refuses_shown : (P : Refusal → Type 0) (project : List ℕ) (plant : Plant Code) → P (refusal.TooLong (Some project)) → Refuses P (shown project plant)
refuses_shown P project plant long =
    refuses_turn P (judging (ImageGives project plant)) (show_it plant) (λ b n r e meant is. refuses_image P project plant long r e meant.1 is)
    (λ bytes. refuses_turn P (judging IsDone) (print_it plant) (λ b n r e meant is. refuses_none P tt r e meant.1 is) (λ u. refuses_printing P (text_of plant)))

pub refuses_planning : (P : Refusal → Type 0) (project : List ℕ) (budget : ℕ) → ((name : List ℕ) → P (refusal.ReadFault (Some name))) → ((name : List ℕ) → P (refusal.TooLong (Some name))) → ((f : Fault) → P (refusal.Fault f))
    → P (refusal.Spent budget) → P refusal.NoTable → Refuses P (planning project budget)
refuses_planning P project budget missing long fault spent none =
    refuses_turn P (planned project budget) (shown_plan project) (refuses_planned P project budget missing long fault spent none) (λ p. refuses_shown P project (plant_of p) (long project))

files_shown : (project : List ℕ) (plant : Plant Code) → Within KeepsFiles (shown project plant)
files_shown project plant =
    within_turn KeepsFiles (judging (ImageGives project plant)) (show_it plant) files_kept (within_judging KeepsFiles (ImageGives project plant) files_kept)
    (λ bytes. within_turn KeepsFiles (judging IsDone) (print_it plant) files_kept (within_judging KeepsFiles IsDone files_kept) (λ u. files_printing (text_of plant)))

files_planning : (project : List ℕ) (budget : ℕ) → Within KeepsFiles (planning project budget)
files_planning project budget =
    within_turn KeepsFiles (planned project budget) (shown_plan project) files_kept (kept_planned KeepsFiles project budget files_kept) (λ p. files_shown project (plant_of p))

-- where the output changed, its text was put whole, or a put of it failed
unput : (project : List ℕ) (budget : ℕ) (b n : Held) (c d : Counts) (r : Result (Unit {0}) Refusal) (status : ℕ) → Does (planning project budget) b n c d r → status_of_result r ≡ status → (0 < status)
    → ((status ≡ 7) × Rose c.output d.output) ⊎ (n.out ≡ b.out)
unput project budget b n c d r status does is some = by does.how
  where
    kept : Within KeepsOut (planned project budget)
    kept = kept_planned KeepsOut project budget out_kept

    by : (planning project budget).meant b n r ⊎ ((e : Refusal) × (r ≡ Err e) × (planning project budget).cut b n e × Caused c d e) → ((status ≡ 7) × Rose c.output d.output) ⊎ (n.out ≡ b.out)
    by (inl (inl stop)) = inr (kept.by_meant b n (Err stop.0) stop.1)
    by (inl (inr (p, m, first, inl stop))) = inr (ap (λ (h : Held). h.out) stop.1.0 ∙ kept.by_meant b m (Ok p) first)
    by (inl (inr (p, m, first, inr (bytes, k, fits, inl stop)))) = not_err tt stop.0 stop.1.1
    by (inl (inr (p, m, first, inr (bytes, k, fits, inr (u, j, taken, put))))) = absurd (let zero = ap status_of_result put.1 in omega (arith, zero, is, some))
    by (inr (e, refused, inl cut, caused)) = inr (kept.by_cut b n e cut)
    by (inr (e, refused, inr (p, m, first, inl cut), caused)) = inr (ap (λ (h : Held). h.out) cut.0 ∙ kept.by_meant b m (Ok p) first)
    by (inr (e, refused, inr (p, m, first, inr (bytes, k, fits, inl cut)), caused)) = inr (ap (λ (h : Held). h.out) (cut.0 ∙ fits.0) ∙ kept.by_meant b m (Ok p) first)
    by (inr (e, refused, inr (p, m, first, inr (bytes, k, fits, inr (u, j, taken, put))), caused)) = inl (sym is ∙ (ap status_of_result refused ∙ ap status_of put.2), subst (Caused c d) put.2 caused)

-- with status 6 nothing was put; with status 7 a put failed, or nothing was put
unread_of : (status : ℕ) (b n : Held) (c d : Counts) → status ≡ 6 → ((status ≡ 7) × Rose c.output d.output) ⊎ (n.out ≡ b.out) → n.out ≡ b.out
unread_of status b n c d six (inl it) = absurd (let seven = it.0 in omega (arith, six, seven))
unread_of status b n c d six (inr stays) = stays

unwritten_of : (status : ℕ) (b n : Held) (c d : Counts) → ((status ≡ 7) × Rose c.output d.output) ⊎ (n.out ≡ b.out) → Rose c.output d.output ⊎ (n.out ≡ b.out)
unwritten_of status b n c d (inl it) = inl it.1
unwritten_of status b n c d (inr stays) = inr stays

-- whatever the objects tell
pub promises : (project : List ℕ) (budget : ℕ) (b n : Held) (c d : Counts) (r : Result (Unit {0}) Refusal) → d.writes ≡ c.writes → (n.left ≡ b.left) × (d.input ≡ c.input) → Does (planning project budget) b n c d r
    → Does (planning project budget) (without_input b) (without_input n) c d r → PlanPromises project budget b n c d r
promises project budget b n c d r writes input does blind = record {
  files_stay = within_does KeepsFiles (planning project budget) (files_planning project budget) does;
  writes_stay = writes;
  input_stays = input;
  exact = exact (planning project budget) (lasts_planning project budget) (without_input b) (without_input n) c d r blind;
  missing = λ missing. refused_does (refusal.ReadFault (Some project)) (planning project budget) (refused_turn b (refusal.ReadFault (Some project)) (planned project budget) (shown_plan project) (missing_planned project budget b missing)) does;
  unread = λ six. unread_of (status_of_result r) b n c d six (unput project budget b n c d r (status_of_result r) does refl (omega (arith, six)));
  unwritten = λ seven. unwritten_of (status_of_result r) b n c d (unput project budget b n c d r (status_of_result r) does refl (omega (arith, seven)));
}
