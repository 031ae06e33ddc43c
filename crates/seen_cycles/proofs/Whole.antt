-- The whole text of a cluster's run.
use Rattle.std.proofs.Common.{◌≡◌, ℕ, zero, suc, ◌+◌, ◌<◌, ◌≤◌, List, [], ◌++◌, length, ℤ, Bool, true, false, cond, max, refl, sym, ◌∙◌, ap, arith}
use Rattle.std.specs.Prelude.{slice_index}
use Rattle.std.specs.List.{range_with_len, flat_map}
use Rattle.std.proofs.lemmas.Bool.{true≢false}
use Rattle.script.specs.Running.{IsLost}
use Rattle.script.specs.declared.script.Pace.{Pace}
use Rattle.script.specs.declared.script.Silence.{Silence}
use Rattle.lines.specs.Lines.{Lines, End, Bad, Line}
use Rattle.graph.specs.JobGraph.{JobGraph}
use Rattle.graph.specs.Jobs.{job_number}
use Rattle.graph.specs.Net.{instances}
use Rattle.graph.specs.declared.net.Net.{Net}
use Rattle.tables.specs.declared.table.Tables.{Tables}
use Rattle.net_run.specs.NetRun.{Execution, one_cycle, first_states}
use Rattle.cluster_plan.proofs.Numbers.{inside}
use Rattle.cluster_agreement.specs.Agreement.{IsSet}
use Rattle.cluster_agreement.specs.Runs.{Event, steps}
use Rattle.cluster_model.specs.Cluster.{first_state}
use Rattle.cluster_model.specs.PlanOf.{plan_of}
use Rattle.cluster_model.specs.State.{State}
use Rattle.plant_run.specs.PlantRun.{Cost}
use Rattle.run_texts.specs.Along.{along_net}
use Rattle.run_texts.specs.Lines.{task_line}
use Rattle.run_texts.specs.RunText.{Going, RunEnding, Finished, BadLine, Lost, Broken, some_broke, most, closed, ending_from, seen_from, seen_in, cycles_text, run_ending}
use Rattle.run_texts.specs.Setting.{Setting, name_of_task, is_lost, some_lost}
use Rattle.run_agreement.specs.Agreement.{AreLines, setting}
use Rattle.run_agreement.specs.ClusterRun.{along_cluster}
use Rattle.run_agreement.proofs.Cycle.{more, same}
use Rattle.run_agreement.proofs.Losses.{any_from, lost_units}
use Rattle.run_agreement.proofs.Whole.{run_agreement}
use Rattle.seen_cycles.specs.Seen.{WholeTexts}
use Rattle.seen_cycles.proofs.Cycle.{Begins, first_begins, next_begins, taken_right}

lost_not : Lost ≡ Finished → ⊥
lost_not e = cc

broken_not : Broken ≡ Finished → ⊥
broken_not e = cc

-- a run that finished had no lost unit, and none was broken
finished_parts : (a b : Bool) (rest : RunEnding) → cond a Lost (cond b Broken rest) ≡ Finished → (a ≡ false) × (rest ≡ Finished)
finished_parts true b rest e = absurd (lost_not e)
finished_parts false true rest e = absurd (broken_not e)
finished_parts false false rest e = (refl, e)

flat_same : (f h : ℕ → List ℕ) (a n : ℕ) → ((j : ℕ) → a ≤ j → j < a + n → f j ≡ h j) → flat_map f (range_with_len a n) ≡ flat_map h (range_with_len a n)
flat_same f h a zero q = refl
flat_same f h a (suc n) q =
    ap (λ x. x ++ flat_map f (range_with_len (a + 1) n)) (q a (omega arith) (omega arith))
    ∙ ap (λ x. h a ++ x) (flat_same f h (a + 1) n (λ j low high. q j (omega (arith, low)) (omega (arith, high))))

module _ (net : Net) (g : JobGraph) (t : Tables) (words maxts : List ℕ) (exec : Execution) (cost : Cost) (silences : List Silence) (paces : List Pace) (is : IsSet net g t words exec) where
  abbrev here : Setting
  here = setting net g t maxts silences

  abbrev cluster : Going State
  cluster = along_cluster (plan_of net g t words exec cost) silences paces

  abbrev along : Going (List (List ℤ))
  along = along_net net g words exec cost

  -- where no unit is lost by the text, none is
  kept_units : (cycle : ℕ) → some_lost here cycle ≡ false → (u : ℕ) → u < net.shape.units → IsLost silences g.cycle u cycle → ⊥
  kept_units cycle n u l lost =
      true≢false (sym (any_from (is_lost here cycle) 0 net.shape.units u (omega arith) (omega (arith, l)) ((lost_units here cycle u).1 lost)) ∙ n)

  -- the most cycles of a task, by those of its jobs
  most_same : (one two : ℕ → ℕ) → ((job : ℕ) → job < length g.jobs → one job ≡ two job) → (task n : ℕ) → task < length net.tasks → n ≤ instances net g.cycle task
      → most here one task n ≡ most here two task n
  most_same one two h task zero low run = refl
  most_same one two h task (suc n) low run =
      ap (λ k. max k (one (job_number net g.cycle task n))) (most_same one two h task n low (omega (arith, run)))
      ∙ ap (max (most here two task n)) (h (job_number net g.cycle task n) (inside net g is.graph task n low (omega (arith, run))))

  seen_same : (lines : Lines) (events : List Event) (cycle : ℕ) (states : List (List ℤ)) → Begins net g t words exec cost silences paces is events cycle states → AreLines net g.cycle lines
      → (one two : ℕ → ℕ) → ((task : ℕ) → task < length net.tasks → one task ≡ two task)
      → ending_from here along cycle states lines ≡ Finished → (task : ℕ) → task < length net.tasks
      → seen_from here cluster (steps (plan_of net g t words exec cost) silences (first_state (plan_of net g t words exec cost)) events) one lines task ≡ seen_from here along states two lines task
  seen_same End events cycle states h fits one two q e task low = q task low
  seen_same (Bad n) events cycle states h fits one two q e task low = q task low
  seen_same (Line line rest) events cycle states h fits one two q e task low =
      let parts = finished_parts (some_lost here cycle) (some_broke here cycle (along.status states line)) (ending_from here along (suc cycle) (one_cycle net g.cycle exec states line).states rest) e in
      let kept = kept_units cycle parts.0 in
      let s : State = steps (plan_of net g t words exec cost) silences (first_state (plan_of net g t words exec cost)) events in
      let one2 : ℕ → ℕ = λ k. max (one k) (most here (cluster.cycles s line) k (instances net g.cycle k)) in
      let two2 : ℕ → ℕ = λ k. max (two k) (most here (along.cycles states line) k (instances net g.cycle k)) in
      let state_is = same net g t words exec cost silences paces is events cycle states h.before_is line fits.0 kept in
      ap (λ (w : State). seen_from here cluster w one2 rest task) (sym state_is)
      ∙ seen_same rest (more net g t words exec cost silences paces is events cycle states h.before_is line fits.0 kept) (suc cycle) (one_cycle net g.cycle exec states line).states
      (next_begins net g t words exec cost silences paces is events cycle states h line fits.0 kept) fits.1 one2 two2
      (λ k b.
      ap (λ n. max n (most here (cluster.cycles s line) k (instances net g.cycle k))) (q k b)
      ∙ ap (max (two k)) (most_same (cluster.cycles s line) (along.cycles states line) (taken_right net g t words exec cost silences paces is events cycle states h line fits.0 kept) k (instances net g.cycle k) b (omega arith)))
      parts.1 task low

  closed_same : (ending : RunEnding) (one two : ℕ → ℕ) → (ending ≡ Finished → (task : ℕ) → task < length net.tasks → one task ≡ two task) → closed here ending one ≡ closed here ending two
  closed_same Finished one two h =
      flat_same (λ task. task_line (name_of_task here task) (slice_index maxts task) (one task)) (λ task. task_line (name_of_task here task) (slice_index maxts task) (two task)) 0 (length net.tasks)
      (λ task low high. ap (task_line (name_of_task here task) (slice_index maxts task)) (h refl task (omega (arith, high))))
  closed_same (BadLine n) one two h = refl
  closed_same Lost one two h = refl
  closed_same Broken one two h = refl

pub whole_texts : WholeTexts
whole_texts net g t words maxts exec cost silences paces is lines fits =
    let agree = run_agreement net g t words maxts exec cost silences paces is lines fits in
    let h = setting net g t maxts silences in
    let p = along_cluster (plan_of net g t words exec cost) silences paces in
    let a = along_net net g words exec cost in
    ap (λ text. text ++ closed h (run_ending h p lines) (seen_in h p lines)) agree.0
    ∙ ap (λ ending. cycles_text h a lines ++ closed h ending (seen_in h p lines)) agree.1
    ∙ ap (λ text. cycles_text h a lines ++ text)
    (closed_same net g t words maxts exec cost silences paces is (run_ending h a lines) (seen_in h p lines) (seen_in h a lines)
    (λ e. seen_same net g t words maxts exec cost silences paces is lines [] 0 (first_states words) (first_begins net g t words exec cost silences paces is) fits (λ task. 0) (λ task. 0) (λ task low. refl) e))
