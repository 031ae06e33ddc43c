-- The text of a whole run.
use Rattle.std.proofs.Common.{◌≡◌, ℕ, suc, ◌<◌, inl, inr, List, [], ◌++◌, length, ℤ, Bool, true, false, cond, refl, sym, ◌∙◌, ap, arith}
use Rattle.std.proofs.lemmas.Bool.{cases_Bool, true≢false}
use Rattle.script.specs.Running.{IsLost}
use Rattle.script.specs.declared.script.Pace.{Pace}
use Rattle.script.specs.declared.script.Silence.{Silence}
use Rattle.lines.specs.Lines.{Lines, End, Bad, Line}
use Rattle.graph.specs.JobGraph.{JobGraph}
use Rattle.graph.specs.declared.net.Net.{Net}
use Rattle.tables.specs.declared.table.Tables.{Tables}
use Rattle.net_run.specs.NetRun.{Execution, one_cycle, first_states}
use Rattle.cluster_agreement.specs.Agreement.{IsSet}
use Rattle.cluster_agreement.specs.Runs.{Event, steps}
use Rattle.cluster_model.specs.Cluster.{first_state}
use Rattle.cluster_model.specs.PlanOf.{plan_of}
use Rattle.cluster_model.specs.State.{Status, told, State}
use Rattle.plant_run.specs.PlantRun.{Cost}
use Rattle.run_texts.specs.Along.{result_at, along_net}
use Rattle.run_texts.specs.RunText.{Going, some_broke, outs_text, cycles_from, ending_from}
use Rattle.run_texts.specs.Setting.{Setting, is_lost, some_lost}
use Rattle.run_agreement.specs.Agreement.{AreLines, setting, RunAgreement}
use Rattle.run_agreement.specs.ClusterRun.{shown_in, along_cluster}
use Rattle.run_agreement.proofs.Cycle.{Before, first_before, after, more, same, shown_right, next_before}
use Rattle.run_agreement.proofs.Losses.{any_from, lost_units}
use Rattle.run_agreement.proofs.Texts.{broken_same, some_same, outs_same}

-- a choice that doesn't reach what differs
same_lost : {X : Type 0} (b : Bool) (lost x y : X) → b ≡ true → cond b lost x ≡ cond b lost y
same_lost b lost x y e = ap (λ k. cond k lost x) e ∙ sym (ap (λ k. cond k lost y) e)

same_rest : {X : Type 0} (b c d : Bool) (lost x1 y1 x2 y2 : X) → b ≡ false → c ≡ d → x1 ≡ x2 → (d ≡ false → y1 ≡ y2) → cond b lost (cond c x1 y1) ≡ cond b lost (cond d x2 y2)
same_rest b c d lost x1 y1 x2 y2 n e x y =
    ap (λ k. cond k lost (cond c x1 y1)) n
    ∙ elim (cases_Bool d) [
      | inl t ↦ ap (λ k. cond k x1 y1) (e ∙ t) ∙ x ∙ sym (ap (λ k. cond k x2 y2) t)
      | inr f ↦ ap (λ k. cond k x1 y1) (e ∙ f) ∙ y f ∙ sym (ap (λ k. cond k x2 y2) f)
    ]
    ∙ sym (ap (λ k. cond k lost (cond d x2 y2)) n)

module _ (net : Net) (g : JobGraph) (t : Tables) (words maxts : List ℕ) (exec : Execution) (cost : Cost) (silences : List Silence) (paces : List Pace) (is : IsSet net g t words exec) where
  abbrev here : Setting
  here = setting net g t maxts silences

  abbrev cluster : Going State
  cluster = along_cluster (plan_of net g t words exec cost) silences paces

  abbrev along : Going (List (List ℤ))
  along = along_net net g words exec cost

  -- where no unit is lost by the text, none is
  kept_units : (cycle : ℕ) → some_lost here cycle ≡ false → (u : ℕ) → u < net.shape.units → IsLost silences g.cycle u cycle → ⊥
  kept_units cycle n u l lost =
      true≢false (sym (any_from (is_lost here cycle) 0 net.shape.units u (omega arith) (omega (arith, l)) ((lost_units here cycle u).1 lost)) ∙ n)

  agree_from : (lines : Lines) (events : List Event) (cycle : ℕ) (states : List (List ℤ)) → Before net g t words exec cost silences paces is events cycle states → AreLines net g.cycle lines
      → (cycles_from here cluster cycle (steps (plan_of net g t words exec cost) silences (first_state (plan_of net g t words exec cost)) events) lines ≡ cycles_from here along cycle states lines)
      × (ending_from here cluster cycle (steps (plan_of net g t words exec cost) silences (first_state (plan_of net g t words exec cost)) events) lines ≡ ending_from here along cycle states lines)
  agree_from End events cycle states h fits = (refl, refl)
  agree_from (Bad n) events cycle states h fits = (refl, refl)
  agree_from (Line line rest) events cycle states h fits = elim (cases_Bool (some_lost here cycle)) [
    | inl lost ↦ (same_lost (some_lost here cycle) _ _ _ lost, same_lost (some_lost here cycle) _ _ _ lost)
    | inr n ↦
        let kept = kept_units cycle n in
        let one : ℕ → Status = λ job. shown_in (plan_of net g t words exec cost) (after net g t words exec cost silences paces is events cycle states h line fits.0 kept) job in
        let two : ℕ → Status = λ job. told (result_at net g words exec cost states line job) in
        let right : (job : ℕ) → job < length g.jobs → one job ≡ two job = shown_right net g t words exec cost silences paces is events cycle states h line fits.0 kept in
        let go = agree_from rest (more net g t words exec cost silences paces is events cycle states h line fits.0 kept) (suc cycle) (one_cycle net g.cycle exec states line).states
        (next_before net g t words exec cost silences paces is events cycle states h line fits.0 kept) fits.1 in
        let state_is = same net g t words exec cost silences paces is events cycle states h line fits.0 kept in
        let broke = some_same here is.graph cycle one two right in (
          same_rest (some_lost here cycle) (some_broke here cycle one) (some_broke here cycle two) _ _ _ _ _ n broke (broken_same here is.graph cycle one two right)
              (λ f. ap (λ x. x ++ cycles_from here cluster (suc cycle) (after net g t words exec cost silences paces is events cycle states h line fits.0 kept) rest) (outs_same here is.graph cycle one two right)
              ∙ ap (λ x. outs_text here cycle two ++ x) (sym (ap (λ (w : State). cycles_from here cluster (suc cycle) w rest) state_is) ∙ go.0)),
          same_rest (some_lost here cycle) (some_broke here cycle one) (some_broke here cycle two) _ _ _ _ _ n broke refl
              (λ f. sym (ap (λ (w : State). ending_from here cluster (suc cycle) w rest) state_is) ∙ go.1),
        )
  ]

pub run_agreement : RunAgreement
run_agreement net g t words maxts exec cost silences paces is lines fits =
    agree_from net g t words maxts exec cost silences paces is lines [] 0 (first_states words) (first_before net g t words exec cost silences paces is) fits
