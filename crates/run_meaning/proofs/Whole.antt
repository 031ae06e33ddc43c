-- Runs along a net whose executions agree on words that fit the tasks have one text.
use Rattle.std.proofs.Common.{◌≡◌, ℕ, zero, suc, ◌<◌, ◌≤◌, List, [], ◌∷◌, ◌++◌, length, get_or, ℤ, cond, Some, refl, sym, ◌∙◌, ap, subst, arith}
use Rattle.std.proofs.lemmas.List.Elements.{All-head, All-tail}
use Rattle.std.specs.Prelude.{slice_get, All}
use Rattle.std.proofs.lemmas.List.{length-map}
use Rattle.lines.specs.Lines.{Lines, End, Bad, Line}
use Rattle.script.specs.declared.script.Silence.{Silence}
use Rattle.graph.specs.JobGraph.{JobGraph}
use Rattle.graph.specs.NetGraph.{IsNetGraph}
use Rattle.graph.specs.Sound.{KeepsRules}
use Rattle.graph.specs.declared.net.Net.{Net}
use Rattle.tables.specs.declared.rule.TableRule.TheVariants as rule
use Rattle.plant.specs.declared.system.Plant.{Plant}
use Rattle.plant.specs.Lengths.{lengths_of}
use Rattle.mc_tree.specs.Instance.{is_state, width_of}
use Rattle.mc_tree.specs.declared.tree.Task.{Task}
use Rattle.project_source.specs.Project.{SourceProject, IsSourceProject}
use Rattle.project_source.specs.Run.{source_execution}
use Rattle.carries.specs.Carries.{Carries}
use Rattle.carries.specs.Planned.{IsPlannedFrom}
use Rattle.carries.proofs.Agreeing.{mapped, task_fits}
use Rattle.task_source.specs.Bound.{code_of, instructions_of}
use Rattle.word_code.specs.Execution.{exec}
use Rattle.word_code.specs.Typing.{IsVerified}
use Rattle.word_code.specs.declared.code.Code.{Code}
use Rattle.net_run.specs.Alike.{FitsTask, AreStates}
use Rattle.net_run.specs.NetRun.{Skipped, Execution, CycleRun, one_cycle, first_states}
use Rattle.net_run.proofs.Agreeing.{cycles_agree, states_fit_hold, first_states_fit_hold}
use Rattle.plant_run.specs.PlantRun.{Cost, plant_cost, plant_execution}
use Rattle.cluster_agreement.specs.Agreement.{IsSet}
use Rattle.cluster_model.specs.State.{told}
use Rattle.cluster_plan.proofs.Numbers.{ends_after}
use Rattle.run_texts.specs.Along.{along_net, setting_of}
use Rattle.run_texts.specs.RunText.{RunEnding, Lost, Broken, lost_text, broken_text, some_broke, outs_text, cycles_from, ending_from, cycles_text, run_ending}
use Rattle.run_texts.specs.Setting.{Setting, some_lost}
use Rattle.run_agreement.specs.Agreement.{AreLines}
use Rattle.run_agreement.proofs.Whole.{run_agreement}
use Rattle.run_meaning.specs.Meaning.{along_source, AreInTime, ShowsSource, RunMeaning}

module _ (at : Setting) (net : Net) (g : JobGraph) (words : List ℕ) (f h : Execution) (one two : Cost) (rules : KeepsRules net)
    (fit : (task : ℕ) → task < length net.tasks → FitsTask net words f h task) where
  -- the text of a cycle and what follows, by what the cycle came to
  abbrev goes : (cycle : ℕ) → (rest : List (List ℤ) → List ℕ) → CycleRun → List ℕ
  goes cycle rest c =
      cond (some_lost at cycle) (lost_text at cycle)
      (cond (some_broke at cycle (λ job. told (get_or c.results job Skipped))) (broken_text at cycle (λ job. told (get_or c.results job Skipped)))
      (outs_text at cycle (λ job. told (get_or c.results job Skipped)) ++ rest c.states))

  abbrev ends : (cycle : ℕ) → (rest : List (List ℤ) → RunEnding) → CycleRun → RunEnding
  ends cycle rest c = cond (some_lost at cycle) Lost (cond (some_broke at cycle (λ job. told (get_or c.results job Skipped))) Broken (rest c.states))

  pub same_from : (lines : Lines) (cycle : ℕ) (states : List (List ℤ)) → AreStates net words states → AreLines net g.cycle lines
      → (cycles_from at (along_net net g words f one) cycle states lines ≡ cycles_from at (along_net net g words h two) cycle states lines)
      × (ending_from at (along_net net g words f one) cycle states lines ≡ ending_from at (along_net net g words h two) cycle states lines)
  same_from End cycle states are fits = (refl, refl)
  same_from (Bad n) cycle states are fits = (refl, refl)
  same_from (Line line rest) cycle states are fits =
      let c : one_cycle net g.cycle f states line ≡ one_cycle net g.cycle h states line = cycles_agree net g.cycle words f h rules fit line fits.0 states are in
      let next = states_fit_hold net g.cycle words f h rules fit states are line fits.0 in
      let go = same_from rest (suc cycle) (one_cycle net g.cycle f states line).states next fits.1 in (
        ap (λ x. cond (some_lost at cycle) (lost_text at cycle)
            (cond (some_broke at cycle (λ job. told (get_or (one_cycle net g.cycle f states line).results job Skipped))) (broken_text at cycle (λ job. told (get_or (one_cycle net g.cycle f states line).results job Skipped)))
            (outs_text at cycle (λ job. told (get_or (one_cycle net g.cycle f states line).results job Skipped)) ++ x))) go.0
            ∙ ap (goes cycle (λ st. cycles_from at (along_net net g words h two) (suc cycle) st rest)) c,
        ap (λ x. cond (some_lost at cycle) Lost (cond (some_broke at cycle (λ job. told (get_or (one_cycle net g.cycle f states line).results job Skipped))) Broken x)) go.1
            ∙ ap (ends cycle (λ st. ending_from at (along_net net g words h two) (suc cycle) st rest)) c,
      )

typed_at : (codes : List Code) (k : ℕ) (code : Code) → All IsVerified codes → slice_get codes k ≡ Some code → IsVerified code
typed_at [] k code h e = absurd (cc)
typed_at (first ∷ codes) zero code h e = subst IsVerified (let z : Some first ≡ Some code = e in one z) (All-head IsVerified first codes h)
  where
    one : Some first ≡ Some code → first ≡ code
    one z = cc
typed_at (first ∷ codes) (suc k) code h e = typed_at codes k code (All-tail IsVerified first codes h) e

module _ (plant : Plant Code) (s : SourceProject) (is : IsSourceProject s) (c : Carries plant s) where
  -- a code that meets the rules is short
  short : (task : ℕ) (t : Task) → slice_get s.tasks task ≡ Some t → instructions_of t ≤ 65535
  short task t e = (typed_at plant.programs task (code_of t) c.typed (ap (λ codes. slice_get codes task) c.codes ∙ mapped code_of s.tasks task t e)).whole.most

  planned : IsPlannedFrom s plant
  planned = record { net = c.net; codes = c.codes; short = short; bounds = c.bounds; states = c.states; graph = c.graph; tables = c.tables }

  pub graph_is : IsNetGraph plant.net plant.graph
  graph_is = record { lengths = lengths_of plant.maxts plant.net.shape.cycles_per_tick; is = c.graph }

  in_time : (silences : List Silence) → AreInTime plant.graph (setting_of plant silences).ends
  in_time silences job low = (
    omega (arith, c.tables rule.Releases job low, ends_after plant.net plant.graph graph_is plant.tables c.tables job low),
    omega (arith, c.tables rule.Deadlines job low),
  )

  tasks_are : length plant.net.tasks ≡ length s.net.tasks
  tasks_are = ap (λ (n : Net). length n.tasks) c.net

  pub count : length plant.states ≡ length plant.net.tasks
  count = ap (λ (ws : List ℕ). length ws) c.states ∙ length-map s.tasks (λ (t : Task). width_of is_state t.cells) ∙ is.count ∙ sym tasks_are

  pub fits_source : (task : ℕ) → task < length plant.net.tasks → FitsTask plant.net plant.states (plant_execution exec plant) (source_execution s.tasks) task
  fits_source task low =
      subst (λ (n : Net). FitsTask n plant.states (plant_execution exec plant) (source_execution s.tasks) task) (sym c.net)
      (subst (λ ws. FitsTask s.net ws (plant_execution exec plant) (source_execution s.tasks) task) (sym c.states) (task_fits plant s is planned task (omega (arith, low, tasks_are))))

  fits_plant : (task : ℕ) → task < length plant.net.tasks → FitsTask plant.net plant.states (plant_execution exec plant) (plant_execution exec plant) task
  fits_plant task low = record { same = λ state ins a b. refl; left = (fits_source task low).left }

  pub set : IsSet plant.net plant.graph plant.tables plant.states (plant_execution exec plant)
  set = record { graph = graph_is; tables = c.tables; count = count; fits = fits_plant }

  abbrev here : List Silence → Setting
  here silences = setting_of plant silences

  same : (silences : List Silence) (lines : Lines) → AreLines plant.net plant.graph.cycle lines
      → (cycles_text (here silences) (along_net plant.net plant.graph plant.states (plant_execution exec plant) (plant_cost exec plant)) lines
      ≡ cycles_text (here silences) (along_net plant.net plant.graph plant.states (source_execution s.tasks) (plant_cost exec plant)) lines)
      × (run_ending (here silences) (along_net plant.net plant.graph plant.states (plant_execution exec plant) (plant_cost exec plant)) lines
      ≡ run_ending (here silences) (along_net plant.net plant.graph plant.states (source_execution s.tasks) (plant_cost exec plant)) lines)
  same silences lines fits =
      same_from (here silences) plant.net plant.graph plant.states (plant_execution exec plant) (source_execution s.tasks) (plant_cost exec plant) (plant_cost exec plant) c.graph.rules fits_source
      lines 0 (first_states plant.states) (first_states_fit_hold plant.net plant.states count) fits

  text : (silences : List Silence) (lines : Lines) → AreLines plant.net plant.graph.cycle lines
      → cycles_text (here silences) (along_net plant.net plant.graph plant.states (plant_execution exec plant) (plant_cost exec plant)) lines
      ≡ cycles_text (here silences) (along_source s plant.graph (plant_cost exec plant)) lines
  text silences lines fits =
      (same silences lines fits).0
      ∙ ap (λ (n : Net). cycles_text (here silences) (along_net n plant.graph plant.states (source_execution s.tasks) (plant_cost exec plant)) lines) c.net
      ∙ ap (λ ws. cycles_text (here silences) (along_net s.net plant.graph ws (source_execution s.tasks) (plant_cost exec plant)) lines) c.states

  ending : (silences : List Silence) (lines : Lines) → AreLines plant.net plant.graph.cycle lines
      → run_ending (here silences) (along_net plant.net plant.graph plant.states (plant_execution exec plant) (plant_cost exec plant)) lines
      ≡ run_ending (here silences) (along_source s plant.graph (plant_cost exec plant)) lines
  ending silences lines fits =
      (same silences lines fits).1
      ∙ ap (λ (n : Net). run_ending (here silences) (along_net n plant.graph plant.states (source_execution s.tasks) (plant_cost exec plant)) lines) c.net
      ∙ ap (λ ws. run_ending (here silences) (along_net s.net plant.graph ws (source_execution s.tasks) (plant_cost exec plant)) lines) c.states

  pub shows_source : ShowsSource plant s
  shows_source = record {
    plant_text = text;
    plant_ending = ending;
    cluster_text = λ silences paces lines fits.
        (run_agreement plant.net plant.graph plant.tables plant.states plant.maxts (plant_execution exec plant) (plant_cost exec plant) silences paces set lines fits).0 ∙ text silences lines fits;
    cluster_ending = λ silences paces lines fits.
        (run_agreement plant.net plant.graph plant.tables plant.states plant.maxts (plant_execution exec plant) (plant_cost exec plant) silences paces set lines fits).1 ∙ ending silences lines fits;
    in_time = in_time;
  }

pub run_meaning : RunMeaning
run_meaning plant s is c = shows_source plant s is c
