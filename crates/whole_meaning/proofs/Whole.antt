-- The whole text of a plant's run is the source's.
use Rattle.std.proofs.Common.{◌≡◌, ℕ, zero, suc, ◌+◌, ◌<◌, ◌≤◌, List, ◌++◌, length, ℤ, Option, Some, None, refl, sym, ◌∙◌, ap, subst, arith}
use Rattle.std.specs.Prelude.{slice_get, slice_index, sum}
use Rattle.std.specs.List.{range_with_len, flat_map}
use Rattle.lines.specs.Lines.{Lines}
use Rattle.script.specs.declared.script.Silence.{Silence}
use Rattle.graph.specs.Net.{ins_of}
use Rattle.graph.specs.declared.net.Net.{Net}
use Rattle.mc_tree.specs.declared.tree.Task.{Task}
use Rattle.net_run.specs.Alike.{HasWords}
use Rattle.net_run.specs.NetRun.{first_states}
use Rattle.net_run.proofs.Agreeing.{first_states_fit_hold}
use Rattle.plant.specs.declared.system.Plant.{Plant}
use Rattle.processor.specs.Ends.{Halted, Broken as Breaks, Over, Cut, cycles_in, end_under}
use Rattle.processor.specs.Results.{Results, Ran}
use Rattle.project_source.specs.Project.{SourceProject, IsSourceProject}
use Rattle.project_source.specs.Run.{source_execution}
use Rattle.carries.specs.Carries.{Carries}
use Rattle.carries.proofs.Agreeing.{mapped}
use Rattle.task_source.specs.Bound.{code_of}
use Rattle.word_code.specs.Execution.{exec}
use Rattle.word_code.specs.declared.code.Code.{Code}
use Rattle.word_code.proofs.CodeLaws.{ran_within}
use Rattle.plant_run.specs.PlantRun.{end_at, cycles_at, plant_execution, plant_cost}
use Rattle.run_texts.specs.Along.{along_net, setting_of}
use Rattle.run_texts.specs.Lines.{task_line}
use Rattle.run_texts.specs.RunText.{RunEnding, Finished, BadLine, Lost, Broken, closed, seen_in, cycles_text, run_ending, run_text, Going}
use Rattle.run_texts.specs.Setting.{Setting, name_of_task}
use Rattle.run_agreement.specs.Agreement.{AreLines}
use Rattle.run_meaning.specs.Meaning.{along_source}
use Rattle.run_meaning.proofs.Whole.{graph_is, count, fits_source, set, shows_source}
use Rattle.seen_cycles.proofs.Whole.{whole_texts}
use Rattle.whole_meaning.specs.Whole.{EndsWithin, ShowsWhole, WholeMeaning}
use Rattle.whole_meaning.proofs.Seen.{same_seen, seen_within}

flat_same : (f h : ℕ → List ℕ) (a n : ℕ) → ((j : ℕ) → a ≤ j → j < a + n → f j ≡ h j) → flat_map f (range_with_len a n) ≡ flat_map h (range_with_len a n)
flat_same f h a zero q = refl
flat_same f h a (suc n) q =
    ap (λ x. x ++ flat_map f (range_with_len (a + 1) n)) (q a (omega arith) (omega arith))
    ∙ ap (λ x. h a ++ x) (flat_same f h (a + 1) n (λ j low high. q j (omega (arith, low)) (omega (arith, high))))

closed_same : (s : Setting) (ending : RunEnding) (one two : ℕ → ℕ) → ((task : ℕ) → task < length s.net.tasks → one task ≡ two task) → closed s ending one ≡ closed s ending two
closed_same s Finished one two h =
    flat_same (λ task. task_line (name_of_task s task) (slice_index s.maxts task) (one task)) (λ task. task_line (name_of_task s task) (slice_index s.maxts task) (two task)) 0 (length s.net.tasks)
    (λ task low high. ap (task_line (name_of_task s task) (slice_index s.maxts task)) (h task (omega (arith, high))))
closed_same s (BadLine n) one two h = refl
closed_same s Lost one two h = refl
closed_same s Broken one two h = refl

-- runs with one text of their cycles, one end and one number for each task have one text
whole_same : {S T : Type 0} (s : Setting) (one : Going S) (two : Going T) (lines : Lines) → cycles_text s one lines ≡ cycles_text s two lines → run_ending s one lines ≡ run_ending s two lines
    → ((task : ℕ) → task < length s.net.tasks → seen_in s one lines task ≡ seen_in s two lines task) → run_text s one lines ≡ run_text s two lines
whole_same s one two lines a b c =
    ap (λ text. text ++ closed s (run_ending s one lines) (seen_in s one lines)) a
    ∙ ap (λ ending. cycles_text s two lines ++ closed s ending (seen_in s one lines)) b
    ∙ ap (λ text. cycles_text s two lines ++ text) (closed_same s (run_ending s two lines) (seen_in s one lines) (seen_in s two lines) c)

cost_within : (program : Option Code) (maxt : ℕ) (state ins : List ℤ) → cycles_at exec program maxt state ins ≤ maxt
cost_within None maxt state ins = omega arith
cost_within (Some code) maxt state ins = ran_within code state ins maxt

-- an execution that halts for those who wait no longer was over
was_over : (r : Ran) (results : Results) → end_under r ≡ Halted results → r ≡ Over (Halted results) (cycles_in r)
was_over (Over how cycles) results e = ap (λ h. Over h cycles) e
was_over (Cut cycles) results e = absurd (let z : Breaks ≡ Halted results = e in cc)

module _ (plant : Plant Code) (s : SourceProject) (is : IsSourceProject s) (c : Carries plant s) where
  seen_is : (silences : List Silence) (lines : Lines) → AreLines plant.net plant.graph.cycle lines → (task : ℕ) → task < length plant.net.tasks
      → seen_in (setting_of plant silences) (along_net plant.net plant.graph plant.states (plant_execution exec plant) (plant_cost exec plant)) lines task
      ≡ seen_in (setting_of plant silences) (along_source s plant.graph (plant_cost exec plant)) lines task
  seen_is silences lines fits task low =
      same_seen plant.net plant.graph (graph_is plant s is c) plant.states (plant_execution exec plant) (source_execution s.tasks) (plant_cost exec plant) (fits_source plant s is c)
      (setting_of plant silences).ends plant.maxts silences lines (first_states plant.states) (first_states_fit_hold plant.net plant.states (count plant s is c)) fits (λ k. 0) (λ k. 0) (λ k b. refl) task low
      ∙ ap (λ (n : Net). seen_in (setting_of plant silences) (along_net n plant.graph plant.states (source_execution s.tasks) (plant_cost exec plant)) lines task) c.net
      ∙ ap (λ ws. seen_in (setting_of plant silences) (along_net s.net plant.graph ws (source_execution s.tasks) (plant_cost exec plant)) lines task) c.states

  plant_whole : (silences : List Silence) (lines : Lines) → AreLines plant.net plant.graph.cycle lines
      → run_text (setting_of plant silences) (along_net plant.net plant.graph plant.states (plant_execution exec plant) (plant_cost exec plant)) lines
      ≡ run_text (setting_of plant silences) (along_source s plant.graph (plant_cost exec plant)) lines
  plant_whole silences lines fits =
      let shows = shows_source plant s is c in
      whole_same (setting_of plant silences) (along_net plant.net plant.graph plant.states (plant_execution exec plant) (plant_cost exec plant)) (along_source s plant.graph (plant_cost exec plant)) lines
      (shows.plant_text silences lines fits) (shows.plant_ending silences lines fits) (seen_is silences lines fits)

  within : (silences : List Silence) (lines : Lines) (task : ℕ) → task < length plant.net.tasks
      → seen_in (setting_of plant silences) (along_source s plant.graph (plant_cost exec plant)) lines task ≤ slice_index plant.maxts task
  within silences lines task low =
      subst (λ k. k ≤ slice_index plant.maxts task)
      (ap (λ (n : Net). seen_in (setting_of plant silences) (along_net n plant.graph plant.states (source_execution s.tasks) (plant_cost exec plant)) lines task) c.net
      ∙ ap (λ ws. seen_in (setting_of plant silences) (along_net s.net plant.graph ws (source_execution s.tasks) (plant_cost exec plant)) lines task) c.states)
      (seen_within plant.net plant.graph (graph_is plant s is c) plant.states (source_execution s.tasks) (plant_cost exec plant) (slice_index plant.maxts)
      (λ k state ins. cost_within (slice_get plant.programs k) (slice_index plant.maxts k) state ins) (setting_of plant silences).ends plant.maxts silences lines (first_states plant.states) (λ k. 0) (λ k b. omega arith) task low)

  never_cut : (task : ℕ) (t : Task) (state ins left outs : List ℤ) → slice_get s.tasks task ≡ Some t → task < length plant.net.tasks
      → HasWords (slice_index plant.states task) state → HasWords (sum (ins_of plant.net task)) ins
      → source_execution s.tasks task state ins ≡ Halted (left, outs) → EndsWithin t (slice_index plant.maxts task) state ins left outs
  never_cut task t state ins left outs at low a b e =
      let maxt = slice_index plant.maxts task in
      let program : slice_get plant.programs task ≡ Some (code_of t) = ap (λ codes. slice_get codes task) c.codes ∙ mapped code_of s.tasks task t at in
      let same : end_under (exec (code_of t) maxt state ins) ≡ Halted (left, outs) =
      ap (λ o. end_at exec o maxt state ins) (sym program) ∙ (fits_source plant s is c task low).same state ins a b ∙ e in
      record {
        cycles = cycles_in (exec (code_of t) maxt state ins);
        ends = was_over (exec (code_of t) maxt state ins) (left, outs) same;
        within = ran_within (code_of t) state ins maxt;
      }

  pub shows_whole : ShowsWhole plant s
  shows_whole = record {
    plant_whole = plant_whole;
    cluster_whole = λ silences paces lines fits.
        whole_texts plant.net plant.graph plant.tables plant.states plant.maxts (plant_execution exec plant) (plant_cost exec plant) silences paces (set plant s is c) lines fits ∙ plant_whole silences lines fits;
    within = within;
    never_cut = never_cut;
  }

pub whole_meaning : WholeMeaning
whole_meaning plant s is c = shows_whole plant s is c
