-- The whole text of a cluster's run says what its source project means.
use Rattle.std.proofs.Common.{◌≡◌, ℕ, ◌+◌, ◌<◌, ◌≤◌, List, [], ◌∷◌, length, ℤ, Bool, true, false, cond, nat_eq, nat_le, Option, Some, None, refl, sym, ◌∙◌, ap, subst}
use Rattle.std.specs.Prelude.{slice_get, slice_index, sum}
use Rattle.std.proofs.lemmas.Bool.{eqb-true}
use Rattle.lines.specs.Grammar.{◌>>=◌, parts, words_in, of_width, words_of}
use Rattle.lines.specs.Lines.{RawLine, lines_in, text_of, line_words, Lines, Bad, Line, onto_lines, lines_from, lines_of}
use Rattle.lines.proofs.Fits.{words_fit}
use Rattle.script.specs.declared.script.Silence.{Silence}
use Rattle.graph.specs.Cycle.{sensor_words}
use Rattle.graph.specs.Net.{ins_of}
use Rattle.graph.specs.NetGraph.{IsNetGraphFor}
use Rattle.graph.specs.declared.net.Net.{Net}
use Rattle.net_run.specs.Alike.{HasWords}
use Rattle.plant.specs.Lengths.{lengths_of}
use Rattle.plant.specs.declared.system.Plant.{Plant}
use Rattle.plant_run.specs.PlantRun.{cycles_at, plant_cost}
use Rattle.project_source.specs.Project.{SourceProject}
use Rattle.carries.specs.Carries.{Carries}
use Rattle.word_code.specs.Execution.{exec}
use Rattle.word_code.specs.declared.code.Code.{Code}
use Rattle.run_texts.specs.Along.{setting_of}
use Rattle.run_texts.specs.RunText.{run_text, seen_in}
use Rattle.run_agreement.specs.Agreement.{AreLines}
use Rattle.run_meaning.specs.Meaning.{along_source}
use Rattle.run_meaning.proofs.Whole.{shows_source}
use Rattle.whole_meaning.proofs.Whole.{whole_meaning}
use Rattle.went.specs.Went.{source_cost, WentAsMeant}

some_count : (width : ℕ) (o : Option (List ℤ)) (ws : List ℤ) → (o >>= of_width width) ≡ Some ws → length ws ≡ width
some_count width None ws e = absurd (let z : None ≡ Some ws = e in cc)
some_count width (Some vs) ws e = by (nat_eq (length vs) width) refl e
  where
    by : (t : Bool) → nat_eq (length vs) width ≡ t → cond t (Some vs) None ≡ Some ws → length ws ≡ width
    by true q e = let same : vs ≡ ws = cc in ap length (sym same) ∙ eqb-true (length vs) width q
    by false q e = absurd (let z : None ≡ Some ws = e in cc)

words_have : (width : ℕ) (text : List ℕ) (ws : List ℤ) → words_of width text ≡ Some ws → HasWords width ws
words_have width text ws e = record { count_is = some_count width (words_in (parts text)) ws e; are_words = words_fit width text ws e }

line_has : (width : ℕ) (line : RawLine) (ws : List ℤ) → line_words width line ≡ Some ws → HasWords width ws
line_has width line ws = by (nat_le (length line.bytes) 65536)
  where
    by : (t : Bool) → cond t (words_of width (text_of line)) None ≡ Some ws → HasWords width ws
    by true e = words_have width (text_of line) ws e
    by false e = absurd (let z : None ≡ Some ws = e in cc)

-- the well-formed lines of an input have the sensor words of a cycle
module _ (net : Net) (cycle : ℕ) where
  onto : (n : ℕ) (o : Option (List ℤ)) (rest : Lines) → ((ws : List ℤ) → o ≡ Some ws → HasWords (sensor_words net cycle) ws) → AreLines net cycle rest → AreLines net cycle (onto_lines n o rest)
  onto n None rest a b = tt
  onto n (Some ws) rest a b = elim (nat_le n 1000000) as (λ t. AreLines net cycle (cond t (Line ws rest) (Bad n))) [ true ↦ (a ws refl, b) | false ↦ tt ]

  are_from : (n : ℕ) (raws : List RawLine) → AreLines net cycle (lines_from n (sensor_words net cycle) raws)
  are_from n [] = tt
  are_from n (line ∷ raws) = onto n (line_words (sensor_words net cycle) line) (lines_from (n + 1) (sensor_words net cycle) raws) (line_has (sensor_words net cycle) line) (are_from (n + 1) raws)

  pub are_lines : (input : List ℕ) → AreLines net cycle (lines_of (sensor_words net cycle) input)
  are_lines input = are_from 1 (lines_in input)

module _ (plant : Plant Code) (s : SourceProject) (c : Carries plant s) (silences : List Silence) (input : List ℕ) where
  text_same : run_text (setting_of plant silences) (along_source s plant.graph (plant_cost exec plant)) (lines_of (sensor_words plant.net plant.graph.cycle) input)
      ≡ run_text (record { net = s.net; graph = plant.graph; ends = (setting_of plant silences).ends; maxts = plant.maxts; silences = silences })
      (along_source s plant.graph (source_cost s.tasks plant.maxts)) (lines_of (sensor_words s.net plant.graph.cycle) input)
  text_same =
      ap (λ (n : Net). run_text (record { net = n; graph = plant.graph; ends = (setting_of plant silences).ends; maxts = plant.maxts; silences = silences })
      (along_source s plant.graph (plant_cost exec plant)) (lines_of (sensor_words n plant.graph.cycle) input)) c.net
      ∙ ap (λ codes. run_text (record { net = s.net; graph = plant.graph; ends = (setting_of plant silences).ends; maxts = plant.maxts; silences = silences })
      (along_source s plant.graph (λ task state ins. cycles_at exec (slice_get codes task) (slice_index plant.maxts task) state ins)) (lines_of (sensor_words s.net plant.graph.cycle) input)) c.codes

  seen_same : (task : ℕ) → seen_in (setting_of plant silences) (along_source s plant.graph (plant_cost exec plant)) (lines_of (sensor_words plant.net plant.graph.cycle) input) task
      ≡ seen_in (record { net = s.net; graph = plant.graph; ends = (setting_of plant silences).ends; maxts = plant.maxts; silences = silences })
      (along_source s plant.graph (source_cost s.tasks plant.maxts)) (lines_of (sensor_words s.net plant.graph.cycle) input) task
  seen_same task =
      ap (λ (n : Net). seen_in (record { net = n; graph = plant.graph; ends = (setting_of plant silences).ends; maxts = plant.maxts; silences = silences })
      (along_source s plant.graph (plant_cost exec plant)) (lines_of (sensor_words n plant.graph.cycle) input) task) c.net
      ∙ ap (λ codes. seen_in (record { net = s.net; graph = plant.graph; ends = (setting_of plant silences).ends; maxts = plant.maxts; silences = silences })
      (along_source s plant.graph (λ task state ins. cycles_at exec (slice_get codes task) (slice_index plant.maxts task) state ins)) (lines_of (sensor_words s.net plant.graph.cycle) input) task) c.codes

pub went_as_meant : WentAsMeant
went_as_meant plant s is c silences paces input =
    let shows = whole_meaning plant s is c in
    let lines = lines_of (sensor_words plant.net plant.graph.cycle) input in
    record {
      bounds = plant.maxts;
      are_bounds = c.bounds;
      graph = plant.graph;
      is_graph = subst (λ (n : Net). IsNetGraphFor n (lengths_of plant.maxts n.shape.cycles_per_tick) plant.graph) c.net c.graph;
      ends = (setting_of plant silences).ends;
      in_time = (shows_source plant s is c).in_time silences;
      text_is = shows.cluster_whole silences paces lines (are_lines plant.net plant.graph.cycle input) ∙ text_same plant s c silences input;
      within = λ task low.
          subst (λ k. k ≤ slice_index plant.maxts task) (seen_same plant s c silences input task)
          (shows.within silences lines task (subst (λ (n : Net). task < length n.tasks) (sym c.net) low));
      never_cut = λ task t state ins left outs at low a b e.
          shows.never_cut task t state ins left outs at (subst (λ (n : Net). task < length n.tasks) (sym c.net) low) (subst (λ ws. HasWords (slice_index ws task) state) (sym c.states) a)
          (subst (λ (n : Net). HasWords (sum (ins_of n task)) ins) (sym c.net) b) e;
    }
