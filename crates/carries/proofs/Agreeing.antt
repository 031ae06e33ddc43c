-- A plant that is planned from a source project carries it.
use Rattle.std.proofs.Common.{◌≡◌, ◌+◌, ◌<◌, ◌≤◌, ℕ, zero, suc, ℤ, List, [], ◌∷◌, length, map, Option, None, Some, refl, sym, ap, ◌∙◌, subst, arith}
use Rattle.std.specs.Prelude.{All, slice_get, slice_index, sum}
use Rattle.std.proofs.lemmas.List.{length-map}
use Rattle.graph.specs.Net.{task_ins, task_outs, ins_of, outs_of}
use Rattle.graph.specs.NetGraph.{IsNetGraphFor}
use Rattle.graph.specs.declared.net.Net.{Net}
use Rattle.graph.specs.declared.net.NetTask.{NetTask}
use Rattle.mc_tree.specs.CheckedTask.{IsCheckedTask}
use Rattle.mc_compile.specs.Correct.{AreGiven}
use Rattle.mc_tree.specs.Instance.{Outcome, Gives, Breaks, is_in, is_out, is_state, width_of, instance_of}
use Rattle.mc_tree.specs.Plain.{plain_task}
use Rattle.mc_tree.specs.declared.tree.Task.{Task}
use Rattle.net_run.specs.Alike.{HasWords, FitsTask, IsLine}
use Rattle.net_run.specs.NetRun.{Execution, run_of, first_states}
use Rattle.net_run.proofs.Agreeing.{agreeing_runs_hold, first_states_fit_hold}
use Rattle.plant.specs.Lengths.{lengths_of}
use Rattle.plant.specs.declared.system.Plant.{Plant}
use Rattle.plant_run.specs.PlantRun.{end_at, plant_execution, plant_run}
use Rattle.processor.specs.Ends.{End, Halted, Broken, end_under}
use Rattle.processor.specs.Results.{Results}
use Rattle.project_source.specs.Project.{SourceProject, IsSourceProject, HasPortsOf, widths_of}
use Rattle.project_source.specs.Run.{end_of, instance_at, source_execution, source_run, state_words}
use Rattle.tables.specs.Valid.{AreValid}
use Rattle.task_source.specs.Bound.{code_of, instructions_of, IsBound}
use Rattle.word_code.specs.Execution.{exec}
use Rattle.word_code.specs.Typing.{IsVerified}
use Rattle.word_code.specs.declared.code.Code.{Code}
use Rattle.carries.specs.Carries.{AreBounds, Carries}
use Rattle.carries.specs.Planned.{IsPlannedFrom}
use Rattle.carries.proofs.Fitting.{same_end, code_typed, code_follows, are_given, are_left}

-- what stands at a place of a list
pub found : {A : Type 0} (xs : List A) (k : ℕ) → k < length xs → (x : A) × (slice_get xs k ≡ Some x)
found [] k lt = absurd (let x : ⊥ = omega arith in x)
found (x ∷ xs) zero lt = (x, refl)
found (x ∷ xs) (suc k) lt = found xs k (omega arith)

-- and of its image
pub mapped : {A B : Type 0} (f : A → B) (xs : List A) (k : ℕ) (x : A) → slice_get xs k ≡ Some x → slice_get (map f xs) k ≡ Some (f x)
mapped f [] k x is = absurd (cc)
mapped f (y ∷ ys) zero x is = (let e : y ≡ x = cc in ap (λ z. Some (f z)) e)
mapped f (y ∷ ys) (suc k) x is = mapped f ys k x is

-- the state words of a task
words_at : (ts : List Task) (k : ℕ) (t : Task) → slice_get ts k ≡ Some t → slice_index (state_words ts) k ≡ width_of is_state t.cells
words_at [] k t is = absurd (cc)
words_at (u ∷ ts) zero t is = (let e : u ≡ t = cc in ap (λ (v : Task). width_of is_state v.cells) e)
words_at (u ∷ ts) (suc k) t is = words_at ts k t is

-- what holds of each item holds of the one at a place
checked_at : (ts : List Task) (k : ℕ) (t : Task) → All IsCheckedTask ts → slice_get ts k ≡ Some t → IsCheckedTask t
checked_at [] k t all is = absurd (cc)
checked_at (u ∷ ts) zero t all is = (let e : u ≡ t = cc in subst IsCheckedTask e (all 0 u (omega arith)))
checked_at (u ∷ ts) (suc k) t all is = checked_at ts k t (λ i d lt. all (suc i) d (omega (arith, lt))) is

-- the codes of checked tasks meet the typing rules
codes_typed : (ts : List Task) → All IsCheckedTask ts → ((k : ℕ) (t : Task) → slice_get ts k ≡ Some t → instructions_of t ≤ 65535) → All IsVerified (map code_of ts)
codes_typed [] checked short k d lt = absurd (let x : ⊥ = omega arith in x)
codes_typed (t ∷ ts) checked short zero d lt = code_typed t (checked 0 t (omega arith)) (short 0 t refl)
codes_typed (t ∷ ts) checked short (suc k) d lt = codes_typed ts (λ i e le. checked (suc i) e (omega (arith, le))) (λ i u is. short (suc i) u is) k d (omega arith)

-- what a run that halted left is one
halted_once : (p q : Results) → Halted p ≡ Halted q → p ≡ q
halted_once p q is = cc

-- an instance that ends so gives so
gives_so : (o : Outcome) (left outs : List ℤ) → end_of o ≡ Halted (left, outs) → o ≡ Gives left outs
gives_so (Gives a b) left outs is = ap (λ (p : Results). Gives p.0 p.1) (halted_once (a, b) (left, outs) is)
gives_so Breaks left outs is = absurd (cc)

-- the executions of a task's code and of its source agree on the words that fit it
pub task_fits : (plant : Plant Code) (s : SourceProject) → IsSourceProject s → IsPlannedFrom s plant → (task : ℕ) → task < length s.net.tasks
    → FitsTask s.net (state_words s.tasks) (plant_execution exec plant) (source_execution s.tasks) task
task_fits plant s source planned task below = record { same = same; left = left }
  where
    here : (t : Task) × (slice_get s.tasks task ≡ Some t)
    here = found s.tasks task (let e = source.count in omega (arith, below, e))

    t : Task
    t = here.0

    entry : (n : NetTask) × (slice_get s.net.tasks task ≡ Some n)
    entry = found s.net.tasks task below

    ports : HasPortsOf entry.0 t
    ports = source.ports task entry.0 t entry.1 here.1

    ins_are : ins_of s.net task ≡ widths_of is_in t
    ins_are = ap task_ins entry.1 ∙ ports.ins

    outs_are : outs_of s.net task ≡ widths_of is_out t
    outs_are = ap task_outs entry.1 ∙ ports.outs

    checked : IsCheckedTask t
    checked = checked_at s.tasks task t source.checked here.1

    maxt : ℕ
    maxt = slice_index plant.maxts task

    runs_as : (state ins : List ℤ) → plant_execution exec plant task state ins ≡ end_under (exec (code_of t) maxt state ins)
    runs_as state ins = ap (λ codes. end_at exec (slice_get codes task) maxt state ins) planned.codes ∙ ap (λ o. end_at exec o maxt state ins) (mapped code_of s.tasks task t here.1)

    means : (state ins : List ℤ) → source_execution s.tasks task state ins ≡ end_of (instance_of (plain_task t) state ins)
    means state ins = ap (λ o. instance_at o state ins) here.1

    given : (state ins : List ℤ) → HasWords (slice_index (state_words s.tasks) task) state → HasWords (sum (ins_of s.net task)) ins → AreGiven (plain_task t) state ins
    given state ins one two = are_given t state ins (subst (λ (n : ℕ). HasWords n state) (words_at s.tasks task t here.1) one) (subst (λ (ws : List ℕ). HasWords (sum ws) ins) ins_are two)

    agree : (state ins : List ℤ) → AreGiven (plain_task t) state ins → end_under (exec (code_of t) maxt state ins) ≡ end_of (instance_of (plain_task t) state ins)
    agree state ins g = same_end (instance_of (plain_task t) state ins) (exec (code_of t) maxt state ins) maxt (code_follows t maxt checked (planned.short task t here.1) (planned.bounds.each task t here.1) state ins g)

    same : (state ins : List ℤ) → HasWords (slice_index (state_words s.tasks) task) state → HasWords (sum (ins_of s.net task)) ins
        → plant_execution exec plant task state ins ≡ source_execution s.tasks task state ins
    same state ins one two = runs_as state ins ∙ (agree state ins (given state ins one two) ∙ sym (means state ins))

    left : (state ins left outs : List ℤ) → HasWords (slice_index (state_words s.tasks) task) state → HasWords (sum (ins_of s.net task)) ins
        → plant_execution exec plant task state ins ≡ Halted (left, outs) → HasWords (slice_index (state_words s.tasks) task) left × HasWords (sum (outs_of s.net task)) outs
    left state ins kept outs one two is =
        let g = given state ins one two in
        let gives = gives_so (instance_of (plain_task t) state ins) kept outs (sym (agree state ins g) ∙ (sym (runs_as state ins) ∙ is)) in
        let h = are_left t state ins kept outs checked g gives in
        (subst (λ (n : ℕ). HasWords n kept) (sym (words_at s.tasks task t here.1)) h.0, subst (λ (ws : List ℕ). HasWords (sum ws) outs) (sym outs_are) h.1)

-- so the plant carries the project
pub carrying_holds : (s : SourceProject) (plant : Plant Code) → IsSourceProject s → IsPlannedFrom s plant → Carries plant s
carrying_holds s plant source planned = record {
  net = planned.net;
  codes = planned.codes;
  bounds = planned.bounds;
  typed = subst (λ (codes : List Code). All IsVerified codes) (sym planned.codes) (codes_typed s.tasks source.checked planned.short);
  states = planned.states;
  graph = planned.graph;
  tables = planned.tables;
  runs = λ lines fits. agreed plant.net planned.net lines fits;
}
  where
    -- the run of the plant, on the net of the project
    agreed : (net : Net) → net ≡ s.net → (lines : List (List ℤ)) → All (IsLine net plant.graph.cycle) lines
        → run_of net plant.graph.cycle (plant_execution exec plant) (first_states plant.states) lines ≡ run_of s.net plant.graph.cycle (source_execution s.tasks) (first_states (state_words s.tasks)) lines
    agreed net is lines fits =
        ap (λ (n : Net). run_of n plant.graph.cycle (plant_execution exec plant) (first_states plant.states) lines) is
        ∙ (ap (λ (ws : List ℕ). run_of s.net plant.graph.cycle (plant_execution exec plant) (first_states ws) lines) planned.states
        ∙ agreeing_runs_hold s.net plant.graph.cycle (state_words s.tasks) (plant_execution exec plant) (source_execution s.tasks) source.sound.rules (task_fits plant s source planned)
        (first_states (state_words s.tasks)) (first_states_fit_hold s.net (state_words s.tasks) (length-map s.tasks (λ (t : Task). width_of is_state t.cells) ∙ source.count))
        lines (subst (λ (n : Net). All (IsLine n plant.graph.cycle) lines) is fits))
