-- A plant of whole parts carries its source project, and is in order.
use Rattle.std.proofs.Common.{◌≡◌, ◌≤◌, ℕ, zero, suc, List, [], ◌∷◌, length, map, Some, refl, sym, ap, ◌∙◌, subst, arith}
use Rattle.std.specs.Prelude.{All, slice_get, slice_index}
use Rattle.std.proofs.lemmas.List.{length-map}
use Rattle.carries.specs.Carries.{Carries}
use Rattle.carries.specs.Planned.{IsPlannedFrom}
use Rattle.carries.proofs.Agreeing.{mapped, carrying_holds}
use Rattle.graph.specs.JobGraph.{JobGraph}
use Rattle.graph.specs.Sound.{IsSound}
use Rattle.graph.specs.declared.net.Net.{Net}
use Rattle.graph.specs.declared.net.NetTask.{NetTask}
use Rattle.mc_tree.specs.CheckedTask.{IsCheckedTask}
use Rattle.mc_tree.specs.Instance.{is_in, is_out, is_state, width_of}
use Rattle.mc_tree.specs.declared.tree.Task.{Task}
use Rattle.project_source.specs.Project.{IsSourceProject, widths_of}
use Rattle.tables.specs.declared.table.Tables.{Tables}
use Rattle.task_source.specs.Bound.{code_of, instructions_of, IsBound}
use Rattle.task_source.specs.Built.{Built}
use Rattle.project_plant.specs.Planned.{task_in, maxt_in, plant_in, source_of, IsRunnable, IsWhole}

-- a list of what is seen of what is seen
twice : {A B C : Type 0} (f : A → B) (g : B → C) (xs : List A) → map (λ x. g (f x)) xs ≡ map g (map f xs)
twice f g [] = refl
twice f g (x ∷ xs) = ap (λ ys. g (f x) ∷ ys) (twice f g xs)

-- what is seen alike at each place is alike at a place
same_at : {A B C : Type 0} (f : A → C) (g : B → C) (xs : List A) (ys : List B) (k : ℕ) (x : A) (y : B) → map f xs ≡ map g ys → slice_get xs k ≡ Some x → slice_get ys k ≡ Some y → f x ≡ g y
same_at f g xs ys k x y same one two =
    let left = mapped f xs k x one in
    let right = mapped g ys k y two in
    let both = ap (λ zs. slice_get zs k) same in cc

-- the tasks of runnable tasks are checked
checked_tasks : (bs : List Built) → All IsRunnable bs → All IsCheckedTask (map task_in bs)
checked_tasks [] all k d lt = absurd (let x : ⊥ = omega arith in x)
checked_tasks (b ∷ bs) all zero d lt = (all 0 b (omega arith)).checked
checked_tasks (b ∷ bs) all (suc k) d lt = checked_tasks bs (λ i e le. all (suc i) e (omega (arith, le))) k d (omega arith)

-- each has a short code
short_tasks : (bs : List Built) → All IsRunnable bs → (k : ℕ) (t : Task) → slice_get (map task_in bs) k ≡ Some t → instructions_of t ≤ 65535
short_tasks [] all k t is = absurd (cc)
short_tasks (b ∷ bs) all zero t is = (let e : b.task ≡ t = cc in subst (λ (u : Task). instructions_of u ≤ 65535) e (all 0 b (omega arith)).fits)
short_tasks (b ∷ bs) all (suc k) t is = short_tasks bs (λ i e le. all (suc i) e (omega (arith, le))) k t is

-- and its bound
bound_tasks : (bs : List Built) → All IsRunnable bs → (k : ℕ) (t : Task) → slice_get (map task_in bs) k ≡ Some t → IsBound t (slice_index (map maxt_in bs) k)
bound_tasks [] all k t is = absurd (cc)
bound_tasks (b ∷ bs) all zero t is = (let e : b.task ≡ t = cc in subst (λ (u : Task). IsBound u b.maxt) e (all 0 b (omega arith)).bound)
bound_tasks (b ∷ bs) all (suc k) t is = bound_tasks bs (λ i e le. all (suc i) e (omega (arith, le))) k t is

module _ (net : Net) (graph : JobGraph) (tables : Tables) (built : List Built) (whole : IsWhole net graph tables built) where
  -- the net is sound: it has a graph
  pub whole_sound : IsSound net
  whole_sound = record { rules = whole.is_graph.rules; cycle = graph.cycle; limits = whole.is_graph.graph.limits }

  -- the parts are a source project's
  pub whole_source : IsSourceProject (source_of net built)
  whole_source = record {
    sound = whole_sound;
    count = sym (length-map (map task_in built) (widths_of is_in)) ∙ (ap length (sym whole.ins) ∙ length-map net.tasks (λ (t : NetTask). t.ins));
    checked = checked_tasks built whole.runnable;
    ports = λ task entry t one two. record {
      ins = same_at (λ (n : NetTask). n.ins) (widths_of is_in) net.tasks (map task_in built) task entry t whole.ins one two;
      outs = same_at (λ (n : NetTask). n.outs) (widths_of is_out) net.tasks (map task_in built) task entry t whole.outs one two;
    };
  }

  -- the plant is planned from it
  pub whole_planned : IsPlannedFrom (source_of net built) (plant_in net graph tables built)
  whole_planned = record {
    net = refl;
    codes = twice task_in code_of built;
    short = short_tasks built whole.runnable;
    bounds = record { count = length-map built maxt_in ∙ sym (length-map built task_in); each = bound_tasks built whole.runnable };
    states = twice task_in (λ (t : Task). width_of is_state t.cells) built;
    graph = whole.is_graph;
    tables = whole.are_valid;
  }

  -- so it carries the project
  pub whole_carries : Carries (plant_in net graph tables built) (source_of net built)
  whole_carries = carrying_holds (source_of net built) (plant_in net graph tables built) whole_source whole_planned
