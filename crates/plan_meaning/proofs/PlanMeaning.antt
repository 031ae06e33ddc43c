-- A planning that ended in its search came to what its source project means.
use Rattle.std.proofs.Common.{◌≡◌, ◌⊎◌, inl, inr, ℕ, List, map, Option, Some, Result, Ok, Err, refl, sym, ap, ◌∙◌, subst, arith}
use Rattle.std.specs.Io.KnownBytes.{append_known}
use Rattle.decisions.specs.ProblemOf.{problem_of}
use Rattle.decisions.specs.TablesOf.{tables_of}
use Rattle.graph.specs.JobGraph.{JobGraph}
use Rattle.graph.specs.declared.net.Net.{Net}
use Rattle.mars_base.specs.declared.file.File.{File}
use Rattle.net_tables.specs.Gives.{TablesGive}
use Rattle.net_tables.specs.Gives as gives
use Rattle.plan_command.specs.Plan.{planning, text_of}
use Rattle.plan_meaning.specs.PlanRan.{Ended, IsSearchStatus, PlanRan}
use Rattle.plan_meaning.specs.PlanRan as plan
use Rattle.planned_plant.specs.Plant.{plant_of}
use Rattle.plant.specs.declared.system.Plant.{Plant}
use Rattle.project_graph.specs.Graphed.{GraphedProject, graphed, bound_of_built}
use Rattle.project_graph.specs.Source.{IsSourceOf}
use Rattle.project_graph.proofs.GraphedFacts.{WasGraphed, refuses_graphed, was_graphed}
use Rattle.project_image.proofs.Within.{refuses_image}
use Rattle.project_image.specs.Gives.{ImageGives}
use Rattle.project_tables.specs.Planned.{PlannedProject, planned, tabled, with_tables}
use Rattle.refusals.specs.Causes.{Counts, Caused}
use Rattle.refusals.specs.Status.{status_of, status_of_result}
use Rattle.refusals.specs.declared.refusal.Refusal.{Refusal}
use Rattle.refusals.specs.declared.refusal.Refusal.TheVariants as refusal
use Rattle.stages.specs.Stage.{Does, Stage, giving, judging}
use Rattle.stages.specs.World.{Held}
use Rattle.stages.proofs.Gives.{both_gave, ok_once}
use Rattle.stages.proofs.Turns.{err_once, not_err}
use Rattle.tables.specs.declared.table.Tables.{Tables}
use Rattle.tables_text.specs.Text.{tables_text}
use Rattle.word_code.specs.declared.code.Code.{Code}

-- refusals that no search answers
abbrev NoSearch : Refusal → Type 0
NoSearch e = IsSearchStatus (status_of e) → ⊥

none_of : (status : ℕ) → (status ≡ 0 → ⊥) → (status ≡ 4 → ⊥) → (status ≡ 5 → ⊥) → IsSearchStatus status → ⊥
none_of status found spent none (inl is) = found is
none_of status found spent none (inr (inl is)) = spent is
none_of status found spent none (inr (inr is)) = none is

caused_no_search : (c d : Counts) (e : Refusal) → Caused c d e → NoSearch e
caused_no_search c d refusal.Memory caused = none_of 1 (λ e. omega (arith, e)) (λ e. omega (arith, e)) (λ e. omega (arith, e))
caused_no_search c d (refusal.ReadFault name) caused = none_of 6 (λ e. omega (arith, e)) (λ e. omega (arith, e)) (λ e. omega (arith, e))
caused_no_search c d (refusal.WriteFault name) caused = none_of 7 (λ e. omega (arith, e)) (λ e. omega (arith, e)) (λ e. omega (arith, e))
caused_no_search c d (refusal.TooLong name) caused = none_of 13 (λ e. omega (arith, e)) (λ e. omega (arith, e)) (λ e. omega (arith, e))
caused_no_search c d other caused = absurd caused

never_graphed : (project : List ℕ) (b n : Held) (e : Refusal) → (graphed project).meant b n (Err e) → NoSearch e
never_graphed project b n e meant =
    refuses_graphed NoSearch project (λ name. none_of 6 (λ e. omega (arith, e)) (λ e. omega (arith, e)) (λ e. omega (arith, e)))
    (λ name. none_of 13 (λ e. omega (arith, e)) (λ e. omega (arith, e)) (λ e. omega (arith, e)))
    (λ f. none_of 3 (λ e. omega (arith, e)) (λ e. omega (arith, e)) (λ e. omega (arith, e))) b n (Err e) e meant refl

-- an image that is too long
too_long : (project : List ℕ) (plant : Plant Code) (e : Refusal) → ImageGives project plant (Err e) → NoSearch e
too_long project plant e gives = refuses_image NoSearch project plant (none_of 13 (λ e. omega (arith, e)) (λ e. omega (arith, e)) (λ e. omega (arith, e))) (Err e) e gives refl

-- a search that gave no tables
unfound : (net : Net) (g : JobGraph) (bounds : List ℕ) (budget : ℕ) (old new : Option (List ℕ)) (e : Refusal) → new ≡ old → TablesGive net g budget (Err e) → Ended net g bounds budget old new (status_of e)
unfound net g bounds budget old new e stays (gives.Found list need is first needs enough) = not_err (tables_of (problem_of net g) list) e is
unfound net g bounds budget old new e stays (gives.Spent need is needs few) = plan.Spent need (ap status_of (err_once Tables e (refusal.Spent budget) is)) needs few stays
unfound net g bounds budget old new e stays (gives.NoTable need is none needs enough) = plan.NoTables need (ap status_of (err_once Tables e refusal.NoTable is)) none needs enough stays

-- a search that gave tables, whose text was put
found : (net : Net) (g : JobGraph) (bounds : List ℕ) (budget : ℕ) (old new : Option (List ℕ)) (given : Tables) → new ≡ append_known old (tables_text net g given bounds) → TablesGive net g budget (Ok given) → Ended net g bounds budget old new 0
found net g bounds budget old new given put (gives.Found list need is first needs enough) =
    plan.Found list need refl first needs enough (put ∙ ap (λ (t : Tables). append_known old (tables_text net g t bounds)) (ok_once Tables given (tables_of (problem_of net g) list) is))
found net g bounds budget old new given put (gives.Spent need is needs few) = not_err given (refusal.Spent budget) (sym is)
found net g bounds budget old new given put (gives.NoTable need is none needs enough) = not_err given refusal.NoTable (sym is)

-- the source project of a search that ended so
searched : (project : List ℕ) (budget : ℕ) (files : List File) (b m : Held) (old new : Option (List ℕ)) (p : GraphedProject) (status : ℕ) → b.files ≡ Some files → WasGraphed b m project p
    → Ended p.net p.graph (map bound_of_built p.built) budget old new status → PlanRan project budget files old new status
searched project budget files b m old new p status told was ended = record {
  net = p.net;
  built = p.built;
  graph = p.graph;
  is_source = subst (λ (f : Option (List File)). IsSourceOf f project p.net p.built) told was.source;
  is_graph = was.graph;
  ended = ended;
}

abbrev give_it : GraphedProject → Tables → Stage PlannedProject
give_it p given = giving (with_tables p given)

-- the project was refused, or its search gave no tables
refused : (project : List ℕ) (budget : ℕ) (files : List File) (b n : Held) (e : Refusal) → b.files ≡ Some files → IsSearchStatus (status_of e) → (planned project budget).meant b n (Err e)
    → PlanRan project budget files b.out n.out (status_of e)
refused project budget files b n e told ends (inl stop) = absurd (never_graphed project b n e (subst (λ (x : Refusal). (graphed project).meant b n (Err x)) (err_once PlannedProject stop.0 e (sym stop.2)) stop.1) ends)
refused project budget files b n e told ends (inr (p, m, read, inl (f, judged, is))) =
    let was = was_graphed project b m p read in
    let stays : n.out ≡ b.out = ap (λ (h : Held). h.out) (judged.0 ∙ was.stays) in
    let same : f ≡ e = err_once PlannedProject f e (sym is) in
    searched project budget files b m b.out n.out p (status_of e) told was
    (unfound p.net p.graph (map bound_of_built p.built) budget b.out n.out e stays (subst (λ (x : Refusal). TablesGive p.net p.graph budget (Err x)) same judged.1))
refused project budget files b n e told ends (inr (p, m, read, inr (given, k, judged, gave))) = not_err (with_tables p given) e gave.1

-- the tables of a project were found, and their text was put
printed : (project : List ℕ) (budget : ℕ) (files : List File) (b n m : Held) (p : PlannedProject) → b.files ≡ Some files → (planned project budget).meant b m (Ok p) → n.out ≡ append_known m.out (text_of (plant_of p))
    → PlanRan project budget files b.out n.out 0
printed project budget files b n m p told planning put =
    let one = both_gave (graphed project) (tabled budget) planning in
    let g = one.0 in
    let two = both_gave (judging (TablesGive g.net g.graph budget)) (give_it g) one.3 in
    let was = was_graphed project b one.1 g one.2 in
    let is : p ≡ with_tables g two.0 = ok_once PlannedProject p (with_tables g two.0) two.3.1 in
    let stays : m ≡ b = two.3.0 ∙ (two.2.0 ∙ was.stays) in
    let text : n.out ≡ append_known b.out (tables_text g.net g.graph two.0 (map bound_of_built g.built)) =
    put ∙ (ap (λ (h : Held). append_known h.out (text_of (plant_of p))) stays ∙ ap (λ (x : PlannedProject). append_known b.out (text_of (plant_of x))) is) in
    searched project budget files b one.1 b.out n.out g 0 told was (found g.net g.graph (map bound_of_built g.built) budget b.out n.out two.0 text two.2.1)

-- where the files are told, a planning that ended in its search came to what its source project means
pub plan_ran : (project : List ℕ) (budget : ℕ) (b n : Held) (c d : Counts) (r : Result (Unit {0}) Refusal) → Does (planning project budget) b n c d r → IsSearchStatus (status_of_result r)
    → (files : List File) → b.files ≡ Some files → PlanRan project budget files b.out n.out (status_of_result r)
plan_ran project budget b n c d r does ends files told = by does.how
  where
    by : (planning project budget).meant b n r ⊎ ((e : Refusal) × (r ≡ Err e) × (planning project budget).cut b n e × Caused c d e) → PlanRan project budget files b.out n.out (status_of_result r)
    by (inl (inl stop)) =
        subst (λ (s : ℕ). PlanRan project budget files b.out n.out s) (ap status_of_result (sym stop.2)) (refused project budget files b n stop.0 told (subst IsSearchStatus (ap status_of_result stop.2) ends) stop.1)
    by (inl (inr (p, m, first, inl stop))) = absurd (too_long project (plant_of p) stop.0 stop.1.1 (subst IsSearchStatus (ap status_of_result stop.2) ends))
    by (inl (inr (p, m, first, inr (bytes, k, fits, inl stop)))) = not_err tt stop.0 stop.1.1
    by (inl (inr (p, m, first, inr (bytes, k, fits, inr (u, j, taken, put))))) =
        subst (λ (s : ℕ). PlanRan project budget files b.out n.out s) (ap status_of_result (sym put.1))
        (printed project budget files b n m p told first (ap (λ (h : Held). h.out) put.0 ∙ ap (λ (h : Held). append_known h.out (text_of (plant_of p))) (taken.0 ∙ fits.0)))
    by (inr (e, is, cut, caused)) = absurd (caused_no_search c d e caused (subst IsSearchStatus (ap status_of_result is) ends))
