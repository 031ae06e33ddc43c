-- Lines that are written one after another.
use Rattle.std.proofs.Common.{◌≡◌, ℕ, zero, suc, ◌+◌, ◌-◌, ◌<◌, ◌≤◌, ◌⊎◌, inl, inr, List, [], ◌∷◌, ◌++◌, length, get_or, drop, Option, Ok, Err, Result, refl, sym, ap, ◌∙◌, subst, arith, add-one}
use Rattle.std.proofs.lemmas.List.{append_assoc, append-nil, drop_all}
use Rattle.std.proofs.Math.Seq.{drop-cons}
use Rattle.lines.specs.Gathered.{Gathered, HasFront, Writes}
use Rattle.lines.proofs.Gather.{writes_both, front_of_front}
use Rattle.graph.specs.declared.net.Net.{Net}
use Rattle.graph.specs.JobGraph.{JobGraph}
use Rattle.tables.specs.declared.table.Tables.{Tables}
use Rattle.tables_text.specs.Text.{lines_of, lines_of_tasks, line_of_task}

-- one line more
pub lines_more : {X : Type 0} (line : X → List ℕ) (xs : List X) (i : ℕ) (d : X) (sent : List ℕ) → i < length xs → lines_of line xs ≡ sent ++ lines_of line (drop i xs) → lines_of line xs ≡ (sent ++ line (get_or xs i d)) ++ lines_of line (drop (i + 1) xs)
lines_more line xs i d sent lt whole =
    let n : suc i ≡ i + 1 = omega arith in
    whole ∙ (ap (λ ys. sent ++ lines_of line ys) (drop-cons xs i d lt) ∙ (ap (λ k. sent ++ (line (get_or xs i d) ++ lines_of line (drop k xs))) n ∙ sym (append_assoc sent (line (get_or xs i d)) (lines_of line (drop (i + 1) xs)))))

pub lines_all : {X : Type 0} (line : X → List ℕ) (xs : List X) (i : ℕ) (sent : List ℕ) → length xs ≤ i → lines_of line xs ≡ sent ++ lines_of line (drop i xs) → sent ≡ lines_of line xs
lines_all line xs i sent le whole = sym (whole ∙ (ap (λ ys. sent ++ lines_of line ys) (drop_all i xs le) ∙ append-nil sent))

-- a write that stopped within a line
pub stopped : (out mid new : Option (List ℕ)) (waiting between sent line rest all : List ℕ) → all ≡ (sent ++ line) ++ rest → Writes {E = Unit {0}} out waiting sent mid between (Ok tt)
    → ((base : Option (List ℕ)) (text : List ℕ) → Gathered base text mid between → HasFront base (text ++ line) new) → (base : Option (List ℕ)) (text : List ℕ) → Gathered base text out waiting → HasFront base (text ++ all) new
stopped out mid new waiting between sent line rest all whole written stop base text g =
    let longer : text ++ all ≡ ((text ++ sent) ++ line) ++ rest =
    ap (λ (t : List ℕ). text ++ t) whole ∙ (sym (append_assoc text (sent ++ line) rest) ∙ ap (λ (t : List ℕ). t ++ rest) (sym (append_assoc text sent line))) in
    front_of_front base ((text ++ sent) ++ line) rest (text ++ all) new longer (stop base (text ++ sent) (written base text g))

-- the lines of the tasks from one on
pub tasks_from : Net → JobGraph → Tables → List ℕ → (n more : ℕ) → List ℕ
tasks_from net g t maxts n zero = []
tasks_from net g t maxts n (suc more) = line_of_task net g t maxts n ++ tasks_from net g t maxts (suc n) more

tasks_split : (net : Net) (g : JobGraph) (t : Tables) (maxts : List ℕ) (n more : ℕ) → lines_of_tasks net g t maxts (more + n) ≡ lines_of_tasks net g t maxts n ++ tasks_from net g t maxts n more
unfolding tasks_from
tasks_split net g t maxts n zero = let e : 0 + n ≡ n = omega arith in ap (lines_of_tasks net g t maxts) e ∙ sym (append-nil (lines_of_tasks net g t maxts n))
tasks_split net g t maxts n (suc more) =
    let e : suc more + n ≡ more + suc n = omega arith in
    ap (lines_of_tasks net g t maxts) e ∙ (tasks_split net g t maxts (suc n) more ∙ append_assoc (lines_of_tasks net g t maxts n) (line_of_task net g t maxts n) (tasks_from net g t maxts (suc n) more))

-- all lines, with that of one task in their midst
pub tasks_whole : (net : Net) (g : JobGraph) (t : Tables) (maxts : List ℕ) (n all : ℕ) → n < all → lines_of_tasks net g t maxts all ≡ (lines_of_tasks net g t maxts n ++ line_of_task net g t maxts n) ++ tasks_from net g t maxts (suc n) (all - suc n)
tasks_whole net g t maxts n all low = let e : all ≡ (all - suc n) + suc n = omega arith in ap (lines_of_tasks net g t maxts) e ∙ tasks_split net g t maxts (suc n) (all - suc n)

pub tasks_next : (net : Net) (g : JobGraph) (t : Tables) (maxts : List ℕ) (n m : ℕ) → m ≡ n + 1 → lines_of_tasks net g t maxts n ++ line_of_task net g t maxts n ≡ lines_of_tasks net g t maxts m
tasks_next net g t maxts n m e = let s : suc n ≡ m = omega arith in ap (lines_of_tasks net g t maxts) s
