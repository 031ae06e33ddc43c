-- Ranks in each transaction give ranks of all tasks.
use Rattle.std.proofs.Common.{◌≡◌, ℕ, zero, suc, ◌<◌, ◌≤◌, ◌⊎◌, inl, inr, Bool, true, false, cond, List, [], ◌∷◌, length, map, Option, Some, None, option_map, refl, ap, subst, ◌∙◌, arith}
use Rattle.std.specs.Prelude.{slice_get, filter}
use Rattle.std.proofs.lemmas.Bool.Decides.{nat_tests}
use Rattle.std.proofs.lemmas.Option.{slice_get-map}
use Rattle.project_sheet.specs.declared.sheet.EdgeRow.{EdgeRow}
use Rattle.project_sheet.specs.declared.sheet.TaskRow.{TaskRow}
use Rattle.project_sheet.specs.Sheet.{PlainSheet}
use Rattle.project_rows.specs.Rules.{task_half}
use Rattle.project_relations.specs.declared.circle.Link.{Link}
use Rattle.project_relations.specs.Relations.{AreRanked, CanRank, link_of, links_of, belongs, is_task, transaction_of, same_number}
use Rattle.project_relations.proofs.Ranks.{goes_up}
use Rattle.project_rules.proofs.Known.{known}
use Rattle.project_rules.proofs.Lists.{from_map}

-- what is known of the edges where the rules before hold
pub record AreJoined (s : PlainSheet) : Type 0 where
  pub known_tasks : (i : ℕ) (e : EdgeRow) → slice_get s.edges i ≡ Some e → (is_task s.tasks (task_half e.from) ≡ true) × (is_task s.tasks (task_half e.to) ≡ true)
  pub inside : (i : ℕ) (e : EdgeRow) → slice_get s.edges i ≡ Some e
      → (t : ℕ) × (t < length s.transactions) × (transaction_of s.transactions (task_half e.from) ≡ Some t) × (transaction_of s.transactions (task_half e.to) ≡ Some t)
  pub ranks : (t : ℕ) → t < length s.transactions → CanRank (links_of s t)

name_in : Option TaskRow → List ℕ
name_in None = []
name_in (Some t) = t.name

number_name : (s : PlainSheet) (name : List ℕ) (n : ℕ) → (task : TaskRow) → slice_get s.tasks n ≡ Some task → task.name ≡ name → name_in (slice_get s.tasks n) ≡ name
unfolding name_in
number_name s name n task at named = ap name_in at ∙ named

below_or_not : (t n : ℕ) → (t < n) ⊎ (n ≤ t)
below_or_not t n = grind arith

rank_by : (s : PlainSheet) → AreJoined s → (t : ℕ) → (t < length s.transactions) ⊎ (length s.transactions ≤ t) → ℕ → ℕ
rank_by s j t (inl lt) x = (j.ranks t lt).0 x
rank_by s j t (inr le) x = 0

rank_at : (s : PlainSheet) → AreJoined s → Option ℕ → ℕ → ℕ
rank_at s j None x = 0
rank_at s j (Some t) x = rank_by s j t (below_or_not t (length s.transactions)) x

-- a task's rank is that in its transaction
rank_of : (s : PlainSheet) → AreJoined s → ℕ → ℕ
rank_of s j x = rank_at s j (transaction_of s.transactions (name_in (slice_get s.tasks x))) x

all_up : (rank : ℕ → ℕ) (links : List Link) → ((i : ℕ) (l : Link) → slice_get links i ≡ Some l → rank l.from < rank l.to) → AreRanked rank links
all_up rank [] h = tt
all_up rank (l ∷ links) h = (h 0 l refl, all_up rank links (λ i m at. h (suc i) m at))

kept : {X : Type 0} (test : X → Bool) (xs : List X) (i : ℕ) (x : X) → slice_get xs i ≡ Some x → test x ≡ true → (k : ℕ) × (slice_get (filter test xs) k ≡ Some x)
kept test [] i x at e = cc
kept {X} test (y ∷ xs) zero x at e = let h : y ≡ x = cc in by (test y) (ap test h ∙ e)
  where
    by : (b : Bool) → b ≡ true → (k : ℕ) × (slice_get (cond b (y ∷ filter test xs) (filter test xs)) k ≡ Some x)
    by true t = (0, at)
    by false t = cc
kept {X} test (y ∷ xs) (suc i) x at e = by (test y) (kept test xs i x at e)
  where
    by : (b : Bool) → (k : ℕ) × (slice_get (filter test xs) k ≡ Some x) → (k : ℕ) × (slice_get (cond b (y ∷ filter test xs) (filter test xs)) k ≡ Some x)
    by true (k, h) = (suc k, h)
    by false (k, h) = (k, h)

same_self : (t : ℕ) → same_number (Some t) (Some t) ≡ true
same_self t = grind (arith, nat_tests)

-- an edge goes up in its transaction
in_transaction : (s : PlainSheet) (j : AreJoined s) (t : ℕ) (d : (t < length s.transactions) ⊎ (length s.transactions ≤ t)) (i : ℕ) (e : EdgeRow)
    → t < length s.transactions → slice_get s.edges i ≡ Some e → transaction_of s.transactions (task_half e.from) ≡ Some t
    → rank_by s j t d (link_of s e).from < rank_by s j t d (link_of s e).to
unfolding rank_by
in_transaction s j t (inr le) i e lt at here = absurd (omega arith)
in_transaction s j t (inl less) i e lt at here =
    let mine : belongs s t e ≡ true = ap (λ (o : Option ℕ). same_number o (Some t)) here ∙ same_self t in
    let (k, stands) = kept (belongs s t) s.edges i e at mine in
    goes_up (j.ranks t less).0 (links_of s t) k (link_of s e) (j.ranks t less).1 (slice_get-map (link_of s) (filter (belongs s t) s.edges) k ∙ ap (option_map (link_of s)) stands)

rank_is : (s : PlainSheet) (j : AreJoined s) (x t : ℕ) (name : List ℕ) → name_in (slice_get s.tasks x) ≡ name → transaction_of s.transactions name ≡ Some t
    → rank_of s j x ≡ rank_by s j t (below_or_not t (length s.transactions)) x
unfolding rank_of rank_at
rank_is s j x t name named here = ap (λ (n : List ℕ). rank_at s j (transaction_of s.transactions n) x) named ∙ ap (λ (o : Option ℕ). rank_at s j o x) here

pub all_joined : (s : PlainSheet) → AreJoined s → CanRank (map (link_of s) s.edges)
all_joined s j = (rank_of s j, all_up (rank_of s j) (map (link_of s) s.edges) (λ i l at. one i l (from_map (link_of s) s.edges i l at)))
  where
    one : (i : ℕ) (l : Link) → (e : EdgeRow) × (slice_get s.edges i ≡ Some e) × (link_of s e ≡ l) → rank_of s j l.from < rank_of s j l.to
    one i l (e, at, is) =
        let (t, lt, left, right) = j.inside i e at in
        let (known_from, known_to) = j.known_tasks i e at in
        let up = in_transaction s j t (below_or_not t (length s.transactions)) i e lt at left in
        let from = known s.tasks (task_half e.from) known_from in
        let to = known s.tasks (task_half e.to) known_to in
        let a = rank_is s j (link_of s e).from t (task_half e.from) (number_name s (task_half e.from) (link_of s e).from from.task from.stands from.named) left in
        let b = rank_is s j (link_of s e).to t (task_half e.to) (number_name s (task_half e.to) (link_of s e).to to.task to.stands to.named) right in
        subst (λ (m : Link). rank_of s j m.from < rank_of s j m.to) is (omega (arith, up, a, b))
