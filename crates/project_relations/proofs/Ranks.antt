-- Edges that begin where none ends can be taken away; where none of them can, they go in a circle.
use Rattle.std.proofs.Common.{◌≡◌, ℕ, zero, suc, ◌<◌, ◌≤◌, Bool, true, false, cond, ◌==◌, List, [], ◌∷◌, length, Some, refl, ap, subst, arith}
use Rattle.std.specs.Prelude.{slice_get, filter}
use Rattle.std.specs.List.{list_any}
use Rattle.std.proofs.lemmas.Bool.Decides.{nat_tests}
use Rattle.std.proofs.lemmas.Map.Keys.{any_passes_from_place}
use Rattle.project_relations.specs.declared.circle.Link.{Link}
use Rattle.project_relations.specs.Relations.{AreRanked, CanRank}
use Rattle.distinct_names.proofs.Names.{any_place}

-- an edge ends at the task
abbrev pub fed_in : List Link → ℕ → Bool
fed_in links task = list_any (λ (l : Link). l.to == task) links

abbrev pub rest_of : List Link → List Link
rest_of links = filter (λ (l : Link). fed_in links l.from) links

pub goes_up : (rank : ℕ → ℕ) (links : List Link) (i : ℕ) (l : Link) → AreRanked rank links → slice_get links i ≡ Some l → rank l.from < rank l.to
goes_up rank [] i l r e = cc
goes_up rank (m ∷ links) zero l r e = let h : m ≡ l = cc in subst (λ (x : Link). rank x.from < rank x.to) h r.0
goes_up rank (m ∷ links) (suc i) l r e = goes_up rank links i l r.1 e

-- the ranks of all serve for some
some_ranked : (rank : ℕ → ℕ) (test : Link → Bool) (links : List Link) → AreRanked rank links → AreRanked rank (filter test links)
some_ranked rank test [] r = tt
some_ranked rank test (l ∷ links) r = by (test l) (some_ranked rank test links r.1)
  where
    by : (b : Bool) → AreRanked rank (filter test links) → AreRanked rank (cond b (l ∷ filter test links) (filter test links))
    by true more = (r.0, more)
    by false more = more

pub rest_ranked : (links : List Link) → CanRank links → CanRank (rest_of links)
rest_ranked links (rank, r) = (rank, some_ranked rank (λ (l : Link). fed_in links l.from) links r)

-- a task with no edge to it has rank 0, and the others one more than in the rest
raised : (ℕ → ℕ) → List Link → ℕ → ℕ
raised rank links task = cond (fed_in links task) (suc (rank task)) 0

up : (a b : Bool) (m n : ℕ) → b ≡ true → (a ≡ true → m < n) → cond a (suc m) 0 < cond b (suc n) 0
up true true m n e h = omega (arith, h refl)
up false true m n e h = omega arith
up a false m n e h = absurd (let f : false ≡ true = e in cc)

all_raised : (rank : ℕ → ℕ) (all links : List Link) → ((i : ℕ) (l : Link) → slice_get links i ≡ Some l → fed_in all l.to ≡ true)
    → AreRanked rank (filter (λ (l : Link). fed_in all l.from) links) → AreRanked (raised rank all) links
unfolding raised
all_raised rank all [] fed r = tt
all_raised rank all (l ∷ links) fed r = (
  up (fed_in all l.from) (fed_in all l.to) (rank l.from) (rank l.to) (fed 0 l refl) (head (fed_in all l.from) r),
  all_raised rank all links (λ i m e. fed (suc i) m e) (tail (fed_in all l.from) r),
)
  where
    head : (b : Bool) → AreRanked rank (cond b (l ∷ filter (λ (l : Link). fed_in all l.from) links) (filter (λ (l : Link). fed_in all l.from) links)) → b ≡ true → rank l.from < rank l.to
    head true r e = r.0
    head false r e = cc

    tail : (b : Bool) → AreRanked rank (cond b (l ∷ filter (λ (l : Link). fed_in all l.from) links) (filter (λ (l : Link). fed_in all l.from) links)) → AreRanked rank (filter (λ (l : Link). fed_in all l.from) links)
    tail true r = r.1
    tail false r = r

itself : (n : ℕ) → (n == n) ≡ true
itself n = grind (arith, nat_tests)

-- ranks of the rest give ranks of all
pub all_ranked : (links : List Link) → CanRank (rest_of links) → CanRank links
all_ranked links (rank, r) = (
  raised rank links,
  all_raised rank links links
      (λ i l e. any_passes_from_place (λ (m : Link). m.to == l.to) links i l e (itself l.to)) r,
)

pub none_left : (links : List Link) → length links ≡ 0 → CanRank links
none_left [] e = (λ task. 0, tt)
none_left (l ∷ links) e = absurd (omega (arith, e))

pub fewer : {X : Type 0} (test : X → Bool) (xs : List X) → length (filter test xs) ≤ length xs
fewer test [] = omega arith
fewer {X} test (x ∷ xs) = by (test x) (fewer test xs)
  where
    by : (b : Bool) → length (filter test xs) ≤ length xs → length (cond b (x ∷ filter test xs) (filter test xs)) ≤ suc (length xs)
    by true h = omega (arith, h)
    by false h = omega (arith, h)

-- a filter that keeps the length keeps all
keeps_all : {X : Type 0} (test : X → Bool) (xs : List X) → length (filter test xs) ≡ length xs → (i : ℕ) (x : X) → slice_get xs i ≡ Some x → test x ≡ true
keeps_all test [] e i x at = cc
keeps_all {X} test (y ∷ xs) e i x at = by (test y) refl e i at (λ same j. keeps_all test xs same j x)
  where
    by : (b : Bool) → test y ≡ b → length (cond b (y ∷ filter test xs) (filter test xs)) ≡ suc (length xs) → (i : ℕ) → slice_get (y ∷ xs) i ≡ Some x
        → (length (filter test xs) ≡ length xs → (j : ℕ) → slice_get xs j ≡ Some x → test x ≡ true) → test x ≡ true
    by true t e zero at more = let h : y ≡ x = cc in subst (λ (z : X). test z ≡ true) h t
    by true t e (suc i) at more = more (omega (arith, e)) i at
    by false t e i at more = absurd (omega (arith, e, fewer test xs))

-- where each edge begins where another ends, there are no ranks
pub no_ranks : (links : List Link) → length (rest_of links) ≡ length links → 0 < length links → CanRank links → ⊥
no_ranks [] same some h = omega (arith, some)
no_ranks (first ∷ more) same some (rank, r) = stuck (suc (rank first.from)) 0 first refl (omega arith)
  where
    links : List Link
    links = first ∷ more

    stuck : (m i : ℕ) (l : Link) → slice_get (first ∷ more) i ≡ Some l → rank l.from < m → ⊥
    stuck zero i l at low = omega (arith, low)
    stuck (suc m) i l at low =
        let fed : fed_in (first ∷ more) l.from ≡ true = keeps_all (λ (k : Link). fed_in (first ∷ more) k.from) (first ∷ more) same i l at in
        let (j, k, there, ends) = any_place (λ (k : Link). k.to == l.from) (first ∷ more) fed in
        let rises = goes_up rank (first ∷ more) j k r there in
        let e : k.to ≡ l.from = grind (arith, nat_tests) in
        stuck m j k there (omega (arith, low, rises, ap rank e))
