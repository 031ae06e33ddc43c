-- Along the choices that lead to a list, and along the feeds of a job.
use Rattle.std.proofs.Common.{◌≡◌, ℕ, suc, ◌+◌, true, List, [], ◌∷◌, ◌++◌, length, Some, refl, sym, ap, subst, arith, length-append}
use Rattle.walks.specs.First.{Reaches, Whole}
use Rattle.decisions.specs.declared.problem.Feed.{Feed}
use Rattle.decisions.specs.declared.problem.Problem.{Problem}
use Rattle.decisions.specs.Decision.{Decision}
use Rattle.decisions.specs.Place.{Waiting, fed}
use Rattle.decisions.specs.Choices.{is_allowed, choices, rules_of, IsReached}
use Rattle.reached.proofs.Members.{In, chosen}
use Rattle.reached.proofs.Decided.{decided_is, IsFed, fed_first, fed_end}
use Rattle.reached.proofs.Good.{IsChoiceOf, choice_of, IsGood, good_next, good_none}

-- a choice after a list
pub record IsNew (pr : Problem) (l : List Decision) (d : Decision) : Type 0 where
  pub good : IsGood pr l
  pub choice : IsChoiceOf pr l d
  pub allowed : is_allowed pr l d.job d.unit ≡ true

new_of : (pr : Problem) (l : List Decision) (d : Decision) → IsGood pr l → In (choices pr l) d → IsNew pr l d
new_of pr l d g h =
    let c = chosen pr l d h in
    let i = decided_is pr l c.job c.row.unit d c.row.placed in
    record {
      good = g;
      choice = choice_of pr l d h;
      allowed = subst (λ j. is_allowed pr l j d.unit ≡ true) (sym i.job_is) (subst (λ u. is_allowed pr l c.job u ≡ true) (sym i.unit_is) c.row.allowed);
    }

-- what a choice more keeps
abbrev pub IsKeptAlong : Problem → (List Decision → Type 0) → Type 0
IsKeptAlong pr P = (l : List Decision) (d : Decision) → IsNew pr l d → P l → P (l ++ d ∷ [])

along_from : (pr : Problem) (P : List Decision → Type 0) → IsKeptAlong pr P → (l : List Decision) (rs : List ℕ) (m : List Decision) → Reaches (rules_of pr) l rs m → IsGood pr l → P l → P m
along_from pr P next l [] m h g p = subst P h p
along_from pr P next l (r ∷ rs) m h g p =
    let n = new_of pr l h.0 g (r, h.1) in
    along_from pr P next (l ++ h.0 ∷ []) rs m h.2 (good_next pr l h.0 g n.choice) (next l h.0 n p)

-- what holds of no decisions, and is kept, holds of every list that is reached
pub along : (pr : Problem) (P : List Decision → Type 0) → P [] → IsKeptAlong pr P → (l : List Decision) → IsReached pr l → P l
along pr P none next l h = along_from pr P next [] h.0 l h.1 (good_none pr) none

-- what one feed more keeps holds behind all feeds
pub fed_along : (pr : Problem) (l : List Decision) (unit : ℕ) (all : List Feed) (Q : Waiting → Type 0) → ((w v : Waiting) (feed : Feed) → In all feed → IsFed pr l unit w feed v → Q w → Q v)
    → (feeds : List Feed) → ((feed : Feed) → In feeds feed → In all feed) → (w v : Waiting) → fed pr l unit feeds (Some w) ≡ Some v → Q w → Q v
fed_along pr l unit all Q next [] among w v h q = subst Q (fed_end pr l unit w v h) q
fed_along pr l unit all Q next (feed ∷ feeds) among w v h q =
    let f = fed_first pr l unit feed feeds w v h in
    fed_along pr l unit all Q next feeds (λ x i. among x (suc i.0, i.1)) f.next v f.rest (next w f.next feed (among feed (0, refl)) f.one q)

length_along : (pr : Problem) (l : List Decision) (rs : List ℕ) (m : List Decision) → Reaches (rules_of pr) l rs m → length m ≡ length l + length rs
length_along pr l [] m h = omega (arith, ap length h)
length_along pr l (r ∷ rs) m h = let b = length_along pr (l ++ h.0 ∷ []) rs m h.2 in let a = length-append l (h.0 ∷ []) in omega arith

-- a list that choices lead to, of as many decisions as there are jobs
pub record IsFull (pr : Problem) (l : List Decision) : Type 0 where
  pub reached : IsReached pr l
  pub size : length l ≡ length pr.works

pub full_of : (pr : Problem) (rs : List ℕ) (l : List Decision) → Whole (rules_of pr) (length pr.works) [] rs l → IsFull pr l
full_of pr rs l w = let n = length_along pr [] rs l w.reached in record { reached = (rs, w.reached); size = omega (arith, w.whole) }
