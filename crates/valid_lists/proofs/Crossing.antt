-- The edges of a decision's messages: those of its feeds whose producers are on other units.
use Rattle.std.proofs.Common.{◌≡◌, ℕ, suc, inl, inr, if◌then◌else◌, List, [], ◌∷◌, ◌++◌, map, Option, Some, refl, sym, ap, ap₂, ◌∙◌, subst}
use Rattle.std.specs.Prelude.{◌==◌, slice_get}
use Rattle.std.proofs.lemmas.List.{map-append, append-nil, append_assoc}
use Rattle.decisions.specs.declared.placed.Sent.{Sent}
use Rattle.decisions.specs.declared.problem.Feed.{Feed}
use Rattle.decisions.specs.declared.problem.Problem.{Problem}
use Rattle.decisions.specs.Decision.{Decision, work_at, decision_on}
use Rattle.decisions.specs.Place.{Waiting, fed}
use Rattle.decisions.specs.Choices.{IsReached}
use Rattle.decisions.specs.TablesOf.{entry_of}
use Rattle.reached.proofs.Members.{In, in_append, in_nothing, in_one}
use Rattle.reached.proofs.Decided.{IsFed, fed_first, fed_end, fed_ended, HasEnded, first_wait, message_in}
use Rattle.reached.proofs.Good.{IsChoiceOf, on_old}
use Rattle.valid_lists.proofs.Along.{IsNew, along}
use Rattle.valid_lists.proofs.Units.{same_test, other_test}

abbrev pub edges_of : List Sent → List ℕ
edges_of ms = map (λ (m : Sent). m.edge) ms

-- the unit of a decision; 0 where there is none
abbrev pub unit_in : Option Decision → ℕ
unit_in o = (entry_of o).unit

-- the edge of a feed whose producer is on another unit
abbrev pub crossing_one : List Decision → (unit : ℕ) → Feed → List ℕ
crossing_one l unit feed = if unit_in (decision_on l feed.producer) == unit then [] else feed.edge ∷ []

abbrev pub crossing : List Decision → (unit : ℕ) → List Feed → List ℕ
crossing l unit [] = []
crossing l unit (feed ∷ feeds) = crossing_one l unit feed ++ crossing l unit feeds

no_crossing : (o : Option Decision) (p : Decision) (unit edge : ℕ) → o ≡ Some p → p.unit ≡ unit → (if unit_in o == unit then [] else edge ∷ []) ≡ []
no_crossing o p unit edge e s = rw (e, same_test p.unit unit s) refl

one_crossing : (o : Option Decision) (p : Decision) (unit edge : ℕ) → o ≡ Some p → (p.unit ≡ unit → ⊥) → (if unit_in o == unit then [] else edge ∷ []) ≡ edge ∷ []
one_crossing o p unit edge e ne = rw (e, other_test p.unit unit ne) refl

crossed_one : (pr : Problem) (l : List Decision) (unit : ℕ) (w v : Waiting) (feed : Feed) → IsFed pr l unit w feed v → edges_of v.sent ≡ edges_of w.sent ++ crossing_one l unit feed
crossed_one pr l unit w v feed f = elim f.way [
  | inl h ↦ ap edges_of h.1 ∙ (sym (append-nil (edges_of w.sent)) ∙ ap (λ xs. edges_of w.sent ++ xs) (sym (no_crossing (decision_on l feed.producer) f.producer unit feed.edge f.placed h.0)))
  | inr h ↦ ap edges_of h.1.2 ∙ (map-append (λ (m : Sent). m.edge) w.sent (message_in l w feed f.producer.unit h.1.0 ∷ []) ∙ ap (λ xs. edges_of w.sent ++ xs) (sym (one_crossing (decision_on l feed.producer) f.producer unit feed.edge f.placed h.0)))
]

crossed : (pr : Problem) (l : List Decision) (unit : ℕ) (feeds : List Feed) (w v : Waiting) → fed pr l unit feeds (Some w) ≡ Some v → edges_of v.sent ≡ edges_of w.sent ++ crossing l unit feeds
crossed pr l unit [] w v h = ap (λ (x : Waiting). edges_of x.sent) (sym (fed_end pr l unit w v h)) ∙ sym (append-nil (edges_of w.sent))
crossed pr l unit (feed ∷ feeds) w v h =
    let f = fed_first pr l unit feed feeds w v h in
    crossed pr l unit feeds f.next v f.rest
    ∙ (ap (λ xs. xs ++ crossing l unit feeds) (crossed_one pr l unit w f.next feed f.one) ∙ append_assoc (edges_of w.sent) (crossing_one l unit feed) (crossing l unit feeds))

-- where producers are placed, later decisions change nothing
later_one : (l : List Decision) (d : Decision) (unit tick : ℕ) (feed : Feed) → HasEnded l feed tick → crossing_one l unit feed ≡ crossing_one (l ++ d ∷ []) unit feed
later_one l d unit tick feed h = ap (λ (o : Option Decision). if unit_in o == unit then [] else feed.edge ∷ []) (h.placed ∙ sym (on_old l d feed.producer h.producer h.placed))

later : (l : List Decision) (d : Decision) (unit tick : ℕ) (feeds : List Feed) → ((i : ℕ) (feed : Feed) → slice_get feeds i ≡ Some feed → HasEnded l feed tick) → crossing l unit feeds ≡ crossing (l ++ d ∷ []) unit feeds
later l d unit tick [] h = refl
later l d unit tick (feed ∷ feeds) h = ap₂ (λ xs ys. xs ++ ys) (later_one l d unit tick feed (h 0 feed refl)) (later l d unit tick feeds (λ i f e. h (suc i) f e))

abbrev pub AreCrossing : Problem → List Decision → Type 0
AreCrossing pr l = (d : Decision) → In l d → edges_of d.sent ≡ crossing l d.unit (work_at pr d.job).feeds

crossing_new : (pr : Problem) (l : List Decision) (d : Decision) → IsChoiceOf pr l d → edges_of d.sent ≡ crossing (l ++ d ∷ []) d.unit (work_at pr d.job).feeds
crossing_new pr l d c =
    let k = c.decided in
    let feeds = (work_at pr d.job).feeds in
    let ended = fed_ended pr l d.unit feeds (first_wait pr d.job) k.waiting k.fed_is in
    ap edges_of k.sent_is ∙ (crossed pr l d.unit feeds (first_wait pr d.job) k.waiting k.fed_is ∙ later l d d.unit k.waiting.wait feeds ended)

crossing_next : (pr : Problem) (l : List Decision) (d x : Decision) → IsNew pr l d → AreCrossing pr l → In (l ++ d ∷ []) x → edges_of x.sent ≡ crossing (l ++ d ∷ []) x.unit (work_at pr x.job).feeds
crossing_next pr l d x n h i = elim (in_append l (d ∷ []) x i) [
  | inl a ↦ h x a ∙ later l d x.unit x.start (work_at pr x.job).feeds (n.good.kept x a).fed
  | inr a ↦ subst (λ (y : Decision). edges_of y.sent ≡ crossing (l ++ d ∷ []) y.unit (work_at pr y.job).feeds) (in_one d x a) (crossing_new pr l d n.choice)
]

pub all_crossing : (pr : Problem) (l : List Decision) → IsReached pr l → AreCrossing pr l
all_crossing pr = along pr (AreCrossing pr) (λ d i. absurd (in_nothing d i)) (λ l d n h x i. crossing_next pr l d x n h i)
