-- Edges go in no circle exactly where all tasks have an order.
use Rattle.std.proofs.Common.{◌≡◌, ℕ, zero, suc, ◌<◌, ◌≤◌, ◌⊎◌, inl, inr, cond, nat_eq, List, [], ◌∷◌, length, take, get_or, refl, sym, subst, arith}
use Rattle.std.specs.Prelude.{Contains}
use Rattle.std.proofs.lemmas.Bool.{cases_eq, eq-eqb, ne_eqb}
use Rattle.graph.specs.declared.net.Net.{Net}
use Rattle.graph.specs.declared.net.Edge.{Edge}
use Rattle.graph.specs.Net.{Feeds}
use Rattle.graph.specs.Order.{IsReady, IsInOrder, IsOrder}
use Rattle.graph.specs.Order.{HasNoCircle}
use Rattle.graph.specs.Sound.{HasEntries}
use Rattle.graph.specs.Masks.{GoesBetween}
use Rattle.graph.proofs.Entries.{joined}
use Rattle.graph.proofs.Listed.{stands, left_out, place_of, before_place}

-- the place of a number in a list
rank_in : List ℕ → ℕ → ℕ
rank_in [] x = 0
rank_in (y ∷ ys) x = cond (nat_eq y x) 0 (suc (rank_in ys x))

rank_before : (xs : List ℕ) (k i x : ℕ) → i < k → i < length xs → get_or xs i 0 ≡ x → rank_in xs x < k
unfolding rank_in
rank_before [] k i x low inside e = absurd (omega (arith, inside))
rank_before (y ∷ ys) k zero x low inside e = rw (eq-eqb y x e) (omega (arith, low))
rank_before (y ∷ ys) zero (suc i) x low inside e = absurd (omega (arith, low))
rank_before (y ∷ ys) (suc k) (suc i) x low inside e =
    let r = rank_before ys k i x (omega (arith, low)) (omega (arith, inside)) e in
    elim (cases_eq y x) [ inl same ↦ rw (eq-eqb y x same) (omega arith) | inr other ↦ rw (ne_eqb y x other) (omega (arith, r)) ]

rank_from : (xs : List ℕ) (k x : ℕ) → k ≤ length xs → (Contains (take k xs) x → ⊥) → k ≤ rank_in xs x
unfolding rank_in
rank_from [] k x fits not = omega (arith, fits)
rank_from (y ∷ ys) zero x fits not = omega arith
rank_from (y ∷ ys) (suc k) x fits not = elim (cases_eq y x) [
  | inl same ↦ absurd (not (zero, omega arith, same))
  | inr other ↦ rw (ne_eqb y x other) (let r = rank_from ys k x (omega (arith, fits)) (λ w. not (suc w.0, omega (arith, w.1), w.2)) in omega (arith, r))
]

-- an order ranks the tasks
pub ranked : (net : Net) → HasEntries net → (tasks : List ℕ) → IsOrder (Feeds net) (length net.tasks) tasks → HasNoCircle (Feeds net)
ranked net entries tasks order = (
  rank_in tasks,
  λ a b f.
      let to = place_of tasks b (order.whole b (joined net entries a b f).1) in
      let same : get_or tasks to.0 0 ≡ b = to.2 in
      let next = order.each to.0 to.1 in
      let from = before_place tasks to.0 a (next.ready.all_before a (subst (Feeds net a) (sym same) f)) in
      let below = rank_before tasks to.0 from.0 a from.1 from.2 from.3 in
      let above = rank_from tasks to.0 b (omega (arith, to.1)) (subst (λ x. Contains (take to.0 tasks) x → ⊥) same next.ready.is_new) in
      omega (arith, below, above),
)

-- a task whose producers all stand in the list, or a producer that doesn't
producers : (es : List Edge) (list : List ℕ) (t : ℕ) → ((p : ℕ) → GoesBetween es p t → Contains list p) ⊎ ((p : ℕ) × GoesBetween es p t × (Contains list p → ⊥))
producers [] list t = inl (λ p w. absurd (omega (arith, w.2)))
producers (e ∷ es) list t = elim (producers es list t) [
  | inr w ↦ inr (w.0, (suc w.1.0, w.1.1, omega (arith, w.1.2), w.1.3, w.1.4), w.2)
  | inl all ↦ elim (cases_eq e.to_task t) [
    | inr other ↦ inl (λ p w. rest all p w (λ x. other x.1))
    | inl here ↦ elim (stands list e.from_task) [
      | inr new ↦ inr (e.from_task, (zero, e, omega arith, refl, (refl, here)), new)
      | inl old ↦ inl (λ p w. elim (cases_eq e.from_task p) [ inl same ↦ subst (Contains list) same old | inr other ↦ rest all p w (λ x. other x.0) ])
    ]
  ]
]
  where
    rest : ((p : ℕ) → GoesBetween es p t → Contains list p) → (p : ℕ) → GoesBetween (e ∷ es) p t → ((e.from_task ≡ p) × (e.to_task ≡ t) → ⊥) → Contains list p
    rest all p w not = tail w.0 w.1 w.2 w.3 w.4
      where
        tail : (k : ℕ) (x : Edge) → k < length (e ∷ es) → get_or (e ∷ es) k x ≡ x → (x.from_task ≡ p) × (x.to_task ≡ t) → Contains list p
        tail zero x low is goes = absurd (not (subst (λ (y : Edge). (y.from_task ≡ p) × (y.to_task ≡ t)) (sym is) goes))
        tail (suc k) x low is goes = all p (k, x, omega (arith, low), is, goes)

-- where no task is ready, and some task is left out, edges go in a circle
pub circle : (net : Net) → HasEntries net → (tasks : List ℕ) → IsInOrder (Feeds net) (length net.tasks) tasks → length tasks < length net.tasks →
    ((t : ℕ) → t < length net.tasks → IsReady (Feeds net) (length net.tasks) tasks t → ⊥) → HasNoCircle (Feeds net) → ⊥
circle net entries tasks order few none (rank, goes) =
    let w = left_out (Feeds net) (length net.tasks) tasks order few in
    stuck (suc (rank w.0)) w.0 (omega arith) w.1 w.2
  where
    stuck : (m t : ℕ) → rank t < m → t < length net.tasks → (Contains tasks t → ⊥) → ⊥
    stuck zero t low inside new = absurd (omega (arith, low))
    stuck (suc m) t low inside new = elim (producers net.edges tasks t) [
      | inl all ↦ none t inside (record { is_one = inside; is_new = new; all_before = all })
      | inr p ↦
          let up : rank p.0 < rank t = goes p.0 t p.1 in
          stuck m p.0 (omega (arith, low, up)) (joined net entries p.0 t p.1).0 p.2
    ]
