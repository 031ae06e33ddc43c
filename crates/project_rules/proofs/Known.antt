-- The task of a name, and the transaction of a task, where the rules say that there is one.
use Rattle.std.proofs.Common.{◌≡◌, ℕ, ◌<◌, ◌≤◌, ◌⊎◌, inl, inr, nat_le, true, false, not, ◌||◌, List, [], ◌∷◌, length, ◌==◌, Option, Some, None, refl, sym, ap, ◌∙◌, subst, arith}
use Rattle.std.specs.Prelude.{slice_get, position, bytes_eq, count_by}
use Rattle.std.specs.List.{list_any}
use Rattle.std.proofs.lemmas.Bool.Decides.{nat_tests}
use Rattle.std.proofs.lemmas.Slice.Eq.{bytes_eq-Decides}
use Rattle.distinct_names.proofs.Names.{any_place, same_bytes}
use Rattle.project_sheet.specs.declared.sheet.TaskRow.{TaskRow}
use Rattle.project_sheet.specs.declared.sheet.TransactionRow.{TransactionRow}
use Rattle.project_sheet.specs.First.{At, LeastOf}
use Rattle.project_sheet.proofs.Firsts.{position_least}
use Rattle.project_rows.specs.Rules.{has_no_task}
use Rattle.project_relations.specs.Relations.{is_task, task_number, or_first, lists, lists_twice, is_outside, is_shared, transaction_of, transaction_strays, same_number}
use Rattle.port_feeds.proofs.Counts.{two_counted}
use Rattle.project_rules.proofs.Tests.{either_false, not_false}

-- the task of a name's number has the name
pub record IsKnown (tasks : List TaskRow) (name : List ℕ) : Type 0 where
  pub task : TaskRow
  pub stands : slice_get tasks (task_number tasks name) ≡ Some task
  pub named : task.name ≡ name

pub known : (tasks : List TaskRow) (name : List ℕ) → is_task tasks name ≡ true → IsKnown tasks name
known tasks name e =
    let (j, t, at, same) = any_place (λ (t : TaskRow). bytes_eq t.name name) tasks e in
    by (position (λ (t : TaskRow). bytes_eq t.name name) tasks) refl j (record { it = t; stands = at; passes = same }) (position_least (λ (t : TaskRow). bytes_eq t.name name) tasks).least
  where
    by : (r : Option ℕ) → position (λ (t : TaskRow). bytes_eq t.name name) tasks ≡ r → (j : ℕ) → At (λ (t : TaskRow). bytes_eq t.name name) tasks j
        → LeastOf (At (λ (t : TaskRow). bytes_eq t.name name) tasks) r → IsKnown tasks name
    by None is j a h = absurd (h j a)
    by (Some i) is j a h = record { task = h.0.it; stands = ap (λ (o : Option ℕ). slice_get tasks (or_first o)) is ∙ h.0.stands; named = same_bytes h.0.it.name name h.0.passes }

-- the first transaction that names a task
pub record IsInside (transactions : List TransactionRow) (name : List ℕ) : Type 0 where
  pub number : ℕ
  pub is : transaction_of transactions name ≡ Some number
  pub first : At (lists name) transactions number
  pub least : (j : ℕ) → At (lists name) transactions j → number ≤ j

pub inside : (transactions : List TransactionRow) (task : TaskRow) → is_outside transactions task ≡ false → IsInside transactions task.name
inside transactions task e =
    let (j, t, at, same) = any_place (lists task.name) transactions (not_false (list_any (lists task.name) transactions) e) in
    by (position (lists task.name) transactions) refl j (record { it = t; stands = at; passes = same }) (position_least (lists task.name) transactions).least
  where
    by : (r : Option ℕ) → position (lists task.name) transactions ≡ r → (j : ℕ) → At (lists task.name) transactions j → LeastOf (At (lists task.name) transactions) r → IsInside transactions task.name
    by None is j a h = absurd (h j a)
    by (Some i) is j a h = record { number = i; is = is; first = h.0; least = h.1 }

-- the same name has the same transaction
pub inside_as : (transactions : List TransactionRow) (name other : List ℕ) → name ≡ other → IsInside transactions name → IsInside transactions other
inside_as transactions name other e h = subst (IsInside transactions) e h

-- a task that one transaction alone names is that one's
pub only_inside : (transactions : List TransactionRow) (task : TaskRow) (t : ℕ) (row : TransactionRow) (w : IsInside transactions task.name)
    → is_shared transactions task ≡ false → slice_get transactions t ≡ Some row → lists task.name row ≡ true → transaction_of transactions task.name ≡ Some t
only_inside transactions task t row w e at here = elim (less_or_same w.number t (w.least t (record { it = row; stands = at; passes = here }))) [
  | inl less ↦
      let once = either_false (nat_le 2 (count_by (lists task.name) transactions)) (list_any (lists_twice task.name) transactions) e in
      let two = two_counted (lists task.name) transactions w.number t w.first.it row less w.first.stands at w.first.passes here in
      absurd (never (count_by (lists task.name) transactions) once.0 two)
  | inr same ↦ w.is ∙ ap (λ (n : ℕ). Some n) same
]
  where
    less_or_same : (m n : ℕ) → m ≤ n → (m < n) ⊎ (m ≡ n)
    less_or_same m n le = grind arith

    never : (n : ℕ) → nat_le 2 n ≡ false → 2 ≤ n → ⊥
    never n e h = grind (arith, nat_tests)

-- a transaction has a task, which there is
pub some_task : (tasks : List TaskRow) (t : TransactionRow) → has_no_task t ≡ false → transaction_strays tasks t ≡ false → (name : List ℕ) × (is_task tasks name ≡ true) × (lists name t ≡ true)
some_task tasks t some strays = by t.tasks refl
  where
    by : (names : List (List ℕ)) → t.tasks ≡ names → (name : List ℕ) × (is_task tasks name ≡ true) × (lists name t ≡ true)
    by [] is =
        let h : has_no_task t ≡ true = ap (λ (l : List (List ℕ)). length l == 0) is in
        absurd (let no : true ≡ false = sym h ∙ some in cc)
    by (n ∷ ns) is =
        let w : list_any (λ name. not (is_task tasks name)) (n ∷ ns) ≡ false = ap (list_any (λ name. not (is_task tasks name))) (sym is) ∙ strays in
        let v = either_false (not (is_task tasks n)) (list_any (λ name. not (is_task tasks name)) ns) w in (
          n,
          not_false (is_task tasks n) v.0,
          ap (list_any (bytes_eq n)) is ∙ ap (λ b. b || list_any (bytes_eq n) ns) ((bytes_eq-Decides n n).1 refl),
        )

pub same_option : (a b : Option ℕ) → same_number a b ≡ true → a ≡ b
same_option None None e = refl
same_option None (Some j) e = cc
same_option (Some i) None e = cc
same_option (Some i) (Some j) e = let h : i ≡ j = grind (arith, nat_tests) in ap (λ (n : ℕ). Some n) h
