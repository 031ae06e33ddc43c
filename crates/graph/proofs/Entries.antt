-- What the rules for the entries say of the task, the transaction and the edge with a number.
use Rattle.std.proofs.Common.{◌≡◌, ℕ, ◌<◌, ◌≤◌, List, length, inl, inr, sym, ◌∙◌, ap, subst, arith, Some, None}
use Rattle.std.specs.Prelude.{All, slice_get}
use Rattle.std.proofs.lemmas.Option.{slice_get_cases, slice_get_within, get_or_from_slice_get}
use Rattle.graph.specs.declared.net.Net.{Net}
use Rattle.graph.specs.declared.net.NetTask.{NetTask}
use Rattle.graph.specs.declared.net.Transaction.{Transaction}
use Rattle.graph.specs.Net.{transaction_of, ins_of, period_of, deadline_of, transaction_period, transaction_deadline, task_transaction, task_ins, Feeds}
use Rattle.graph.specs.Rules.{IsTask, IsTransaction, IsEdge}
use Rattle.graph.specs.Sound.{HasEntries}

-- what holds of each element holds of the one at a place
pub All_at : {X : Type 0} (P : X → Type 0) (xs : List X) (i : ℕ) (x : X) → All P xs → slice_get xs i ≡ Some x → P x
All_at P xs i x all e = subst P (get_or_from_slice_get xs i x x e) (all i x (slice_get_within xs i x e))

-- the task with a number
pub task_at : (net : Net) → HasEntries net → (t : ℕ) → t < length net.tasks → (task : NetTask) × (slice_get net.tasks t ≡ Some task) × IsTask net task
task_at net h t low = elim (slice_get_cases net.tasks t).1 [
  | inl w ↦ (w.0, w.2, All_at (IsTask net) net.tasks t w.0 h.tasks w.2)
  | inr w ↦ absurd (omega (arith, low, w.0))
]

-- the transaction of the task with a number
pub transaction_at : (net : Net) → HasEntries net → (t : ℕ) → t < length net.tasks → (transaction : Transaction) × (slice_get net.transactions (transaction_of net t) ≡ Some transaction) × IsTransaction transaction
transaction_at net h t low =
    let task = task_at net h t low in
    let is : transaction_of net t ≡ task.0.transaction = ap task_transaction task.1 in
    elim (slice_get_cases net.transactions (transaction_of net t)).1 [
      | inl w ↦ (w.0, w.2, All_at IsTransaction net.transactions (transaction_of net t) w.0 h.transactions w.2)
      | inr w ↦ absurd (omega (arith, task.2.transaction, is, w.0))
    ]

-- the limits of a task's period and deadline
pub period_limits : (net : Net) → HasEntries net → (t : ℕ) → t < length net.tasks → (1 ≤ period_of net t) × (period_of net t ≤ 65536) × (deadline_of net t ≤ 65536)
period_limits net h t low =
    let w = transaction_at net h t low in
    let period : period_of net t ≡ w.0.period = ap transaction_period w.1 in
    let deadline : deadline_of net t ≡ w.0.deadline = ap transaction_deadline w.1 in
    (omega (arith, period, w.2.some_period), omega (arith, period, w.2.period), omega (arith, deadline, w.2.deadline, w.2.period))

-- a task with in ports is one of the net's, and has at most 16 of them
pub few_ports : (net : Net) → HasEntries net → (t : ℕ) → length (ins_of net t) ≤ 16
few_ports net h t = elim (slice_get_cases net.tasks t).1 [
  | inl w ↦ (let is : ins_of net t ≡ w.0.ins = ap task_ins w.2 in rw is (omega (arith, (All_at (IsTask net) net.tasks t w.0 h.tasks w.2).ports)))
  | inr w ↦ (let is : ins_of net t ≡ task_ins None = ap task_ins w.1 in rw is (omega arith))
]

pub ports_in : (net : Net) (t port : ℕ) → port < length (ins_of net t) → t < length net.tasks
ports_in net t port low = elim (slice_get_cases net.tasks t).1 [
  | inl w ↦ w.1
  | inr w ↦ (let is : ins_of net t ≡ task_ins None = ap task_ins w.1 in absurd (omega (arith, low, ap length is)))
]

-- tasks that an edge joins are the net's, and have one period
pub joined : (net : Net) → HasEntries net → (p q : ℕ) → Feeds net p q → (p < length net.tasks) × (q < length net.tasks) × (period_of net p ≡ period_of net q)
joined net h p q f =
    let is : IsEdge net f.1 = subst (IsEdge net) f.3 (h.edges f.0 f.1 f.2) in
    let same : transaction_of net p ≡ transaction_of net q = ap (transaction_of net) (sym f.4.0) ∙ is.transaction ∙ ap (transaction_of net) f.4.1 in
    (omega (arith, is.from_task, f.4.0), omega (arith, is.to_task, f.4.1), ap (λ x. transaction_period (slice_get net.transactions x)) same)
