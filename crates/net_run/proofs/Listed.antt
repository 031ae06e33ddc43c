-- Where the results and the states of a cycle stand in its lists.
use Rattle.std.proofs.Common.{◌≡◌, ℕ, zero, suc, ◌+◌, ◌<◌, ◌≤◌, inl, inr, List, [], ◌∷◌, ◌++◌, length, get_or, ℤ, refl, sym, ◌∙◌, ap, subst, arith, length-append}
use Rattle.std.proofs.lemmas.Bool.{cases_eq}
use Rattle.std.proofs.lemmas.List.{length_push, get_or_append_left, get_or_at, get_or-append-add}
use Rattle.graph.specs.Cycle.{first_job}
use Rattle.graph.specs.Net.{instances}
use Rattle.graph.specs.declared.net.Net.{Net}
use Rattle.net_run.specs.Equation.{ResultsByNumber, StatesByTask}
use Rattle.net_run.specs.NetRun.{Skipped, Execution, result_of, state_of, state_before, task_results, results_to, states_to}

module _ (net : Net) (cycle : ℕ) (exec : Execution) (line : List ℤ) (start : List (List ℤ)) where
  count_of_task : (task n : ℕ) → length (task_results net cycle exec line start task n) ≡ n
  count_of_task task zero = refl
  count_of_task task (suc n) = omega (arith, length_push (task_results net cycle exec line start task n) (result_of net cycle exec line start n task), count_of_task task n)

  at_instance : (task n instance : ℕ) → instance < n → get_or (task_results net cycle exec line start task n) instance Skipped ≡ result_of net cycle exec line start instance task
  at_instance task zero instance low = absurd (omega (arith, low))
  at_instance task (suc n) instance low = elim (cases_eq instance n) [
    | inl same ↦ subst (λ i. get_or (task_results net cycle exec line start task (suc n)) i Skipped ≡ result_of net cycle exec line start i task) (sym same)
        (get_or_at (task_results net cycle exec line start task n) (result_of net cycle exec line start n task) [] Skipped n (count_of_task task n))
    | inr other ↦
        get_or_append_left (task_results net cycle exec line start task n) (result_of net cycle exec line start n task ∷ []) Skipped instance (omega (arith, low, other, count_of_task task n))
        ∙ at_instance task n instance (omega (arith, low, other))
  ]

  count_of_tasks : (n : ℕ) → length (results_to net cycle exec line start n) ≡ first_job net cycle n
  count_of_tasks zero = refl
  count_of_tasks (suc n) = omega (arith, length-append (results_to net cycle exec line start n) (task_results net cycle exec line start n (instances net cycle n)), count_of_tasks n, count_of_task n (instances net cycle n))

  -- the jobs of a task come before those of a later one
  before_next : (task n : ℕ) → task < n → first_job net cycle task + instances net cycle task ≤ first_job net cycle n
  before_next task zero low = absurd (omega (arith, low))
  before_next task (suc n) low = elim (cases_eq task n) [
    | inl same ↦ subst (λ t. first_job net cycle t + instances net cycle t ≤ first_job net cycle n + instances net cycle n) (sym same) (omega arith)
    | inr other ↦ omega (arith, before_next task n (omega (arith, low, other)))
  ]

  at_job : (n task instance : ℕ) → task < n → instance < instances net cycle task
      → get_or (results_to net cycle exec line start n) (first_job net cycle task + instance) Skipped ≡ result_of net cycle exec line start instance task
  at_job zero task instance low run = absurd (omega (arith, low))
  at_job (suc n) task instance low run = elim (cases_eq task n) [
    | inl same ↦ subst (λ t. instance < instances net cycle t → get_or (results_to net cycle exec line start (suc n)) (first_job net cycle t + instance) Skipped ≡ result_of net cycle exec line start instance t) (sym same)
        (λ r. ap (λ k. get_or (results_to net cycle exec line start n ++ task_results net cycle exec line start n (instances net cycle n)) (k + instance) Skipped) (sym (count_of_tasks n))
        ∙ get_or-append-add (results_to net cycle exec line start n) (task_results net cycle exec line start n (instances net cycle n)) instance Skipped
        ∙ at_instance n (instances net cycle n) instance r) run
    | inr other ↦
        let before = before_next task n (omega (arith, low, other)) in
        get_or_append_left (results_to net cycle exec line start n) (task_results net cycle exec line start n (instances net cycle n)) Skipped (first_job net cycle task + instance) (omega (arith, before, run, count_of_tasks n))
        ∙ at_job n task instance (omega (arith, low, other)) run
  ]

  count_of_states : (n : ℕ) → length (states_to net cycle exec line start n) ≡ n
  count_of_states zero = refl
  count_of_states (suc n) = omega (arith, length_push (states_to net cycle exec line start n) (state_before net cycle exec line start (instances net cycle n) n), count_of_states n)

  at_task : (n task : ℕ) → task < n → state_of (states_to net cycle exec line start n) task ≡ state_before net cycle exec line start (instances net cycle task) task
  at_task zero task low = absurd (omega (arith, low))
  at_task (suc n) task low = elim (cases_eq task n) [
    | inl same ↦ subst (λ t. state_of (states_to net cycle exec line start (suc n)) t ≡ state_before net cycle exec line start (instances net cycle t) t) (sym same)
        (get_or_at (states_to net cycle exec line start n) (state_before net cycle exec line start (instances net cycle n) n) [] [] n (count_of_states n))
    | inr other ↦
        get_or_append_left (states_to net cycle exec line start n) (state_before net cycle exec line start (instances net cycle n) n ∷ []) [] task (omega (arith, low, other, count_of_states n))
        ∙ at_task n task (omega (arith, low, other))
  ]

pub results_by_number : ResultsByNumber
results_by_number net cycle exec start line instance task low run = at_job net cycle exec line start (length net.tasks) task instance low run

pub states_by_task : StatesByTask
states_by_task = record {
  count = λ net cycle exec start line. count_of_states net cycle exec line start (length net.tasks);
  each = λ net cycle exec start line task low. at_task net cycle exec line start (length net.tasks) task low;
}
