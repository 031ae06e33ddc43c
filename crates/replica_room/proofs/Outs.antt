-- The out ports of a task.
use Rattle.std.proofs.Common.{◌≡◌, ℕ, ◌<◌, ◌≤◌, length, inl, inr, ap, arith, None}
use Rattle.std.specs.Prelude.{slice_index}
use Rattle.std.proofs.lemmas.Option.{slice_get_cases}
use Rattle.std.proofs.lemmas.List.Elements.{All-get_or}
use Rattle.graph.specs.declared.net.Net.{Net}
use Rattle.graph.specs.Net.{outs_of, task_outs}
use Rattle.graph.specs.Rules.{IsTask, IsWidth}
use Rattle.graph.specs.Sound.{HasEntries}
use Rattle.graph.proofs.Entries.{All_at}

-- a task has at most 16 out ports
pub few_outs : (net : Net) → HasEntries net → (task : ℕ) → length (outs_of net task) ≤ 16
few_outs net h task = elim (slice_get_cases net.tasks task).1 [
  | inl w ↦ (let is : outs_of net task ≡ w.0.outs = ap task_outs w.2 in rw is (omega (arith, (All_at (IsTask net) net.tasks task w.0 h.tasks w.2).ports)))
  | inr w ↦ (let is : outs_of net task ≡ task_outs None = ap task_outs w.1 in rw is (omega arith))
]

-- each has at most 16 words
pub narrow_out : (net : Net) → HasEntries net → (task port : ℕ) → port < length (outs_of net task) → slice_index (outs_of net task) port ≤ 16
narrow_out net h task port low = elim (slice_get_cases net.tasks task).1 [
  | inl w ↦
      let is : outs_of net task ≡ w.0.outs = ap task_outs w.2 in
      let all : IsWidth (slice_index w.0.outs port) = All-get_or IsWidth w.0.outs port 0 (omega (arith, low, ap length is)) (All_at (IsTask net) net.tasks task w.0 h.tasks w.2).out_widths in
      omega (arith, ap (λ ws. slice_index ws port) is, all.1)
  | inr w ↦ (let is : outs_of net task ≡ task_outs None = ap task_outs w.1 in absurd (omega (arith, low, ap length is)))
]
