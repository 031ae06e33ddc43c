-- Under the rule on units, each entry's unit is one of the cluster's.
use Rattle.std.proofs.Common.{◌≡◌, ℕ, ◌<◌, length, inl, inr, ap, subst, arith}
use Rattle.std.specs.Int.{bit_at}
use Rattle.std.proofs.lemmas.Bool.{cases_lt}
use Rattle.std.proofs.lemmas.List.{get_or_past}
use Rattle.std.proofs.lemmas.Nat.Bits.{bit_at_above}
use Rattle.graph.specs.declared.net.Net.{Net}
use Rattle.graph.specs.JobGraph.{JobGraph}
use Rattle.graph.specs.Net.{units_of, task_units}
use Rattle.graph.specs.NetGraph.{IsNetGraph}
use Rattle.graph.proofs.Entries.{task_at}
use Rattle.tables.specs.declared.table.JobEntry.{JobEntry}
use Rattle.tables.specs.declared.table.Tables.{Tables}
use Rattle.tables.specs.Named.{no_entry, job_at, entry_at}
use Rattle.tables.specs.Rules.{HasEachJob, HasUnits}
use Rattle.tables.proofs.FirstJobs.{has_first}

pub few_units : (net : Net) (g : JobGraph) (t : Tables) → IsNetGraph net g → HasEachJob g t → HasUnits net g t → (job : ℕ) → (entry_at t job).unit < net.shape.units
few_units net g t n jobs units job = elim (cases_lt job (length g.jobs)) [
  | inl low ↦ (
      let first = has_first net g job n low in
      let task = task_at net n.is.rules.entry_rules.entries (job_at g job).task first.task in
      let mask : units_of net (job_at g job).task ≡ task.0.units = ap task_units task.1 in
      elim (cases_lt (entry_at t job).unit net.shape.units) [
        | inl less ↦ less
        | inr more ↦ (
            let none = bit_at_above task.0.units net.shape.units (entry_at t job).unit task.2.known_units more in
            let one : bit_at task.0.units (entry_at t job).unit ≡ 1 = subst (λ m. bit_at m (entry_at t job).unit ≡ 1) mask (units.allowed job low) in
            absurd (omega (arith, none, one)))
      ])
  | inr past ↦ (let e : entry_at t job ≡ no_entry = get_or_past t.jobs job no_entry (omega (arith, past, jobs.count)) in
      let some = n.is.rules.entry_rules.shape.units in let z : (entry_at t job).unit ≡ 0 = ap (λ (x : JobEntry). x.unit) e in omega (arith, z, some.0))
]
