-- What a refusal that no file and no line asked for was caused by.
use Rattle.std.specs.Prelude.{◌≤◌, ℕ, None, Some}
use Rattle.mars_base.specs.Causes.{Rose}
use Rattle.refusals.specs.declared.refusal.Refusal.{Refusal}
use Rattle.refusals.specs.declared.refusal.Refusal.TheVariants as refusal

-- how often reads of files, writes of files, reads of the input and puts to the output have failed
pub record Counts : Type 0 where
  pub reads : ℕ
  pub writes : ℕ
  pub input : ℕ
  pub output : ℕ

-- a count never falls
pub record Later (before now : Counts) : Type 0 where
  pub in_reads : before.reads ≤ now.reads
  pub in_writes : before.writes ≤ now.writes
  pub in_input : before.input ≤ now.input
  pub in_output : before.output ≤ now.output

-- want of memory is free; a fault was counted where the refusal says: at the file of the name, or without a name at the
-- stream; a file of a shelf that doesn't tell is too long only where a read failed; no other refusal has a cause of its own
abbrev pub Caused : Counts → Counts → Refusal → Type 0
Caused before now refusal.Memory = Unit {0}
Caused before now (refusal.ReadFault (Some name)) = Rose before.reads now.reads
Caused before now (refusal.ReadFault None) = Rose before.input now.input
Caused before now (refusal.WriteFault (Some name)) = Rose before.writes now.writes
Caused before now (refusal.WriteFault None) = Rose before.output now.output
Caused before now (refusal.TooLong (Some name)) = Rose before.reads now.reads
Caused before now other = ⊥

-- so written in contracts
abbrev pub counts : ℕ → ℕ → ℕ → ℕ → Counts
counts reads writes input output = record { reads = reads; writes = writes; input = input; output = output }
