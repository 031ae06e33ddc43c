-- What the contracts of helpers cite; no public clause does.
use Rattle.std.specs.Prelude.{ℕ, List, Some}
use Rattle.mars_base.specs.declared.outside.ShelfFault.{ShelfFault}
use Rattle.mars_base.specs.declared.outside.ShelfFault.TheVariants as fault
use Rattle.refusals.specs.declared.refusal.Refusal.{Refusal}
use Rattle.refusals.specs.declared.refusal.Refusal.TheVariants as refusal

-- the refusal of a read that was refused
abbrev pub refused_read : List ℕ → ShelfFault → Refusal
refused_read name fault.Memory = refusal.Memory
refused_read name fault.TooLong = refusal.TooLong (Some name)
refused_read name fault.Missing = refusal.ReadFault (Some name)
refused_read name fault.Failed = refusal.ReadFault (Some name)
