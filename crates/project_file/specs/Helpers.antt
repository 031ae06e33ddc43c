-- What the contracts of helpers cite; no public clause does.
use Rattle.std.specs.Prelude.{◌≡◌, ℕ, List, Some, None}
use Rattle.project_faults.specs.Faulty.{faulty}
use Rattle.project_reader.specs.declared.read.ProjectFault.{ProjectFault}
use Rattle.project_reader.specs.declared.read.ProjectFault.TheVariants as read
use Rattle.project_sheet.specs.Kind.{number_of_kind}
use Rattle.project_sheet.specs.declared.kind.Kind.{Kind}
use Rattle.refusals.specs.declared.fault.Fault.TheVariants as fault
use Rattle.refusals.specs.declared.refusal.Refusal.{Refusal}
use Rattle.refusals.specs.declared.refusal.Refusal.TheVariants as refusal

-- the refusal for a fault of a text, with the name of its file
abbrev pub IsToldAs : List ℕ → ProjectFault → Refusal → Type 0
IsToldAs file (read.Bad n None) told = told ≡ refusal.Fault (fault.NotToml file)
IsToldAs file (read.Bad n (Some place)) told = (kind : Kind) → number_of_kind kind ≡ n → told ≡ faulty file (record { kind = kind; place = place })
IsToldAs file read.Memory told = told ≡ refusal.Memory
