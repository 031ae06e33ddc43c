-- When a document has a fault of a kind at a place, and which fault of a text is the first.
use Rattle.std.specs.Prelude.{◌≡◌, ℕ, List, Some, None, All}
use Rattle.toml.specs.Data.{Members}
use Rattle.project_sheet.specs.declared.place.Place.{Place}
use Rattle.project_sheet.specs.declared.form.Rule.TheVariants as rule
use Rattle.project_sheet.specs.declared.kind.Kind.{Kind}
use Rattle.project_sheet.specs.declared.kind.Kind.TheVariants.{UnknownKey, MissingKey, WrongType, OutOfRange, BadName, TwiceNamed, TooMany, RoundTooShort, DeadlineAbovePeriod, UnknownUnit, UnknownTask, TaskNotInTransaction, TaskInTwoTransactions, EdgeBetweenTransactions, EdgesInCircle, UnknownPort, PortNeverFed, PortFedTwice, WidthDiffers}
use Rattle.project_sheet.specs.declared.kind.Fault.{Fault}
use Rattle.toml.specs.declared.de.error.Error.{Error}
use Rattle.toml.specs.Errors.{IsMemory}
use Rattle.project_reader.specs.declared.read.Checked.{Checked}
use Rattle.project_reader.specs.declared.read.Checked.TheVariants.{Good, Faulty}
use Rattle.project_reader.specs.declared.read.ProjectFault.{ProjectFault}
use Rattle.project_reader.specs.declared.read.ProjectFault.TheVariants.{Bad, Memory}
use Rattle.project_sheet.specs.Document.{IsDocument, Breaks}
use Rattle.project_sheet.specs.Sheet.{sheet_of}
use Rattle.project_reader.specs.declared.project.Project.{Project}
use Rattle.project_reader.specs.ProjectOf.{project_of, IsNamedInUtf8}
use Rattle.project_rows.specs.Rules.{IsOutOfRange, IsBadName, IsTwiceNamed, IsTooMany}
use Rattle.project_relations.specs.Relations.{IsRoundTooShort, IsDeadlineAbovePeriod, IsUnknownUnit, IsUnknownTask, IsTaskNotInTransaction, IsTaskInTwoTransactions, IsEdgeBetweenTransactions, IsEdgesInCircle}
use Rattle.project_sheet.specs.Kind.{number_of_kind, IsFirst}

-- the document has a fault of this kind at this place; kinds above 16 speak of the ports of tasks, which a document doesn't tell
abbrev pub Fails : Members → Kind → Place → Type 0
Fails doc UnknownKey p = Breaks doc rule.UnknownKey p
Fails doc MissingKey p = Breaks doc rule.MissingKey p
Fails doc WrongType p = Breaks doc rule.WrongType p
Fails doc OutOfRange p = IsOutOfRange (sheet_of doc) p
Fails doc BadName p = IsBadName (sheet_of doc) p
Fails doc TwiceNamed p = IsTwiceNamed (sheet_of doc) p
Fails doc TooMany p = IsTooMany (sheet_of doc) p
Fails doc RoundTooShort p = IsRoundTooShort (sheet_of doc) p
Fails doc DeadlineAbovePeriod p = IsDeadlineAbovePeriod (sheet_of doc) p
Fails doc UnknownUnit p = IsUnknownUnit (sheet_of doc) p
Fails doc UnknownTask p = IsUnknownTask (sheet_of doc) p
Fails doc TaskNotInTransaction p = IsTaskNotInTransaction (sheet_of doc) p
Fails doc TaskInTwoTransactions p = IsTaskInTwoTransactions (sheet_of doc) p
Fails doc EdgeBetweenTransactions p = IsEdgeBetweenTransactions (sheet_of doc) p
Fails doc EdgesInCircle p = IsEdgesInCircle (sheet_of doc) p
Fails doc UnknownPort p = ⊥
Fails doc PortNeverFed p = ⊥
Fails doc PortFedTwice p = ⊥
Fails doc WidthDiffers p = ⊥

-- the fault of a text that comes first: kind 1 where the text is no document, and else the document's first fault
abbrev pub IsFaultOf : List ℕ → ProjectFault → Type 0
IsFaultOf bytes (Bad kind None) = (kind ≡ 1) × ((doc : Members) → IsDocument bytes doc → ⊥)
IsFaultOf bytes (Bad kind (Some place)) = (doc : Members) × (f : Fault) × IsDocument bytes doc × IsFirst (Fails doc) f × (number_of_kind f.kind ≡ kind) × (f.place ≡ place)
IsFaultOf bytes Memory = Unit {0}

-- the text is a document without a fault, and the project is the document's
pub record IsProjectOf (bytes : List ℕ) (project : Project) : Type 0 where
  pub doc : Members
  pub document : IsDocument bytes doc
  pub no_fault : (kind : Kind) (place : Place) → Fails doc kind place → ⊥
  pub is : project ≡ project_of (sheet_of doc)

-- what the check of a document answers: its project where it has no fault, and else its first fault
abbrev pub IsChecked : Members → Checked → Type 0
IsChecked doc (Good project) = ((kind : Kind) (place : Place) → Fails doc kind place → ⊥) × (project ≡ project_of (sheet_of doc)) × All IsNamedInUtf8 project.tasks
IsChecked doc (Faulty fault) = IsFirst (Fails doc) fault

-- what is answered where toml gave an error: memory alone, or kind 1 where it wasn't memory
abbrev pub IsUnread : Error → ProjectFault → Type 0
IsUnread e (Bad kind None) = (kind ≡ 1) × (IsMemory e → ⊥)
IsUnread e (Bad kind (Some place)) = ⊥
IsUnread e Memory = Unit {0}
