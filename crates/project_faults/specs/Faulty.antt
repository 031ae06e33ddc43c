-- A fault of a project as it is told.
use Rattle.std.specs.Prelude.{ℕ, List}
use Rattle.project_sheet.specs.declared.kind.Fault.{Fault}
use Rattle.project_sheet.specs.declared.kind.Kind.{Kind}
use Rattle.project_sheet.specs.declared.kind.Kind.TheVariants as kind
use Rattle.project_sheet.specs.declared.place.Place.{Place}
use Rattle.project_sheet.specs.declared.place.Section.{Section}
use Rattle.project_sheet.specs.declared.place.Section.TheVariants as section
use Rattle.refusals.specs.declared.fault.Fault.TheVariants as fault
use Rattle.refusals.specs.declared.project.Place.{Place as ToldPlace}
use Rattle.refusals.specs.declared.project.ProjectKind.{ProjectKind}
use Rattle.refusals.specs.declared.project.ProjectKind.TheVariants as told_kind
use Rattle.refusals.specs.declared.project.Section.{Section as ToldSection}
use Rattle.refusals.specs.declared.project.Section.TheVariants as told_section
use Rattle.refusals.specs.declared.refusal.Refusal.{Refusal}
use Rattle.refusals.specs.declared.refusal.Refusal.TheVariants as refusal

-- a section and a kind, as refusals name them
abbrev pub section_of : Section → ToldSection
section_of section.Top = told_section.Top
section_of section.Cluster = told_section.Cluster
section_of section.Task = told_section.Task
section_of section.Transaction = told_section.Transaction
section_of section.Edge = told_section.Edge
section_of section.Sensor = told_section.Sensor
section_of section.Actuator = told_section.Actuator

abbrev pub kind_of : Kind → ProjectKind
kind_of kind.UnknownKey = told_kind.UnknownKey
kind_of kind.MissingKey = told_kind.MissingKey
kind_of kind.WrongType = told_kind.WrongType
kind_of kind.OutOfRange = told_kind.OutOfRange
kind_of kind.BadName = told_kind.BadName
kind_of kind.TwiceNamed = told_kind.TwiceNamed
kind_of kind.TooMany = told_kind.TooMany
kind_of kind.RoundTooShort = told_kind.RoundTooShort
kind_of kind.DeadlineAbovePeriod = told_kind.DeadlineAbovePeriod
kind_of kind.UnknownUnit = told_kind.UnknownUnit
kind_of kind.UnknownTask = told_kind.UnknownTask
kind_of kind.TaskNotInTransaction = told_kind.TaskNotInTransaction
kind_of kind.TaskInTwoTransactions = told_kind.TaskInTwoTransactions
kind_of kind.EdgeBetweenTransactions = told_kind.EdgeBetweenTransactions
kind_of kind.EdgesInCircle = told_kind.EdgesInCircle
kind_of kind.UnknownPort = told_kind.UnknownPort
kind_of kind.PortNeverFed = told_kind.PortNeverFed
kind_of kind.PortFedTwice = told_kind.PortFedTwice
kind_of kind.WidthDiffers = told_kind.WidthDiffers

abbrev pub place_of : Place → ToldPlace
place_of p = record { section = section_of p.section; entry = p.entry }

-- the refusal for a fault of the project in a file
abbrev pub faulty : List ℕ → Fault → Refusal
faulty file f = refusal.Fault (fault.Project file (place_of f.place) (kind_of f.kind))
