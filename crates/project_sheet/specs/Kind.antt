-- The numbers of the kinds, and the fault that comes first: of the least kind, and then at the first place.
use Rattle.std.specs.Prelude.{◌≡◌, ℕ, ◌<◌, ◌≤◌, ◌⊎◌, Option, Some, None}
use Rattle.project_sheet.specs.declared.place.Place.{Place}
use Rattle.project_sheet.specs.declared.kind.Kind.{Kind}
use Rattle.project_sheet.specs.declared.kind.Kind.TheVariants.{UnknownKey, MissingKey, WrongType, OutOfRange, BadName, TwiceNamed, TooMany, RoundTooShort, DeadlineAbovePeriod, UnknownUnit, UnknownTask, TaskNotInTransaction, TaskInTwoTransactions, EdgeBetweenTransactions, EdgesInCircle, UnknownPort, PortNeverFed, PortFedTwice, WidthDiffers}
use Rattle.project_sheet.specs.declared.kind.Fault.{Fault}
use Rattle.project_sheet.specs.First.{IsUpTo}

abbrev pub number_of_kind : Kind → ℕ
number_of_kind UnknownKey = 2
number_of_kind MissingKey = 3
number_of_kind WrongType = 4
number_of_kind OutOfRange = 5
number_of_kind BadName = 6
number_of_kind TwiceNamed = 7
number_of_kind TooMany = 8
number_of_kind RoundTooShort = 9
number_of_kind DeadlineAbovePeriod = 10
number_of_kind UnknownUnit = 11
number_of_kind UnknownTask = 12
number_of_kind TaskNotInTransaction = 13
number_of_kind TaskInTwoTransactions = 14
number_of_kind EdgeBetweenTransactions = 15
number_of_kind EdgesInCircle = 16
number_of_kind UnknownPort = 17
number_of_kind PortNeverFed = 18
number_of_kind PortFedTwice = 19
number_of_kind WidthDiffers = 20

-- a fault is the other or comes before it: by kind, and then by place
abbrev pub Precedes : Fault → Kind → Place → Type 0
Precedes f kind place = (number_of_kind f.kind < number_of_kind kind) ⊎ ((f.kind ≡ kind) × IsUpTo f.place place)

-- it's the first of the faults whose kinds have numbers from low up to below high; None where there is none
abbrev pub IsFirstIn : (Kind → Place → Type 0) → (low high : ℕ) → Option Fault → Type 0
IsFirstIn Fails low high None = (kind : Kind) (place : Place) → low ≤ number_of_kind kind → number_of_kind kind < high → Fails kind place → ⊥
IsFirstIn Fails low high (Some f) = (number_of_kind f.kind < high) × Fails f.kind f.place × ((kind : Kind) (place : Place) → low ≤ number_of_kind kind → number_of_kind kind < high → Fails kind place → Precedes f kind place)

-- it's the first of all faults
abbrev pub IsFirst : (Kind → Place → Type 0) → Fault → Type 0
IsFirst Fails f = Fails f.kind f.place × ((kind : Kind) (place : Place) → Fails kind place → Precedes f kind place)
