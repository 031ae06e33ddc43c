-- When rows have a fault by themselves at a place.
use Rattle.project_sheet.specs.declared.place.Place.{Place}
use Rattle.project_sheet.specs.declared.kind.Kind.{Kind}
use Rattle.project_sheet.specs.declared.kind.Kind.TheVariants.{UnknownKey, MissingKey, WrongType, OutOfRange, BadName, TwiceNamed, TooMany, RoundTooShort, DeadlineAbovePeriod, UnknownUnit, UnknownTask, TaskNotInTransaction, TaskInTwoTransactions, EdgeBetweenTransactions, EdgesInCircle, UnknownPort, PortNeverFed, PortFedTwice, WidthDiffers}
use Rattle.project_sheet.specs.Sheet.{PlainSheet}
use Rattle.project_rows.specs.Rules.{IsOutOfRange, IsBadName, IsTwiceNamed, IsTooMany}

-- rows have a fault of this kind at this place; other kinds than 5 to 8 don't speak of single rows
abbrev pub RowFails : PlainSheet → Kind → Place → Type 0
RowFails s UnknownKey p = ⊥
RowFails s MissingKey p = ⊥
RowFails s WrongType p = ⊥
RowFails s OutOfRange p = IsOutOfRange s p
RowFails s BadName p = IsBadName s p
RowFails s TwiceNamed p = IsTwiceNamed s p
RowFails s TooMany p = IsTooMany s p
RowFails s RoundTooShort p = ⊥
RowFails s DeadlineAbovePeriod p = ⊥
RowFails s UnknownUnit p = ⊥
RowFails s UnknownTask p = ⊥
RowFails s TaskNotInTransaction p = ⊥
RowFails s TaskInTwoTransactions p = ⊥
RowFails s EdgeBetweenTransactions p = ⊥
RowFails s EdgesInCircle p = ⊥
RowFails s UnknownPort p = ⊥
RowFails s PortNeverFed p = ⊥
RowFails s PortFedTwice p = ⊥
RowFails s WidthDiffers p = ⊥
