-- When rows have a fault in their relations at a place.
use Rattle.project_sheet.specs.declared.place.Place.{Place}
use Rattle.project_sheet.specs.declared.kind.Kind.{Kind}
use Rattle.project_sheet.specs.declared.kind.Kind.TheVariants.{UnknownKey, MissingKey, WrongType, OutOfRange, BadName, TwiceNamed, TooMany, RoundTooShort, DeadlineAbovePeriod, UnknownUnit, UnknownTask, TaskNotInTransaction, TaskInTwoTransactions, EdgeBetweenTransactions, EdgesInCircle, UnknownPort, PortNeverFed, PortFedTwice, WidthDiffers}
use Rattle.project_sheet.specs.Sheet.{PlainSheet}
use Rattle.project_relations.specs.Relations.{IsRoundTooShort, IsDeadlineAbovePeriod, IsUnknownUnit, IsUnknownTask, IsTaskNotInTransaction, IsTaskInTwoTransactions, IsEdgeBetweenTransactions, IsEdgesInCircle}

-- rows have a fault of this kind at this place; other kinds than 9 to 16 don't speak of how rows relate
abbrev pub RelationFails : PlainSheet → Kind → Place → Type 0
RelationFails s UnknownKey p = ⊥
RelationFails s MissingKey p = ⊥
RelationFails s WrongType p = ⊥
RelationFails s OutOfRange p = ⊥
RelationFails s BadName p = ⊥
RelationFails s TwiceNamed p = ⊥
RelationFails s TooMany p = ⊥
RelationFails s RoundTooShort p = IsRoundTooShort s p
RelationFails s DeadlineAbovePeriod p = IsDeadlineAbovePeriod s p
RelationFails s UnknownUnit p = IsUnknownUnit s p
RelationFails s UnknownTask p = IsUnknownTask s p
RelationFails s TaskNotInTransaction p = IsTaskNotInTransaction s p
RelationFails s TaskInTwoTransactions p = IsTaskInTwoTransactions s p
RelationFails s EdgeBetweenTransactions p = IsEdgeBetweenTransactions s p
RelationFails s EdgesInCircle p = IsEdgesInCircle s p
RelationFails s UnknownPort p = ⊥
RelationFails s PortNeverFed p = ⊥
RelationFails s PortFedTwice p = ⊥
RelationFails s WidthDiffers p = ⊥
