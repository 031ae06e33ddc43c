-- When a document has a fault of form at a place.
use Rattle.toml.specs.Data.{Members}
use Rattle.project_sheet.specs.declared.place.Place.{Place}
use Rattle.project_sheet.specs.declared.form.Rule.TheVariants as rule
use Rattle.project_sheet.specs.declared.kind.Kind.{Kind}
use Rattle.project_sheet.specs.declared.kind.Kind.TheVariants.{UnknownKey, MissingKey, WrongType, OutOfRange, BadName, TwiceNamed, TooMany, RoundTooShort, DeadlineAbovePeriod, UnknownUnit, UnknownTask, TaskNotInTransaction, TaskInTwoTransactions, EdgeBetweenTransactions, EdgesInCircle, UnknownPort, PortNeverFed, PortFedTwice, WidthDiffers}
use Rattle.project_sheet.specs.Document.{Breaks}

-- the document has a fault of this kind at this place; kinds above 4 don't speak of form
abbrev pub FormFails : Members → Kind → Place → Type 0
FormFails doc UnknownKey p = Breaks doc rule.UnknownKey p
FormFails doc MissingKey p = Breaks doc rule.MissingKey p
FormFails doc WrongType p = Breaks doc rule.WrongType p
FormFails doc OutOfRange p = ⊥
FormFails doc BadName p = ⊥
FormFails doc TwiceNamed p = ⊥
FormFails doc TooMany p = ⊥
FormFails doc RoundTooShort p = ⊥
FormFails doc DeadlineAbovePeriod p = ⊥
FormFails doc UnknownUnit p = ⊥
FormFails doc UnknownTask p = ⊥
FormFails doc TaskNotInTransaction p = ⊥
FormFails doc TaskInTwoTransactions p = ⊥
FormFails doc EdgeBetweenTransactions p = ⊥
FormFails doc EdgesInCircle p = ⊥
FormFails doc UnknownPort p = ⊥
FormFails doc PortNeverFed p = ⊥
FormFails doc PortFedTwice p = ⊥
FormFails doc WidthDiffers p = ⊥
