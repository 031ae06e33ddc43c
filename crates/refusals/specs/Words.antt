-- The words that are printed for sections and kinds.
use Rattle.std.specs.Prelude.{ℕ, List, codes}
use Rattle.mc_tree.specs.declared.kind.Kind.{Kind}
use Rattle.mc_tree.specs.declared.kind.Kind.TheVariants as kind
use Rattle.refusals.specs.declared.project.Section.{Section}
use Rattle.refusals.specs.declared.project.Section.TheVariants as section
use Rattle.refusals.specs.declared.project.ProjectKind.{ProjectKind}
use Rattle.refusals.specs.declared.project.ProjectKind.TheVariants as project

-- the rules of the language
abbrev pub kind_text : Kind → List ℕ
kind_text kind.TwiceNamed = codes "twice named"
kind_text kind.UnknownName = codes "unknown name"
kind_text kind.NotAnArray = codes "not an array"
kind_text kind.IsAnArray = codes "is an array"
kind_text kind.WrongWidth = codes "wrong width"
kind_text kind.ConstantOutOfRange = codes "constant out of range"
kind_text kind.Recursion = codes "recursion"
kind_text kind.WrongArgumentCount = codes "wrong argument count"
kind_text kind.MarkOutsideItsScope = codes "mark outside its scope"
kind_text kind.MarkOfAnOuterScope = codes "mark of an outer scope"
kind_text kind.NotALoop = codes "not a loop"
kind_text kind.ZeroBound = codes "zero bound"
kind_text kind.BoundTooLarge = codes "bound too large"
kind_text kind.TooMany = codes "too many"
kind_text kind.TooManyCounters = codes "too many counters"
kind_text kind.ExpressionTooDeep = codes "expression too deep"
kind_text kind.NoBody = codes "no body"

-- the sections of a project file
abbrev pub section_text : Section → List ℕ
section_text section.Top = codes "top"
section_text section.Cluster = codes "cluster"
section_text section.Task = codes "task"
section_text section.Transaction = codes "transaction"
section_text section.Edge = codes "edge"
section_text section.Sensor = codes "sensor"
section_text section.Actuator = codes "actuator"

-- the rules of projects
abbrev pub project_kind_text : ProjectKind → List ℕ
project_kind_text project.UnknownKey = codes "unknown key"
project_kind_text project.MissingKey = codes "missing key"
project_kind_text project.WrongType = codes "wrong type"
project_kind_text project.OutOfRange = codes "out of range"
project_kind_text project.BadName = codes "bad name"
project_kind_text project.TwiceNamed = codes "twice named"
project_kind_text project.TooMany = codes "too many"
project_kind_text project.RoundTooShort = codes "round too short"
project_kind_text project.DeadlineAbovePeriod = codes "deadline above period"
project_kind_text project.UnknownUnit = codes "unknown unit"
project_kind_text project.UnknownTask = codes "unknown task"
project_kind_text project.TaskNotInTransaction = codes "task not in a transaction"
project_kind_text project.TaskInTwoTransactions = codes "task in two transactions"
project_kind_text project.EdgeBetweenTransactions = codes "edge between transactions"
project_kind_text project.EdgesInCircle = codes "edges in a circle"
project_kind_text project.UnknownPort = codes "unknown port"
project_kind_text project.PortNeverFed = codes "port never fed"
project_kind_text project.PortFedTwice = codes "port fed twice"
project_kind_text project.WidthDiffers = codes "width differs"
