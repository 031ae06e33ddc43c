-- The rules by the fault that breaks each: their order, and the words that tell the fault.
-- This project's own.
use Rattle.std.specs.Prelude.{ℕ, List, codes}
use Rattle.mc_tree.specs.declared.kind.Kind.{Kind}
use Rattle.mc_tree.specs.declared.kind.Kind.TheVariants as kind

abbrev pub rank_of : Kind → ℕ
rank_of kind.TwiceNamed = 1
rank_of kind.UnknownName = 2
rank_of kind.NotAnArray = 3
rank_of kind.IsAnArray = 4
rank_of kind.WrongWidth = 5
rank_of kind.ConstantOutOfRange = 6
rank_of kind.Recursion = 7
rank_of kind.WrongArgumentCount = 8
rank_of kind.MarkOutsideItsScope = 9
rank_of kind.MarkOfAnOuterScope = 10
rank_of kind.NotALoop = 11
rank_of kind.ZeroBound = 12
rank_of kind.BoundTooLarge = 13
rank_of kind.TooMany = 14
rank_of kind.TooManyCounters = 15
rank_of kind.ExpressionTooDeep = 16
rank_of kind.NoBody = 17

abbrev pub printed : Kind → List ℕ
printed kind.TwiceNamed = codes "twice named"
printed kind.UnknownName = codes "unknown name"
printed kind.NotAnArray = codes "not an array"
printed kind.IsAnArray = codes "is an array"
printed kind.WrongWidth = codes "wrong width"
printed kind.ConstantOutOfRange = codes "constant out of range"
printed kind.Recursion = codes "recursion"
printed kind.WrongArgumentCount = codes "wrong argument count"
printed kind.MarkOutsideItsScope = codes "mark outside its scope"
printed kind.MarkOfAnOuterScope = codes "mark of an outer scope"
printed kind.NotALoop = codes "not a loop"
printed kind.ZeroBound = codes "zero bound"
printed kind.BoundTooLarge = codes "bound too large"
printed kind.TooMany = codes "too many"
printed kind.TooManyCounters = codes "too many counters"
printed kind.ExpressionTooDeep = codes "expression too deep"
printed kind.NoBody = codes "no body"
