-- What straight code costs: an expression's code has no jump, so each run through it costs the same.
-- This project's own.
use Rattle.std.specs.Prelude.{ℕ, ◌+◌, List, [], ◌∷◌}
use Rattle.mars_base.specs.declared.word.BinOp.{BinOp}
use Rattle.mc_tree.specs.Tree.{Ex, Num, Var, Elem, Un, Bin}
use Rattle.word_code.specs.Cost.{cost_of}
use Rattle.word_code.specs.declared.code.Slot.{Slot}
use Rattle.mc_compile.specs.Translate.{between, joined}

-- the costs of instructions together
abbrev pub costs_of : List Slot → ℕ
costs_of [] = 0
costs_of (s ∷ ss) = cost_of s.instr + costs_of ss

abbrev pub operator_cost : BinOp → ℕ
operator_cost op = costs_of (between op 0) + costs_of (joined op 0)

-- the cycles of an expression
abbrev pub ex_cost : Ex → ℕ
ex_cost (Num w) = 1
ex_cost (Var a) = 2
ex_cost (Elem a n i) = ex_cost i + 4
ex_cost (Un op e) = ex_cost e + 1
ex_cost (Bin op l r) = ex_cost l + ex_cost r + operator_cost op

-- the cycles of arguments
abbrev pub args_cost : List Ex → ℕ
args_cost [] = 0
args_cost (e ∷ es) = ex_cost e + args_cost es
