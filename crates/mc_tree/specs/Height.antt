-- How many operand words a part needs: one for its result, and one for each left word that waits for a right one.
-- This project's own, for operands from left to right on a stack.
use Rattle.std.specs.Prelude.{ℕ, ◌+◌, max, List, [], ◌∷◌}
use Rattle.mc_tree.specs.Tree.{Ex, Num, Var, Elem, Un, Bin}

abbrev pub height : Ex → ℕ
height (Num w) = 1
height (Var p) = 1
height (Elem p n i) = height i
height (Un op a) = height a
height (Bin op l r) = max (height l) (1 + height r)

-- the arguments of a call, each above those before it
abbrev pub args_height : List Ex → ℕ
args_height [] = 0
args_height (e ∷ es) = max (height e) (1 + args_height es)
