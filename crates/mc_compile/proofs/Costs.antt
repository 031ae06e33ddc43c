-- The cost of straight code is the sum of its costs.
use Rattle.std.proofs.Common.{◌≡◌, ℕ, ◌+◌, ◌*◌, List, [], ◌∷◌, ◌++◌, length, refl, arith}
use Rattle.mars_base.specs.declared.word.BinOp.{BinOp}
use Rattle.mars_base.specs.declared.word.BinOp.TheVariants.{Or, And, BitOr, BitXor, BitAnd, Eq, Ne, Lt, Le, Gt, Ge, Shl, Shr, Add, Sub, Mul, Div, Rem}
use Rattle.mars_base.specs.declared.word.UnOp.{UnOp}
use Rattle.mars_base.specs.declared.word.UnOp.TheVariants as one
use Rattle.mc_tree.specs.Tree.{Ex, Num, Var, Elem, Un, Bin}
use Rattle.word_code.specs.Cost.{cost_of}
use Rattle.word_code.specs.declared.code.Instr.TheVariants.{Store, LoadX}
use Rattle.word_code.specs.declared.code.Slot.{Slot}
use Rattle.mc_compile.specs.Translate.{slot, unary_instr, between, joined, ex_code, args_code, stores_code}
use Rattle.mc_compile.specs.Cost.{costs_of, operator_cost, ex_cost, args_cost}

-- the costs of one list behind another
pub costs_append : (a b : List Slot) → costs_of (a ++ b) ≡ costs_of a + costs_of b
costs_append [] b = omega arith
costs_append (s ∷ a) b = omega (arith, costs_append a b)

-- the height changes no cost
pub operator_costs : (op : BinOp) (h : ℕ) → costs_of (between op h) + costs_of (joined op h) ≡ operator_cost op
operator_costs Or h = refl
operator_costs And h = refl
operator_costs BitOr h = refl
operator_costs BitXor h = refl
operator_costs BitAnd h = refl
operator_costs Eq h = refl
operator_costs Ne h = refl
operator_costs Lt h = refl
operator_costs Le h = refl
operator_costs Gt h = refl
operator_costs Ge h = refl
operator_costs Shl h = refl
operator_costs Shr h = refl
operator_costs Add h = refl
operator_costs Sub h = refl
operator_costs Mul h = refl
operator_costs Div h = refl
operator_costs Rem h = refl

-- each operator of one word costs 1
pub unary_cost : (op : UnOp) → cost_of (unary_instr op) ≡ 1
unary_cost one.Neg = refl
unary_cost one.Not = refl
unary_cost one.Inv = refl

-- an expression
pub ex_costs : (h : ℕ) (e : Ex) → costs_of (ex_code h e) ≡ ex_cost e
ex_costs h (Num w) = refl
ex_costs h (Var a) = refl
ex_costs h (Elem a n i) = omega (arith, costs_append (ex_code h i) (slot (LoadX a n) (h + 1) ∷ []), ex_costs h i)
ex_costs h (Un op e) =
    omega (arith, costs_append (ex_code h e) (slot (unary_instr op) (h + 1) ∷ []), ex_costs h e, unary_cost op)
ex_costs h (Bin op l r) =
    let right = ex_code (h + 1) r ++ joined op h in
    omega (arith, costs_append (ex_code h l) (between op h ++ right), costs_append (between op h) right, costs_append (ex_code (h + 1) r) (joined op h), ex_costs h l, ex_costs (h + 1) r, operator_costs op h)

-- arguments
pub args_costs : (h : ℕ) (es : List Ex) → costs_of (args_code h es) ≡ args_cost es
args_costs h [] = refl
args_costs h (e ∷ es) =
    omega (arith, costs_append (ex_code h e) (args_code (h + 1) es), ex_costs h e, args_costs (h + 1) es)

-- the stores of parameters, of 2 each
pub stores_costs : (h : ℕ) (xs : List ℕ) → costs_of (stores_code h xs) ≡ 2 * length xs
stores_costs h [] = refl
stores_costs h (x ∷ xs) =
    omega (arith, costs_append (stores_code (h + 1) xs) (slot (Store x) (h + 1) ∷ []), stores_costs (h + 1) xs)
