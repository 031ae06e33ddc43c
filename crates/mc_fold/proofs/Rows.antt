-- Worked rows.
use Rattle.std.proofs.Common.{◌≡◌, refl}
use Rattle.std.specs.Prelude.{pos, negsuc}
use Rattle.mars_base.specs.declared.word.BinOp.TheVariants.{Lt, Add, Sub, Mul, Div}
use Rattle.mars_base.specs.declared.word.UnOp.TheVariants.{Neg}
use Rattle.mc_tree.specs.Tree.{Num, Var, Un, Bin}
use Rattle.mc_fold.proofs.Mirror.{folded_ex}

-- x + 2 * 3 - -4 keeps its sum and its difference
sum : folded_ex (Bin Sub (Bin Add (Var 0) (Bin Mul (Num (pos 2)) (Num (pos 3)))) (Un Neg (Num (pos 4)))) ≡ Bin Sub (Bin Add (Var 0) (Num (pos 6))) (Num (negsuc 3))
sum = refl

-- 1 / 0 stays, and what stands over it
no_word : folded_ex (Bin Add (Num (pos 1)) (Bin Div (Num (pos 1)) (Num (pos 0)))) ≡ Bin Add (Num (pos 1)) (Bin Div (Num (pos 1)) (Num (pos 0)))
no_word = refl

-- a comparison is 1 where it holds
comparison : folded_ex (Bin Lt (Num (pos 3)) (Num (pos 5))) ≡ Num (pos 1)
comparison = refl
