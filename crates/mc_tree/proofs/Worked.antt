-- Tasks worked by hand: what their instances give.
use Rattle.std.proofs.Common.{◌≡◌, ℤ, pos, negsuc, [], ◌∷◌, refl}
use Rattle.std.specs.Prelude.{Some}
use Rattle.std.specs.Int.{int_wrap}
use Rattle.mars_base.specs.Word.{binary_of}
use Rattle.mars_base.specs.declared.word.BinOp.TheVariants.{Shl, Shr, Div, Rem}
use Rattle.mc_tree.specs.Tree.{Tree}
use Rattle.mc_tree.specs.Instance.{Outcome, Gives, Breaks, instance_of}
use Rattle.mc_tree.specs.Worked.{inc, count, deep, nopath, trap, seq, both_sides, inv, sense, ctl, act, again, twice, pick}

-- the outcome for one in word, without a state
abbrev on : Tree → ℤ → Outcome
on t x = instance_of t [] (x ∷ [])

abbrev gives : ℤ → Outcome
gives y = Gives [] (y ∷ [])

inc_41 : on inc (pos 41) ≡ gives (pos 42)
unfolding instance_of int_wrap
inc_41 = refl

inc_wraps : on inc (pos 2147483647) ≡ gives (negsuc 2147483647)
unfolding instance_of int_wrap
inc_wraps = refl

count_3 : on count (pos 3) ≡ gives (pos 3)
unfolding instance_of int_wrap
count_3 = refl

count_4 : on count (pos 4) ≡ Breaks
unfolding instance_of int_wrap
count_4 = refl

nopath_0 : on nopath (pos 0) ≡ Breaks
unfolding instance_of int_wrap
nopath_0 = refl

trap_0 : on trap (pos 0) ≡ gives (pos 0)
unfolding instance_of int_wrap
trap_0 = refl

trap_5 : on trap (pos 5) ≡ Breaks
unfolding instance_of int_wrap
trap_5 = refl

seq_0 : on seq (pos 0) ≡ gives (pos 0)
unfolding instance_of int_wrap
seq_0 = refl

seq_1 : on seq (pos 1) ≡ Breaks
unfolding instance_of int_wrap
seq_1 = refl

-- both sides of `&&` are evaluated
both_breaks : instance_of both_sides [] [] ≡ Breaks
unfolding instance_of int_wrap
both_breaks = refl

inv_0 : on inv (pos 0) ≡ Breaks
unfolding instance_of int_wrap
inv_0 = refl

inv_5 : on inv (pos 5) ≡ gives (pos 2)
unfolding instance_of int_wrap
inv_5 = refl

-- the scope's count is 0 at each entry
again_3 : on again (pos 3) ≡ gives (pos 3)
unfolding instance_of int_wrap
again_3 = refl

-- a local keeps its word between two calls
twice_5 : on twice (pos 5) ≡ gives (pos 10)
unfolding instance_of int_wrap
twice_5 = refl

-- an index in range, at the width, and below 0
pick_1 : instance_of pick (pos 7 ∷ pos 8 ∷ []) (pos 1 ∷ []) ≡ Gives (pos 7 ∷ pos 8 ∷ []) (pos 8 ∷ [])
unfolding instance_of int_wrap
pick_1 = refl

pick_2 : instance_of pick (pos 7 ∷ pos 8 ∷ []) (pos 2 ∷ []) ≡ Breaks
unfolding instance_of int_wrap
pick_2 = refl

pick_below : instance_of pick (pos 7 ∷ pos 8 ∷ []) (negsuc 0 ∷ []) ≡ Breaks
unfolding instance_of int_wrap
pick_below = refl

-- the ring and its place after the first of four words
sense_80 : instance_of sense (pos 0 ∷ pos 0 ∷ pos 0 ∷ pos 0 ∷ pos 0 ∷ []) (pos 80 ∷ []) ≡ Gives (pos 80 ∷ pos 0 ∷ pos 0 ∷ pos 0 ∷ pos 1 ∷ []) (pos 20 ∷ [])
unfolding instance_of int_wrap
sense_80 = refl

ctl_80 : instance_of ctl (pos 10 ∷ []) (pos 80 ∷ []) ≡ Gives (pos 40 ∷ []) (pos 35 ∷ [])
unfolding instance_of int_wrap
ctl_80 = refl

ctl_low : instance_of ctl (pos 0 ∷ []) (pos 20 ∷ []) ≡ Gives (pos 0 ∷ []) (pos 7 ∷ [])
unfolding instance_of int_wrap
ctl_low = refl

act_7 : on act (pos 7) ≡ gives (pos 7)
unfolding instance_of int_wrap
act_7 = refl

act_below : on act (negsuc 4) ≡ gives (pos 0)
unfolding instance_of int_wrap
act_below = refl

-- The least word, and -1.
abbrev least : ℤ
least = negsuc 2147483647

abbrev minus_one : ℤ
minus_one = negsuc 0

least_divided : binary_of Div least minus_one ≡ Some least
unfolding int_wrap
least_divided = refl

least_remainder : binary_of Rem least minus_one ≡ Some (pos 0)
unfolding int_wrap
least_remainder = refl

-- truncated toward zero, with the sign of the left word
quotient_below : binary_of Div (negsuc 6) (pos 2) ≡ Some (negsuc 2)
unfolding int_wrap
quotient_below = refl

remainder_below : binary_of Rem (negsuc 6) (pos 2) ≡ Some (negsuc 0)
unfolding int_wrap
remainder_below = refl

-- shifts by 32 and by -1 shift by 0 and by 31
left_by_32 : binary_of Shl (pos 5) (pos 32) ≡ Some (pos 5)
unfolding int_wrap
left_by_32 = refl

left_by_minus_one : binary_of Shl (pos 1) minus_one ≡ Some least
unfolding int_wrap
left_by_minus_one = refl

right_by_32 : binary_of Shr least (pos 32) ≡ Some least
unfolding int_wrap
right_by_32 = refl

right_by_minus_one : binary_of Shr least minus_one ≡ Some minus_one
unfolding int_wrap
right_by_minus_one = refl

deep_0 : on deep (pos 0) ≡ gives (pos 0)
unfolding instance_of int_wrap
deep_0 = refl
