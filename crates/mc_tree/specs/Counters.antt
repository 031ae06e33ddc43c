-- The numbers in a checked tree. A part has the counters lo, lo + 1 and so on up to hi, one for each while, scope
-- and sequence in text order, a sequence before its loops. `sc` is one more than the counter of the innermost scope
-- around the part, or 0 where a mark can't stand, and `kb` is that scope's bound. The functions with numbers below
-- `cur` may be called; `params` are the places of a function's parameters.
-- This project's own.
use Rattle.std.specs.Prelude.{◌≡◌, ℕ, suc, ◌<◌, List, [], ◌∷◌, length}
use Rattle.mc_tree.specs.Tree.{St, Assign, AssignAt, Invoke, When, Choice, Loop, Scoped, Count, Series, Bl, Nil, Then, Ls, NoLoop, OneLoop, Fn}

abbrev mutual
  pub Counted : (params : ℕ → List ℕ) (cur sc kb lo : ℕ) → St → (hi : ℕ) → Type 0
  Counted params cur sc kb lo (Assign p e) hi = hi ≡ lo
  Counted params cur sc kb lo (AssignAt p w i e) hi = hi ≡ lo
  Counted params cur sc kb lo (Invoke p g args) hi = (hi ≡ lo) × (g < cur) × (length args ≡ length (params g))
  Counted params cur sc kb lo (When t a) hi = CountedB params cur sc kb lo a hi
  Counted params cur sc kb lo (Choice t a b) hi = (mid : ℕ) × CountedB params cur sc kb lo a mid × CountedB params cur sc kb mid b hi
  Counted params cur sc kb lo (Loop c n t a) hi = (c ≡ lo) × CountedB params cur sc kb (suc lo) a hi
  Counted params cur sc kb lo (Scoped c n a) hi = (c ≡ lo) × CountedB params cur (suc lo) n (suc lo) a hi
  Counted params cur sc kb lo (Count c n) hi = (hi ≡ lo) × (suc c ≡ sc) × (n ≡ kb)
  Counted params cur sc kb lo (Series c n l) hi = (c ≡ lo) × CountedL params cur (suc lo) l hi

  pub CountedB : (params : ℕ → List ℕ) (cur sc kb lo : ℕ) → Bl → (hi : ℕ) → Type 0
  CountedB params cur sc kb lo Nil hi = hi ≡ lo
  CountedB params cur sc kb lo (Then s rest) hi = (mid : ℕ) × Counted params cur sc kb lo s mid × CountedB params cur sc kb mid rest hi

  -- a loop of a sequence has no scope around it that its marks could count in
  pub CountedL : (params : ℕ → List ℕ) (cur lo : ℕ) → Ls → (hi : ℕ) → Type 0
  CountedL params cur lo NoLoop hi = hi ≡ lo
  CountedL params cur lo (OneLoop c n t a rest) hi = (mid : ℕ) × (c ≡ lo) × CountedB params cur 0 0 (suc lo) a mid × CountedL params cur mid rest hi

-- the functions from number cur on, in text order: each calls earlier ones alone
abbrev pub CountedF : (params : ℕ → List ℕ) (cur lo : ℕ) → List Fn → (hi : ℕ) → Type 0
CountedF params cur lo [] hi = hi ≡ lo
CountedF params cur lo (f ∷ fs) hi = (mid : ℕ) × CountedB params cur 0 0 lo f.body mid × CountedF params (suc cur) mid fs hi
