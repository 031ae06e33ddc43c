-- What each part of a checked tree keeps by itself: it names visible cells as their widths allow, its numbers are
-- words, its bounds are in their ranges, and each statement needs at most 64 operand words.
-- This project's own.
use Rattle.std.specs.Prelude.{◌≡◌, ℕ, ◌+◌, ◌≤◌, max, List, FitsSigned}
use Rattle.std.specs.Int.{w32}
use Rattle.std.specs.List.{All, Contains}
use Rattle.mc_tree.specs.declared.tree.Cell.{Cell}
use Rattle.mc_tree.specs.Tree.{Ex, Num, Var, Elem, Un, Bin, St, Assign, AssignAt, Invoke, When, Choice, Loop, Scoped, Count, Series, Bl, Nil, Then, Ls, NoLoop, OneLoop}
use Rattle.mc_tree.specs.Height.{height, args_height}

-- one of the cells has this place and width
abbrev pub IsCell : List Cell → (place width : ℕ) → Type 0
IsCell seen p n = (c : Cell) × Contains seen c × (c.place ≡ p) × (c.width ≡ n)

-- one of the cells is an array of this place and width
abbrev pub IsArray : List Cell → (place width : ℕ) → Type 0
IsArray seen p n = IsCell seen p n × (2 ≤ n)

-- the bound of a while or a sequence, and of a scope
abbrev pub IsLoopBound : ℕ → Type 0
IsLoopBound n = (1 ≤ n) × (n ≤ 65535)

abbrev pub IsScopeBound : ℕ → Type 0
IsScopeBound n = n ≤ 1023

-- an expression over the cells that are seen; a cell without an index has one word
abbrev pub SoundE : List Cell → Ex → Type 0
SoundE seen (Num w) = FitsSigned w32 w
SoundE seen (Var p) = IsCell seen p 1
SoundE seen (Elem p n i) = IsArray seen p n × SoundE seen i
SoundE seen (Un op a) = SoundE seen a
SoundE seen (Bin op l r) = SoundE seen l × SoundE seen r

-- a test, or a value
abbrev pub SoundTest : List Cell → Ex → Type 0
SoundTest seen e = SoundE seen e × (height e ≤ 64)

abbrev mutual
  pub Sound : List Cell → St → Type 0
  Sound seen (Assign p e) = IsCell seen p 1 × SoundTest seen e
  Sound seen (AssignAt p n i e) = IsArray seen p n × SoundE seen i × SoundE seen e × (max (height i) (1 + height e) ≤ 64)
  Sound seen (Invoke p g args) = IsCell seen p 1 × All (SoundE seen) args × (args_height args ≤ 64)
  Sound seen (When t a) = SoundTest seen t × SoundB seen a
  Sound seen (Choice t a b) = SoundTest seen t × SoundB seen a × SoundB seen b
  Sound seen (Loop c n t a) = IsLoopBound n × SoundTest seen t × SoundB seen a
  Sound seen (Scoped c n a) = IsScopeBound n × SoundB seen a
  Sound seen (Count c n) = IsScopeBound n
  Sound seen (Series c n l) = IsLoopBound n × SoundL seen l

  pub SoundB : List Cell → Bl → Type 0
  SoundB seen Nil = Unit {0}
  SoundB seen (Then s rest) = Sound seen s × SoundB seen rest

  pub SoundL : List Cell → Ls → Type 0
  SoundL seen NoLoop = Unit {0}
  SoundL seen (OneLoop c n t a rest) = IsLoopBound n × SoundTest seen t × SoundB seen a × SoundL seen rest
