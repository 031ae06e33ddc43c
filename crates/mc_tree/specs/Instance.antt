-- One instance of a task, from its state and its in words.
-- This project's own.
use Rattle.std.specs.Prelude.{ℕ, Bool, true, false, List, [], ◌∷◌, ◌++◌, replicate, reverse, take, drop, ℤ, pos, ◌+◌, if◌then◌else◌}
use Rattle.mars_base.specs.declared.word.Role.{Role}
use Rattle.mars_base.specs.declared.word.Role.TheVariants as role
use Rattle.mc_tree.specs.declared.tree.Cell.{Cell}
use Rattle.mc_tree.specs.Tree.{Tree}
use Rattle.mc_tree.specs.Meaning.{After, Done, Broken, all_do, run_all, params_at}

-- how an instance ends
pub data Outcome : Type 0 where
  Gives : (state outs : List ℤ) → Outcome
  Breaks : Outcome

abbrev pub is_in : Role → Bool
is_in role.In = true
is_in role.Out = false
is_in role.State = false
is_in role.Local = false

abbrev pub is_out : Role → Bool
is_out role.In = false
is_out role.Out = true
is_out role.State = false
is_out role.Local = false

abbrev pub is_state : Role → Bool
is_state role.In = false
is_state role.Out = false
is_state role.State = true
is_state role.Local = false

-- how many words the cells of one role have
abbrev pub width_of : (Role → Bool) → List Cell → ℕ
width_of p [] = 0
width_of p (c ∷ cells) = (if p c.role then c.width else 0) + width_of p cells

-- the words at the start, cell by cell: in cells and state cells as given, and 0 in all others
abbrev pub cell_at_start : Role → ℕ → (List ℤ → List ℤ → List ℤ) → List ℤ → List ℤ → List ℤ
cell_at_start role.In n rest state ins = take n ins ++ rest state (drop n ins)
cell_at_start role.State n rest state ins = take n state ++ rest (drop n state) ins
cell_at_start role.Out n rest state ins = replicate n (pos 0) ++ rest state ins
cell_at_start role.Local n rest state ins = replicate n (pos 0) ++ rest state ins

abbrev pub words_at_start : List Cell → List ℤ → List ℤ → List ℤ
words_at_start [] state ins = []
words_at_start (c ∷ cells) state ins = cell_at_start c.role c.width (words_at_start cells) state ins

-- the words of the cells of one role, in order; the cells lie one after another
abbrev pub words_of : (Role → Bool) → List Cell → List ℤ → List ℤ
words_of p [] words = []
words_of p (c ∷ cells) words = (if p c.role then take c.width words else []) ++ words_of p cells (drop c.width words)

abbrev pub ended : List Cell → After → Outcome
ended cells Broken = Breaks
ended cells (Done words count) = Gives (words_of is_state cells words) (words_of is_out cells words)

-- the body, from the words at the start
unfoldable pub instance_of : Tree → List ℤ → List ℤ → Outcome
instance_of t state ins =
    let params = params_at t.funcs in
    ended t.cells (all_do params (run_all params (reverse t.funcs)) t.body (words_at_start t.cells state ins) 0)
