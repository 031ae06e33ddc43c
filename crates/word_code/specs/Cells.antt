-- The cells of code: how many words they have, what they hold at the start, and what they give. This project's own.
use Rattle.std.specs.Prelude.{ℕ, ◌+◌, ◌-◌, Bool, true, false, if◌then◌else◌, ℤ, pos, List, [], ◌∷◌, ◌++◌, take, drop, replicate}
use Rattle.mars_base.specs.declared.word.Role.{Role}
use Rattle.mars_base.specs.declared.word.Role.TheVariants.{In, Out, State, Local}
use Rattle.word_code.specs.State.{State as Where, at}
use Rattle.word_code.specs.declared.code.CellShape.{CellShape}
use Rattle.word_code.specs.declared.code.Code.{Code}

abbrev pub is_in : Role → Bool
is_in In = true
is_in Out = false
is_in State = false
is_in Local = false

abbrev pub is_out : Role → Bool
is_out In = false
is_out Out = true
is_out State = false
is_out Local = false

abbrev pub is_state : Role → Bool
is_state In = false
is_state Out = false
is_state State = true
is_state Local = false

-- the words of all cells together
abbrev pub total_width : List CellShape → ℕ
total_width [] = 0
total_width (c ∷ cells) = c.width + total_width cells

-- the words of the cells of one role together
abbrev pub width_of : (Role → Bool) → List CellShape → ℕ
width_of p [] = 0
width_of p (c ∷ cells) = (if p c.role then c.width else 0) + width_of p cells

-- what the cells of one role hold, in order; the cells lie one after another from the first place on
abbrev pub cell_words : (Role → Bool) → List CellShape → List ℤ → List ℤ
cell_words p [] words = []
cell_words p (c ∷ cells) words = (if p c.role then take c.width words else []) ++ cell_words p cells (drop c.width words)

-- a cell at the start, and then the others with what is left of the state and the inputs
abbrev pub filled : Role → ℕ → (List ℤ → List ℤ → List ℤ) → List ℤ → List ℤ → List ℤ
filled In n rest state ins = take n ins ++ rest state (drop n ins)
filled State n rest state ins = take n state ++ rest (drop n state) ins
filled Out n rest state ins = replicate n (pos 0) ++ rest state ins
filled Local n rest state ins = replicate n (pos 0) ++ rest state ins

-- the cells at the start: in cells and state cells hold the given words in order, all others 0
abbrev pub cells_at_start : List CellShape → List ℤ → List ℤ → List ℤ
cells_at_start [] state ins = []
cells_at_start (c ∷ cells) state ins = filled c.role c.width (cells_at_start cells) state ins

-- the places at the start: the cells, and then 0
abbrev pub words_at_start : Code → List ℤ → List ℤ → List ℤ
words_at_start code state ins = cells_at_start code.cells state ins ++ replicate (code.places - total_width code.cells) (pos 0)

-- where an execution begins: at instruction 0, with empty stacks and counters of 0
abbrev pub start_of : Code → List ℤ → List ℤ → Where
start_of code state ins = at 0 [] (words_at_start code state ins) (replicate code.counters 0) []
