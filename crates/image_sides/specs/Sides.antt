-- What the net has of a task's fields, and what its programs have.
use Rattle.std.specs.Prelude.{◌≡◌, ℕ, ◌≤◌, Bool, true, ◌||◌, List, [], ◌∷◌, ◌++◌, All, if◌then◌else◌}
use Rattle.mars_base.specs.declared.word.Role.{Role}
use Rattle.graph.specs.declared.net.NetTask.{NetTask}
use Rattle.word_code.specs.Cells.{is_in, is_out, is_state, width_of}
use Rattle.word_code.specs.declared.code.CellShape.{CellShape}
use Rattle.word_code.specs.declared.code.Code.{Code}
use Rattle.image_tasks.specs.declared.parts.TaskPart.{TaskPart}

-- the widths of the cells of one role, in order
abbrev pub widths_of : (Role → Bool) → List CellShape → List ℕ
widths_of p [] = []
widths_of p (c ∷ cells) = (if p c.role then c.width ∷ [] else []) ++ widths_of p cells

-- in and out cells have at most 16 words
abbrev pub IsNarrow : List CellShape → Type 0
IsNarrow cells = All (λ (cell : CellShape). (is_in cell.role || is_out cell.role) ≡ true → cell.width ≤ 16) cells

-- a task of the net: its in cells are its in ports, and its out cells its out ports
abbrev pub net_task : TaskPart → NetTask
net_task t = record { name = t.name; transaction = t.transaction; units = t.units; ins = widths_of is_in t.code.cells; outs = widths_of is_out t.code.cells }

abbrev pub code_of : TaskPart → Code
code_of t = t.code

abbrev pub maxt_of : TaskPart → ℕ
maxt_of t = t.maxt

-- how many words the state cells of code have together
abbrev pub state_words : Code → ℕ
state_words code = width_of is_state code.cells
