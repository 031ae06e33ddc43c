-- The report of a build.
use Rattle.std.specs.Prelude.{ℕ, List, [], ◌∷◌, ◌++◌, codes, decimal}
use Rattle.graph.specs.declared.net.NetTask.{NetTask}

-- the line of a task: its name and its bound
abbrev pub maxt_line : (name : List ℕ) → (maxt : ℕ) → List ℕ
maxt_line name maxt = codes "maxt " ++ (name ++ (codes " " ++ (decimal maxt ++ codes "\n")))

-- the lines of tasks, each with its bound
abbrev pub maxt_lines : List NetTask → (maxts : List ℕ) → List ℕ
maxt_lines [] maxts = []
maxt_lines (task ∷ tasks) [] = []
maxt_lines (task ∷ tasks) (maxt ∷ maxts) = maxt_line task.name maxt ++ maxt_lines tasks maxts

-- the last line: how many bytes the image has
abbrev pub image_line : (size : ℕ) → List ℕ
image_line size = codes "image " ++ (decimal size ++ codes "\n")

-- the whole report: a line for each task in order, and the last line
abbrev pub report_of : List NetTask → (maxts : List ℕ) → (size : ℕ) → List ℕ
report_of tasks maxts size = maxt_lines tasks maxts ++ image_line size
