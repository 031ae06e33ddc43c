-- The lines of run text. This project's own.
use Rattle.std.specs.Prelude.{ℕ, List, [], ◌∷◌, ◌++◌, codes, decimal, ℤ}
use Rattle.std.specs.Fmt.{signed_decimal}

-- words, each behind a space
abbrev pub spaced : List ℤ → List ℕ
spaced [] = []
spaced (w ∷ ws) = 32 ∷ (signed_decimal w ++ spaced ws)

-- what an actuator gets: the cycle, the actuator's name, the instance and the tick at which its job has ended, and the words
abbrev pub out_line : (cycle : ℕ) → (name : List ℕ) → (instance tick : ℕ) → (words : List ℤ) → List ℕ
out_line cycle name instance tick words =
    codes "out " ++ (decimal cycle ++ (codes " " ++ (name ++ (codes " " ++ (decimal instance ++ (codes " " ++ (decimal tick ++ (spaced words ++ codes "\n"))))))))

-- a unit that is lost in the cycle
abbrev pub lost_line : (cycle unit : ℕ) → List ℕ
lost_line cycle unit = codes "lost " ++ (decimal cycle ++ (codes " u" ++ (decimal unit ++ codes "\n")))

-- a job that is broken, by its task's name and its instance
abbrev pub broken_line : (cycle : ℕ) → (name : List ℕ) → (instance : ℕ) → List ℕ
broken_line cycle name instance = codes "broken " ++ (decimal cycle ++ (codes " " ++ (name ++ (codes " " ++ (decimal instance ++ codes "\n")))))

-- a task at the end of the input: its bound, and the most cycles that an execution of it took
abbrev pub task_line : (name : List ℕ) → (maxt seen : ℕ) → List ℕ
task_line name maxt seen = codes "task " ++ (name ++ (codes " maxt " ++ (decimal maxt ++ (codes " seen " ++ (decimal seen ++ codes "\n")))))
