-- The lengths of jobs in ticks.
use Rattle.std.specs.Prelude.{ℕ, List, map}
use Rattle.graph.specs.Length.{length_of}

-- the ticks of each task's jobs, for the greatest numbers of cycles of the tasks
abbrev pub lengths_of : (maxts : List ℕ) → (cycles_per_tick : ℕ) → List ℕ
lengths_of maxts cycles_per_tick = map (λ maxt. length_of maxt cycles_per_tick) maxts
