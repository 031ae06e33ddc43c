-- When a list of decisions is given up: a job that isn't placed can't end by its deadline any more.
use Rattle.std.specs.Prelude.{ℕ, zero, suc, ◌+◌, ◌||◌, ◌&&◌, not, leb, max, Bool, false, List, [], ◌∷◌, length, Option, Some, None, is_some}
use Rattle.decisions.specs.declared.problem.Feed.{Feed}
use Rattle.decisions.specs.declared.problem.Problem.{Problem}
use Rattle.decisions.specs.Decision.{Decision, work_at, decision_on}

-- the end of a producer: that of its decision, and its earliest where it isn't placed
abbrev pub end_or : (earliest : ℕ) → Option Decision → ℕ
end_or earliest None = earliest
end_or earliest (Some d) = d.end

-- the greatest of the producers' ends
abbrev pub last_end : List Decision → (earliest : ℕ → ℕ) → List Feed → ℕ
last_end l earliest [] = 0
last_end l earliest (feed ∷ feeds) = max (end_or (earliest feed.producer) (decision_on l feed.producer)) (last_end l earliest feeds)

-- the earliest end of a job: its length after its release and its producers' ends, which are looked at n producers deep
abbrev pub earliest_end : Problem → List Decision → (n job : ℕ) → ℕ
earliest_end pr l zero job = 0
earliest_end pr l (suc n) job = (work_at pr job).length + max (work_at pr job).release (last_end l (earliest_end pr l n) (work_at pr job).feeds)

-- the job isn't placed, and its earliest end passes its deadline; no chain of producers is longer than all jobs
abbrev pub is_late : Problem → List Decision → (job : ℕ) → Bool
is_late pr l job = not (is_some (decision_on l job)) && not (leb (earliest_end pr l (length pr.works) job) (work_at pr job).deadline)

-- one of the jobs below n is late
abbrev pub is_one_late : Problem → List Decision → (n : ℕ) → Bool
is_one_late pr l zero = false
is_one_late pr l (suc job) = is_late pr l job || is_one_late pr l job

-- some job is late
unfoldable pub pruned : Problem → List Decision → Bool
pruned pr l = is_one_late pr l (length pr.works)
