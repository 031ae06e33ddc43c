-- The choices of one job as a row of units. Only the contracts of this crate cite this.
use Rattle.std.specs.Prelude.{◌≡◌, ℕ, ◌<◌, ◌≤◌, leb, if◌then◌else◌, List, [], ◌∷◌, ◌++◌, length, map, drop, All, Option, Some, None}
use Rattle.decisions.specs.declared.problem.Problem.{Problem}
use Rattle.decisions.specs.declared.placed.Choice.{Choice}
use Rattle.decisions.specs.Decision.{Decision}
use Rattle.decisions.specs.Choices.{by_start, choices_for, row_of}
use Rattle.placement.specs.declared.pending.Fit.{Fit}
use Rattle.placement.specs.declared.cursor.Cursor.{Cursor}

abbrev pub fit_of : Decision → Fit
fit_of d = record { unit = d.unit; end = d.end }

-- a unit behind those where the job ends no later
abbrev pub put_fit : Fit → List Fit → List Fit
put_fit f [] = f ∷ []
put_fit f (g ∷ row) = if leb g.end f.end then g ∷ put_fit f row else f ∷ g ∷ row

abbrev pub put_fits : Option Fit → List Fit → List Fit
put_fits None row = row
put_fits (Some f) row = put_fit f row

abbrev pub fit_in : Option Decision → Option Fit
fit_in None = None
fit_in (Some d) = Some (fit_of d)

-- the choices that a cursor has before it: the rest of its row, and then those of the jobs after it
pub record IsLeft (pr : Problem) (l : List Decision) (c : Cursor) (left : List Decision) : Type 0 where
  pub row : List Decision
  pub of_job : All (λ (d : Decision). d.job ≡ c.job) row
  pub fits : map fit_of row ≡ drop c.told c.row.items
  pub is : left ≡ row ++ choices_for pr l (drop c.jobs (by_start pr (length pr.works)))

-- the cursor goes from these choices to the next one
pub record GoesOn (pr : Problem) (l : List Decision) (left : List Decision) (choice : Choice) (after : Cursor) : Type 0 where
  pub decision : Decision
  pub rest : List Decision
  pub is : left ≡ decision ∷ rest
  pub job : choice.job ≡ decision.job
  pub unit : choice.unit ≡ decision.unit
  pub left_is : IsLeft pr l after rest

-- the cursor stands before the row of a job that is ready, the next in the order behind so many
pub record IsLook (pr : Problem) (l : List Decision) (jobs : ℕ) (c : Cursor) : Type 0 where
  pub later : jobs < c.jobs
  pub within : c.jobs ≤ length (by_start pr (length pr.works))
  pub is : choices_for pr l (drop jobs (by_start pr (length pr.works))) ≡ row_of pr l c.job pr.round.units ++ choices_for pr l (drop c.jobs (by_start pr (length pr.works)))
  pub row_is : c.row.items ≡ map fit_of (row_of pr l c.job pr.round.units)
  pub told_is : c.told ≡ 0

-- the row of the next ready job behind so many of the order, and the place behind it; None where there is none
abbrev pub Looks : Problem → List Decision → (jobs : ℕ) → Option Cursor → Type 0
Looks pr l jobs None = choices_for pr l (drop jobs (by_start pr (length pr.works))) ≡ []
Looks pr l jobs (Some c) = IsLook pr l jobs c
