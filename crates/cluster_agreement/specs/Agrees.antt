-- What a cluster shows of the graph's run at every moment of a cycle.
use Rattle.std.specs.Prelude.{◌≡◌, ℕ, ◌<◌, true, List, ℤ}
use Rattle.mars_base.specs.declared.shape.Side.{Side}
use Rattle.net_run.specs.NetRun.{JobResult, given_by}
use Rattle.cluster_model.specs.Cluster.{is_over, left_states, outs_in}
use Rattle.cluster_model.specs.Plan.{Plan}
use Rattle.cluster_model.specs.State.{IsTold, told, status_in, Running, member_of, State}

-- the cluster agrees with a cycle's results and the states that it leaves
pub record Agrees (p : Plan) (result : ℕ → JobResult) (left : List (List ℤ)) (s : State) : Type 0 where
  -- each job that a replica has ended or skipped has its result
  pub told_right : (unit : ℕ) (side : Side) (job : ℕ) → unit < p.units → job < p.jobs → p.unit job ≡ unit
      → IsTold (status_in (member_of s.members unit side).held job) → status_in (member_of s.members unit side).held job ≡ told (result job)
  -- at the cycle's end a replica that runs has ended or skipped all jobs of its unit, for each unit
  pub all_told : is_over p s.members ≡ true → (unit : ℕ) → unit < p.units →
      (side : Side) × ((member_of s.members unit side).mode ≡ Running) × ((job : ℕ) → job < p.jobs → p.unit job ≡ unit → status_in (member_of s.members unit side).held job ≡ told (result job))
  -- the outputs that are given are those of exactly the jobs that are done
  pub outs : is_over p s.members ≡ true → (job : ℕ) → job < p.jobs → outs_in p s job ≡ given_by (result job)
  -- the next cycle starts from the states that the graph's run leaves
  pub states : is_over p s.members ≡ true → left_states p s ≡ left
