-- What a replica holds, tick by tick.
use Rattle.std.proofs.Common.{◌≡◌, ℕ, suc, ◌+◌, ◌<◌, List, [], length, get_or, map, ℤ, Option, None, Some, refl, sym, ◌∙◌, ap, subst, arith}
use Rattle.std.proofs.lemmas.List.{get_or-map}
use Rattle.graph.specs.JobGraph.{JobGraph}
use Rattle.plant.specs.declared.system.Plant.{Plant}
use Rattle.tables.specs.Named.{entry_at}
use Rattle.job_book.specs.Known.{Known, Waiting, InHand, Gave, Broke, PassedOver, given_by, status_of}
use Rattle.cluster_model.specs.Plan.{Plan, listed}
use Rattle.cluster_model.specs.State as status
use Rattle.cluster_model.specs.State.{Held, Bus, Status, given}
use Rattle.cluster_model.specs.Tick.{took, opens, closes, ticked}
use Rattle.replica_desk.specs.declared.desk.Desk.{Desk}
use Rattle.replica_desk.specs.Desk.{held_in}
use Rattle.replica_work.specs.Ends.{states_at}
use Rattle.replica_work.specs.Works.{RunsOn, limit_before, task_in}

given_status : (s i : List ℤ) (known : Known) → given (status_of s i known) ≡ given_by known
given_status s i Waiting = refl
given_status s i InHand = refl
given_status s i (Gave outs) = refl
given_status s i Broke = refl
given_status s i PassedOver = refl

-- the book gives what the replica's jobs give
pub given_is : (s i : List ℤ) (jobs : List Known) (job : ℕ) → job < length jobs
    → given_by (get_or jobs job Waiting) ≡ given (get_or (map (status_of s i) jobs) job status.Waiting)
given_is s i jobs job low =
    sym (ap given (get_or-map (status_of s i) jobs job Waiting status.Waiting low) ∙ given_status s i (get_or jobs job Waiting))

module _ {C P : Type 0} (runs : C → P → List ℤ → List ℤ → ℕ → Type 0) (plant : Plant P) (cpu : C) where
  -- without a job in hand nothing runs
  pub runs_none : (d : Desk) (o : Option ℕ) → o ≡ None → RunsOn plant runs d d.clock cpu o
  runs_none d None e = tt
  runs_none d (Some job) e = let clash : Some job ≡ None = e in cc

  -- the job in hand runs on after the first three parts of a tick
  pub runs_after : (before after : Desk) → after.clock ≡ before.clock → after.states ≡ before.states
      → ((job : ℕ) → after.hand ≡ Some job → (entry_at plant.tables job).start < before.clock → (before.hand ≡ Some job) × (after.ins ≡ before.ins))
      → RunsOn plant runs before before.clock cpu before.hand → (o : Option ℕ) → after.hand ≡ o → RunsOn plant runs after after.clock cpu o
  runs_after before after clock states goes_on on None e = tt
  runs_after before after clock states goes_on on (Some job) e = λ started program is.
      let low : (entry_at plant.tables job).start < before.clock = omega (arith, started, clock) in
      let w = goes_on job e low in
      let old : RunsOn plant runs before before.clock cpu (Some job) = subst (RunsOn plant runs before before.clock cpu) w.0 on in
      let ran : runs cpu program (get_or before.states (task_in plant job) []) before.ins (limit_before plant job before.clock) = old low program is in
      subst (λ (n : ℕ). runs cpu program (get_or after.states (task_in plant job) []) after.ins (limit_before plant job n)) (sym clock)
      (subst (λ (ins : List ℤ). runs cpu program (get_or after.states (task_in plant job) []) ins (limit_before plant job before.clock)) (sym w.1)
      (subst (λ (ss : List (List ℤ)). runs cpu program (get_or ss (task_in plant job) []) before.ins (limit_before plant job before.clock)) (sym states) ran))

-- what is held after a tick, by what is known after its first three parts and after all
pub held_after : (p : Plan) (g : JobGraph) (bus : Bus) (line : List ℤ) (unit : ℕ) (before after : Desk) (taken : List (Option (List ℤ)))
    → after.clock ≡ before.clock + 1
    → after.states ≡ states_at p before.clock (opens p bus unit (held_in g before) line) before.states
    → taken ≡ listed p.messages (took p bus unit (held_in g before)) → after.inbox.words ≡ taken
    → (held_in g after).jobs ≡ listed p.jobs (λ k. closes p before.clock k (opens p bus unit (held_in g before) line k))
    → held_in g after ≡ ticked p bus line unit (held_in g before)
held_after p g bus line unit before after taken clock states took_is inbox jobs =
    let h : Held = held_in g before in
    let goal : Held = ticked p bus line unit h in
    let mine : List Status = (held_in g after).jobs in
    let with_clock : ℕ → Held = λ k. record { clock = k; states = after.states; taken = after.inbox.words; jobs = mine } in
    let with_states : List (List ℤ) → Held = λ k. record { clock = goal.clock; states = k; taken = after.inbox.words; jobs = mine } in
    let with_taken : List (Option (List ℤ)) → Held = λ k. record { clock = goal.clock; states = goal.states; taken = k; jobs = mine } in
    let with_jobs : List Status → Held = λ k. record { clock = goal.clock; states = goal.states; taken = goal.taken; jobs = k } in
    let next : after.clock ≡ suc before.clock = omega (arith, clock) in
    ap with_clock next ∙ ap with_states states ∙ ap with_taken (inbox ∙ took_is) ∙ ap with_jobs jobs
