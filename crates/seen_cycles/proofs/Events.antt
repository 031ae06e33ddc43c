-- What the events of a cycle show of a job's cycles.
use Rattle.std.proofs.Common.{◌≡◌, ℕ, ◌<◌, ◌≤◌, List, [], ◌∷◌, ℤ, true, false, inl, inr, sym, ◌∙◌, ap, subst, arith}
use Rattle.std.proofs.lemmas.Bool.{cases_Bool, true≢false}
use Rattle.mars_base.specs.declared.shape.Side.{Side}
use Rattle.script.specs.declared.script.Silence.{Silence}
use Rattle.net_run.specs.NetRun.{JobResult}
use Rattle.cluster_model.specs.Cluster.{IsEnabled, happens, step}
use Rattle.cluster_model.specs.Plan.{Plan}
use Rattle.cluster_model.specs.PlanRun.{AreResults}
use Rattle.cluster_model.specs.Silences.{falls}
use Rattle.cluster_model.specs.Sound.{IsSoundPlan, AreGiven}
use Rattle.cluster_model.specs.State.{told, status_in, Member, member_of, State}
use Rattle.cluster_agreement.specs.Runs.{Event, steps}
use Rattle.cluster_agreement.proofs.Step.{step_keeps}
use Rattle.cycle_events.proofs.Acting.{open_settled}
use Rattle.cycle_events.proofs.Lists.{AllHere}
use Rattle.event_effects.specs.Effects.{effects_in, effects_of, most_taken, taken_in}
use Rattle.seen_cycles.proofs.Event.{is_done, worth, Here, Idle, at_most, at_least, next_idle}

module _ (p : Plan) (silences : List Silence) (cycle : ℕ) (start : ℕ → List ℤ) (line : List ℤ) (res : ℕ → JobResult) (out_words : ℕ → ℕ) (d : IsSoundPlan p out_words) (c : AreResults p start line res)
    (fits : AreGiven p out_words (λ j. told (res j))) (runs : (u : ℕ) → u < p.units → (x : Side) × ((t : ℕ) → t < p.cycle → falls silences u x cycle t ≡ false)) (job : ℕ) (low : job < p.jobs) where
  abbrev value : ℕ
  value = worth p silences cycle start line res out_words d c fits runs job low

  abbrev IsHere : State → Type 0
  IsHere s = Here p silences cycle start line res out_words d c fits runs job low s.members

  abbrev IsIdle : State → Type 0
  IsIdle s = Idle p silences cycle start line res out_words d c fits runs job low s.members

  module _ (s : State) (cycle_is : s.cycle ≡ cycle) (here : IsHere s) (idle : IsIdle s) (e : Event) (may : IsEnabled p s.members e.unit e.side) (line_is : e.line ≡ line) where
    abbrev after : State
    after = happens p silences line e.unit e.side s

    after_is : step p silences e.line e.unit e.side s ≡ after
    after_is = ap (λ l. step p silences l e.unit e.side s) line_is ∙ ap (happens p silences line e.unit e.side) (open_settled p s e.unit e.side may)

    shows_is : most_taken p silences job (effects_in p silences (record { cycle = cycle; line = s.line; start = s.start; members = s.members }) (record { unit = e.unit; side = e.side; line = line })) ≡ most_taken p silences job (effects_of p silences s e)
    shows_is =
        ap (λ k. most_taken p silences job (effects_in p silences (record { cycle = k; line = s.line; start = s.start; members = s.members }) (record { unit = e.unit; side = e.side; line = line }))) (sym cycle_is)
        ∙ ap (λ l. most_taken p silences job (effects_in p silences s (record { unit = e.unit; side = e.side; line = l }))) (sym line_is)
        ∙ ap (λ (w : State). most_taken p silences job (effects_in p silences w e)) (sym (open_settled p s e.unit e.side may))

    first_most : most_taken p silences job (effects_of p silences s e) ≤ value
    first_most = subst (λ n. n ≤ value) shows_is (at_most p silences cycle start line res out_words d c fits runs job low s.members here idle e.unit e.side may)

    abbrev made : List Member
    made = (happens p silences line e.unit e.side (record { cycle = cycle; line = s.line; start = s.start; members = s.members })).members

    made_is : made ≡ (step p silences e.line e.unit e.side s).members
    made_is =
        ap (λ k. (happens p silences line e.unit e.side (record { cycle = k; line = s.line; start = s.start; members = s.members })).members) (sym cycle_is)
        ∙ sym (ap (λ (w : State). w.members) after_is)

    after_cycle_is : (step p silences e.line e.unit e.side s).cycle ≡ cycle
    after_cycle_is = ap (λ (w : State). w.cycle) after_is ∙ cycle_is

    after_here : IsHere (step p silences e.line e.unit e.side s)
    after_here = subst (Here p silences cycle start line res out_words d c fits runs job low) made_is
        (step_keeps p silences cycle start line res out_words d c fits runs s.members e.unit e.side here may)

    after_idle : IsIdle (step p silences e.line e.unit e.side s)
    after_idle = subst (Idle p silences cycle start line res out_words d c fits runs job low) made_is
        (next_idle p silences cycle start line res out_words d c fits runs job low s.members here idle e.unit e.side may)

    first_least : (y : Side) → (is_done (status_in (member_of s.members (p.unit job) y).held job) ≡ true → ⊥)
        → is_done (status_in (member_of (step p silences e.line e.unit e.side s).members (p.unit job) y).held job) ≡ true → value ≤ most_taken p silences job (effects_of p silences s e)
    first_least y not_yet now =
        subst (λ n. value ≤ n) shows_is
        (at_least p silences cycle start line res out_words d c fits runs job low s.members here idle e.unit e.side may y not_yet
        (subst (λ members. is_done (status_in (member_of members (p.unit job) y).held job) ≡ true) (sym made_is) now))

  -- the events of the cycle show no more of a job than its execution takes
  pub all_most : (events : List Event) (s : State) → s.cycle ≡ cycle → IsHere s → IsIdle s → AllHere p silences line s events → taken_in p silences job s events ≤ value
  all_most [] s k h i a = omega arith
  all_most (e ∷ events) s k h i a =
      omega (
        arith,
        first_most s k h i e a.0 a.1,
        all_most events (step p silences e.line e.unit e.side s) (after_cycle_is s k h i e a.0 a.1) (after_here s k h i e a.0 a.1) (after_idle s k h i e a.0 a.1) a.2,
      )

  -- and as much, where the job is done after them at a replica of its unit and wasn't before
  pub all_least : (events : List Event) (s : State) → s.cycle ≡ cycle → IsHere s → IsIdle s → AllHere p silences line s events → (y : Side)
      → (is_done (status_in (member_of s.members (p.unit job) y).held job) ≡ true → ⊥) → is_done (status_in (member_of (steps p silences s events).members (p.unit job) y).held job) ≡ true
      → value ≤ taken_in p silences job s events
  all_least [] s k h i a y not_yet now = absurd (not_yet now)
  all_least (e ∷ events) s k h i a y not_yet now =
      elim (cases_Bool (is_done (status_in (member_of (step p silences e.line e.unit e.side s).members (p.unit job) y).held job))) [
        | inl done ↦ omega (arith, first_least s k h i e a.0 a.1 y not_yet done)
        | inr open_ ↦ omega (
          arith,
          all_least events (step p silences e.line e.unit e.side s) (after_cycle_is s k h i e a.0 a.1) (after_here s k h i e a.0 a.1) (after_idle s k h i e a.0 a.1) a.2 y
              (λ t. true≢false (sym t ∙ open_)) now,
        )
      ]
