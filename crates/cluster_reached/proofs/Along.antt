-- Lists of events that go on by one.
use Rattle.std.proofs.Common.{◌≡◌, ℕ, List, [], ◌∷◌, ◌++◌, ℤ, refl, ◌∙◌, ap, subst, sym}
use Rattle.mars_base.specs.declared.shape.Side.{Side}
use Rattle.script.specs.declared.script.Silence.{Silence}
use Rattle.net_run.specs.Alike.{IsLine}
use Rattle.cluster_agreement.specs.Runs.{Event, steps, AllMay}
use Rattle.cluster_model.specs.Cluster.{MayStep, step, first_state}
use Rattle.cluster_model.specs.Plan.{Plan}
use Rattle.cluster_model.specs.PlanOf.{plan_of}
use Rattle.cluster_model.specs.State.{State}
use Rattle.cluster_reached.specs.Laws.{ReachedLeads}
use Rattle.cluster_reached.specs.Reached.{ComesAfter, IsReached}

module _ (p : Plan) (silences : List Silence) (LineFits : List ℤ → Type 0) where
  steps_more : (events : List Event) (s : State) (e : Event) → steps p silences s (events ++ e ∷ []) ≡ step p silences e.line e.unit e.side (steps p silences s events)
  steps_more [] s e = refl
  steps_more (f ∷ events) s e = steps_more events (step p silences f.line f.unit f.side s) e

  may_more : (events : List Event) (s : State) (e : Event) → AllMay p silences LineFits s events → MayStep p (steps p silences s events) e.unit e.side e.line → LineFits e.line
      → AllMay p silences LineFits s (events ++ e ∷ [])
  may_more [] s e may h fits = ((h, fits), tt)
  may_more (f ∷ events) s e may h fits = (may.0, may_more events (step p silences f.line f.unit f.side s) e may.1 h fits)

  -- over any lines
  pub any_line : (events : List Event) (s : State) → AllMay p silences LineFits s events → AllMay p silences (λ line. Unit {0}) s events
  any_line [] s may = tt
  any_line (e ∷ events) s may = ((may.0.0, tt), any_line events (step p silences e.line e.unit e.side s) may.1)

  next_reached : (s : State) (unit : ℕ) (side : Side) (line : List ℤ) → IsReached p silences LineFits s → MayStep p s unit side line → LineFits line
      → IsReached p silences LineFits (step p silences line unit side s)
  next_reached s unit side line h may fits =
      let e : Event = record { unit = unit; side = side; line = line } in (
        h.0 ++ e ∷ [],
        record {
          may = may_more h.0 (first_state p) e h.1.may (subst (λ t. MayStep p t unit side line) (sym h.1.state_is) may) fits;
          state_is = steps_more h.0 (first_state p) e ∙ ap (step p silences line unit side) h.1.state_is;
        },
      )

pub reached_leads : ReachedLeads
reached_leads = record {
  first = λ net g t words exec cost silences. ([], record { may = tt; state_is = refl });
  next = λ net g t words exec cost silences s unit side line. next_reached (plan_of net g t words exec cost) silences (IsLine net g.cycle) s unit side line;
}
