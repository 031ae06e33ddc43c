-- Each event leaves the lists as long as they were.
use Rattle.std.proofs.Common.{◌≡◌, ℕ, ◌*◌, ◌/◌, ◌<◌, inl, inr, List, [], ◌∷◌, length, map, set, replicate, ℤ, pos, None, cond, true, false, nat_eq, refl, sym, ◌∙◌, subst, arith}
use Rattle.std.proofs.lemmas.Bool.{cases_Bool}
use Rattle.std.proofs.lemmas.List.{length-set, length-map}
use Rattle.mars_base.specs.declared.shape.Side.{Side}
use Rattle.mars_base.specs.declared.shape.Side.TheVariants.{A, B}
use Rattle.bus.specs.SlotState.{Open, cut}
use Rattle.script.specs.declared.script.Silence.{Silence}
use Rattle.cluster_agreement.specs.Runs.{Event, steps, AllMay}
use Rattle.cluster_agreement.proofs.Reading.{number_within, put_cases}
use Rattle.cluster_agreement.proofs.Slots.{length_listed}
use Rattle.cluster_model.specs.Cluster.{fallen, after_tick, event, is_over, left_by, left_states, turned, turn, settled, step, fresh_member, first_held_states, first_state}
use Rattle.cluster_model.specs.Plan.{Plan, listed}
use Rattle.cluster_model.specs.Silences.{falls}
use Rattle.cluster_model.specs.State.{Waiting, Member, replica_number, member_of, bus_in, State, state_in}
use Rattle.cluster_model.specs.Tick.{took, opens, closes, state_after, slot_after}
use Rattle.net_run.specs.NetRun.{state_of}
use Rattle.cluster_slots.proofs.Shapes.{turned_at, fresh_at}
use Rattle.cluster_reached.specs.InPlace.{HasLists}

-- the lists of all replicas, and the states of the cycle's start
pub record AllLists (p : Plan) (s : State) : Type 0 where
  pub size : length s.members ≡ 2 * p.units
  pub each : (u : ℕ) (x : Side) → u < p.units → HasLists p (member_of s.members u x)
  pub start : length s.start ≡ p.tasks

module _ (p : Plan) where
  fallen_lists : (m : Member) → HasLists p m → HasLists p (fallen m)
  fallen_lists m h = record { states = h.states; taken = h.taken; jobs = h.jobs; slots = length-map m.slots cut ∙ h.slots }

  ticked_lists : (line : List ℤ) (members : List Member) (u : ℕ) (x : Side) (m : Member) → HasLists p (after_tick p line members u x m)
  ticked_lists line members u x m = record {
    states = length_listed p.tasks (λ task. state_after p m.held.clock (opens p (bus_in members) u m.held line) task (state_in m.held task) (p.instances task));
    taken = length_listed p.messages (took p (bus_in members) u m.held);
    jobs = length_listed p.jobs (λ job. closes p m.held.clock job (opens p (bus_in members) u m.held line job));
    slots = length_listed p.rounds (slot_after p u x m.held m.slots);
  }

  turned_lists : (m : Member) → HasLists p m → HasLists p (turned p m)
  turned_lists m h = record {
    states = h.states;
    taken = length_listed p.messages (λ n. None);
    jobs = length_listed p.jobs (λ job. Waiting);
    slots = length_listed p.rounds (λ round. Open);
  }

  fresh_lists : (u : ℕ) → HasLists p (fresh_member p u)
  fresh_lists u = turned_lists (fresh_member p u) (record {
    states = length_first u;
    taken = length_listed p.messages (λ n. None);
    jobs = length_listed p.jobs (λ job. Waiting);
    slots = length_listed p.rounds (λ round. Open);
  })
    where
      length_first : (u : ℕ) → length (first_held_states p u) ≡ p.tasks
      length_first u = length_listed p.tasks (λ task. cond (nat_eq (p.home task) u) (replicate (p.state_words task) (pos 0)) [])

  first_lists : AllLists p (first_state p)
  first_lists = record {
    size = length_listed (2 * p.units) (λ n. fresh_member p (n / 2));
    each = λ u x l. subst (HasLists p) (sym (fresh_at p u x l)) (fresh_lists u);
    start = length_listed p.tasks (λ task. replicate (p.state_words task) (pos 0));
  }

  turn_lists : (s : State) → AllLists p s → AllLists p (turn p s)
  turn_lists s h = record {
    size = length-map s.members (turned p) ∙ h.size;
    each = λ u x l. subst (HasLists p) (sym (turned_at p s.members u x (omega (arith, number_within p.units u x l, h.size)))) (turned_lists (member_of s.members u x) (h.each u x l));
    start = length_listed p.tasks (λ task. left_by (member_of s.members (p.home task) A) (member_of s.members (p.home task) B) task (state_of s.start task));
  }

  pub settled_lists : (s : State) → AllLists p s → AllLists p (settled p s)
  settled_lists s h = elim (cases_Bool (is_over p s.members)) [
    | inl o ↦ rw o (turn_lists s h)
    | inr o ↦ rw o h
  ]

  module _ (silences : List Silence) where
    event_lists : (cycle : ℕ) (line : List ℤ) (members : List Member) (u : ℕ) (x : Side) (m : Member) → HasLists p m → HasLists p (event p silences cycle line members u x m)
    event_lists cycle line members u x m h = elim (cases_Bool (falls silences u x cycle m.held.clock)) [
      | inl f ↦ rw f (fallen_lists m h)
      | inr f ↦ rw f (ticked_lists line members u x m)
    ]

    step_lists : (s : State) (u : ℕ) (x : Side) (line : List ℤ) → u < p.units → AllLists p s → AllLists p (step p silences line u x s)
    step_lists s u x line l h =
        let now = settled p s in
        let k = settled_lists s h in
        let new : Member = event p silences now.cycle line now.members u x (member_of now.members u x) in
        record {
          size = length-set now.members (replica_number u x) new ∙ k.size;
          each = put_cases (λ v y m. v < p.units → HasLists p m) now.members u x new (omega (arith, number_within p.units u x l, k.size))
              (λ l. event_lists now.cycle line now.members u x (member_of now.members u x) (k.each u x l)) k.each;
          start = k.start;
        }

    steps_lists : (LineFits : List ℤ → Type 0) (events : List Event) (s : State) → AllMay p silences LineFits s events → AllLists p s → AllLists p (steps p silences s events)
    steps_lists LineFits [] s may h = h
    steps_lists LineFits (e ∷ events) s may h = steps_lists LineFits events (step p silences e.line e.unit e.side s) may.1 (step_lists s e.unit e.side e.line may.0.0.enabled.unit_is h)

    pub reached_lists : (LineFits : List ℤ → Type 0) (events : List Event) → AllMay p silences LineFits (first_state p) events → AllLists p (steps p silences (first_state p) events)
    reached_lists LineFits events may = steps_lists LineFits events (first_state p) may first_lists
