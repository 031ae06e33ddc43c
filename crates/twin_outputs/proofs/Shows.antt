-- What is shown beside the twin is the model's.
use Rattle.std.proofs.Common.{◌≡◌, ℕ, zero, suc, ◌+◌, ◌-◌, nat_eq, nat_le, nat_lt, Bool, true, false, ◌&&◌, not, cond, List, [], ◌∷◌, ◌++◌, filter, append_assoc, append-nil, ℤ, Option, None, Some, refl, sym, ◌∙◌, ap}
use Rattle.std.specs.List.{range_with_len, list_any, flat_map}
use Rattle.mars_base.specs.declared.shape.Side.{Side}
use Rattle.mars_base.specs.declared.shape.Side.TheVariants.{A, B}
use Rattle.bus.specs.SlotState.{whole}
use Rattle.net_run.specs.NetRun.{JobResult, Done, Broken, Skipped}
use Rattle.cluster_model.specs.Effects.{is_for, taking, frame_effects, take_effects, put_effects, starting, start_effects, out_effects, ending_as, ending, end_effects, tick_effects, is_output}
use Rattle.cluster_model.specs.Plan.{Plan}
use Rattle.cluster_model.specs.State.{Status, Waiting, Busy, Gave, Broke, PassedOver, given, Held, status_in, Bus}
use Rattle.cluster_model.specs.Tick.{fed, opens, result_from}
use Rattle.cluster_model.specs.declared.effect.Effect.{Effect}
use Rattle.cluster_model.specs.declared.effect.Effect.TheVariants as effect
use Rattle.event_effects.specs.Effects.{is_given, shows, shown_ends}
use Rattle.twin_outputs.specs.Shown.{ended_last, has_given, shown, shown_beside}

-- an effect that is left out, or not
left_out : (again : Bool) (e : Effect) (some rest : List Effect) → cond again [] (e ∷ []) ++ (some ++ rest) ≡ cond (not again) (e ∷ some) some ++ rest
left_out true e some rest = refl
left_out false e some rest = refl

module _ (p : Plan) (twin : Held) where
  -- of the first effects these are shown, whatever ended before
  abbrev Shows : (effects these : List Effect) → Type 0
  Shows effects these = (last : Option ℕ) (rest after : List Effect) → ((then : Option ℕ) → shown_beside twin then rest ≡ after) → shown_beside twin last (effects ++ rest) ≡ these ++ after

  shows_none : Shows [] []
  shows_none last rest after h = h last

  shows_both : (xs ys these those : List Effect) → Shows xs these → Shows ys those → Shows (xs ++ ys) (these ++ those)
  shows_both xs ys these those a b last rest after h =
      ap (shown_beside twin last) (append_assoc xs ys rest)
      ∙ a last (ys ++ rest) (those ++ after) (λ then. b then rest after h)
      ∙ sym (append_assoc these those after)

  shows_all : (f g : ℕ → List Effect) → ((i : ℕ) → Shows (f i) (g i)) → (a n : ℕ) → Shows (flat_map f (range_with_len a n)) (flat_map g (range_with_len a n))
  shows_all f g h a zero = shows_none
  shows_all f g h a (suc n) = shows_both (f a) (flat_map f (range_with_len (a + 1) n)) (g a) (flat_map g (range_with_len (a + 1) n)) (h a) (shows_all f g h (a + 1) n)

  shows_where : (b : Bool) (xs these : List Effect) → Shows xs these → Shows (cond b xs []) (cond b these [])
  shows_where true xs these h = h
  shows_where false xs these h = shows_none

  -- what is no output is shown
  shows_it : (e : Effect) → is_output e ≡ false → Shows (e ∷ []) (e ∷ [])
  shows_it e kept last rest after h =
      ap (λ b. cond (b && has_given twin (ended_last last e)) [] (e ∷ []) ++ shown_beside twin (ended_last last e) rest) kept
      ∙ ap (λ effects. e ∷ effects) (h (ended_last last e))

  shows_taking : (from round : ℕ) (a b : Option (List ℤ)) → Shows (taking p from round a b ∷ []) (taking p from round a b ∷ [])
  shows_taking from round (Some words) b = shows_it (taking p from round (Some words) b) refl
  shows_taking from round None (Some words) = shows_it (taking p from round None (Some words)) refl
  shows_taking from round None None = shows_it (taking p from round None None) refl

  shows_starting : (job : ℕ) (status : Status) → Shows (starting p job status) (starting p job status)
  shows_starting job Waiting = shows_none
  shows_starting job (Busy state ins) = shows_it (effect.Start job) refl
  shows_starting job (Gave outs) = shows_none
  shows_starting job Broke = shows_none
  shows_starting job PassedOver = shows_it (effect.Skip job) refl

  -- outputs are shown where the twin has given none of their job
  outs_shown : (job instance : ℕ) (actuators : List ℕ) (rest after : List Effect) → ((then : Option ℕ) → shown_beside twin then rest ≡ after)
      → shown_beside twin (Some job) (flat_map (λ actuator. effect.Out actuator instance ∷ []) actuators ++ rest)
      ≡ filter (shows p twin job) (flat_map (λ actuator. effect.Out actuator instance ∷ []) actuators) ++ after
  outs_shown job instance [] rest after h = h (Some job)
  outs_shown job instance (actuator ∷ actuators) rest after h =
      ap (λ effects. shown twin (Some job) (effect.Out actuator instance) ++ effects) (outs_shown job instance actuators rest after h)
      ∙ left_out (is_given (given (status_in twin job))) (effect.Out actuator instance) (filter (shows p twin job) (flat_map (λ a. effect.Out a instance ∷ []) actuators)) after

  shows_ending_as : (job cycles : ℕ) (result : JobResult) → Shows (ending_as p job cycles result) (filter (shows p twin job) (ending_as p job cycles result))
  shows_ending_as job cycles (Done results) = λ last rest after h. ap (λ effects. effect.End job cycles ∷ effects) (outs_shown job (p.instance job) (p.actuators (p.task job)) rest after h)
  shows_ending_as job cycles Broken = shows_it (effect.Break job) refl
  shows_ending_as job cycles Skipped = shows_none

  shows_ending : (job : ℕ) (status : Status) → Shows (ending p job status) (filter (shows p twin job) (ending p job status))
  shows_ending job Waiting = shows_none
  shows_ending job (Busy state ins) = shows_ending_as job (p.cost (p.task job) state ins) (result_from p job state ins)
  shows_ending job (Gave outs) = shows_none
  shows_ending job Broke = shows_none
  shows_ending job PassedOver = shows_none

  module _ (bus : Bus) (line : List ℤ) (unit : ℕ) (side : Side) (h : Held) where
    frame_shown : (from round : ℕ) → Shows (frame_effects p bus unit h.clock from round) (frame_effects p bus unit h.clock from round)
    frame_shown from round =
        shows_where (nat_eq (p.usable round from) h.clock && list_any (is_for p unit from round) (range_with_len 0 p.messages))
        (taking p from round (whole (bus from A round)) (whole (bus from B round)) ∷ []) (taking p from round (whole (bus from A round)) (whole (bus from B round)) ∷ [])
        (shows_taking from round (whole (bus from A round)) (whole (bus from B round)))

    abbrev frames_of : (from : ℕ) → List Effect
    frames_of from = flat_map (frame_effects p bus unit h.clock from) (range_with_len 0 p.rounds)

    takes_shown : Shows (take_effects p bus unit h.clock) (take_effects p bus unit h.clock)
    takes_shown =
        shows_all frames_of frames_of (λ from. shows_all (frame_effects p bus unit h.clock from) (frame_effects p bus unit h.clock from) (frame_shown from) 0 p.rounds) 0 p.units

    abbrev put_in : (round : ℕ) → Effect
    put_in round = effect.Put (p.frame_word round unit (λ m. fed p (status_in h) (p.edge_of m) (p.instance_of m)) (h.clock - p.slot round unit side))

    abbrev is_in : (round : ℕ) → Bool
    is_in round = nat_le (p.slot round unit side) h.clock && nat_lt h.clock (p.slot round unit side + p.words)

    puts_shown : Shows (put_effects p unit side h) (put_effects p unit side h)
    puts_shown =
        shows_all (λ round. cond (is_in round) (put_in round ∷ []) []) (λ round. cond (is_in round) (put_in round ∷ []) [])
        (λ round. shows_where (is_in round) (put_in round ∷ []) (put_in round ∷ []) (shows_it (put_in round) refl)) 0 p.rounds

    abbrev starts_in : (job : ℕ) → Bool
    starts_in job = nat_eq (p.unit job) unit && nat_eq (p.starts job) h.clock

    abbrev start_of : (job : ℕ) → List Effect
    start_of job = starting p job (opens p bus unit h line job)

    starts_shown : Shows (start_effects p bus line unit h) (start_effects p bus line unit h)
    starts_shown =
        shows_all (λ job. cond (starts_in job) (start_of job) []) (λ job. cond (starts_in job) (start_of job) [])
        (λ job. shows_where (starts_in job) (start_of job) (start_of job) (shows_starting job (opens p bus unit h line job))) 0 p.jobs

    abbrev end_of : (job : ℕ) → List Effect
    end_of job = ending p job (opens p bus unit h line job)

    ends_shown : Shows (end_effects p bus line unit h) (shown_ends p bus line unit h twin)
    ends_shown =
        shows_all (λ job. cond (nat_eq (p.ends job) (suc h.clock)) (end_of job) []) (λ job. cond (nat_eq (p.ends job) (suc h.clock)) (filter (shows p twin job) (end_of job)) [])
        (λ job. shows_where (nat_eq (p.ends job) (suc h.clock)) (end_of job) (filter (shows p twin job) (end_of job)) (shows_ending job (opens p bus unit h line job))) 0 p.jobs

    -- what is shown of a replica's tick beside its twin
    pub tick_shown : shown_beside twin None (tick_effects p bus line unit side h)
        ≡ take_effects p bus unit h.clock ++ (put_effects p unit side h ++ (start_effects p bus line unit h ++ shown_ends p bus line unit h twin))
    tick_shown =
        let takes : List Effect = take_effects p bus unit h.clock in
        let puts : List Effect = put_effects p unit side h in
        let starts : List Effect = start_effects p bus line unit h in
        let ends : List Effect = end_effects p bus line unit h in
        let those : List Effect = shown_ends p bus line unit h twin in
        let all : Shows (((takes ++ puts) ++ starts) ++ ends) (((takes ++ puts) ++ starts) ++ those) =
        shows_both ((takes ++ puts) ++ starts) ends ((takes ++ puts) ++ starts) those
        (shows_both (takes ++ puts) starts (takes ++ puts) starts (shows_both takes puts takes puts takes_shown puts_shown) starts_shown) ends_shown in
        sym (ap (shown_beside twin None) (append-nil (tick_effects p bus line unit side h)))
        ∙ all None [] [] (λ then. refl)
        ∙ append-nil (((takes ++ puts) ++ starts) ++ those)
        ∙ append_assoc (takes ++ puts) starts those
        ∙ append_assoc takes puts (starts ++ those)
