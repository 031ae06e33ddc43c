-- What is seen of an event, in its order. The tests are those of the event itself.
use Rattle.std.specs.Prelude.{ℕ, suc, ◌+◌, ◌-◌, ◌&&◌, nat_eq, nat_le, nat_lt, Bool, true, false, List, [], ◌∷◌, ◌++◌, ℤ, Option, Some, None, if◌then◌else◌}
use Rattle.std.specs.List.{range_with_len, list_any, flat_map}
use Rattle.mars_base.specs.declared.shape.Side.{Side}
use Rattle.mars_base.specs.declared.shape.Side.TheVariants.{A, B}
use Rattle.bus.specs.SlotState.{SlotState, Open, Sending, Whole, Cut, whole}
use Rattle.net_run.specs.NetRun.{JobResult, Done, Broken, Skipped}
use Rattle.cluster_model.specs.Plan.{Plan}
use Rattle.cluster_model.specs.State.{Status, Waiting, Busy, Gave, Broke, PassedOver, Held, status_in, Bus}
use Rattle.cluster_model.specs.Tick.{fed, opens, result_from}
use Rattle.cluster_model.specs.declared.effect.Effect.{Effect}
use Rattle.cluster_model.specs.declared.effect.Effect.TheVariants as effect

module _ (p : Plan) where
  -- part 1: the frame of a unit and a round, taken from the side on which it is whole, or missed
  abbrev pub taking : (from round : ℕ) → (a b : Option (List ℤ)) → Effect
  taking from round (Some words) b = effect.Take from A round
  taking from round None (Some words) = effect.Take from B round
  taking from round None None = effect.Miss from round

  -- a message of the frame is for the unit
  abbrev pub is_for : (unit from round message : ℕ) → Bool
  is_for unit from round m = (nat_eq (p.sender m) from && nat_eq (p.round_of m) round) && nat_eq (p.receiver m) unit

  abbrev pub frame_effects : Bus → (unit tick from round : ℕ) → List Effect
  frame_effects bus unit tick from round =
      if nat_eq (p.usable round from) tick && list_any (is_for unit from round) (range_with_len 0 p.messages)
      then taking from round (whole (bus from A round)) (whole (bus from B round)) ∷ []
      else []

  -- frames by unit and then by round
  abbrev pub take_effects : Bus → (unit tick : ℕ) → List Effect
  take_effects bus unit tick = flat_map (λ from. flat_map (frame_effects bus unit tick from) (range_with_len 0 p.rounds)) (range_with_len 0 p.units)

  -- part 2: the word of the replica's slot
  abbrev pub put_effects : (unit : ℕ) → Side → Held → List Effect
  put_effects unit side h = flat_map
      (λ round. if nat_le (p.slot round unit side) h.clock && nat_lt h.clock (p.slot round unit side + p.words)
      then effect.Put (p.frame_word round unit (λ m. fed p (status_in h) (p.edge_of m) (p.instance_of m)) (h.clock - p.slot round unit side)) ∷ []
      else [])
      (range_with_len 0 p.rounds)

  -- part 3: a job that starts, or is skipped
  abbrev pub starting : (job : ℕ) → Status → List Effect
  starting job Waiting = []
  starting job (Busy state ins) = effect.Start job ∷ []
  starting job (Gave outs) = []
  starting job Broke = []
  starting job PassedOver = effect.Skip job ∷ []

  abbrev pub start_effects : Bus → (line : List ℤ) → (unit : ℕ) → Held → List Effect
  start_effects bus line unit h = flat_map
      (λ job. if nat_eq (p.unit job) unit && nat_eq (p.starts job) h.clock then starting job (opens p bus unit h line job) else [])
      (range_with_len 0 p.jobs)

  -- part 5: a job that ends, with the words of its actuators in order, or is broken
  abbrev pub out_effects : (job : ℕ) → List Effect
  out_effects job = flat_map (λ actuator. effect.Out actuator (p.instance job) ∷ []) (p.actuators (p.task job))

  abbrev pub ending_as : (job cycles : ℕ) → JobResult → List Effect
  ending_as job cycles (Done results) = effect.End job cycles ∷ out_effects job
  ending_as job cycles Broken = effect.Break job ∷ []
  ending_as job cycles Skipped = []

  abbrev pub ending : (job : ℕ) → Status → List Effect
  ending job Waiting = []
  ending job (Busy state ins) = ending_as job (p.cost (p.task job) state ins) (result_from p job state ins)
  ending job (Gave outs) = []
  ending job Broke = []
  ending job PassedOver = []

  abbrev pub end_effects : Bus → (line : List ℤ) → (unit : ℕ) → Held → List Effect
  end_effects bus line unit h = flat_map
      (λ job. if nat_eq (p.ends job) (suc h.clock) then ending job (opens p bus unit h line job) else [])
      (range_with_len 0 p.jobs)

  -- what a replica's tick shows
  abbrev pub tick_effects : Bus → (line : List ℤ) → (unit : ℕ) → Side → Held → List Effect
  tick_effects bus line unit side h =
      take_effects bus unit h.clock ++ put_effects unit side h ++ start_effects bus line unit h ++ end_effects bus line unit h

-- a silence, with a cut where a slot is sending
abbrev pub is_sending : SlotState → Bool
is_sending Open = false
is_sending (Sending words) = true
is_sending (Whole words) = false
is_sending (Cut words) = false

abbrev pub fall_effects : (slots : List SlotState) → List Effect
fall_effects slots = effect.Fell ∷ (if list_any is_sending slots then effect.Cut ∷ [] else [])

-- the outputs of a job that the twin has ended before aren't shown again
abbrev pub is_output : Effect → Bool
is_output (effect.Take from side round) = false
is_output (effect.Miss from round) = false
is_output (effect.Put word) = false
is_output (effect.Start job) = false
is_output (effect.Skip job) = false
is_output (effect.End job cycles) = false
is_output (effect.Break job) = false
is_output (effect.Out actuator instance) = true
is_output effect.Fell = false
is_output effect.Cut = false
