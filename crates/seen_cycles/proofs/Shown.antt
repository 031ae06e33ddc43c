-- What some effects show of a job's cycles.
use Rattle.std.proofs.Common.{◌≡◌, ℕ, zero, suc, ◌+◌, ◌-◌, ◌&&◌, nat_le, nat_lt, ◌<◌, ◌≤◌, List, [], ◌∷◌, ◌++◌, ℤ, Bool, true, false, cond, max, nat_eq, Option, Some, None, inl, inr, refl, ap, arith}
use Rattle.std.specs.Prelude.{filter}
use Rattle.std.specs.List.{range_with_len, flat_map, list_any}
use Rattle.std.proofs.lemmas.Bool.{cases_eq, eq-eqb, ne_eqb}
use Rattle.mars_base.specs.declared.shape.Side.{Side}
use Rattle.mars_base.specs.declared.shape.Side.TheVariants.{A, B}
use Rattle.bus.specs.SlotState.{SlotState, whole}
use Rattle.script.specs.declared.script.Silence.{Silence}
use Rattle.net_run.specs.NetRun.{JobResult, Done, Broken, Skipped}
use Rattle.cluster_model.specs.Effects.{taking, frame_effects, take_effects, put_effects, starting, start_effects, out_effects, ending_as, ending, is_sending, fall_effects}
use Rattle.cluster_model.specs.Plan.{Plan}
use Rattle.cluster_model.specs.PlanRun.{comes_to}
use Rattle.cluster_model.specs.State.{Status, Waiting, Busy, Gave, Broke, PassedOver, Held, status_in, Bus}
use Rattle.cluster_model.specs.Tick.{begun, fed, opens, result_from}
use Rattle.cluster_model.specs.declared.effect.Effect.{Effect}
use Rattle.cluster_model.specs.declared.effect.Effect.TheVariants as effect
use Rattle.event_effects.specs.Effects.{shows, taken_by, most_taken}
use Rattle.run_texts.specs.Along.{spent}

pub max_zero : (x : ℕ) → max 0 x ≡ x
max_zero x = omega arith

pub max_right : (x : ℕ) → max x 0 ≡ x
max_right x = omega arith

module _ (p : Plan) (silences : List Silence) (job : ℕ) where
  abbrev pub most : List Effect → ℕ
  most effects = most_taken p silences job effects

  -- no effect of the list is an end of the job
  abbrev pub Quiet : List Effect → Type 0
  Quiet [] = Unit {0}
  Quiet (e ∷ es) = (taken_by p silences job e ≡ 0) × Quiet es

  pub quiet_none : (es : List Effect) → Quiet es → most es ≡ 0
  quiet_none [] h = refl
  quiet_none (e ∷ es) h = omega (arith, h.0, quiet_none es h.1)

  quiet_filter : (test : Effect → Bool) (es : List Effect) → Quiet es → Quiet (filter test es)
  quiet_filter test [] h = tt
  quiet_filter test (e ∷ es) h = elim (test e) as (λ b. Quiet (cond b (e ∷ filter test es) (filter test es))) [ true ↦ (h.0, quiet_filter test es h.1) | false ↦ quiet_filter test es h.1 ]

  pub quiet_append : (xs ys : List Effect) → Quiet xs → Quiet ys → Quiet (xs ++ ys)
  quiet_append [] ys a b = b
  quiet_append (e ∷ xs) ys a b = (a.0, quiet_append xs ys a.1 b)

  quiet_flat : (f : ℕ → List Effect) (ns : List ℕ) → ((n : ℕ) → Quiet (f n)) → Quiet (flat_map f ns)
  quiet_flat f [] h = tt
  quiet_flat f (n ∷ ns) h = quiet_append (f n) (flat_map f ns) (h n) (quiet_flat f ns h)

  quiet_if : (b : Bool) (es : List Effect) → Quiet es → Quiet (cond b es [])
  quiet_if true es h = h
  quiet_if false es h = tt

  pub most_append : (xs ys : List Effect) → most (xs ++ ys) ≡ max (most xs) (most ys)
  most_append [] ys = omega arith
  most_append (e ∷ xs) ys = omega (arith, most_append xs ys)

  taking_quiet : (from round : ℕ) (a b : Option (List ℤ)) → Quiet (taking p from round a b ∷ [])
  taking_quiet from round (Some words) b = (refl, tt)
  taking_quiet from round None (Some words) = (refl, tt)
  taking_quiet from round None None = (refl, tt)

  pub takes_quiet : (bus : Bus) (unit tick : ℕ) → Quiet (take_effects p bus unit tick)
  takes_quiet bus unit tick =
      quiet_flat (λ from. flat_map (frame_effects p bus unit tick from) (range_with_len 0 p.rounds)) (range_with_len 0 p.units)
      (λ from. quiet_flat (frame_effects p bus unit tick from) (range_with_len 0 p.rounds)
      (λ round. quiet_if _ (taking p from round (whole (bus from A round)) (whole (bus from B round)) ∷ []) (taking_quiet from round (whole (bus from A round)) (whole (bus from B round)))))

  pub puts_quiet : (unit : ℕ) (side : Side) (h : Held) → Quiet (put_effects p unit side h)
  puts_quiet unit side h =
      quiet_flat
      (λ round. cond (nat_le (p.slot round unit side) h.clock && nat_lt h.clock (p.slot round unit side + p.words))
      (effect.Put (p.frame_word round unit (λ m. fed p (status_in h) (p.edge_of m) (p.instance_of m)) (h.clock - p.slot round unit side)) ∷ []) [])
      (range_with_len 0 p.rounds)
      (λ round. quiet_if (nat_le (p.slot round unit side) h.clock && nat_lt h.clock (p.slot round unit side + p.words))
      (effect.Put (p.frame_word round unit (λ m. fed p (status_in h) (p.edge_of m) (p.instance_of m)) (h.clock - p.slot round unit side)) ∷ []) (refl, tt))

  starting_quiet : (other : ℕ) (s : Status) → Quiet (starting p other s)
  starting_quiet other Waiting = tt
  starting_quiet other (Busy state ins) = (refl, tt)
  starting_quiet other (Gave outs) = tt
  starting_quiet other Broke = tt
  starting_quiet other PassedOver = (refl, tt)

  pub starts_quiet : (bus : Bus) (line : List ℤ) (unit : ℕ) (h : Held) → Quiet (start_effects p bus line unit h)
  starts_quiet bus line unit h =
      quiet_flat (λ other. cond (nat_eq (p.unit other) unit && nat_eq (p.starts other) h.clock) (starting p other (opens p bus unit h line other)) []) (range_with_len 0 p.jobs)
      (λ other. quiet_if (nat_eq (p.unit other) unit && nat_eq (p.starts other) h.clock) (starting p other (opens p bus unit h line other)) (starting_quiet other (opens p bus unit h line other)))

  outs_quiet : (other : ℕ) → Quiet (out_effects p other)
  outs_quiet other = quiet_flat (λ actuator. effect.Out actuator (p.instance other) ∷ []) (p.actuators (p.task other)) (λ actuator. (refl, tt))

  pub falls_quiet : (slots : List SlotState) → Quiet (fall_effects slots)
  falls_quiet slots = (refl, quiet_if (list_any is_sending slots) (effect.Cut ∷ []) (refl, tt))

  ending_as_quiet : (other cycles : ℕ) → (other ≡ job → ⊥) → (r : JobResult) → Quiet (ending_as p other cycles r)
  ending_as_quiet other cycles n (Done results) = (ap (λ b. cond b cycles 0) (ne_eqb other job n), outs_quiet other)
  ending_as_quiet other cycles n Broken = (refl, tt)
  ending_as_quiet other cycles n Skipped = tt

  ending_quiet : (other : ℕ) → (other ≡ job → ⊥) → (s : Status) → Quiet (ending p other s)
  ending_quiet other n Waiting = tt
  ending_quiet other n (Busy state ins) = ending_as_quiet other (p.cost (p.task other) state ins) n (result_from p other state ins)
  ending_quiet other n (Gave outs) = tt
  ending_quiet other n Broke = tt
  ending_quiet other n PassedOver = tt

  pub other_ends : (twin : Held) (other : ℕ) → (other ≡ job → ⊥) → (b : Bool) (s : Status) → most (cond b (filter (shows p twin other) (ending p other s)) []) ≡ 0
  other_ends twin other n b s = quiet_none _ (quiet_if b (filter (shows p twin other) (ending p other s)) (quiet_filter (shows p twin other) (ending p other s) (ending_quiet other n s)))

  -- the end of the job shows what its execution took
  ending_as_most : (twin : Held) (state ins : List ℤ) (r : JobResult)
      → most (filter (shows p twin job) (ending_as p job (p.cost (p.task job) state ins) r)) ≡ spent p.cost (p.task job) state (Some ins) r
  ending_as_most twin state ins (Done results) =
      let own : cond (nat_eq job job) (p.cost (p.task job) state ins) 0 ≡ p.cost (p.task job) state ins = ap (λ b. cond b (p.cost (p.task job) state ins) 0) (eq-eqb job job refl) in
      let none = quiet_none (filter (shows p twin job) (out_effects p job)) (quiet_filter (shows p twin job) (out_effects p job) (outs_quiet job)) in
      omega (arith, own, none)
  ending_as_most twin state ins Broken = omega arith
  ending_as_most twin state ins Skipped = refl

  pub ending_most : (twin : Held) (state : List ℤ) (o : Option (List ℤ)) →
      most (filter (shows p twin job) (ending p job (begun state o))) ≡ spent p.cost (p.task job) state o (comes_to p job state o)
  ending_most twin state None = refl
  ending_most twin state (Some ins) = ending_as_most twin state ins (result_from p job state ins)

  -- of a range the job alone counts
  pub flat_zero : (f : ℕ → List Effect) (a n : ℕ) → ((k : ℕ) → a ≤ k → k < a + n → most (f k) ≡ 0) → most (flat_map f (range_with_len a n)) ≡ 0
  flat_zero f a zero h = refl
  flat_zero f a (suc n) h =
      omega (arith, most_append (f a) (flat_map f (range_with_len (a + 1) n)), h a (omega arith) (omega arith), flat_zero f (a + 1) n (λ k low high. h k (omega (arith, low)) (omega (arith, high))))

  pub flat_pick : (f : ℕ → List Effect) (a n : ℕ) → a ≤ job → job < a + n → ((k : ℕ) → (k ≡ job → ⊥) → most (f k) ≡ 0) → most (flat_map f (range_with_len a n)) ≡ most (f job)
  flat_pick f a zero low high h = absurd (omega (arith, low, high))
  flat_pick f a (suc n) low high h = elim (cases_eq a job) [
    | inl e ↦ omega (
      arith,
      most_append (f a) (flat_map f (range_with_len (a + 1) n)),
      ap (λ k. most (f k)) e,
      flat_zero f (a + 1) n (λ k l u. h k (λ z. omega (arith, z, e, l))),
    )
    | inr o ↦ omega (arith, most_append (f a) (flat_map f (range_with_len (a + 1) n)), h a o, flat_pick f (a + 1) n (omega (arith, low, o)) (omega (arith, high)) h)
  ]
