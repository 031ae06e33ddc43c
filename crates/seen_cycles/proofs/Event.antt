-- What one event of a cycle shows of a job's cycles, and what it leaves of the job.
use Rattle.std.proofs.Common.{◌≡◌, ℕ, suc, ◌<◌, ◌≤◌, List, [], ◌++◌, length, set, ℤ, Bool, true, false, cond, nat_eq, Option, Some, None, inl, inr, refl, sym, ◌∙◌, ap, arith}
use Rattle.std.specs.Prelude.{filter}
use Rattle.std.proofs.lemmas.Bool.{cases_Bool, cases_eq, eq-eqb, ne_eqb, true≢false}
use Rattle.mars_base.specs.declared.shape.Side.{Side}
use Rattle.script.specs.declared.script.Silence.{Silence}
use Rattle.net_run.specs.NetRun.{JobResult}
use Rattle.cluster_model.specs.Cluster.{IsEnabled, after_tick, event}
use Rattle.cluster_model.specs.Effects.{take_effects, put_effects, start_effects, ending, fall_effects}
use Rattle.cluster_model.specs.Plan.{Plan}
use Rattle.cluster_model.specs.PlanRun.{before, takes, AreResults}
use Rattle.cluster_model.specs.Silences.{falls}
use Rattle.cluster_model.specs.Sound.{IsSoundPlan, AreGiven}
use Rattle.cluster_model.specs.State.{Status, Waiting, told, given, Held, state_in, status_in, Member, replica_number, member_of, Bus, bus_in}
use Rattle.cluster_model.specs.declared.effect.Effect.{Effect}
use Rattle.cluster_model.specs.Tick.{begun, finds, opens, closes}
use Rattle.cluster_agreement.specs.Keeps.{began, Holds}
use Rattle.cluster_agreement.proofs.Frames.{takes_right}
use Rattle.cluster_agreement.proofs.Jobs.{opens_at, opens_other, closes_other, now_busy}
use Rattle.cluster_agreement.proofs.Reading.{listed_at, number_within, put_cases}
use Rattle.event_effects.specs.Effects.{other, is_given, shows, shown_ends, shown_tick, most_taken}
use Rattle.run_texts.specs.Along.{spent}
use Rattle.seen_cycles.proofs.Shown.{quiet_none, takes_quiet, puts_quiet, starts_quiet, falls_quiet, most_append, other_ends, ending_most, flat_pick}

-- it has given outputs
abbrev pub is_done : Status → Bool
is_done status = is_given (given status)

begun_none : (state : List ℤ) (o : Option (List ℤ)) → is_done (begun state o) ≡ true → ⊥
begun_none state None e = true≢false (sym e)
begun_none state (Some ins) e = true≢false (sym e)

foreign_opens : (p : Plan) (bus : Bus) (line : List ℤ) (u : ℕ) (h : Held) (job : ℕ) → (p.unit job ≡ u → ⊥) → opens p bus u h line job ≡ status_in h job
foreign_opens p bus line u h job n = rw (ne_eqb (p.unit job) u n) refl

waits_on : (p : Plan) (tick job : ℕ) → closes p tick job Waiting ≡ Waiting
waits_on p tick job = elim (nat_eq (p.ends job) (suc tick)) as (λ b. cond b Waiting Waiting ≡ Waiting) [ true ↦ refl | false ↦ refl ]

module _ (p : Plan) (silences : List Silence) (cycle : ℕ) (start : ℕ → List ℤ) (line : List ℤ) (res : ℕ → JobResult) (out_words : ℕ → ℕ) (d : IsSoundPlan p out_words) (c : AreResults p start line res)
    (fits : AreGiven p out_words (λ j. told (res j))) (runs : (u : ℕ) → u < p.units → (x : Side) × ((t : ℕ) → t < p.cycle → falls silences u x cycle t ≡ false)) (job : ℕ) (low : job < p.jobs) where
  -- what the job's execution takes where it is done
  abbrev pub worth : ℕ
  worth = spent p.cost (p.task job) (before p start res (p.task job) (p.instance job)) (takes p line res job) (res job)

  abbrev pub Here : List Member → Type 0
  Here members = Holds p start line res (λ u x t. falls silences u x cycle t) members

  -- the replicas of other units know nothing of the job
  abbrev pub Idle : List Member → Type 0
  Idle members = (u : ℕ) (x : Side) → u < p.units → (p.unit job ≡ u → ⊥) → status_in (member_of members u x).held job ≡ Waiting

  module _ (members : List Member) (here : Here members) (idle : Idle members) (u : ℕ) (x : Side) (e : IsEnabled p members u x) where
    abbrev m : Member
    m = member_of members u x

    abbrev twin : Held
    twin = (member_of members u (other x)).held

    abbrev ends_of : (k : ℕ) → List Effect
    ends_of k = cond (nat_eq (p.ends k) (suc m.held.clock)) (filter (shows p twin k) (ending p k (opens p (bus_in members) u m.held line k))) []

    -- the tick at which the job ends on its own unit shows what it took
    own_end : p.unit job ≡ u → p.ends job ≡ suc m.held.clock → most_taken p silences job (ends_of job) ≡ worth
    own_end unit at =
        let began_is : opens p (bus_in members) u m.held line job ≡ began p start line res job =
        now_busy p out_words start line res (λ v y t. falls silences v y cycle t) (bus_in members) u x m d c (here.each u x e.unit_is) e.runs
        (takes_right p start line res (λ v y t. falls silences v y cycle t) out_words members d here runs fits u x e) job low unit (omega (arith, d.long job low, at)) (omega (arith, at)) in
        ap (λ b. most_taken p silences job (cond b (filter (shows p twin job) (ending p job (opens p (bus_in members) u m.held line job))) [])) (eq-eqb (p.ends job) (suc m.held.clock) at)
        ∙ ap (λ s. most_taken p silences job (filter (shows p twin job) (ending p job s))) began_is
        ∙ ending_most p silences job twin (before p start res (p.task job) (p.instance job)) (takes p line res job)
        ∙ ap (spent p.cost (p.task job) (before p start res (p.task job) (p.instance job)) (takes p line res job)) (sym (c job low))

    no_end : (p.ends job ≡ suc m.held.clock → ⊥) → most_taken p silences job (ends_of job) ≡ 0
    no_end n = ap (λ b. most_taken p silences job (cond b (filter (shows p twin job) (ending p job (opens p (bus_in members) u m.held line job))) [])) (ne_eqb (p.ends job) (suc m.held.clock) n)

    foreign_end : (p.unit job ≡ u → ⊥) → most_taken p silences job (ends_of job) ≡ 0
    foreign_end n =
        ap (λ s. most_taken p silences job (cond (nat_eq (p.ends job) (suc m.held.clock)) (filter (shows p twin job) (ending p job s)) []))
        (foreign_opens p (bus_in members) line u m.held job n ∙ idle u x e.unit_is n)
        ∙ elim (nat_eq (p.ends job) (suc m.held.clock)) as (λ b. most_taken p silences job (cond b [] []) ≡ 0) [ true ↦ refl | false ↦ refl ]

    -- a tick shows of the job what its end shows
    tick_shows : most_taken p silences job (shown_tick p members line u x) ≡ most_taken p silences job (ends_of job)
    tick_shows =
        let takes_are = take_effects p (bus_in members) u m.held.clock in
        let puts = put_effects p u x m.held in
        let starts = start_effects p (bus_in members) line u m.held in
        let ends = shown_ends p (bus_in members) line u m.held twin in
        omega (
          arith,
          most_append p silences job takes_are (puts ++ (starts ++ ends)),
          most_append p silences job puts (starts ++ ends),
          most_append p silences job starts ends,
          quiet_none p silences job takes_are (takes_quiet p silences job (bus_in members) u m.held.clock),
          quiet_none p silences job puts (puts_quiet p silences job u x m.held),
          quiet_none p silences job starts (starts_quiet p silences job (bus_in members) line u m.held),
          flat_pick p silences job ends_of 0 p.jobs (omega arith) (omega (arith, low))
              (λ k n. other_ends p silences job twin k n (nat_eq (p.ends k) (suc m.held.clock)) (opens p (bus_in members) u m.held line k)),
        )

    abbrev pub shown_here : List Effect
    shown_here = cond (falls silences u x cycle m.held.clock) (fall_effects m.slots) (shown_tick p members line u x)

    -- no event shows more of the job than its execution takes
    pub at_most : most_taken p silences job shown_here ≤ worth
    at_most = elim (cases_Bool (falls silences u x cycle m.held.clock)) [
      | inl f ↦ rw f (omega (arith, quiet_none p silences job (fall_effects m.slots) (falls_quiet p silences job m.slots)))
      | inr n ↦ rw n (elim (cases_eq (p.unit job) u) [
        | inr other ↦ omega (arith, tick_shows, foreign_end other)
        | inl own ↦ elim (cases_eq (p.ends job) (suc m.held.clock)) [
          | inl at ↦ omega (arith, tick_shows, own_end own at)
          | inr later ↦ omega (arith, tick_shows, no_end later)
        ]
      ])
    ]

    abbrev new : Member
    new = event p silences cycle line members u x m

    abbrev pub next : List Member
    next = set members (replica_number u x) new

    inside : replica_number u x < length members
    inside = omega (arith, number_within p.units u x e.unit_is, here.size)

    ticked_idle : (p.unit job ≡ u → ⊥) → status_in (after_tick p line members u x m).held job ≡ Waiting
    ticked_idle n =
        listed_at p.jobs (λ k. closes p m.held.clock k (opens p (bus_in members) u m.held line k)) job Waiting low
        ∙ ap (closes p m.held.clock job) (foreign_opens p (bus_in members) line u m.held job n ∙ idle u x e.unit_is n)
        ∙ waits_on p m.held.clock job

    new_idle : (p.unit job ≡ u → ⊥) → status_in new.held job ≡ Waiting
    new_idle n = elim (cases_Bool (falls silences u x cycle m.held.clock)) [
      | inl f ↦ rw f (idle u x e.unit_is n)
      | inr t ↦ rw t (ticked_idle n)
    ]

    pub next_idle : Idle next
    next_idle = put_cases (λ v y (k : Member). v < p.units → (p.unit job ≡ v → ⊥) → status_in k.held job ≡ Waiting) members u x new inside (λ l n. new_idle n) idle

    -- a tick after which the job is done, and wasn't before, shows what it took
    tick_done : p.unit job ≡ u → (is_done (status_in m.held job) ≡ true → ⊥) → is_done (status_in (after_tick p line members u x m).held job) ≡ true
        → worth ≤ most_taken p silences job (shown_tick p members line u x)
    tick_done own not_yet now =
        let now2 : is_done (closes p m.held.clock job (opens p (bus_in members) u m.held line job)) ≡ true =
        ap is_done (sym (listed_at p.jobs (λ k. closes p m.held.clock k (opens p (bus_in members) u m.held line k)) job Waiting low)) ∙ now in
        elim (cases_eq (p.ends job) (suc m.held.clock)) [
          | inl at ↦ omega (arith, tick_shows, own_end own at)
          | inr later ↦
              let opened : is_done (opens p (bus_in members) u m.held line job) ≡ true =
              ap is_done (sym (closes_other p m.held.clock job (opens p (bus_in members) u m.held line job) later)) ∙ now2 in
              elim (cases_eq (p.starts job) m.held.clock) [
                | inl starts ↦ absurd (begun_none (state_in m.held (p.task job)) (p.inputs line (finds p (bus_in members) u m.held job) job)
                    (ap is_done (sym (opens_at p (bus_in members) line u m.held job own starts)) ∙ opened))
                | inr waits ↦ absurd (not_yet (ap is_done (sym (opens_other p (bus_in members) line u m.held job own waits)) ∙ opened))
              ]
        ]

    new_done : p.unit job ≡ u → (is_done (status_in m.held job) ≡ true → ⊥) → is_done (status_in new.held job) ≡ true → worth ≤ most_taken p silences job shown_here
    new_done own not_yet = elim (cases_Bool (falls silences u x cycle m.held.clock)) [
      | inl f ↦ rw f (λ now. absurd (not_yet now))
      | inr t ↦ rw t (λ now. tick_done own not_yet now)
    ]

    -- an event after which the job is done at some replica of its unit, and wasn't before, shows what it took
    pub at_least : (y : Side) → (is_done (status_in (member_of members (p.unit job) y).held job) ≡ true → ⊥)
        → is_done (status_in (member_of next (p.unit job) y).held job) ≡ true → worth ≤ most_taken p silences job shown_here
    at_least y not_yet =
        put_cases
        (λ v z (k : Member). (p.unit job ≡ v) → (is_done (status_in (member_of members v z).held job) ≡ true → ⊥) → is_done (status_in k.held job) ≡ true
        → worth ≤ most_taken p silences job shown_here)
        members u x new inside (λ own before now. new_done own before now) (λ v z own before now. absurd (before now)) (p.unit job) y refl not_yet
