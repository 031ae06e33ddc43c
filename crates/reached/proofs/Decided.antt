-- What placing a job gives.
use Rattle.std.proofs.Common.{◌≡◌, ℕ, zero, suc, ◌+◌, ◌-◌, ◌<◌, ◌≤◌, ◌⊎◌, inl, inr, Bool, true, false, ◌&&◌, leb, max, if◌then◌else◌, List, [], ◌∷◌, ◌++◌, Option, Some, None, slice_get, refl, ap, subst, arith, leb-true}
use Rattle.std.specs.Prelude.{◌==◌}
use Rattle.mars_base.specs.declared.shape.Side.TheVariants.{A}
use Rattle.tdma.specs.Layout.{slot_start_of, usable_of}
use Rattle.decisions.specs.declared.placed.Sent.{Sent}
use Rattle.decisions.specs.declared.placed.Ticks.{Ticks}
use Rattle.decisions.specs.declared.problem.Feed.{Feed}
use Rattle.decisions.specs.declared.problem.Problem.{Problem}
use Rattle.decisions.specs.Decision.{Decision, work_at, decision_on}
use Rattle.decisions.specs.Place.{taken_before, Waiting, has_room, first_room, sent_in, sent_over, fed_by, fed, ticks_on, is_free, first_free, decided, placed_after, place}

-- the first of m ticks from s on that is free
pub record IsFirstFree (ts : List Ticks) (n s m t : ℕ) : Type 0 where
  pub from : s ≤ t
  pub below : t < s + m
  pub free : is_free ts t n ≡ true

first_free_by : (ts : List Ticks) (n s m t : ℕ) (b : Bool) → is_free ts s n ≡ b → (if b then Some s else first_free ts n (suc s) m) ≡ Some t → (first_free ts n (suc s) m ≡ Some t → IsFirstFree ts n (suc s) m t) → IsFirstFree ts n s (suc m) t
first_free_by ts n s m t true e h g = let i : s ≡ t = cc in record { from = omega arith; below = omega arith; free = subst (λ x. is_free ts x n ≡ true) i e }
first_free_by ts n s m t false e h g = let f = g h in record { from = omega (arith, f.from); below = omega (arith, f.below); free = f.free }

pub first_free_is : (ts : List Ticks) (n s m t : ℕ) → first_free ts n s m ≡ Some t → IsFirstFree ts n s m t
first_free_is ts n s zero t h = absurd (cc)
first_free_is ts n s (suc m) t h = first_free_by ts n s m t (is_free ts s n) refl h (λ g. first_free_is ts n (suc s) m t g)

-- the first of m rounds from k on with room
pub record IsFirstRoom (pr : Problem) (l : List Decision) (ms : List Sent) (unit from words k m r : ℕ) : Type 0 where
  pub low : k ≤ r
  pub below : r < k + m
  pub begins : from ≤ slot_start_of pr.round r unit A
  pub fits : taken_before l ms unit r + words ≤ pr.round.slot_words

both_true : (a b : Bool) → (a && b) ≡ true → (a ≡ true) × (b ≡ true)
both_true true b h = (refl, h)
both_true false b h = absurd (cc)

has_room_is : (pr : Problem) (l : List Decision) (ms : List Sent) (unit from words r : ℕ) → has_room pr l ms unit from words r ≡ true → (from ≤ slot_start_of pr.round r unit A) × (taken_before l ms unit r + words ≤ pr.round.slot_words)
has_room_is pr l ms unit from words r h =
    let b = both_true (leb from (slot_start_of pr.round r unit A)) (leb (taken_before l ms unit r + words) pr.round.slot_words) h in
    (leb-true from (slot_start_of pr.round r unit A) b.0, leb-true (taken_before l ms unit r + words) pr.round.slot_words b.1)

first_room_by : (pr : Problem) (l : List Decision) (ms : List Sent) (unit from words k m r : ℕ) (b : Bool) → has_room pr l ms unit from words k ≡ b → (if b then Some k else first_room pr l ms unit from words (suc k) m) ≡ Some r
    → (first_room pr l ms unit from words (suc k) m ≡ Some r → IsFirstRoom pr l ms unit from words (suc k) m r) → IsFirstRoom pr l ms unit from words k (suc m) r
first_room_by pr l ms unit from words k m r true e h g =
    let i : k ≡ r = cc in
    let f = has_room_is pr l ms unit from words r (subst (λ x. has_room pr l ms unit from words x ≡ true) i e) in
    record { low = omega arith; below = omega arith; begins = f.0; fits = f.1 }
first_room_by pr l ms unit from words k m r false e h g = let f = g h in record { low = omega (arith, f.low); below = omega (arith, f.below); begins = f.begins; fits = f.fits }

pub first_room_is : (pr : Problem) (l : List Decision) (ms : List Sent) (unit from words k m r : ℕ) → first_room pr l ms unit from words k m ≡ Some r → IsFirstRoom pr l ms unit from words k m r
first_room_is pr l ms unit from words k zero r h = absurd (cc)
first_room_is pr l ms unit from words k (suc m) r h = first_room_by pr l ms unit from words k m r (has_room pr l ms unit from words k) refl h (λ g. first_room_is pr l ms unit from words (suc k) m r g)

-- a frame may be used behind its A slot
slot_before : (pr : Problem) (r u : ℕ) → slot_start_of pr.round r u A ≤ usable_of pr.round r u
slot_before pr r u = omega arith

-- the message of a feed in a round
abbrev pub message_in : (l : List Decision) → Waiting → Feed → (unit round : ℕ) → Sent
message_in l w feed unit round = record { edge = feed.edge; unit = unit; round = round; offset = taken_before l w.sent unit round; words = feed.words }

-- one feed: the job waits for the producer's end, or gets a message from it
pub record IsFed (pr : Problem) (l : List Decision) (unit : ℕ) (w : Waiting) (feed : Feed) (v : Waiting) : Type 0 where
  pub producer : Decision
  pub placed : decision_on l feed.producer ≡ Some producer
  pub later : w.wait ≤ v.wait
  pub ended : producer.end ≤ v.wait
  pub way : ((producer.unit ≡ unit) × (v.sent ≡ w.sent)) ⊎ ((producer.unit ≡ unit → ⊥) × ((round : ℕ) × IsFirstRoom pr l w.sent producer.unit producer.end feed.words 0 pr.round.rounds round
      × (v.sent ≡ w.sent ++ message_in l w feed producer.unit round ∷ []) × (usable_of pr.round round producer.unit ≤ v.wait)))

sent_over_by : (pr : Problem) (l : List Decision) (unit : ℕ) (w : Waiting) (feed : Feed) (p : Decision) (v : Waiting) (o : Option ℕ) → decision_on l feed.producer ≡ Some p → (p.unit ≡ unit → ⊥)
    → first_room pr l w.sent p.unit p.end feed.words 0 pr.round.rounds ≡ o → sent_in pr l w feed p.unit o ≡ Some v → IsFed pr l unit w feed v
sent_over_by pr l unit w feed p v None d ne e h = absurd (cc)
sent_over_by pr l unit w feed p v (Some round) d ne e h =
    let r = first_room_is pr l w.sent p.unit p.end feed.words 0 pr.round.rounds round e in
    let s = slot_before pr round p.unit in
    let z : Waiting = record { sent = w.sent ++ message_in l w feed p.unit round ∷ []; wait = max w.wait (usable_of pr.round round p.unit) } in
    let i : z ≡ v = cc in
    subst (λ x. IsFed pr l unit w feed x) i (record {
      producer = p;
      placed = d;
      later = omega arith;
      ended = omega (arith, s, r.begins);
      way = inr (ne, (round, r, refl, omega arith));
    })

not_same : (a b : ℕ) → (a == b) ≡ false → a ≡ b → ⊥
not_same a b e h = grind arith

fed_if : (pr : Problem) (l : List Decision) (unit : ℕ) (w : Waiting) (feed : Feed) (p : Decision) (v : Waiting) (b : Bool) → (p.unit == unit) ≡ b → decision_on l feed.producer ≡ Some p
    → (if b then Some (record { sent = w.sent; wait = max w.wait p.end }) else sent_over pr l w feed p) ≡ Some v → IsFed pr l unit w feed v
fed_if pr l unit w feed p v true e d h =
    let z : Waiting = record { sent = w.sent; wait = max w.wait p.end } in
    let i : z ≡ v = cc in
    let same : p.unit ≡ unit = grind arith in
    subst (λ x. IsFed pr l unit w feed x) i (record { producer = p; placed = d; later = omega arith; ended = omega arith; way = inl (same, refl) })
fed_if pr l unit w feed p v false e d h =
    sent_over_by pr l unit w feed p v (first_room pr l w.sent p.unit p.end feed.words 0 pr.round.rounds) d (λ i. not_same p.unit unit e i) refl h

fed_option : (pr : Problem) (l : List Decision) (unit : ℕ) (w : Waiting) (feed : Feed) (v : Waiting) (o : Option Decision) → decision_on l feed.producer ≡ o → fed_by pr l unit w feed o ≡ Some v → IsFed pr l unit w feed v
fed_option pr l unit w feed v None d h = absurd (cc)
fed_option pr l unit w feed v (Some p) d h = fed_if pr l unit w feed p v (p.unit == unit) refl d h

pub fed_one : (pr : Problem) (l : List Decision) (unit : ℕ) (w : Waiting) (feed : Feed) (v : Waiting) → fed_by pr l unit w feed (decision_on l feed.producer) ≡ Some v → IsFed pr l unit w feed v
fed_one pr l unit w feed v h = fed_option pr l unit w feed v (decision_on l feed.producer) refl h

-- the first feed, and the others
pub record IsFedFirst (pr : Problem) (l : List Decision) (unit : ℕ) (feed : Feed) (feeds : List Feed) (w v : Waiting) : Type 0 where
  pub next : Waiting
  pub one : IsFed pr l unit w feed next
  pub rest : fed pr l unit feeds (Some next) ≡ Some v

fed_none : (pr : Problem) (l : List Decision) (unit : ℕ) (feeds : List Feed) (v : Waiting) → fed pr l unit feeds None ≡ Some v → ⊥
fed_none pr l unit [] v h = cc
fed_none pr l unit (feed ∷ feeds) v h = cc

fed_first_by : (pr : Problem) (l : List Decision) (unit : ℕ) (feed : Feed) (feeds : List Feed) (w v : Waiting) (o : Option Waiting) → fed_by pr l unit w feed (decision_on l feed.producer) ≡ o → fed pr l unit feeds o ≡ Some v → IsFedFirst pr l unit feed feeds w v
fed_first_by pr l unit feed feeds w v None e h = absurd (fed_none pr l unit feeds v h)
fed_first_by pr l unit feed feeds w v (Some x) e h = record { next = x; one = fed_one pr l unit w feed x e; rest = h }

pub fed_first : (pr : Problem) (l : List Decision) (unit : ℕ) (feed : Feed) (feeds : List Feed) (w v : Waiting) → fed pr l unit (feed ∷ feeds) (Some w) ≡ Some v → IsFedFirst pr l unit feed feeds w v
fed_first pr l unit feed feeds w v h = fed_first_by pr l unit feed feeds w v (fed_by pr l unit w feed (decision_on l feed.producer)) refl h

pub fed_end : (pr : Problem) (l : List Decision) (unit : ℕ) (w v : Waiting) → fed pr l unit [] (Some w) ≡ Some v → w ≡ v
fed_end pr l unit w v h = cc

pub fed_later : (pr : Problem) (l : List Decision) (unit : ℕ) (feeds : List Feed) (w v : Waiting) → fed pr l unit feeds (Some w) ≡ Some v → w.wait ≤ v.wait
fed_later pr l unit [] w v h = omega (arith, ap (λ (x : Waiting). x.wait) (fed_end pr l unit w v h))
fed_later pr l unit (feed ∷ feeds) w v h = let f = fed_first pr l unit feed feeds w v h in omega (arith, f.one.later, fed_later pr l unit feeds f.next v f.rest)

-- the producer of a feed has ended by the tick
pub record HasEnded (l : List Decision) (feed : Feed) (tick : ℕ) : Type 0 where
  pub producer : Decision
  pub placed : decision_on l feed.producer ≡ Some producer
  pub ended : producer.end ≤ tick

pub fed_ended : (pr : Problem) (l : List Decision) (unit : ℕ) (feeds : List Feed) (w v : Waiting) → fed pr l unit feeds (Some w) ≡ Some v → (i : ℕ) (feed : Feed) → slice_get feeds i ≡ Some feed → HasEnded l feed v.wait
fed_ended pr l unit [] w v h i feed e = absurd (cc)
fed_ended pr l unit (f ∷ feeds) w v h zero feed e =
    let g = fed_first pr l unit f feeds w v h in
    let s : f ≡ feed = cc in
    subst (λ x. HasEnded l x v.wait) s (record { producer = g.one.producer; placed = g.one.placed; ended = omega (arith, g.one.ended, fed_later pr l unit feeds g.next v g.rest) })
fed_ended pr l unit (f ∷ feeds) w v h (suc i) feed e = let g = fed_first pr l unit f feeds w v h in fed_ended pr l unit feeds g.next v g.rest i feed e

abbrev pub first_wait : Problem → (job : ℕ) → Waiting
first_wait pr job = record { sent = []; wait = (work_at pr job).release }

-- a decision that puts a job on a unit
pub record IsDecided (pr : Problem) (l : List Decision) (job unit : ℕ) (d : Decision) : Type 0 where
  pub job_is : d.job ≡ job
  pub unit_is : d.unit ≡ unit
  pub span : d.end ≡ d.start + (work_at pr job).length
  pub waiting : Waiting
  pub fed_is : fed pr l unit (work_at pr job).feeds (Some (first_wait pr job)) ≡ Some waiting
  pub sent_is : d.sent ≡ waiting.sent
  pub after : waiting.wait ≤ d.start
  pub due : d.end ≤ (work_at pr job).deadline
  pub free : is_free (ticks_on l unit) d.start (work_at pr job).length ≡ true

decided_start : (pr : Problem) (l : List Decision) (job unit : ℕ) (d : Decision) (w : Waiting) (o : Option ℕ) → fed pr l unit (work_at pr job).feeds (Some (first_wait pr job)) ≡ Some w
    → first_free (ticks_on l unit) (work_at pr job).length w.wait (suc (work_at pr job).deadline - (w.wait + (work_at pr job).length)) ≡ o
    → decided job unit (work_at pr job).length w.sent o ≡ Some d → IsDecided pr l job unit d
decided_start pr l job unit d w None f e h = absurd (cc)
decided_start pr l job unit d w (Some s) f e h =
    let n = (work_at pr job).length in
    let t = first_free_is (ticks_on l unit) n w.wait (suc (work_at pr job).deadline - (w.wait + n)) s e in
    let z : Decision = record { job = job; unit = unit; start = s; end = s + n; sent = w.sent } in
    let i : z ≡ d = cc in
    subst (λ x. IsDecided pr l job unit x) i (record {
      job_is = refl;
      unit_is = refl;
      span = refl;
      waiting = w;
      fed_is = f;
      sent_is = refl;
      after = t.from;
      due = omega (arith, t.below, t.from);
      free = t.free;
    })

decided_by : (pr : Problem) (l : List Decision) (job unit : ℕ) (d : Decision) (o : Option Waiting) → fed pr l unit (work_at pr job).feeds (Some (first_wait pr job)) ≡ o → placed_after pr l job unit o ≡ Some d → IsDecided pr l job unit d
decided_by pr l job unit d None e h = absurd (cc)
decided_by pr l job unit d (Some w) e h =
    decided_start pr l job unit d w (first_free (ticks_on l unit) (work_at pr job).length w.wait (suc (work_at pr job).deadline - (w.wait + (work_at pr job).length))) e refl h

pub decided_is : (pr : Problem) (l : List Decision) (job unit : ℕ) (d : Decision) → place pr l job unit ≡ Some d → IsDecided pr l job unit d
unfolding place
decided_is pr l job unit d h = decided_by pr l job unit d (fed pr l unit (work_at pr job).feeds (Some (first_wait pr job))) refl h
