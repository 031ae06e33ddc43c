-- What feeds a job, and where it starts.
use Rattle.std.proofs.Common.{◌≡◌, ℕ, zero, suc, ◌+◌, ◌-◌, ◌<◌, ◌≤◌, ◌⊎◌, inl, inr, Bool, true, false, ◌&&◌, leb, max, if◌then◌else◌, List, [], ◌∷◌, ◌++◌, length, get_or, drop, Option, Some, None, refl, sym, ap, ◌∙◌, subst, arith, leb-true, le-leb, ◌*◌, mul-le-mul_right}
use Rattle.std.specs.Prelude.{is_some, IfSome}
use Rattle.std.proofs.Math.Seq.{drop-cons}
use Rattle.mars_base.specs.declared.shape.Side.TheVariants.{A}
use Rattle.tdma.specs.Layout.{Layout, IsLayout, slot_start_of, usable_of}
use Rattle.tdma.proofs.Places.{round_some}
use Rattle.tdma.specs.Load.{Load, taken_in, IsFirstRoom}
use Rattle.decisions.specs.declared.placed.Sent.{Sent}
use Rattle.decisions.specs.declared.placed.Ticks.{Ticks}
use Rattle.decisions.specs.declared.problem.Feed.{Feed}
use Rattle.decisions.specs.declared.problem.Problem.{Problem}
use Rattle.decisions.specs.Decision.{Decision, work_at, decision_on}
use Rattle.decisions.specs.Place.{words_sent, taken_before, Waiting, has_room, first_room, fed_by, fed, ticks_on, is_free, first_free, decided, placed_after, place}
use Rattle.decisions.specs.Choices.{is_home}
use Rattle.reached.proofs.Good.{on_is, IsGood}
use Rattle.placement.specs.declared.pending.Spot.{Spot}
use Rattle.placement.specs.Feeding.{spot_of, unit_at, is_unit, sent_from, fed_from}
use Rattle.placement.specs.Held.{HasWords}
use Rattle.placement.specs.Loads.{HasRoomFor, IsFirstFor}

-- a feed by the spot of its producer
pub fed_spot : (pr : Problem) (l : List Decision) (unit : ℕ) (w : Waiting) (feed : Feed) (o : Option Decision) → fed_from pr l unit w feed (spot_of o) ≡ fed_by pr l unit w feed o
fed_spot pr l unit w feed None = refl
fed_spot pr l unit w feed (Some d) = refl

fed_one : (pr : Problem) (l : List Decision) (unit : ℕ) (feeds : List Feed) (i : ℕ) (d : Feed) (w : Waiting) → i < length feeds → fed pr l unit (drop i feeds) (Some w) ≡ fed pr l unit (drop (suc i) feeds) (fed_by pr l unit w (get_or feeds i d) (decision_on l (get_or feeds i d).producer))
fed_one pr l unit feeds i d w low = ap (λ fs. fed pr l unit fs (Some w)) (drop-cons feeds i d low)

-- one feed more
pub fed_step : (pr : Problem) (l : List Decision) (unit : ℕ) (feeds : List Feed) (i j : ℕ) (feed : Feed) (w : Waiting) (o : Option Waiting) (spot : Option Spot) → j ≡ i + 1 → i < length feeds → feed ≡ get_or feeds i feed → spot ≡ spot_of (decision_on l feed.producer)
    → o ≡ fed_from pr l unit w feed spot → fed pr l unit (drop j feeds) o ≡ fed pr l unit (drop i feeds) (Some w)
fed_step pr l unit feeds i j feed w o spot e low at s f =
    let n : suc i ≡ j = omega arith in
    let by : o ≡ fed_by pr l unit w feed (decision_on l feed.producer) = f ∙ (ap (fed_from pr l unit w feed) s ∙ fed_spot pr l unit w feed (decision_on l feed.producer)) in
    ap (λ k. fed pr l unit (drop k feeds) o) (sym n)
    ∙ (ap (fed pr l unit (drop (suc i) feeds)) (by ∙ ap (λ (x : Feed). fed_by pr l unit w x (decision_on l x.producer)) at) ∙ sym (fed_one pr l unit feeds i feed w low))

fed_none : (pr : Problem) (l : List Decision) (unit : ℕ) (feeds : List Feed) → fed pr l unit feeds None ≡ None
fed_none pr l unit [] = refl
fed_none pr l unit (feed ∷ feeds) = refl

-- a feed for which there is no frame
pub fed_stop : (pr : Problem) (l : List Decision) (unit : ℕ) (feeds : List Feed) (i : ℕ) (feed : Feed) (w : Waiting) (spot : Option Spot) → i < length feeds → feed ≡ get_or feeds i feed → spot ≡ spot_of (decision_on l feed.producer)
    → None ≡ fed_from pr l unit w feed spot → None ≡ fed pr l unit (drop i feeds) (Some w)
fed_stop pr l unit feeds i feed w spot low at s f =
    sym (fed_none pr l unit (drop (i + 1) feeds)) ∙ fed_step pr l unit feeds i (i + 1) feed w None spot refl low at s f

-- a producer's unit is one of the cluster's
pub spot_unit : (pr : Problem) (l : List Decision) (job : ℕ) (o : Option Decision) → IsGood pr l → decision_on l job ≡ o → (s : Spot) → spot_of o ≡ Some s → s.unit < pr.round.units
spot_unit pr l job None g e s h = absurd (cc)
spot_unit pr l job (Some d) g e s h =
    let i = on_is l job d e in
    let k = g.kept d i.0 in
    let z : Spot = record { unit = d.unit; end = d.end } in
    let q : z ≡ s = cc in
    subst (λ (x : Spot). x.unit < pr.round.units) q k.is_unit

pub home_is : (unit : ℕ) (o : Option Decision) → is_unit unit (unit_at (spot_of o)) ≡ is_home unit o
home_is unit None = refl
home_is unit (Some d) = refl

pub placed_is : (o : Option Decision) → is_some (spot_of o) ≡ is_some o
placed_is None = refl
placed_is (Some d) = refl

both : (a b : Bool) → a ≡ true → b ≡ true → (a && b) ≡ true
both a b h g = rw (h, g) refl

halves : (a b : Bool) → (a && b) ≡ true → (a ≡ true) × (b ≡ true)
halves true b h = (refl, h)
halves false b h = absurd (cc)

-- the first round with room, by what the frames have
room_test : (pr : Problem) (l : List Decision) (ms : List Sent) (f : Load) (unit from words k : ℕ) → HasWords pr l f → unit < pr.round.units → k < pr.round.rounds → HasRoomFor f ms unit from words k → has_room pr l ms unit from words k ≡ true
room_test pr l ms f unit from words k h u low r =
    let e : slot_start_of f.layout k unit A ≡ slot_start_of pr.round k unit A = ap (λ (x : Layout). slot_start_of x k unit A) h.layout in
    let w : f.layout.slot_words ≡ pr.round.slot_words = ap (λ (x : Layout). x.slot_words) h.layout in
    let t = h.taken unit k u low in
    both (leb from (slot_start_of pr.round k unit A)) (leb (taken_before l ms unit k + words) pr.round.slot_words)
    (le-leb from (slot_start_of pr.round k unit A) (omega (arith, r.begins))) (le-leb (taken_before l ms unit k + words) pr.round.slot_words (omega (arith, r.fits)))

room_back : (pr : Problem) (l : List Decision) (ms : List Sent) (f : Load) (unit from words k : ℕ) → HasWords pr l f → unit < pr.round.units → k < pr.round.rounds → has_room pr l ms unit from words k ≡ true → HasRoomFor f ms unit from words k
room_back pr l ms f unit from words k h u low b =
    let e : slot_start_of f.layout k unit A ≡ slot_start_of pr.round k unit A = ap (λ (x : Layout). slot_start_of x k unit A) h.layout in
    let w : f.layout.slot_words ≡ pr.round.slot_words = ap (λ (x : Layout). x.slot_words) h.layout in
    let n : f.layout.rounds ≡ pr.round.rounds = ap (λ (x : Layout). x.rounds) h.layout in
    let t = h.taken unit k u low in
    let p = halves (leb from (slot_start_of pr.round k unit A)) (leb (taken_before l ms unit k + words) pr.round.slot_words) b in
    let begins = leb-true from (slot_start_of pr.round k unit A) p.0 in
    let fits = leb-true (taken_before l ms unit k + words) pr.round.slot_words p.1 in
    record { exists = omega arith; begins = omega arith; fits = omega arith }

same_or : (k r : ℕ) → k ≤ r → (k ≡ r) ⊎ (k < r)
same_or k r h = grind arith

room_from : (pr : Problem) (l : List Decision) (ms : List Sent) (unit from words k m r : ℕ) → k ≤ r → r < k + m → has_room pr l ms unit from words r ≡ true → ((i : ℕ) → k ≤ i → i < r → has_room pr l ms unit from words i ≡ false) → first_room pr l ms unit from words k m ≡ Some r
room_from pr l ms unit from words k zero r low high has hasnt = absurd (omega arith)
room_from pr l ms unit from words k (suc m) r low high has hasnt = elim (same_or k r low) [
  | inl e ↦ (let t : has_room pr l ms unit from words k ≡ true = subst (λ x. has_room pr l ms unit from words x ≡ true) (sym e) has in rw t (ap Some e))
  | inr less ↦ (let t : has_room pr l ms unit from words k ≡ false = hasnt k (omega arith) less in rw t (room_from pr l ms unit from words (suc k) m r (omega arith) (omega arith) has (λ i a b. hasnt i (omega arith) b)))
]

room_never : (pr : Problem) (l : List Decision) (ms : List Sent) (unit from words k m : ℕ) → ((i : ℕ) → k ≤ i → i < k + m → has_room pr l ms unit from words i ≡ false) → first_room pr l ms unit from words k m ≡ None
room_never pr l ms unit from words k zero hasnt = refl
room_never pr l ms unit from words k (suc m) hasnt =
    let t : has_room pr l ms unit from words k ≡ false = hasnt k (omega arith) (omega arith) in
    rw t (room_never pr l ms unit from words (suc k) m (λ i a b. hasnt i (omega arith) (omega arith)))

not_room : (b : Bool) → (b ≡ true → ⊥) → b ≡ false
not_room true h = absurd (h refl)
not_room false h = refl

pub room_is : (pr : Problem) (l : List Decision) (ms : List Sent) (f : Load) (unit from words k : ℕ) → HasWords pr l f → unit < pr.round.units → IsFirstFor f ms unit from words k → first_room pr l ms unit from words 0 pr.round.rounds ≡ Some k
room_is pr l ms f unit from words k h u r =
    let n : f.layout.rounds ≡ pr.round.rounds = ap (λ (x : Layout). x.rounds) h.layout in
    let low : k < pr.round.rounds = omega (arith, r.room.exists) in
    room_from pr l ms unit from words 0 pr.round.rounds k (omega arith) (omega arith) (room_test pr l ms f unit from words k h u low r.room)
    (λ i a b. not_room (has_room pr l ms unit from words i) (λ t. absurd (let g = r.least i (room_back pr l ms f unit from words i h u (omega arith) t) in omega arith)))

pub room_none : (pr : Problem) (l : List Decision) (ms : List Sent) (f : Load) (unit from words : ℕ) → HasWords pr l f → unit < pr.round.units → ((k : ℕ) → HasRoomFor f ms unit from words k → ⊥) → first_room pr l ms unit from words 0 pr.round.rounds ≡ None
room_none pr l ms f unit from words h u hasnt =
    room_never pr l ms unit from words 0 pr.round.rounds (λ i a b. not_room (has_room pr l ms unit from words i) (λ t. hasnt i (room_back pr l ms f unit from words i h u (omega arith) t)))

-- a job's decision, from what it waits for and its start
fit_by : (pr : Problem) (l : List Decision) (job unit : ℕ) (o : Option Waiting) → o ≡ fed pr l unit (work_at pr job).feeds (Some (record { sent = []; wait = (work_at pr job).release })) → placed_after pr l job unit o ≡ place pr l job unit
unfolding place
fit_by pr l job unit o e = ap (placed_after pr l job unit) e

pub fit_none : (pr : Problem) (l : List Decision) (job unit : ℕ) → None ≡ fed pr l unit (work_at pr job).feeds (Some (record { sent = []; wait = (work_at pr job).release })) → None ≡ place pr l job unit
fit_none pr l job unit e = fit_by pr l job unit None e

pub fit_start : (pr : Problem) (l : List Decision) (job unit : ℕ) (w : Waiting) (o : Option ℕ) → Some w ≡ fed pr l unit (work_at pr job).feeds (Some (record { sent = []; wait = (work_at pr job).release }))
    → o ≡ first_free (ticks_on l unit) (work_at pr job).length w.wait (suc (work_at pr job).deadline - (w.wait + (work_at pr job).length)) → decided job unit (work_at pr job).length w.sent o ≡ place pr l job unit
fit_start pr l job unit w o e f = ap (decided job unit (work_at pr job).length w.sent) f ∙ fit_by pr l job unit (Some w) e

record IsBelow (s m t : ℕ) : Type 0 where
  from : s ≤ t
  below : t < s + m

free_below_by : (ts : List Ticks) (n s m t : ℕ) (b : Bool) → (if b then Some s else first_free ts n (suc s) m) ≡ Some t → (first_free ts n (suc s) m ≡ Some t → IsBelow (suc s) m t) → IsBelow s (suc m) t
free_below_by ts n s m t true h g = let e : s ≡ t = cc in record { from = omega arith; below = omega arith }
free_below_by ts n s m t false h g = let r = g h in record { from = omega (arith, r.from); below = omega (arith, r.below) }

-- a start ends by the deadline
free_below : (ts : List Ticks) (n s m t : ℕ) → first_free ts n s m ≡ Some t → IsBelow s m t
free_below ts n s zero t h = absurd (cc)
free_below ts n s (suc m) t h = free_below_by ts n s m t (is_free ts s n) h (free_below ts n (suc s) m t)

pub start_due : (ts : List Ticks) (n s d t : ℕ) → Some t ≡ first_free ts n s (suc d - (s + n)) → t + n ≤ d
start_due ts n s d t h = let b = free_below ts n s (suc d - (s + n)) t (sym h) in omega (arith, b.from, b.below)

-- a frame without room is passed over
later_start : (l : Layout) (unit k next : ℕ) → IsLayout l → k < next → slot_start_of l k unit A + 1 ≤ slot_start_of l next unit A
later_start l unit k next lay low =
    let some : 0 < l.round_ticks = round_some l lay in
    let more : (k + 1) * l.round_ticks ≤ next * l.round_ticks = mul-le-mul_right l.round_ticks (omega arith) in
    omega (arith, more, some)

room_is_first : (f : Load) (ms : List Sent) (unit from start words k : ℕ) → IsFirstRoom f unit start words k → from ≤ start → ((i : ℕ) → HasRoomFor f ms unit from words i → start ≤ slot_start_of f.layout i unit A) → (i : ℕ) → HasRoomFor f ms unit from words i → k ≤ i
room_is_first f ms unit from start words k r le rest i h = r.least i (record { exists = h.exists; begins = rest i h; fits = omega (arith, h.fits) })

pub first_for : (f : Load) (ms : List Sent) (unit from start words k : ℕ) → IsFirstRoom f unit start words k → from ≤ start → ((i : ℕ) → HasRoomFor f ms unit from words i → start ≤ slot_start_of f.layout i unit A) → taken_in f unit k + words_sent ms unit k + words ≤ f.layout.slot_words
    → IsFirstFor f ms unit from words k
first_for f ms unit from start words k r le rest fits = record {
  room = record { exists = r.room.exists; begins = omega (arith, r.room.begins); fits = fits };
  least = room_is_first f ms unit from start words k r le rest;
}

pub next_for : (f : Load) (ms : List Sent) (unit from start words k next : ℕ) → IsLayout f.layout → IsFirstRoom f unit start words k → from ≤ start → ((i : ℕ) → HasRoomFor f ms unit from words i → start ≤ slot_start_of f.layout i unit A)
    → (taken_in f unit k + words_sent ms unit k + words ≤ f.layout.slot_words → ⊥) → next ≡ slot_start_of f.layout k unit A → (i : ℕ) → HasRoomFor f ms unit from words i → next + 1 ≤ slot_start_of f.layout i unit A
next_for f ms unit from start words k next lay r le rest full e i h = elim (same_or k i (room_is_first f ms unit from start words k r le rest i h)) [
  | inl s ↦ absurd (full (subst (λ x. taken_in f unit x + words_sent ms unit x + words ≤ f.layout.slot_words) (sym s) h.fits))
  | inr low ↦ omega (arith, later_start f.layout unit k i lay low)
]

-- a message in the first round with room
pub sent_is : (pr : Problem) (l : List Decision) (w : Waiting) (feed : Feed) (unit end round : ℕ) (sent : List Sent) (wait offset usable : ℕ) → first_room pr l w.sent unit end feed.words 0 pr.round.rounds ≡ Some round → offset ≡ taken_before l w.sent unit round
    → sent ≡ w.sent ++ (record { edge = feed.edge; unit = unit; round = round; offset = offset; words = feed.words }) ∷ [] → usable ≡ usable_of pr.round round unit → wait ≡ max w.wait usable → Some (record { sent = sent; wait = wait }) ≡ sent_from pr l w feed unit end
sent_is pr l w feed unit end round sent wait offset usable r o s u e = rw (r, s, e, o, u) refl

pub sent_none : (pr : Problem) (l : List Decision) (w : Waiting) (feed : Feed) (unit end : ℕ) → first_room pr l w.sent unit end feed.words 0 pr.round.rounds ≡ None → None ≡ sent_from pr l w feed unit end
sent_none pr l w feed unit end r = rw r refl

if_some : (r : Option Spot) (P : Spot → Type 0) → ((s : Spot) → r ≡ Some s → P s) → IfSome r P
if_some None P h = tt
if_some (Some s) P h = h s refl

pub unit_ok : (pr : Problem) (l : List Decision) (job : ℕ) (r : Option Spot) → IsGood pr l → r ≡ spot_of (decision_on l job) → IfSome r (λ (s : Spot). s.unit < pr.round.units)
unit_ok pr l job r g e = if_some r (λ (s : Spot). s.unit < pr.round.units) (λ s h. spot_unit pr l job (decision_on l job) g refl s (sym e ∙ h))

pub not_fits : (b : Bool) → b ≡ false → b ≡ true → ⊥
not_fits b e h = let i : false ≡ true = sym e ∙ h in cc

pub round_low : (pr : Problem) (l : List Decision) (f : Load) (ms : List Sent) (unit from words k : ℕ) → HasWords pr l f → IsFirstFor f ms unit from words k → k < pr.round.rounds
round_low pr l f ms unit from words k h r = let n : f.layout.rounds ≡ pr.round.rounds = ap (λ (x : Layout). x.rounds) h.layout in omega (arith, r.room.exists)

pub fit_some : (pr : Problem) (l : List Decision) (job unit : ℕ) (w : Waiting) → Some w ≡ fed pr l unit (work_at pr job).feeds (Some (record { sent = []; wait = (work_at pr job).release })) → placed_after pr l job unit (Some w) ≡ place pr l job unit
fit_some pr l job unit w e = fit_by pr l job unit (Some w) e
