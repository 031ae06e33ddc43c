-- Where a job goes that is placed after a list of decisions: off-line placement along precedence graphs, after the thesis
-- of G. Fohler (Vienna University of Technology, 1994); the rules are this project's own.
use Rattle.std.specs.Prelude.{ℕ, zero, suc, ◌+◌, ◌-◌, ◌==◌, ◌&&◌, ◌||◌, leb, max, if◌then◌else◌, Bool, true, List, [], ◌∷◌, ◌++◌, Option, Some, None}
use Rattle.mars_base.specs.declared.shape.Side.TheVariants.{A}
use Rattle.tdma.specs.Layout.{slot_start_of, usable_of}
use Rattle.tdma.specs.Load.{words_for}
use Rattle.decisions.specs.declared.placed.Sent.{Sent}
use Rattle.decisions.specs.declared.placed.Ticks.{Ticks}
use Rattle.decisions.specs.declared.problem.Feed.{Feed}
use Rattle.decisions.specs.declared.problem.Problem.{Problem}
use Rattle.decisions.specs.Decision.{Decision, work_at, decision_on}

-- the words that messages take in a unit's frame of a round
abbrev pub words_sent : List Sent → (unit round : ℕ) → ℕ
words_sent [] unit round = 0
words_sent (m ∷ ms) unit round = words_for m.unit m.round m.words unit round + words_sent ms unit round

-- the words that the messages of all decisions take in it
abbrev pub words_taken : List Decision → (unit round : ℕ) → ℕ
words_taken [] unit round = 0
words_taken (d ∷ l) unit round = words_sent d.sent unit round + words_taken l unit round

-- the messages that a job gets so far, and the tick for which it waits
pub record Waiting : Type 0 where
  pub sent : List Sent
  pub wait : ℕ

-- the words taken in a frame before the next message
abbrev pub taken_before : List Decision → List Sent → (unit round : ℕ) → ℕ
taken_before l ms unit round = words_taken l unit round + words_sent ms unit round

-- the A slot of the unit's frame begins at the tick or later, and the frame has room for so many words
abbrev pub has_room : Problem → List Decision → List Sent → (unit from words round : ℕ) → Bool
has_room pr l ms unit from words round = leb from (slot_start_of pr.round round unit A) && leb (taken_before l ms unit round + words) pr.round.slot_words

-- the first of the rounds from `round` on, so many, whose frame has room
abbrev pub first_room : Problem → List Decision → List Sent → (unit from words round left : ℕ) → Option ℕ
first_room pr l ms unit from words round zero = None
first_room pr l ms unit from words round (suc left) =
    if has_room pr l ms unit from words round then Some round else first_room pr l ms unit from words (suc round) left

-- a message in the frame of a round, behind the words that are taken there; the job waits until the frame may be used
abbrev pub sent_in : Problem → List Decision → Waiting → (feed : Feed) (unit : ℕ) → Option ℕ → Option Waiting
sent_in pr l w feed unit None = None
sent_in pr l w feed unit (Some round) = Some (record {
  sent = w.sent ++ (record { edge = feed.edge; unit = unit; round = round; offset = taken_before l w.sent unit round; words = feed.words }) ∷ [];
  wait = max w.wait (usable_of pr.round round unit);
})

-- a message from the unit of the producer, after its end
abbrev pub sent_over : Problem → List Decision → Waiting → Feed → (producer : Decision) → Option Waiting
sent_over pr l w feed p = sent_in pr l w feed p.unit (first_room pr l w.sent p.unit p.end feed.words 0 pr.round.rounds)

-- one feed of a job on the unit: on the same unit the job waits for the producer's end, and else for a message's frame
abbrev pub fed_by : Problem → List Decision → (unit : ℕ) → Waiting → Feed → Option Decision → Option Waiting
fed_by pr l unit w feed None = None
fed_by pr l unit w feed (Some p) = if p.unit == unit then Some (record { sent = w.sent; wait = max w.wait p.end }) else sent_over pr l w feed p

-- the feeds one after another
abbrev pub fed : Problem → List Decision → (unit : ℕ) → List Feed → Option Waiting → Option Waiting
fed pr l unit feeds None = None
fed pr l unit [] (Some w) = Some w
fed pr l unit (feed ∷ feeds) (Some w) = fed pr l unit feeds (fed_by pr l unit w feed (decision_on l feed.producer))

-- the ticks that are taken on a unit
abbrev pub ticks_on : List Decision → (unit : ℕ) → List Ticks
ticks_on [] unit = []
ticks_on (d ∷ l) unit = (if d.unit == unit then (record { start = d.start; end = d.end }) ∷ [] else []) ++ ticks_on l unit

-- the n ticks from the start on are free
abbrev pub is_free : List Ticks → (start n : ℕ) → Bool
is_free [] start n = true
is_free (t ∷ ts) start n = (leb t.end start || leb (start + n) t.start) && is_free ts start n

-- the first of the ticks from the start on, so many, from which n ticks are free
abbrev pub first_free : List Ticks → (n start left : ℕ) → Option ℕ
first_free ts n start zero = None
first_free ts n start (suc left) = if is_free ts start n then Some start else first_free ts n (suc start) left

-- the job on the unit with these messages, from the start on
abbrev pub decided : (job unit n : ℕ) → List Sent → Option ℕ → Option Decision
decided job unit n ms None = None
decided job unit n ms (Some start) = Some (record { job = job; unit = unit; start = start; end = start + n; sent = ms })

-- it starts at the first tick for which it need not wait and from which its ticks are free, and ends by its deadline
abbrev pub placed_after : Problem → List Decision → (job unit : ℕ) → Option Waiting → Option Decision
placed_after pr l job unit None = None
placed_after pr l job unit (Some w) =
    let n = (work_at pr job).length in
    decided job unit n w.sent (first_free (ticks_on l unit) n w.wait (suc (work_at pr job).deadline - (w.wait + n)))

-- the decision that puts a job on a unit; None where a message finds no room or the deadline would be passed
unfoldable pub place : Problem → List Decision → (job unit : ℕ) → Option Decision
place pr l job unit = placed_after pr l job unit (fed pr l unit (work_at pr job).feeds (Some (record { sent = []; wait = (work_at pr job).release })))
