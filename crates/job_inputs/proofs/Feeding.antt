-- The walk over the messages for a job.
use Rattle.std.proofs.Common.{◌≡◌, inl, inr, ℕ, ◌+◌, ◌<◌, ◌≤◌, length, get_or, List, ℤ, Option, None, Some, Bool, true, false, refl, sym, ◌∙◌, ap, arith}
use Rattle.std.specs.Prelude.{◌==◌}
use Rattle.std.specs.List.{position_or_len}
use Rattle.std.proofs.lemmas.Bool.{cases_lt, true≢false, eqb-true, and_parts}
use Rattle.std.proofs.lemmas.List.{get_or-map, get_or_past, length-map}
use Rattle.std.proofs.lemmas.List.Sums.{fails_before_first, passes_at_first}
use Rattle.graph.specs.JobGraph.{JobGraph}
use Rattle.graph.specs.Jobs.{job_number}
use Rattle.graph.specs.Net.{width_of}
use Rattle.graph.specs.declared.net.Net.{Net}
use Rattle.tables.specs.Named.{no_message, edge_at, message_at}
use Rattle.tables.specs.declared.table.Message.{Message}
use Rattle.tables.specs.declared.table.Tables.{Tables}
use Rattle.agenda.specs.Due.{Agenda, IsDue, FirstFrom, is_passed}
use Rattle.agenda.proofs.Walking.{less_true}
use Rattle.timetable.specs.Keys.{feed_of, feeds_in}
use Rattle.carried_words.proofs.Passed.{passed_first, passed_next}
use Rattle.replica_parts.specs.Inbox.{Taken, taken_at}
use Rattle.job_inputs.specs.Look.{IsInboxOf, is_of}

-- the first place that passes
pub first_place : (p : Message → Bool) (ms : List Message) (n : ℕ) → n < length ms → ((i : ℕ) → i < n → p (get_or ms i no_message) ≡ false) → p (get_or ms n no_message) ≡ true → position_or_len p ms ≡ n
first_place p ms n low before here = elim (cases_lt (position_or_len p ms) n) [
  | inl less ↦ absurd (true≢false (sym (passes_at_first p ms no_message (omega (arith, less, low))) ∙ before (position_or_len p ms) less))
  | inr more ↦ elim (cases_lt n (position_or_len p ms)) [
    | inl behind ↦ absurd (true≢false (sym here ∙ fails_before_first p ms n no_message behind))
    | inr at ↦ omega (arith, more, at)
  ]
]

-- none passes
pub past_all : (p : Message → Bool) (ms : List Message) → ((i : ℕ) → i < length ms → p (get_or ms i no_message) ≡ false) → length ms ≤ position_or_len p ms
past_all p ms none = elim (cases_lt (position_or_len p ms) (length ms)) [
  | inl less ↦ absurd (true≢false (sym (passes_at_first p ms no_message less) ∙ none (position_or_len p ms) less))
  | inr more ↦ more
]

bool_cases : (b : Bool) (P : Bool → Type 0) → (b ≡ true → P true) → (b ≡ false → P false) → P b
bool_cases true P t f = t refl
bool_cases false P t f = f refl

module _ (net : Net) (g : JobGraph) (t : Tables) (a : Agenda) (is : a ≡ feeds_in net g t) (job edge instance : ℕ) (to : job_number net g.cycle (edge_at net edge).to_task instance ≡ job) where
  pub count : length a.due ≡ length t.messages
  count = ap (λ (x : Agenda). length x.due) is ∙ length-map {B = ℕ} t.messages (feed_of net g)

  due_is : (place : ℕ) → place < length t.messages → get_or a.due place 0 ≡ feed_of net g (message_at t place)
  due_is place within = ap (λ (x : Agenda). get_or x.due place 0) is ∙ get_or-map (feed_of net g) t.messages place no_message 0 within

  -- the message at a place isn't that of the edge and the instance
  abbrev pub Misses : (place : ℕ) → Type 0
  Misses place = is_of edge instance (message_at t place) ≡ false

  abbrev pub MissesPassed : Option ℕ → Type 0
  MissesPassed at = (place : ℕ) → place < length a.due → is_passed at place ≡ true → Misses place

  other : (place : ℕ) → place < length a.due → (get_or a.due place 0 ≡ job → ⊥) → Misses place
  other place within differ = bool_cases (is_of edge instance (message_at t place)) (λ b. b ≡ false)
      (λ e. let parts = and_parts ((message_at t place).edge == edge) ((message_at t place).instance == instance) e in
      absurd (differ (due_is place (omega (arith, within, count))
      ∙ ap (λ x. job_number net g.cycle (edge_at net x).to_task (message_at t place).instance) (eqb-true (message_at t place).edge edge parts.0)
      ∙ ap (job_number net g.cycle (edge_at net edge).to_task) (eqb-true (message_at t place).instance instance parts.1)
      ∙ to)))
      (λ e. refl)

  pub misses_first : (at : Option ℕ) → FirstFrom a.due 0 job at → MissesPassed at
  misses_first at first = passed_first a.due job Misses other at first

  pub misses_next : (thing : ℕ) (next : Option ℕ) → FirstFrom a.due (thing + 1) job next → is_of edge instance (message_at t thing) ≡ false → MissesPassed (Some thing) → MissesPassed next
  misses_next thing next first misses before = passed_next a.due job Misses other thing next first misses before

  pub found_place : (thing : ℕ) → IsDue a.due job thing → MissesPassed (Some thing) → is_of edge instance (message_at t thing) ≡ true → position_or_len (is_of edge instance) t.messages ≡ thing
  found_place thing due before hits =
      let w = due.within in
      first_place (is_of edge instance) t.messages thing (omega (arith, w, count)) (λ i less. before i (omega (arith, w, less)) (less_true i thing less)) hits

  pub nothing_taken : (taken : Taken) → IsInboxOf net t taken → MissesPassed None → taken_at taken (position_or_len (is_of edge instance) t.messages) ≡ None
  nothing_taken taken box before =
      let past = past_all (is_of edge instance) t.messages (λ i less. before i (omega (arith, less, count)) refl) in
      get_or_past taken.words (position_or_len (is_of edge instance) t.messages) None (omega (arith, past, box.count))

  -- what was taken there is as long as the edge is wide
  pub width_there : (taken : Taken) → IsInboxOf net t taken → (thing : ℕ) → thing < length t.messages → is_of edge instance (message_at t thing) ≡ true
      → (words : List ℤ) → taken_at taken thing ≡ Some words → length words ≡ width_of net (edge_at net edge)
  width_there taken box thing low hits words e =
      let parts = and_parts ((message_at t thing).edge == edge) ((message_at t thing).instance == instance) hits in
      box.widths thing words low e ∙ ap (λ x. width_of net (edge_at net x)) (eqb-true (message_at t thing).edge edge parts.0)
