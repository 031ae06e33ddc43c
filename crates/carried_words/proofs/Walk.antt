-- The walk over the messages of a frame.
use Rattle.std.proofs.Common.{◌≡◌, ℕ, ◌+◌, ◌-◌, ◌<◌, length, get_or, List, ℤ, pos, Option, None, Some, Bool, true, false, refl, sym, ◌∙◌, ap, arith}
use Rattle.std.specs.Prelude.{◌&&◌, nat_le, nat_lt}
use Rattle.std.proofs.lemmas.List.{get_or-map, length-map}
use Rattle.graph.specs.JobGraph.{JobGraph}
use Rattle.graph.specs.declared.net.Net.{Net}
use Rattle.tables.specs.Named.{no_message, message_at, words_of}
use Rattle.tables.specs.Valid.{bus_of}
use Rattle.tables.specs.declared.table.Message.{Message}
use Rattle.tables.specs.declared.table.Tables.{Tables}
use Rattle.agenda.specs.Due.{Agenda, IsDue, FirstFrom, is_passed}
use Rattle.agenda.proofs.Walking.{less_true}
use Rattle.timetable.specs.Keys.{sending_of, sendings_in}
use Rattle.cluster_model.specs.Frame.{packed, covers, word_from}
use Rattle.carried_words.proofs.Passed.{passed_first, passed_next}
use Rattle.carried_words.proofs.Sends.{found, nothing, is_not_sent, covers_now, covers_not}

module _ (net : Net) (g : JobGraph) (t : Tables) (unit : ℕ) (a : Agenda) (is : a ≡ sendings_in net g t unit) (round : ℕ) (low : round < (bus_of net g).rounds) (said : ℕ → Option (List ℤ)) (word : ℕ) where
  pub count : length a.due ≡ length t.messages
  count = ap (λ (x : Agenda). length x.due) is ∙ length-map {B = ℕ} t.messages (sending_of (bus_of net g) unit)

  due_is : (place : ℕ) → place < length t.messages → get_or a.due place 0 ≡ sending_of (bus_of net g) unit (message_at t place)
  due_is place within = ap (λ (x : Agenda). get_or x.due place 0) is ∙ get_or-map (sending_of (bus_of net g) unit) t.messages place no_message 0 within

  -- the word is one of the message's
  abbrev pub has : Message → Bool
  has m = nat_le m.offset word && nat_lt word (m.offset + words_of net m)

  -- the message at a place isn't that of the word
  abbrev pub Misses : (place : ℕ) → Type 0
  Misses place = covers net round unit said word (message_at t place) ≡ false

  abbrev pub MissesPassed : Option ℕ → Type 0
  MissesPassed at = (place : ℕ) → place < length a.due → is_passed at place ≡ true → Misses place

  other : (place : ℕ) → place < length a.due → (get_or a.due place 0 ≡ round → ⊥) → Misses place
  other place within differ = is_not_sent (bus_of net g) round unit (message_at t place) (has (message_at t place)) (λ e. differ (due_is place (omega (arith, within, count)) ∙ e))

  pub misses_first : (at : Option ℕ) → FirstFrom a.due 0 round at → MissesPassed at
  misses_first at first = passed_first a.due round Misses other at first

  pub misses_next : (thing : ℕ) (next : Option ℕ) → FirstFrom a.due (thing + 1) round next → has (message_at t thing) ≡ false → MissesPassed (Some thing) → MissesPassed next
  misses_next thing next first misses before = passed_next a.due round Misses other thing next first (covers_not (bus_of net g) round unit (message_at t thing) (has (message_at t thing)) misses) before

  pub found_word : (thing : ℕ) → IsDue a.due round thing → MissesPassed (Some thing) → has (message_at t thing) ≡ true
      → word_from net round unit said word t.messages 0 ≡ packed (said thing) (word - (message_at t thing).offset)
  found_word thing due before hits =
      let within : thing < length t.messages = (let w = due.within in omega (arith, w, count)) in
      let z : 0 + thing ≡ thing = omega arith in
      found net round unit said word t.messages 0 thing within
      (λ i less. before i (let w = due.within in omega (arith, w, less)) (less_true i thing less))
      (covers_now (bus_of net g) round unit (message_at t thing) (has (message_at t thing)) low (sym (due_is thing within) ∙ due.at) hits)
      ∙ ap (λ n. packed (said n) (word - (message_at t thing).offset)) z

  pub no_word : MissesPassed None → word_from net round unit said word t.messages 0 ≡ pos 0
  no_word before = nothing net round unit said word t.messages 0 (λ i less. before i (omega (arith, less, count)) refl)
