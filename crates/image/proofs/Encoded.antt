-- What an image's tables say of their entries.
use Rattle.std.proofs.Common.{ℕ, ◌+◌, ◌<◌, length, All, inl, inr, subst, arith}
use Rattle.std.proofs.lemmas.Bool.{cases_lt}
use Rattle.std.proofs.lemmas.List.Elements.{All-from_get_or}
use Rattle.tables.specs.declared.rule.TableRule.TheVariants as rule
use Rattle.tables.specs.Named.{no_entry, no_message}
use Rattle.word_code.specs.declared.code.Code.{Code}
use Rattle.plant.specs.declared.system.Plant.{Plant}
use Rattle.plant.specs.Lengths.{lengths_of}
use Rattle.image_plant.specs.Image.{IsImage}
use Rattle.image_plant.proofs.Ranges.{entry_fits, message_fits}
use Rattle.image.specs.Helpers.{HasShortJob, HasShortNumbers, HasSides}

-- each entry's job is there and has a short instance
pub short_jobs : (plant : Plant Code) → IsImage plant → All (HasShortJob plant.graph) plant.tables.jobs
short_jobs plant is = All-from_get_or (HasShortJob plant.graph) plant.tables.jobs no_entry (λ i low.
    let jobs = is.in_order.tables rule.Jobs in
    let n = jobs.numbers i low in
    let inside : i < length plant.graph.jobs = omega (arith, low, jobs.count) in
    let f = entry_fits plant.net (lengths_of plant.maxts plant.net.shape.cycles_per_tick) plant.graph plant.tables is.in_order.graph is.graph is.in_order.tables i inside in
    record { there = omega (arith, n, inside); short = rw n (omega (arith, f.instance)) })

-- each message's numbers are short
pub short_numbers : (plant : Plant Code) → IsImage plant → All HasShortNumbers plant.tables.messages
short_numbers plant is = All-from_get_or HasShortNumbers plant.tables.messages no_message (λ i low.
    let f = message_fits plant.net (lengths_of plant.maxts plant.net.shape.cycles_per_tick) plant.graph plant.tables is.in_order.graph is.graph is.in_order.tables i low in
    record { instance = omega (arith, f.instance); round = f.round })

pub has_sides : (plant : Plant Code) → IsImage plant → HasSides plant
has_sides plant is = record { maxts = is.in_order.maxts; programs = is.in_order.programs; few = omega (arith, is.in_order.sound.rules.entry_rules.counts.tasks) }

-- what holds of each number below another, and of that
pub one_more_place : (P : ℕ → Type 0) (n : ℕ) → ((k : ℕ) → k < n → P k) → P n → (k : ℕ) → k < n + 1 → P k
one_more_place P n all last k low = elim (cases_lt k n) [
  | inl less ↦ all k less
  | inr up ↦ subst P (omega (arith, low, up)) last
]
