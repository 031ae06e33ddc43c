-- A net that passes a limit has no cycle within the limits.
use Rattle.std.proofs.Common.{◌≡◌, ℕ, ◌+◌, ◌*◌, ◌<◌, ◌≤◌, ◌↔◌, Bool, Result, Ok, Err, [], take, sym, ◌∙◌, ap, arith, mul-le-mul_right}
use Rattle.std.specs.Prelude.{map, IsTrue, is_ok, MatchResult}
use Rattle.std.proofs.lemmas.Bool.{false≢true}
use Rattle.std.proofs.lemmas.List.Elements.{All-cons, All-map, All-take}
use Rattle.graph.specs.declared.net.Net.{Net}
use Rattle.graph.specs.declared.net.Transaction.{Transaction}
use Rattle.graph.specs.declared.job.GraphFault.{GraphFault}
use Rattle.graph.specs.declared.job.GraphFault.TheVariants.{CycleTooLong, TooManyJobs, TooManySensorWords, Memory}
use Rattle.graph.specs.Net.{cycle_parts}
use Rattle.graph.specs.Cycle.{Divides, IsCycle, IsWithinLimits, job_count, sensor_words}
use Rattle.graph.specs.Faults.{PassesLimit}
use Rattle.mars_base.specs.Shape.{IsShape}
use Rattle.graph.specs.Sound.{KeepsEntryRules}
use Rattle.graph.proofs.Multiples.{multiple_some, front_multiple, same_multiple}

round_some : (net : Net) → IsShape net.shape → 1 ≤ net.shape.round
round_some net is =
    let one : 1 * (net.shape.slot_words + net.shape.precision) ≤ 2 * net.shape.units * (net.shape.slot_words + net.shape.precision) = mul-le-mul_right (net.shape.slot_words + net.shape.precision) (omega (arith, is.units)) in
    omega (arith, one, is.fits, is.slot_words)

-- the ticks of a cycle are above 0
pub cycle_some : (net : Net) → KeepsEntryRules net → (h : ℕ) → IsCycle net h → 0 < h
cycle_some net rules h is =
    multiple_some (cycle_parts net) h
    (All-cons (λ x. 1 ≤ x) net.shape.round (map (λ (t : Transaction). t.period) net.transactions) (round_some net rules.shape)
    (All-map (λ x. 1 ≤ x) (λ (t : Transaction). t.period) net.transactions (λ k d low. (rules.entries.transactions k d low).some_period))) is

-- no cycle is within the limits where one is passed
pub not_within : (net : Net) (fault : GraphFault) → KeepsEntryRules net → PassesLimit net fault → (h : ℕ) → IsWithinLimits net h → ⊥
not_within net (CycleTooLong value) rules past h within =
    let le = front_multiple (take (past.place + 1) (cycle_parts net)) [] value h (cycle_some net rules h within.is_cycle) past.multiple (All-take (λ n. Divides n h) (past.place + 1) (cycle_parts net) within.is_cycle.common) in
    omega (arith, le, past.past, within.ticks)
not_within net (TooManyJobs jobs) rules past h within =
    let same = same_multiple (cycle_parts net) past.cycle h past.is_cycle within.is_cycle in
    let e : job_count net past.cycle ≡ job_count net h = ap (job_count net) same in
    omega (arith, e, past.jobs_are, past.past, within.jobs)
not_within net (TooManySensorWords words) rules past h within =
    let same = same_multiple (cycle_parts net) past.cycle h past.is_cycle within.is_cycle in
    let e : sensor_words net past.cycle ≡ sensor_words net h = ap (sensor_words net) same in
    omega (arith, e, past.words_are, past.past, within.words)
not_within net Memory rules past h within = past

-- whether a limit is passed says whether a cycle is within all
pub within_answer : (net : Net) (r : Result ℕ GraphFault) (b : Bool) → KeepsEntryRules net → b ≡ is_ok r →
    MatchResult r (λ cycle. IsWithinLimits net cycle × (1 ≤ cycle)) (PassesLimit net) → IsTrue b ↔ ((h : ℕ) × IsWithinLimits net h)
within_answer net (Ok h) b rules e m = (λ _. (h, m.0), λ _. e)
within_answer net (Err fault) b rules e m = (λ t. absurd (false≢true (sym e ∙ t)), λ w. absurd (not_within net fault rules m w.0 w.1))
