-- A net has one cycle, and passes one limit first.
use Rattle.std.proofs.Common.{◌≡◌, ℕ, ◌+◌, ◌*◌, ◌<◌, ◌≤◌, inl, inr, List, [], length, take, get_or, sym, ◌∙◌, ap, subst, arith, mul-le-mul_right}
use Rattle.std.specs.Prelude.{All, map}
use Rattle.std.proofs.Math.ListN.{get_or-map}
use Rattle.std.proofs.lemmas.Bool.{cases_lt}
use Rattle.std.proofs.lemmas.List.{length-map, get_or_default}
use Rattle.std.proofs.lemmas.List.Elements.{All-cons, All-take}
use Rattle.graph.specs.declared.net.Net.{Net}
use Rattle.graph.specs.declared.net.Transaction.{Transaction}
use Rattle.graph.specs.declared.job.GraphFault.{GraphFault}
use Rattle.graph.specs.declared.job.GraphFault.TheVariants.{CycleTooLong, TooManyJobs, TooManySensorWords, Memory}
use Rattle.graph.specs.Cycle.{Divides, IsCycle, IsLeastMultiple, IsFirstPast, IsWithinLimits, job_count, sensor_words}
use Rattle.graph.specs.Faults.{HasManyJobs, HasManyWords, PassesLimit}
use Rattle.graph.specs.Net.{cycle_parts}
use Rattle.graph.specs.Rules.{IsTransaction}
use Rattle.graph.specs.Sound.{KeepsRules}
use Rattle.graph.proofs.Multiples.{same_multiple, front_multiple, multiple_some}

pub one_cycle : (net : Net) (c d : ℕ) → IsCycle net c → IsCycle net d → c ≡ d
one_cycle net c d one two = same_multiple (cycle_parts net) c d one two

-- the round has ticks
some_round : (net : Net) → KeepsRules net → 1 ≤ net.shape.round
some_round net rules =
    let s = rules.entry_rules.shape in
    let slot : 1 ≤ net.shape.slot_words + net.shape.precision = omega (arith, s.slot_words.0) in
    let units : 1 ≤ 2 * net.shape.units = omega (arith, s.units.0) in
    let more : 1 * (net.shape.slot_words + net.shape.precision) ≤ 2 * net.shape.units * (net.shape.slot_words + net.shape.precision) = mul-le-mul_right (net.shape.slot_words + net.shape.precision) units in
    omega (arith, more, slot, s.fits)

some_periods : (ts : List Transaction) → All IsTransaction ts → All (λ n. 1 ≤ n) (map (λ (t : Transaction). t.period) ts)
some_periods ts all k d low =
    let n : length (map (λ (t : Transaction). t.period) ts) ≡ length ts = length-map ts (λ (t : Transaction). t.period) in
    let none : Transaction = record { name = []; period = 0; deadline = 0 } in
    let is : get_or (map (λ (t : Transaction). t.period) ts) k d ≡ (get_or ts k none).period = get_or_default (map (λ (t : Transaction). t.period) ts) k d 0 low ∙ get_or-map (λ (t : Transaction). t.period) ts k none in
    let some = (all k none (omega (arith, low, n))).some_period in
    omega (arith, is, some)

-- a cycle has ticks
pub some_cycle : (net : Net) (c : ℕ) → KeepsRules net → IsCycle net c → 0 < c
some_cycle net c rules is = multiple_some (cycle_parts net) c (All-cons (λ n. 1 ≤ n) net.shape.round (map (λ (t : Transaction). t.period) net.transactions) (some_round net rules) (some_periods net.transactions rules.entry_rules.entries.transactions)) is

-- where the round and the periods pass 65,536 there is no short cycle
pub past_is_long : (net : Net) (c value : ℕ) → KeepsRules net → IsCycle net c → c ≤ 65536 → IsFirstPast net value → ⊥
past_is_long net c value rules is low past =
    let all : All (λ n. Divides n c) (take (past.place + 1) (cycle_parts net)) = All-take (λ n. Divides n c) (past.place + 1) (cycle_parts net) is.common in
    let le = front_multiple (take (past.place + 1) (cycle_parts net)) [] value c (some_cycle net c rules is) past.multiple all in
    omega (arith, le, low, past.past)

-- the first value past 65,536 is one
pub one_past : (net : Net) (v w : ℕ) → IsFirstPast net v → IsFirstPast net w → v ≡ w
one_past net v w one two = elim (cases_lt one.place two.place) [
  | inl low ↦ absurd (let le = two.first one.place v low one.multiple in omega (arith, le, one.past))
  | inr up ↦ elim (cases_lt two.place one.place) [
    | inl low ↦ absurd (let le = one.first two.place w low two.multiple in omega (arith, le, two.past))
    | inr down ↦
        let same : two.place ≡ one.place = omega (arith, up, down) in
        same_multiple (take (one.place + 1) (cycle_parts net)) v w one.multiple (subst (λ k. IsLeastMultiple (take (k + 1) (cycle_parts net)) w) same two.multiple)
  ]
]

one_jobs : (net : Net) (m n : ℕ) → HasManyJobs net m → HasManyJobs net n → m ≡ n
one_jobs net m n one two = one.jobs_are ∙ (ap (job_count net) (one_cycle net one.cycle two.cycle one.is_cycle two.is_cycle) ∙ sym two.jobs_are)

one_words : (net : Net) (m n : ℕ) → HasManyWords net m → HasManyWords net n → m ≡ n
one_words net m n one two = one.words_are ∙ (ap (sensor_words net) (one_cycle net one.cycle two.cycle one.is_cycle two.is_cycle) ∙ sym two.words_are)

jobs_first : (net : Net) (m n : ℕ) → HasManyJobs net m → HasManyWords net n → ⊥
jobs_first net m n one two =
    let same = ap (job_count net) (one_cycle net one.cycle two.cycle one.is_cycle two.is_cycle) in
    omega (arith, same, one.jobs_are, one.past, two.jobs)

pub one_fault : (net : Net) → KeepsRules net → (f g : GraphFault) → PassesLimit net f → PassesLimit net g → f ≡ g
one_fault net rules (CycleTooLong v) (CycleTooLong w) one two = ap CycleTooLong (one_past net v w one two)
one_fault net rules (CycleTooLong v) (TooManyJobs m) one two = absurd (past_is_long net two.cycle v rules two.is_cycle two.ticks one)
one_fault net rules (CycleTooLong v) (TooManySensorWords m) one two = absurd (past_is_long net two.cycle v rules two.is_cycle two.ticks one)
one_fault net rules (CycleTooLong v) Memory one two = absurd two
one_fault net rules (TooManyJobs m) (CycleTooLong w) one two = absurd (past_is_long net one.cycle w rules one.is_cycle one.ticks two)
one_fault net rules (TooManyJobs m) (TooManyJobs n) one two = ap TooManyJobs (one_jobs net m n one two)
one_fault net rules (TooManyJobs m) (TooManySensorWords n) one two = absurd (jobs_first net m n one two)
one_fault net rules (TooManyJobs m) Memory one two = absurd two
one_fault net rules (TooManySensorWords m) (CycleTooLong w) one two = absurd (past_is_long net one.cycle w rules one.is_cycle one.ticks two)
one_fault net rules (TooManySensorWords m) (TooManyJobs n) one two = absurd (jobs_first net n m two one)
one_fault net rules (TooManySensorWords m) (TooManySensorWords n) one two = ap TooManySensorWords (one_words net m n one two)
one_fault net rules (TooManySensorWords m) Memory one two = absurd two
one_fault net rules Memory g one two = absurd one

-- a net that passes a limit isn't within its limits
pub not_within : (net : Net) (c : ℕ) (f : GraphFault) → KeepsRules net → PassesLimit net f → IsWithinLimits net c → ⊥
not_within net c (CycleTooLong v) rules past within = past_is_long net c v rules within.is_cycle within.ticks past
not_within net c (TooManyJobs m) rules past within =
    let same = ap (job_count net) (one_cycle net past.cycle c past.is_cycle within.is_cycle) in
    omega (arith, same, past.jobs_are, past.past, within.jobs)
not_within net c (TooManySensorWords m) rules past within =
    let same = ap (sensor_words net) (one_cycle net past.cycle c past.is_cycle within.is_cycle) in
    omega (arith, same, past.words_are, past.past, within.words)
not_within net c Memory rules past within = past
