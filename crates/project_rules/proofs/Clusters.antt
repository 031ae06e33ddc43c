-- A cluster whose numbers are in their limits, and whose round isn't too short, has the shape that a net needs.
use Rattle.std.proofs.Common.{◌≡◌, ℕ, ◌+◌, ◌*◌, ◌≤◌, nat_le, ℤ, pos, negsuc, true, false, not, ◌||◌, Option, Some, None, ap, ◌∙◌, arith}
use Rattle.std.specs.Prelude.{int_lt}
use Rattle.std.proofs.lemmas.Bool.Decides.{nat_tests}
use Rattle.std.proofs.Math.Nat.{mul-le-mul_left}
use Rattle.mars_base.specs.Shape.{IsShape, least_round_of}
use Rattle.graph.specs.Rules.{IsTransaction}
use Rattle.project_sheet.specs.declared.sheet.ClusterRow.{ClusterRow}
use Rattle.project_sheet.specs.declared.sheet.TransactionRow.{TransactionRow}
use Rattle.project_rows.specs.Rules.{is_within, cluster_out, maybe_out, transaction_out}
use Rattle.project_relations.specs.Relations.{byte_of, least_round_in, maybe_below, round_short, is_late}
use Rattle.project_reader.specs.ProjectOf.{half_of, word_of, round_of, shape_of, transaction_entry}
use Rattle.project_rules.proofs.Tests.{either_false, not_false, both_true, number_in, keeps}

-- a cluster's numbers, in their limits
pub record IsFineCluster (c : ClusterRow) : Type 0 where
  pub units : is_within 1 8 c.units ≡ true
  pub slot_words : is_within 2 64 c.slot_words ≡ true
  pub precision : is_within 1 8 c.precision ≡ true
  pub cycles_per_tick : is_within 1 10000 c.cycles_per_tick ≡ true
  pub round : maybe_out 1 65536 c.round ≡ false

pub fine_cluster : (c : ClusterRow) → cluster_out c ≡ false → IsFineCluster c
fine_cluster c e =
    let units = not (is_within 1 8 c.units) in
    let words = not (is_within 2 64 c.slot_words) in
    let precision = not (is_within 1 8 c.precision) in
    let cycles = not (is_within 1 10000 c.cycles_per_tick) in
    let a = either_false (units || words || precision || cycles) (maybe_out 1 65536 c.round) e in
    let b = either_false (units || words || precision) cycles a.0 in
    let d = either_false (units || words) precision b.0 in
    let f = either_false units words d.0 in
    record {
      units = not_false (is_within 1 8 c.units) f.0;
      slot_words = not_false (is_within 2 64 c.slot_words) f.1;
      precision = not_false (is_within 1 8 c.precision) d.1;
      cycles_per_tick = not_false (is_within 1 10000 c.cycles_per_tick) b.1;
      round = a.1;
    }

-- a number within limits that fit is kept
pub byte_in : (low high : ℕ) (z : ℤ) → high ≤ 255 → is_within low high z ≡ true → (low ≤ byte_of z) × (byte_of z ≤ high)
byte_in low high z fits e =
    let (n, is, least, most) = number_in low high z e in
    let same : byte_of z ≡ n = ap byte_of is ∙ keeps 255 n (omega arith) in
    (omega (arith, same, least), omega (arith, same, most))

half_in : (low high : ℕ) (z : ℤ) → high ≤ 65535 → is_within low high z ≡ true → (low ≤ half_of z) × (half_of z ≤ high)
half_in low high z fits e =
    let (n, is, least, most) = number_in low high z e in
    let same : half_of z ≡ n = ap half_of is ∙ keeps 65535 n (omega arith) in
    (omega (arith, same, least), omega (arith, same, most))

word_in : (low high : ℕ) (z : ℤ) → high ≤ 65536 → is_within low high z ≡ true → (low ≤ word_of z) × (word_of z ≤ high)
word_in low high z fits e =
    let (n, is, least, most) = number_in low high z e in
    let same : word_of z ≡ n = ap word_of is ∙ keeps 4294967295 n (omega arith) in
    (omega (arith, same, least), omega (arith, same, most))

small_round : (u w p : ℕ) → u ≤ 8 → w ≤ 64 → p ≤ 8 → least_round_of u w p ≤ 65536
small_round u w p a b c =
    let h : w + p ≤ 72 = omega arith in
    let g : 2 * u * (w + p) ≤ 2 * u * 72 = mul-le-mul_left (2 * u) h in
    omega (arith, g)

at_least : (m : ℕ) (z : ℤ) → is_within 1 65536 z ≡ true → int_lt z (pos m) ≡ false → m ≤ word_of z
at_least m (pos n) e h =
    let w = both_true (nat_le 1 n) (nat_le n 65536) e in
    let few : n ≤ 65536 = grind (arith, nat_tests) in
    let same = keeps 4294967295 n (omega arith) in
    let le : m ≤ n = grind (arith, nat_tests) in
    omega (arith, same, le)
at_least m (negsuc n) e h = cc

fine_round : (c : ClusterRow) (r : Option ℤ) → least_round_in c ≤ 65536 → maybe_out 1 65536 r ≡ false → maybe_below (least_round_in c) r ≡ false → (round_of c r ≤ 65536) × (least_round_in c ≤ round_of c r)
fine_round c None small low short = (small, omega arith)
fine_round c (Some z) small low short =
    let within : is_within 1 65536 z ≡ true = not_false (is_within 1 65536 z) low in
    ((word_in 1 65536 z (omega arith) within).1, at_least (least_round_in c) z within short)

pub shape_is : (c : ClusterRow) → cluster_out c ≡ false → round_short c ≡ false → IsShape (shape_of c)
shape_is c out short =
    let fine = fine_cluster c out in
    let units = byte_in 1 8 c.units (omega arith) fine.units in
    let words = byte_in 2 64 c.slot_words (omega arith) fine.slot_words in
    let precision = byte_in 1 8 c.precision (omega arith) fine.precision in
    let round = fine_round c c.round (small_round (byte_of c.units) (byte_of c.slot_words) (byte_of c.precision) units.1 words.1 precision.1) fine.round short in
    record {
      units = units;
      slot_words = words;
      precision = precision;
      cycles_per_tick = half_in 1 10000 c.cycles_per_tick (omega arith) fine.cycles_per_tick;
      round = round.0;
      fits = round.1;
    }

in_time : (a b : ℤ) → is_within 1 65536 a ≡ true → is_within 1 65536 b ≡ true → int_lt a b ≡ false → word_of b ≤ word_of a
in_time a (pos m) e f h =
    let w = both_true (nat_le 1 m) (nat_le m 65536) f in
    let few : m ≤ 65536 = grind (arith, nat_tests) in
    omega (arith, keeps 4294967295 m (omega arith), at_least m a e h)
in_time a (negsuc m) e f h = cc

pub transaction_is : (t : TransactionRow) → transaction_out t ≡ false → is_late t ≡ false → IsTransaction (transaction_entry t)
transaction_is t out late =
    let w = either_false (not (is_within 1 65536 t.period)) (not (is_within 1 65536 t.deadline)) out in
    let within = not_false (is_within 1 65536 t.period) w.0 in
    let within' = not_false (is_within 1 65536 t.deadline) w.1 in
    let period = word_in 1 65536 t.period (omega arith) within in
    let deadline = word_in 1 65536 t.deadline (omega arith) within' in
    record { some_period = period.0; period = period.1; some_deadline = deadline.0; deadline = in_time t.period t.deadline within within' late }
