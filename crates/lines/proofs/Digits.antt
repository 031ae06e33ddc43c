-- How many decimal digits a number has, and digits that were written in their place.
use Rattle.std.proofs.Common.{◌≡◌, ℕ, ◌+◌, ◌*◌, ◌/◌, ◌<◌, ◌≤◌, List, ◌++◌, length, take, drop, sym, ap, ◌∙◌, arith}
use Rattle.std.specs.Fmt.{decimal}
use Rattle.std.proofs.Math.Seq.{take-add, take-append_seam}
use Rattle.itoa.proofs.Decimal.{length_one, length_step_wide}

-- ten times as many numbers have one digit more
ten_times : (low high count n : ℕ) → 1 ≤ low → ((m : ℕ) → low ≤ m → m < high → length (decimal m) ≡ count) → low * 10 ≤ n → n < high * 10 → n < 1000000000000
    → length (decimal n) ≡ count + 1
ten_times low high count n some before le lt small =
    let step = length_step_wide n (omega arith) (omega arith) in
    let rest = before (n / 10) (omega arith) (omega arith) in
    omega (arith, step, rest)

pub digits_1 : (n : ℕ) → n < 10 → length (decimal n) ≡ 1
digits_1 n lt = length_one n lt

pub digits_2 : (n : ℕ) → 10 ≤ n → n < 100 → length (decimal n) ≡ 2
digits_2 n le lt = ten_times 1 10 1 n (omega arith) (λ m some h. length_one m h) le lt (omega arith)

pub digits_3 : (n : ℕ) → 100 ≤ n → n < 1000 → length (decimal n) ≡ 3
digits_3 n le lt = ten_times 10 100 2 n (omega arith) digits_2 le lt (omega arith)

pub digits_4 : (n : ℕ) → 1000 ≤ n → n < 10000 → length (decimal n) ≡ 4
digits_4 n le lt = ten_times 100 1000 3 n (omega arith) digits_3 le lt (omega arith)

pub digits_5 : (n : ℕ) → 10000 ≤ n → n < 100000 → length (decimal n) ≡ 5
digits_5 n le lt = ten_times 1000 10000 4 n (omega arith) digits_4 le lt (omega arith)

pub digits_6 : (n : ℕ) → 100000 ≤ n → n < 1000000 → length (decimal n) ≡ 6
digits_6 n le lt = ten_times 10000 100000 5 n (omega arith) digits_5 le lt (omega arith)

pub digits_7 : (n : ℕ) → 1000000 ≤ n → n < 10000000 → length (decimal n) ≡ 7
digits_7 n le lt = ten_times 100000 1000000 6 n (omega arith) digits_6 le lt (omega arith)

pub digits_8 : (n : ℕ) → 10000000 ≤ n → n < 100000000 → length (decimal n) ≡ 8
digits_8 n le lt = ten_times 1000000 10000000 7 n (omega arith) digits_7 le lt (omega arith)

pub digits_9 : (n : ℕ) → 100000000 ≤ n → n < 1000000000 → length (decimal n) ≡ 9
digits_9 n le lt = ten_times 10000000 100000000 8 n (omega arith) digits_8 le lt (omega arith)

pub digits_10 : (n : ℕ) → 1000000000 ≤ n → n < 10000000000 → length (decimal n) ≡ 10
digits_10 n le lt = ten_times 100000000 1000000000 9 n (omega arith) digits_9 le lt (omega arith)

pub ruleset digit_rules = (digits_1, digits_2, digits_3, digits_4, digits_5, digits_6, digits_7, digits_8, digits_9, digits_10)

-- digits that end at a place and begin behind what was there
pub placed : (old new digits : List ℕ) (used start end : ℕ) → start + length digits ≡ end → end ≡ used + length digits → drop start new ≡ digits ++ drop end old → take start new ≡ take start old
    → take end new ≡ take used old ++ digits
placed old new digits used start end long is behind before =
    let same : start ≡ used = omega arith in
    ap (λ (n : ℕ). take n new) (sym long)
    ∙ take-add start (length digits) new
    ∙ ap (λ (t : List ℕ). t ++ take (length digits) (drop start new)) before
    ∙ ap (λ (t : List ℕ). take start old ++ take (length digits) t) behind
    ∙ ap (λ (t : List ℕ). take start old ++ t) (take-append_seam digits (drop end old))
    ∙ ap (λ (n : ℕ). take n old ++ digits) same
