-- Lines that are written by number.
use Rattle.std.proofs.Common.{◌≡◌, ℕ, zero, suc, ◌+◌, ◌-◌, ◌<◌, ◌≤◌, List, [], ◌++◌, refl, sym, ◌∙◌, ap, arith, append_assoc}
use Rattle.std.specs.List.{range_with_len, flat_map}
use Rattle.cycle_text.specs.Lines.{numbered}

split : (f : ℕ → List ℕ) (a i n : ℕ) → i < n → flat_map f (range_with_len a n) ≡ (flat_map f (range_with_len a i) ++ f (a + i)) ++ flat_map f (range_with_len (a + i + 1) (n - i - 1))
split f a i zero low = absurd (omega (arith, low))
split f a zero (suc n) low =
    let here : a ≡ a + 0 = omega arith in let next : a + 1 ≡ a + 0 + 1 = omega arith in let rest : n ≡ suc n - 0 - 1 = omega arith in
    ap (λ x. f x ++ flat_map f (range_with_len (a + 1) n)) here ∙ ap (λ x. f (a + 0) ++ flat_map f (range_with_len x n)) next ∙ ap (λ k. f (a + 0) ++ flat_map f (range_with_len (a + 0 + 1) k)) rest
split f a (suc i) (suc n) low =
    let here : a + 1 + i ≡ a + suc i = omega arith in let next : a + 1 + i + 1 ≡ a + suc i + 1 = omega arith in let rest : n - i - 1 ≡ suc n - suc i - 1 = omega arith in
    ap (λ xs. f a ++ xs) (split f (a + 1) i n (omega (arith, low)))
    ∙ sym (append_assoc (f a) (flat_map f (range_with_len (a + 1) i) ++ f (a + 1 + i)) (flat_map f (range_with_len (a + 1 + i + 1) (n - i - 1))))
    ∙ ap (λ xs. xs ++ flat_map f (range_with_len (a + 1 + i + 1) (n - i - 1))) (sym (append_assoc (f a) (flat_map f (range_with_len (a + 1) i)) (f (a + 1 + i))))
    ∙ ap (λ x. ((f a ++ flat_map f (range_with_len (a + 1) i)) ++ f x) ++ flat_map f (range_with_len (a + 1 + i + 1) (n - i - 1))) here
    ∙ ap (λ x. ((f a ++ flat_map f (range_with_len (a + 1) i)) ++ f (a + suc i)) ++ flat_map f (range_with_len x (n - i - 1))) next
    ∙ ap (λ k. ((f a ++ flat_map f (range_with_len (a + 1) i)) ++ f (a + suc i)) ++ flat_map f (range_with_len (a + suc i + 1) k)) rest

-- all lines, with that of one number in their midst
pub numbers_whole : (line : ℕ → List ℕ) (i n : ℕ) → i < n → numbered line n ≡ (numbered line i ++ line i) ++ flat_map line (range_with_len (i + 1) (n - i - 1))
numbers_whole line i n low =
    let here : 0 + i ≡ i = omega arith in let next : 0 + i + 1 ≡ i + 1 = omega arith in
    split line 0 i n low
    ∙ ap (λ x. (numbered line i ++ line x) ++ flat_map line (range_with_len (0 + i + 1) (n - i - 1))) here
    ∙ ap (λ x. (numbered line i ++ line i) ++ flat_map line (range_with_len x (n - i - 1))) next
