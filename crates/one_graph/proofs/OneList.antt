-- An order is one, and so are lists and tables that are told place by place.
use Rattle.std.proofs.Common.{◌≡◌, ℕ, zero, suc, ◌+◌, ◌*◌, ◌/◌, ◌%◌, ◌<◌, ◌≤◌, List, [], ◌∷◌, ◌++◌, length, take, get_or, Option, None, refl, sym, ◌∙◌, ap, ap₂, subst, arith, add-one}
use Rattle.std.proofs.Math.Nat.{mod-lt}
use Rattle.std.proofs.lemmas.List.{take_more, take_all, ext_get_or}
use Rattle.std.proofs.lemmas.Nat.{div-add-mod'}
use Rattle.graph.specs.declared.feeder.Feeder.{Feeder}
use Rattle.graph.specs.FeederTable.{feeder_in}
use Rattle.graph.specs.Order.{IsNext, IsOrder}

one_next : (B : ℕ → ℕ → Type 0) (n : ℕ) (list : List ℕ) (x y : ℕ) → IsNext B n list x → IsNext B n list y → x ≡ y
one_next B n list x y h k = let low = h.least y k.ready in let up = k.least x h.ready in omega (arith, low, up)

one_front : (B : ℕ → ℕ → Type 0) (n : ℕ) (xs ys : List ℕ) → IsOrder B n xs → IsOrder B n ys → (k : ℕ) → k ≤ n → take k xs ≡ take k ys
one_front B n xs ys h g zero le = refl
one_front B n xs ys h g (suc k) le =
    let low : k < length xs = omega (arith, h.size, le) in
    let here : k < length ys = omega (arith, g.size, le) in
    let before : take k xs ≡ take k ys = one_front B n xs ys h g k (omega (arith, le)) in
    let same : get_or xs k 0 ≡ get_or ys k 0 = one_next B n (take k xs) (get_or xs k 0) (get_or ys k 0) (h.each k low) (subst (λ (l : List ℕ). IsNext B n l (get_or ys k 0)) (sym before) (g.each k here)) in
    ap (λ i. take i xs) (sym (add-one k)) ∙ (take_more xs k 0 low ∙ (ap₂ (λ (l : List ℕ) (x : ℕ). l ++ x ∷ []) before same ∙ (sym (take_more ys k 0 here) ∙ ap (λ i. take i ys) (add-one k))))

pub one_order : (B : ℕ → ℕ → Type 0) (n : ℕ) (xs ys : List ℕ) → IsOrder B n xs → IsOrder B n ys → xs ≡ ys
one_order B n xs ys h g = sym (take_all n xs (omega (arith, h.size))) ∙ (one_front B n xs ys h g n (omega arith) ∙ take_all n ys (omega (arith, g.size)))

-- a list of numbers told place by place
pub one_list : (n : ℕ) (f : ℕ → ℕ) (xs ys : List ℕ) → length xs ≡ n → length ys ≡ n → ((i : ℕ) → i < n → get_or xs i 0 ≡ f i) → ((i : ℕ) → i < n → get_or ys i 0 ≡ f i) → xs ≡ ys
one_list n f xs ys size size' one two = ext_get_or 0 xs ys (size ∙ sym size') (λ i low. one i (omega (arith, low, size)) ∙ sym (two i (omega (arith, low, size))))

-- a table of what feeds each port
pub one_table : (f : ℕ → ℕ → Option Feeder) (xs ys : List (Option Feeder)) → length xs ≡ 1024 → length ys ≡ 1024 → ((task port : ℕ) → task < 64 → port < 16 → feeder_in xs task port ≡ f task port)
    → ((task port : ℕ) → task < 64 → port < 16 → feeder_in ys task port ≡ f task port) → xs ≡ ys
one_table f xs ys size size' one two = ext_get_or None xs ys (size ∙ sym size') each
  where
    each : (i : ℕ) → i < length xs → get_or xs i None ≡ get_or ys i None
    each i low =
        let whole : i / 16 * 16 + i % 16 ≡ i = div-add-mod' i 16 in
        let port : i % 16 < 16 = mod-lt i (lit_some) in
        let task : i / 16 < 64 = omega (arith, whole, low, size) in
        ap (λ k. get_or xs k None) (sym whole) ∙ (one (i / 16) (i % 16) task port ∙ (sym (two (i / 16) (i % 16) task port) ∙ ap (λ k. get_or ys k None) whole))
      where
        lit_some : 0 < 16
        lit_some = omega arith
