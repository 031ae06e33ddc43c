-- Sets of tasks as masks.
use Rattle.std.proofs.Common.{◌≡◌, ℕ, zero, suc, ◌-◌, ◌*◌, ◌%◌, ◌^◌, ◌<◌, ◌≤◌, ◌⊎◌, ◌↔◌, inl, inr, List, [], ◌∷◌, ◌++◌, length, get_or, set, min, replicate, refl, sym, ◌∙◌, ap, subst, arith, length-append}
use Rattle.std.specs.Prelude.{Contains, bit_and, bit_or}
use Rattle.std.specs.Int.{bit_at, bit_not, w64}
use mir.Val.{bits}
use Rattle.std.proofs.lemmas.Bool.{cases_eq, cases_lt}
use Rattle.std.proofs.lemmas.List.{get_or-set_same, get_or-set_other, get_or_append_left, get_or_push}
use Rattle.std.proofs.lemmas.List.Quantifiers.{Any-push}
use Rattle.std.proofs.lemmas.List.Elements.{Contains-push, Contains-push_cases, Contains-append_left}
use Rattle.std.proofs.lemmas.Nat.Bits.{bit_at_and, bit_at_not, bit_at-zero, bit_at-lt, bit_at_set_same, bit_at_set_other, same_from_bits_below}
use Rattle.std.proofs.lemmas.Nat.{and_le_l, or_lt}
use Rattle.std.proofs.Math.Nat.{mod-lt}
use Rattle.graph.specs.declared.net.Net.{Net}
use Rattle.graph.specs.declared.net.Edge.{Edge}
use Rattle.graph.specs.Net.{Feeds}
use Rattle.graph.specs.Order.{IsReady}
use Rattle.graph.specs.Sound.{HasEntries}
use Rattle.graph.specs.Masks.{GoesBetween, AreMasks, IsOpen}
use Rattle.graph.proofs.Entries.{joined}

-- an edge among the first ones
between_left : (es : List Edge) (e : Edge) (from to : ℕ) → GoesBetween es from to → GoesBetween (es ++ e ∷ []) from to
between_left es e from to w = (w.0, w.1, (let n = length-append es (e ∷ []) in omega (arith, n, w.2)), get_or_append_left es (e ∷ []) w.1 w.0 w.2 ∙ w.3, w.4)

-- an edge among the first ones, or the last
between_cases : (es : List Edge) (e : Edge) (from to : ℕ) → GoesBetween (es ++ e ∷ []) from to → GoesBetween es from to ⊎ ((e.from_task ≡ from) × (e.to_task ≡ to))
between_cases es e from to w = elim (cases_lt w.0 (length es)) [
  | inl low ↦ inl (w.0, w.1, low, sym (get_or_append_left es (e ∷ []) w.1 w.0 low) ∙ w.3, w.4)
  | inr past ↦
      let last : length es ≡ w.0 = (let n = length-append es (e ∷ []) in omega (arith, n, w.2, past)) in
      let is : e ≡ w.1 = sym (get_or_push es e w.1 w.0 last) ∙ w.3 in
      inr (ap (λ (x : Edge). x.from_task) is ∙ w.4.0, ap (λ (x : Edge). x.to_task) is ∙ w.4.1)
]

-- one edge more sets one bit
pub mask_more : (es : List Edge) (e : Edge) (masks : List ℕ) → length masks ≡ 64 → e.from_task < 64 → e.to_task < 64 → AreMasks es masks →
    AreMasks (es ++ e ∷ []) (set masks e.to_task (bit_or (get_or masks e.to_task 0) (1 * 2 ^ e.from_task % 2 ^ bits w64)))
mask_more es e masks n low low' are from to f t = elim (cases_eq to e.to_task) [
  | inl row ↦
      let read : get_or (set masks e.to_task (bit_or (get_or masks e.to_task 0) (1 * 2 ^ e.from_task % 2 ^ bits w64))) to 0 ≡ bit_or (get_or masks to 0) (1 * 2 ^ e.from_task % 2 ^ bits w64) =
      ap (λ x. get_or (set masks e.to_task (bit_or (get_or masks e.to_task 0) (1 * 2 ^ e.from_task % 2 ^ bits w64))) x 0) row
      ∙ get_or-set_same masks e.to_task (bit_or (get_or masks e.to_task 0) (1 * 2 ^ e.from_task % 2 ^ bits w64)) 0 (omega (arith, n, low'))
      ∙ ap (λ x. bit_or (get_or masks x 0) (1 * 2 ^ e.from_task % 2 ^ bits w64)) (sym row) in
      elim (cases_eq from e.from_task) [
        | inl here ↦ rw read (
          λ _. Any-push (λ (x : Edge). (x.from_task ≡ from) × (x.to_task ≡ to)) es e (sym here, sym row),
          λ _. subst (λ x. bit_at (bit_or (get_or masks to 0) (1 * 2 ^ e.from_task % 2 ^ bits w64)) x ≡ 1) (sym here) (bit_at_set_same w64 (get_or masks to 0) e.from_task low),
        )
        | inr other ↦
            let same = bit_at_set_other w64 (get_or masks to 0) e.from_task low from other in
            rw (read, same) (
              λ b. between_left es e from to ((are from to f t).0 b),
              λ w. elim (between_cases es e from to w) [
                | inl old ↦ (are from to f t).1 old
                | inr new ↦ absurd (other (sym new.0))
              ],
            )
      ]
  | inr other ↦
      let read = get_or-set_other masks e.to_task to (bit_or (get_or masks e.to_task 0) (1 * 2 ^ e.from_task % 2 ^ bits w64)) 0 other in
      rw read (
        λ b. between_left es e from to ((are from to f t).0 b),
        λ w. elim (between_cases es e from to w) [
          | inl old ↦ (are from to f t).1 old
          | inr new ↦ absurd (other (sym new.1))
        ],
      )
]

one_bit : (n i : ℕ) → (bit_at n i ≡ 1 → ⊥) → bit_at n i ≡ 0
one_bit n i not = elim (cases_eq (bit_at n i) 0) [ inl e ↦ e | inr e ↦ absurd (not (let b = bit_at-lt n i in omega (arith, b, e))) ]

-- no bit of m is missing in n
pub subset : (m n : ℕ) → m < 2 ^ 64 → n < 2 ^ 64 → (bit_and m (bit_not w64 n) ≡ 0) ↔ ((p : ℕ) → p < 64 → bit_at m p ≡ 1 → bit_at n p ≡ 1)
subset m n a b = (
  λ e p low one.
      (let both = bit_at_and m (bit_not w64 n) p in
      let none : bit_at (bit_and m (bit_not w64 n)) p ≡ 0 = ap (λ x. bit_at x p) e ∙ bit_at-zero p in
      let not = bit_at_not w64 n p b low in
      let small = bit_at-lt n p in
      omega (arith, both, none, not, one, small)),
  λ h. same_from_bits_below 64 (bit_and m (bit_not w64 n)) 0 (let le = and_le_l m (bit_not w64 n) in omega (arith, le, a)) (omega arith) (λ p low.
      (let both = bit_at_and m (bit_not w64 n) p in
      let not = bit_at_not w64 n p b low in
      let small = bit_at-lt m p in
      let zero_is = bit_at-zero p in
      both ∙ least (bit_at m p) (bit_at n p) (bit_at (bit_not w64 n) p) small not (h p low) ∙ sym zero_is)),
)
  where
    least : (x y z : ℕ) → x < 2 → z ≡ 1 - y → (x ≡ 1 → y ≡ 1) → min x z ≡ 0
    least x y z small e h = elim (cases_eq x 1) [ inl one ↦ (let two = h one in omega (arith, e, one, two)) | inr other ↦ omega (arith, small, other) ]

-- a task is open exactly where it is ready
pub open_ready : (net : Net) → HasEntries net → length net.tasks ≤ 64 → (masks order : List ℕ) (named : ℕ) → AreMasks net.edges masks → ((t : ℕ) → get_or masks t 0 < 2 ^ 64) → named < 2 ^ 64 →
    ((t : ℕ) → t < 64 → (bit_at named t ≡ 1) ↔ Contains order t) → (t : ℕ) → t < length net.tasks → IsOpen masks named t ↔ IsReady (Feeds net) (length net.tasks) order t
open_ready net entries few masks order named are small fits bits_are t low =
    let both = subset (get_or masks t 0) named (small t) fits in (
      λ opened. record {
        is_one = low;
        is_new = λ w. (let one = (bits_are t (omega (arith, low, few))).1 w in omega (arith, one, opened.0));
        all_before = λ p f. (let inside = (joined net entries p t f).0 in
            (bits_are p (omega (arith, inside, few))).0 (both.0 opened.1 p (omega (arith, inside, few)) ((are p t (omega (arith, inside, few)) (omega (arith, low, few))).1 f)));
      },
      λ ready. (
        one_bit named t (λ e. ready.is_new ((bits_are t (omega (arith, low, few))).0 e)),
        both.1 (λ p inside e. (bits_are p inside).1 (ready.all_before p ((are p t inside (omega (arith, low, few))).0 e))),
      ),
    )

-- one task more is named
pub named_more : (order : List ℕ) (named t : ℕ) → t < 64 → ((k : ℕ) → k < 64 → (bit_at named k ≡ 1) ↔ Contains order k) →
    (k : ℕ) → k < 64 → (bit_at (bit_or named (1 * 2 ^ t % 2 ^ bits w64)) k ≡ 1) ↔ Contains (order ++ t ∷ []) k
named_more order named t low are k inside = elim (cases_eq k t) [
  | inl e ↦ (λ _. subst (Contains (order ++ t ∷ [])) (sym e) (Contains-push order t), λ _. subst (λ x. bit_at (bit_or named (1 * 2 ^ t % 2 ^ bits w64)) x ≡ 1) (sym e) (bit_at_set_same w64 named t low))
  | inr other ↦ rw (bit_at_set_other w64 named t low k other) (
    λ b. Contains-append_left order (t ∷ []) k ((are k inside).0 b),
    λ w. elim (Contains-push_cases order t k w) [
      | inl old ↦ (are k inside).1 old
      | inr new ↦ absurd (other (sym new))
    ],
  )
]

zeros : (n k z : ℕ) → get_or (replicate n z) k z ≡ z
zeros zero k z = refl
zeros (suc n) zero z = refl
zeros (suc n) (suc k) z = zeros n k z

-- no edge, and no bit
pub mask_none : (n : ℕ) → AreMasks [] (replicate n 0)
mask_none n from to f t =
    let z : bit_at (get_or (replicate n 0) to 0) from ≡ 0 = ap (λ x. bit_at x from) (zeros n to 0) ∙ bit_at-zero from in
    (λ b. absurd (omega (arith, b, z)), λ w. absurd (omega (arith, w.2)))

pub small_none : (n t : ℕ) → get_or {A = ℕ} (replicate n 0) t 0 < 2 ^ 64
small_none n t = let x : ℕ = 0 in let z : get_or (replicate n x) t x ≡ x = zeros n t 0 in omega (arith, z)

-- a mask stays a number of 64 bits
pub small_more : (masks : List ℕ) (to k : ℕ) → to < length masks → ((t : ℕ) → get_or masks t 0 < 2 ^ 64) → (t : ℕ) → get_or (set masks to (bit_or (get_or masks to 0) (1 * 2 ^ k % 2 ^ bits w64))) t 0 < 2 ^ 64
small_more masks to k low small t = elim (cases_eq t to) [
  | inl same ↦ rw same (rw (get_or-set_same masks to (bit_or (get_or masks to 0) (1 * 2 ^ k % 2 ^ bits w64)) 0 low) (or_lt 64 (get_or masks to 0) (1 * 2 ^ k % 2 ^ bits w64) (small to) (mod-lt (1 * 2 ^ k) (omega arith))))
  | inr other ↦ rw (get_or-set_other masks to t (bit_or (get_or masks to 0) (1 * 2 ^ k % 2 ^ bits w64)) 0 other) (small t)
]
