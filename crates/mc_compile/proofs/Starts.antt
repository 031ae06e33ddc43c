-- The starts of the routines of a task: they rise, and count the routines.
use Rattle.std.proofs.Common.{◌≡◌, ⊎_elim, ℕ, zero, suc, ◌+◌, ◌<◌, ◌≤◌, cond, List, [], ◌∷◌, ◌++◌, length, refl, sym, ap, ◌∙◌, subst, arith, add-one, append_assoc, length-append}
use Rattle.std.specs.Prelude.{nat_le, slice_index, slice_index_or, All, Contains, count_by}
use Rattle.std.specs.List.Sorted.{IsStrictlyIncreasing}
use Rattle.std.proofs.lemmas.Bool.{le-leb}
use Rattle.std.proofs.lemmas.Bool.Decides.{leb_tells}
use Rattle.std.proofs.lemmas.List.Elements.{Contains-append_right}
use Rattle.std.proofs.lemmas.List.Sums.{sum_by-cons, sum_by-append}
use Rattle.mc_tree.specs.Tree.{Fn}
use Rattle.word_code.specs.Typing.{routine_of}
use Rattle.word_code.specs.declared.code.Slot.{Slot}
use Rattle.mc_compile.specs.Coded.{CodedF, CodedFs}
use Rattle.mc_compile.proofs.Heights.{up_e, up_b}

-- each is below n
abbrev pub EachBelow : ℕ → List ℕ → Type 0
EachBelow n [] = Unit {0}
EachBelow n (x ∷ xs) = (x < n) × EachBelow n xs

-- each is n or more
abbrev pub EachFrom : ℕ → List ℕ → Type 0
EachFrom n [] = Unit {0}
EachFrom n (x ∷ xs) = (n ≤ x) × EachFrom n xs

-- each is greater than the one before, and the first than n
abbrev pub Rising : ℕ → List ℕ → Type 0
Rising n [] = Unit {0}
Rising n (x ∷ xs) = (n < x) × Rising x xs

-- how many are at or before k
abbrev pub count_to : ℕ → List ℕ → ℕ
count_to k xs = count_by (λ x. nat_le x k) xs

-- a start at or before k counts
counted : (k x : ℕ) → x ≤ k → ◌≡◌ {A = ℕ} (cond (nat_le x k) 1 0) 1
counted k x le = ap (λ b. cond b 1 0) (le-leb x k le)

-- and one behind it does not
not_counted : (k x : ℕ) → k < x → ◌≡◌ {A = ℕ} (cond (nat_le x k) 1 0) 0
not_counted k x lt = ⊎_elim (λ h. let l = h.1 in absurd (let z : ⊥ = omega arith in z)) (λ h. ap (λ b. cond b 1 0) h.0) (leb_tells x k)

-- all starts before k count
pub count_below : (n k : ℕ) (xs : List ℕ) → EachBelow n xs → n ≤ k → count_to k xs ≡ length xs
count_below n k [] h le = refl
count_below n k (x ∷ xs) h le =
    omega (arith, sum_by-cons (λ y. cond (nat_le y k) 1 0) x xs, counted k x (omega (arith, h.0)), count_below n k xs h.1 le)

-- and those behind it do not
pub count_from : (n k : ℕ) (xs : List ℕ) → EachFrom n xs → k < n → count_to k xs ≡ 0
count_from n k [] h lt = refl
count_from n k (x ∷ xs) h lt =
    omega (arith, sum_by-cons (λ y. cond (nat_le y k) 1 0) x xs, not_counted k x (omega (arith, h.0)), count_from n k xs h.1 lt)

-- an element by its place
at_below : (n : ℕ) (xs : List ℕ) → EachBelow n xs → (i d : ℕ) → i < length xs → slice_index_or xs i d < n
at_below n [] h i d lt = absurd (let z : ⊥ = omega arith in z)
at_below n (x ∷ xs) h zero d lt = h.0
at_below n (x ∷ xs) h (suc i) d lt = at_below n xs h.1 i d (omega arith)

at_from : (n : ℕ) (xs : List ℕ) → EachFrom n xs → (i d : ℕ) → i < length xs → n ≤ slice_index_or xs i d
at_from n [] h i d lt = absurd (let z : ⊥ = omega arith in z)
at_from n (x ∷ xs) h zero d lt = h.0
at_from n (x ∷ xs) h (suc i) d lt = at_from n xs h.1 i d (omega arith)

-- an element of numbers below n
pub contained_below : (n : ℕ) (xs : List ℕ) (k : ℕ) → EachBelow n xs → Contains xs k → k < n
contained_below n xs k h c = omega (arith, at_below n xs h c.0 k c.1, c.2)

-- an element of numbers from n on
pub contained_from : (n : ℕ) (xs : List ℕ) (k : ℕ) → EachFrom n xs → Contains xs k → n ≤ k
contained_from n xs k h c = omega (arith, at_from n xs h c.0 k c.1, c.2)

-- the same as a fact on each element
pub each_below : (n : ℕ) (xs : List ℕ) → EachBelow n xs → All (λ x. x < n) xs
each_below n xs h k d lt = at_below n xs h k d lt

-- below n is below m
pub below_more : (n m : ℕ) (xs : List ℕ) → n ≤ m → EachBelow n xs → EachBelow m xs
below_more n m [] le h = tt
below_more n m (x ∷ xs) le h = (omega (arith, h.0), below_more n m xs le h.1)

-- one more at the end
pub below_push : (n : ℕ) (xs : List ℕ) (x : ℕ) → EachBelow n xs → x < n → EachBelow n (xs ++ x ∷ [])
below_push n [] x h lt = (lt, tt)
below_push n (y ∷ ys) x h lt = (h.0, below_push n ys x h.1 lt)

-- from m on is from n on
pub from_less : (n m : ℕ) (xs : List ℕ) → n ≤ m → EachFrom m xs → EachFrom n xs
from_less n m [] le h = tt
from_less n m (x ∷ xs) le h = (omega (arith, h.0), from_less n m xs le h.1)

-- none lies between p and the others
pub none_between : (rest : List ℕ) (p n k : ℕ) → EachFrom n rest → p < k → k < n → Contains (p ∷ rest) k → ⊥
none_between rest p n k from above under (zero, lt, e) = omega arith
none_between rest p n k from above under (suc i, lt, e) = let z = contained_from n rest k from (i, omega arith, e) in omega arith

-- before the others all is in the first routine
pub number_first : (rest : List ℕ) (n k : ℕ) → EachFrom n rest → k < n → routine_of (0 ∷ rest) k ≡ 0
number_first rest n k from under =
    omega (arith, sum_by-cons (λ y. cond (nat_le y k) 1 0) 0 rest, counted k 0 (omega arith), count_from n k rest from under)

-- each is below the next
rises : (n : ℕ) (xs : List ℕ) → Rising n xs → (k : ℕ) → k < length xs → slice_index (n ∷ xs) k < slice_index (n ∷ xs) (suc k)
rises n [] h k lt = absurd (let z : ⊥ = omega arith in z)
rises n (x ∷ xs) h zero lt = h.0
rises n (x ∷ xs) h (suc k) lt = rises x xs h.1 k (omega arith)

-- the same in the words of the typing rules
pub increasing : (n : ℕ) (xs : List ℕ) → Rising n xs → IsStrictlyIncreasing (n ∷ xs)
increasing n xs h k lt = rw (add-one k) (rises n xs h k (omega arith))

-- the functions of a task, from p on
module _ (instrs : List Slot) (starts : ℕ → ℕ) (params : ℕ → List ℕ) where
  -- a function takes at least one instruction
  pub up_f : (f : Fn) (p q : ℕ) → CodedF starts params instrs p f q → p < q
  up_f f p q c = omega (arith, up_b instrs starts params f.body p c.0 c.2, up_e instrs f.answer 0 c.0 c.1 c.3, c.4.next)

  -- the functions
  pub up_fs : (fs : List Fn) (firsts : List ℕ) (p q : ℕ) → CodedFs starts params instrs p fs firsts q → p ≤ q
  up_fs [] firsts p q c = omega (arith, c.1)
  up_fs (f ∷ fs) firsts p q c = omega (arith, up_f f p c.1 c.3, up_fs fs c.0 c.1 q c.4)

  -- their starts are from p on
  pub from_fs : (fs : List Fn) (firsts : List ℕ) (p q : ℕ) → CodedFs starts params instrs p fs firsts q → EachFrom p firsts
  from_fs [] firsts p q c = subst (λ xs. EachFrom p xs) (sym c.0) tt
  from_fs (f ∷ fs) firsts p q c =
      let u = up_f f p c.1 c.3 in
      subst (λ xs. EachFrom p xs) (sym c.2) (omega arith, from_less p c.1 c.0 (omega arith) (from_fs fs c.0 c.1 q c.4))

  -- and below the end
  pub below_fs : (fs : List Fn) (firsts : List ℕ) (p q : ℕ) → CodedFs starts params instrs p fs firsts q → EachBelow q firsts
  below_fs [] firsts p q c = subst (λ xs. EachBelow q xs) (sym c.0) tt
  below_fs (f ∷ fs) firsts p q c =
      let u = up_f f p c.1 c.3 in
      let v = up_fs fs c.0 c.1 q c.4 in
      subst (λ xs. EachBelow q xs) (sym c.2) (omega arith, below_fs fs c.0 c.1 q c.4)

  -- they rise
  pub rising_fs : (fs : List Fn) (firsts : List ℕ) (n p q : ℕ) → n < p → CodedFs starts params instrs p fs firsts q → Rising n firsts
  rising_fs [] firsts n p q lt c = subst (λ xs. Rising n xs) (sym c.0) tt
  rising_fs (f ∷ fs) firsts n p q lt c =
      subst (λ xs. Rising n xs) (sym c.2) (lt, rising_fs fs c.0 p c.1 q (up_f f p c.1 c.3) c.4)

  -- and are as many as the functions
  pub length_fs : (fs : List Fn) (firsts : List ℕ) (p q : ℕ) → CodedFs starts params instrs p fs firsts q → length firsts ≡ length fs
  length_fs [] firsts p q c = ap length c.0
  length_fs (f ∷ fs) firsts p q c = ap length c.2 ∙ omega (arith, length_fs fs c.0 c.1 q c.4)

  -- the number of the routine of an instruction of the first of them, behind the starts `before`
  pub number_here : (before : List ℕ) (f : Fn) (fs : List Fn) (rest : List ℕ) (p p1 q : ℕ) → EachBelow p before → CodedFs starts params instrs p1 fs rest q
      → (k : ℕ) → p ≤ k → k < p1 → routine_of (before ++ p ∷ rest) k ≡ length before
  number_here before f fs rest p p1 q below c k above under =
      omega (arith, sum_by-append (λ y. cond (nat_le y k) 1 0) before (p ∷ rest), sum_by-cons (λ y. cond (nat_le y k) 1 0) p rest, count_below p k before below above, counted k p above, count_from p1 k rest (from_fs fs rest p1 q c) under)

  -- the routine of each function, by its number
  pub number_of : (before : List ℕ) (fs : List Fn) (firsts : List ℕ) (p q : ℕ) → EachBelow p before → CodedFs starts params instrs p fs firsts q
      → (g : ℕ) → g < length fs → Contains (before ++ firsts) (slice_index firsts g) × (routine_of (before ++ firsts) (slice_index firsts g) ≡ length before + g)
  number_of before [] firsts p q below c g lt = absurd (let z : ⊥ = omega arith in z)
  number_of before (f ∷ fs) firsts p q below c zero lt =
      let zero_more : length before ≡ length before + 0 = omega arith in
      subst (λ xs. Contains (before ++ xs) (slice_index xs 0) × (routine_of (before ++ xs) (slice_index xs 0) ≡ length before + 0)) (sym c.2) (
        Contains-append_right before (p ∷ c.0) p (0, omega arith, refl),
        number_here before f fs c.0 p c.1 q below c.4 p (omega arith) (up_f f p c.1 c.3) ∙ zero_more,
      )
  number_of before (f ∷ fs) firsts p q below c (suc g) lt =
      let u = up_f f p c.1 c.3 in
      let more = below_push c.1 before p (below_more p c.1 before (omega arith) below) u in
      let r = number_of (before ++ p ∷ []) fs c.0 c.1 q more c.4 g (omega arith) in
      let n : length (before ++ p ∷ []) + g ≡ length before + suc g = omega (arith, length-append before (p ∷ [])) in
      subst (λ xs. Contains (before ++ xs) (slice_index xs (suc g)) × (routine_of (before ++ xs) (slice_index xs (suc g)) ≡ length before + suc g)) (sym c.2)
      (subst (λ xs. Contains xs (slice_index c.0 g) × (routine_of xs (slice_index c.0 g) ≡ length before + suc g)) (append_assoc before (p ∷ []) c.0) (r.0, r.1 ∙ n))
