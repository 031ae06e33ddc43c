-- The laws of executions under growing limits, for every machine whose steps cost at least 1: no limit is passed, an
-- execution that is over is the same under each limit that its cycles keep, and its cycles under a lesser limit are those
-- of its longest part that keeps it.
use Rattle.std.proofs.Common.{◌≡◌, ℕ, zero, suc, ◌+◌, ◌<◌, ◌≤◌, Bool, true, false, cond, refl, sym, ap, ◌∙◌, arith}
use Rattle.std.specs.Prelude.{nat_le}
use Rattle.std.proofs.lemmas.Bool.{leb-true, leb-false, le-leb, lt-leb}
use Rattle.processor.specs.Ends.{End, Halted, Broken, Next, Goes, Ends, Stuck, Limited, Over, Cut, cycles_in, IsOver}
use Rattle.processor.specs.System.{System, IsCosted, followed, steps, exec_by}

-- a fact of what follows a step holds where it holds of each case
followed_is : {S A : Type 0} (P : Limited A → Type 0) (go : S → Limited A) (cycles : ℕ) (next : Next S A)
    → ((t : S) → P (go t)) → ((how : End A) → P (Over how cycles)) → P (followed go cycles next)
followed_is P go cycles (Goes t) g e = g t
followed_is P go cycles (Ends how) g e = e how
followed_is P go cycles Stuck g e = e Broken

cond_is : {A : Type 0} (P : Limited A → Type 0) (b : Bool) (x y : Limited A) → (b ≡ true → P x) → (b ≡ false → P y) → P (cond b x y)
cond_is P true x y h k = h refl
cond_is P false x y h k = k refl

module _ {S A : Type 0} (m : System S A) (costs : IsCosted m) where
  -- the cycles never pass the limit
  steps_within : (n limit : ℕ) (s : S) (cycles : ℕ) → cycles ≤ limit → cycles_in (steps n m limit s cycles) ≤ limit
  steps_within zero limit s cycles le = le
  steps_within (suc n) limit s cycles le =
      let next = cycles + m.cost s in
      cond_is (λ e. cycles_in e ≤ limit) (nat_le next limit) _ (Cut cycles)
      (λ fits.
      let fit : next ≤ limit = leb-true next limit fits in
      followed_is (λ e. cycles_in e ≤ limit) (λ t. steps n m limit t next) next (m.next s)
      (λ t. steps_within n limit t next fit) (λ how. fit))
      (λ past. le)

  -- the cycles never fall
  steps_from : (n limit : ℕ) (s : S) (cycles : ℕ) → cycles ≤ cycles_in (steps n m limit s cycles)
  steps_from zero limit s cycles = omega arith
  steps_from (suc n) limit s cycles =
      let next = cycles + m.cost s in
      let later : cycles ≤ next = omega arith in
      cond_is (λ e. cycles ≤ cycles_in e) (nat_le next limit) _ (Cut cycles)
      (λ fits.
      followed_is (λ e. cycles ≤ cycles_in e) (λ t. steps n m limit t next) next (m.next s)
      (λ t. let more = steps_from n limit t next in omega (arith, later, more)) (λ how. later))
      (λ past. omega arith)

  -- an execution that is over took more cycles than it began with
  steps_later : (n limit : ℕ) (s : S) (cycles : ℕ) → IsOver (steps n m limit s cycles) → cycles < cycles_in (steps n m limit s cycles)
  steps_later zero limit s cycles = λ over. absurd over
  steps_later (suc n) limit s cycles =
      let next = cycles + m.cost s in
      let later : cycles < next = omega (arith, costs s) in
      cond_is (λ e. IsOver e → cycles < cycles_in e) (nat_le next limit) _ (Cut cycles)
      (λ fits.
      followed_is (λ e. IsOver e → cycles < cycles_in e) (λ t. steps n m limit t next) next (m.next s)
      (λ t over.
      let more : next < cycles_in (steps n m limit t next) = steps_later n limit t next over in
      omega (arith, later, more))
      (λ how over. later))
      (λ past over. absurd over)

  -- two continuations that agree where the first is over
  follow_agree : (f g : S → Limited A) (cycles other : ℕ) (next : Next S A)
      → ((t : S) → IsOver (f t) → cycles_in (f t) ≤ other → (cycles ≤ other) × (g t ≡ f t))
      → IsOver (followed f cycles next) → cycles_in (followed f cycles next) ≤ other
      → (cycles ≤ other) × (followed g cycles next ≡ followed f cycles next)
  follow_agree f g cycles other (Goes t) h over fits = h t over fits
  follow_agree f g cycles other (Ends how) h over fits = (fits, refl)
  follow_agree f g cycles other Stuck h over fits = (fits, refl)

  -- two executions whose first steps agree where the first is over
  first_agree : (b : Bool) (x y : Limited A) (cycles next other : ℕ) → (IsOver x → cycles_in x ≤ other → (next ≤ other) × (y ≡ x))
      → IsOver (cond b x (Cut cycles)) → cycles_in (cond b x (Cut cycles)) ≤ other → cond (nat_le next other) y (Cut cycles) ≡ cond b x (Cut cycles)
  first_agree true x y cycles next other h over fits =
      let both = h over fits in
      ap (λ b. cond b y (Cut cycles)) (le-leb next other both.0) ∙ both.1
  first_agree false x y cycles next other h over fits = absurd over

  -- an execution that is over comes to the same under each limit that its cycles keep
  steps_agree : (n k limit other : ℕ) (s : S) (cycles : ℕ) → IsOver (steps n m limit s cycles)
      → cycles_in (steps n m limit s cycles) ≤ other → other < k + cycles → steps k m other s cycles ≡ steps n m limit s cycles
  steps_agree zero k limit other s cycles over fits h = absurd over
  steps_agree (suc n) zero limit other s cycles over fits h =
      let later : cycles < cycles_in (steps (suc n) m limit s cycles) = steps_later (suc n) limit s cycles over in absurd (omega arith)
  steps_agree (suc n) (suc k) limit other s cycles over fits h =
      let next = cycles + m.cost s in
      first_agree (nat_le next limit) _ _ cycles next other
      (follow_agree (λ t. steps n m limit t next) (λ t. steps k m other t next) next other (m.next s)
      (λ t o f.
      let later : next < cycles_in (steps n m limit t next) = steps_later n limit t next o in
      (omega arith, steps_agree n k limit other t next o f (omega (arith, costs s)))))
      over fits

  -- what follows a step has the same cycles where its continuations do
  follow_same : (f g : S → Limited A) (cycles low : ℕ) (next : Next S A)
      → ((t : S) → cycles_in (f t) ≤ low → cycles_in (g t) ≡ cycles_in (f t))
      → cycles_in (followed f cycles next) ≤ low → cycles_in (followed g cycles next) ≡ cycles_in (followed f cycles next)
  follow_same f g cycles low (Goes t) h fits = h t fits
  follow_same f g cycles low (Ends how) h fits = refl
  follow_same f g cycles low Stuck h fits = refl

  -- where the cycles under a limit keep a lesser one, they are the same under that
  steps_prefix : (n k high low : ℕ) (s : S) (cycles : ℕ) → cycles ≤ low → low ≤ high → high < n + cycles → low < k + cycles
      → cycles_in (steps n m high s cycles) ≤ low → cycles_in (steps k m low s cycles) ≡ cycles_in (steps n m high s cycles)
  steps_prefix zero k high low s cycles begun le enough less = absurd (omega arith)
  steps_prefix (suc n) zero high low s cycles begun le enough less = absurd (omega arith)
  steps_prefix (suc n) (suc k) high low s cycles begun le enough less =
      let next = cycles + m.cost s in
      let lower = cond (nat_le next low) (followed (λ t. steps k m low t next) next (m.next s)) (Cut cycles) in
      cond_is (λ e. cycles_in e ≤ low → cycles_in lower ≡ cycles_in e) (nat_le next high) _ (Cut cycles)
      (λ fits kept.
      let more : next ≤ cycles_in (followed (λ t. steps n m high t next) next (m.next s)) =
      followed_is (λ e. next ≤ cycles_in e) (λ t. steps n m high t next) next (m.next s) (λ t. steps_from n high t next) (λ how. omega arith) in
      let fit : next ≤ low = omega (arith, more, kept) in
      ap (λ b. cycles_in (cond b (followed (λ t. steps k m low t next) next (m.next s)) (Cut cycles))) (le-leb next low fit)
      ∙ follow_same (λ t. steps n m high t next) (λ t. steps k m low t next) next low (m.next s)
      (λ t. steps_prefix n k high low t next fit le (omega (arith, costs s)) (omega (arith, costs s))) kept)
      (λ past kept.
      let over : high < next = leb-false next high past in
      ap (λ b. cycles_in (cond b (followed (λ t. steps k m low t next) next (m.next s)) (Cut cycles))) (lt-leb next low (omega (arith, over, le))))

  -- the cycles never pass the limit
  pub exec_within : (limit : ℕ) (s : S) (cycles : ℕ) → cycles ≤ limit → cycles_in (exec_by m limit s cycles) ≤ limit
  unfolding exec_by
  exec_within limit s cycles le = steps_within (suc limit) limit s cycles le

  -- what is over took at least one cycle more
  pub exec_later : (limit : ℕ) (s : S) (cycles : ℕ) → IsOver (exec_by m limit s cycles) → cycles < cycles_in (exec_by m limit s cycles)
  unfolding exec_by
  exec_later limit s cycles over = steps_later (suc limit) limit s cycles over

  -- what is over is the same under each limit that its cycles keep
  pub exec_agrees : (limit other : ℕ) (s : S) (cycles : ℕ) → IsOver (exec_by m limit s cycles)
      → cycles_in (exec_by m limit s cycles) ≤ other → exec_by m other s cycles ≡ exec_by m limit s cycles
  unfolding exec_by
  exec_agrees limit other s cycles over fits = steps_agree (suc limit) (suc other) limit other s cycles over fits (omega arith)

  -- where the cycles under a limit keep a lesser one, they are the same under that
  pub exec_prefix : (high low : ℕ) (s : S) (cycles : ℕ) → cycles ≤ low → low ≤ high
      → cycles_in (exec_by m high s cycles) ≤ low → cycles_in (exec_by m low s cycles) ≡ cycles_in (exec_by m high s cycles)
  unfolding exec_by
  exec_prefix high low s cycles begun le fits = steps_prefix (suc high) (suc low) high low s cycles begun le (omega arith) (omega arith) fits

-- where cycles never pass the limit and are those of the longest part that keeps it, they never fall as the limit grows
pub cycles_grow : {A : Type 0} (run : ℕ → Limited A) → ((limit : ℕ) → cycles_in (run limit) ≤ limit)
    → ((high low : ℕ) → low ≤ high → cycles_in (run high) ≤ low → cycles_in (run low) ≡ cycles_in (run high))
    → (low high : ℕ) → low ≤ high → cycles_in (run low) ≤ cycles_in (run high)
cycles_grow run within prefix low high le = by_kept (nat_le (cycles_in (run high)) low) refl
  where
    by_kept : (b : Bool) → nat_le (cycles_in (run high)) low ≡ b → cycles_in (run low) ≤ cycles_in (run high)
    by_kept true e = omega (arith, prefix high low le (leb-true (cycles_in (run high)) low e))
    by_kept false e = omega (arith, within low, leb-false (cycles_in (run high)) low e)

-- what an execution that halts leaves is so
abbrev pub Leaves : {A : Type 0} → (A → Type 0) → Limited A → Type 0
Leaves Q (Over (Halted left) cycles) = Q left
Leaves Q (Over Broken cycles) = Unit {0}
Leaves Q (Cut cycles) = Unit {0}

module _ {S A : Type 0} (m : System S A) (P : S → Type 0) (Q : A → Type 0) (keeps : (s t : S) → P s → m.next s ≡ Goes t → P t) (leaves : (s : S) (left : A) → P s → m.next s ≡ Ends (Halted left) → Q left) where
  next_leaves : (s : S) → P s → (go : S → Limited A) (cycles : ℕ) (next : Next S A) → m.next s ≡ next → ((t : S) → P t → Leaves Q (go t))
      → Leaves Q (followed go cycles next)
  next_leaves s p go cycles (Goes t) e g = g t (keeps s t p e)
  next_leaves s p go cycles (Ends (Halted left)) e g = leaves s left p e
  next_leaves s p go cycles (Ends Broken) e g = tt
  next_leaves s p go cycles Stuck e g = tt

  steps_leave : (n limit : ℕ) (s : S) (cycles : ℕ) → P s → Leaves Q (steps n m limit s cycles)
  steps_leave zero limit s cycles p = tt
  steps_leave (suc n) limit s cycles p =
      let next = cycles + m.cost s in
      cond_is (Leaves Q) (nat_le next limit) _ (Cut cycles)
      (λ fits. next_leaves s p (λ t. steps n m limit t next) next (m.next s) refl (λ t q. steps_leave n limit t next q))
      (λ past. tt)

  -- what each state has that the steps reach is left where it halts
  pub exec_leaves : (limit : ℕ) (s : S) (cycles : ℕ) → P s → Leaves Q (exec_by m limit s cycles)
  unfolding exec_by
  exec_leaves limit s cycles p = steps_leave (suc limit) limit s cycles p
