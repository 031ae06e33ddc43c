-- Stages one after another.
use Rattle.std.proofs.Common.{◌≡◌, ◌⊎◌, inl, inr, ℕ, List, Result, Ok, Err, refl, sym, ap, subst}
use Rattle.refusals.specs.declared.refusal.Refusal.{Refusal}
use Rattle.refusals.specs.declared.refusal.Refusal.TheVariants as refusal
use Rattle.refusals.proofs.CauseFacts.{wider, later_later, later_same}
use Rattle.stages.specs.Stage.{Stage, Does, in_turn, judging, giving, printing}
use Rattle.stages.specs.Files.{writing}
use Rattle.stages.specs.World.{Held}
use Rattle.refusals.specs.Causes.{Counts, Caused}

abbrev pub fails : (A : Type 0) → Refusal → Result A Refusal
fails A e = Err e

abbrev pub passes : (A : Type 0) → A → Result A Refusal
passes A a = Ok a

pub err_once : (A : Type 0) (e f : Refusal) → fails A e ≡ Err f → e ≡ f
err_once A e f is = cc

pub not_err : {A B : Type 0} (a : A) (e : Refusal) → fails A e ≡ Ok a → B
not_err a e is = absurd (cc)

-- the first stage refused
pub stopped : {A B : Type 0} (first : Stage A) (next : A → Stage B) {b n : Held} {c d : Counts} {e : Refusal} → Does first b n c d (Err e) → Does (in_turn first next) b n c d (Err e)
stopped {A} {B} first next {b} {n} {c} {d} {e} does = record { later = does.later; how = by does.how }
  where
    by : first.meant b n (Err e) ⊎ ((f : Refusal) × (fails A e ≡ Err f) × first.cut b n f × Caused c d f) → (in_turn first next).meant b n (Err e) ⊎ ((f : Refusal) × (fails B e ≡ Err f) × (in_turn first next).cut b n f × Caused c d f)
    by (inl meant) = inl (inl (e, meant, refl))
    by (inr cut) = inr (cut.0, ap (fails B) (err_once A e cut.0 cut.1), inl cut.2, cut.3)

-- the first stage gave a value, and the next followed
pub went : {A B : Type 0} (first : Stage A) (next : A → Stage B) {a : A} {b m n : Held} {c d f : Counts} {r : Result B Refusal} → Does first b m c d (Ok a) → Does (next a) m n d f r → Does (in_turn first next) b n c f r
went {A} {B} first next {a} {b} {m} {n} {c} {d} {f} {r} one two = record { later = later_later c d f one.later two.later; how = by one.how two.how }
  where
    by : first.meant b m (Ok a) ⊎ ((e : Refusal) × (passes A a ≡ Err e) × first.cut b m e × Caused c d e) → (next a).meant m n r ⊎ ((e : Refusal) × (r ≡ Err e) × (next a).cut m n e × Caused d f e)
        → (in_turn first next).meant b n r ⊎ ((e : Refusal) × (r ≡ Err e) × (in_turn first next).cut b n e × Caused c f e)
    by (inl meant) (inl then) = inl (inr (a, m, meant, then))
    by (inl meant) (inr cut) = inr (cut.0, cut.1, inr (a, m, meant, cut.2), wider c d f cut.0 one.later cut.3)
    by (inr cut) two = not_err a cut.0 (sym cut.1)

-- a judgement, or want of memory
pub judged : {A : Type 0} (P : Result A Refusal → Type 0) (b : Held) (c : Counts) (r : Result A Refusal) → P r ⊎ (r ≡ Err refusal.Memory) → Does (judging P) b b c c r
judged P b c r (inl is) = record { later = later_same c; how = inl (refl, is) }
judged P b c r (inr memory) = record { later = later_same c; how = inr (refusal.Memory, memory, (refl, refl), tt) }

pub gave : {A : Type 0} (a : A) (b : Held) (c : Counts) → Does (giving a) b b c c (Ok a)
gave a b c = record { later = later_same c; how = inl (refl, refl) }

-- the same bytes
pub writes_same : (name x y : List ℕ) {b n : Held} {c d : Counts} {r : Result (Unit {0}) Refusal} → x ≡ y → Does (writing name x) b n c d r → Does (writing name y) b n c d r
writes_same name x y {b} {n} {c} {d} {r} is does = subst (λ (z : List ℕ). Does (writing name z) b n c d r) is does

pub prints_same : (x y : List ℕ) {b n : Held} {c d : Counts} {r : Result (Unit {0}) Refusal} → x ≡ y → Does (printing x) b n c d r → Does (printing y) b n c d r
prints_same x y {b} {n} {c} {d} {r} is does = subst (λ (z : List ℕ). Does (printing z) b n c d r) is does
