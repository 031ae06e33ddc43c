-- A stage for each of several items.
use Rattle.std.proofs.Common.{◌≡◌, [], ◌∷◌, List, Result, Ok, Err, sym, subst}
use Rattle.refusals.specs.Causes.{Counts}
use Rattle.refusals.specs.declared.refusal.Refusal.{Refusal}
use Rattle.stages.specs.Stage.{Stage, Does, all}
use Rattle.stages.specs.World.{Held}
use Rattle.stages.proofs.Relations.{Within, IsKept, Refuses, Passes}
use Rattle.stages.proofs.SoundFacts.{passes_turn, passes_giving}
use Rattle.stages.proofs.Turns.{stopped, went, gave}
use Rattle.stages.proofs.WithinFacts.{within_turn, within_giving, refuses_turn, refuses_giving}

pub passes_all : {A X : Type 0} (one : A → X → Stage A) (done : A) (xs : List X) → ((a : A) (x : X) → Passes (one a x)) → Passes (all one done xs)
passes_all one done [] each = passes_giving done
passes_all one done (x ∷ xs) each = passes_turn (one done x) (λ more. all one more xs) (each done x) (λ more. passes_all one more xs each)

pub within_all : {A X : Type 0} (R : Held → Held → Type 0) (one : A → X → Stage A) (done : A) (xs : List X) → IsKept R → ((a : A) (x : X) → Within R (one a x)) → Within R (all one done xs)
within_all R one done [] kept each = within_giving R done kept
within_all R one done (x ∷ xs) kept each = within_turn R (one done x) (λ more. all one more xs) kept (each done x) (λ more. within_all R one more xs kept each)

pub refuses_all : {A X : Type 0} (P : Refusal → Type 0) (one : A → X → Stage A) (done : A) (xs : List X) → ((a : A) (x : X) → Refuses P (one a x)) → Refuses P (all one done xs)
refuses_all P one done [] each = refuses_giving P done
refuses_all P one done (x ∷ xs) each = refuses_turn P (one done x) (λ more. all one more xs) (each done x) (λ more. refuses_all P one more xs each)

-- the first item's stage refused
pub one_stopped : {A X : Type 0} (one : A → X → Stage A) (done : A) (x : X) (xs ys : List X) {b n : Held} {c d : Counts} {e : Refusal} → ys ≡ x ∷ xs → Does (one done x) b n c d (Err e) → Does (all one done ys) b n c d (Err e)
one_stopped {A} {X} one done x xs ys {b} {n} {c} {d} {e} is does = subst (λ (zs : List X). Does (all one done zs) b n c d (Err e)) (sym is) (stopped (one done x) (λ more. all one more xs) does)

-- the first item's stage gave a value, and the others followed
pub one_went : {A X : Type 0} (one : A → X → Stage A) (done more : A) (x : X) (xs ys : List X) {b m n : Held} {c d f : Counts} {r : Result A Refusal} → ys ≡ x ∷ xs → Does (one done x) b m c d (Ok more)
    → Does (all one more xs) m n d f r → Does (all one done ys) b n c f r
one_went {A} {X} one done more x xs ys {b} {m} {n} {c} {d} {f} {r} is does rest = subst (λ (zs : List X). Does (all one done zs) b n c f r) (sym is) (went (one done x) (λ more. all one more xs) does rest)

-- no item is left
pub none_left : {A X : Type 0} (one : A → X → Stage A) (done : A) (ys : List X) (b : Held) (c : Counts) → [] ≡ ys → Does (all one done ys) b b c c (Ok done)
none_left {A} {X} one done ys b c is = subst (λ (zs : List X). Does (all one done zs) b b c c (Ok done)) is (gave done b c)
