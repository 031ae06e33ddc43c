-- What a command does, as stages in one order.
use Rattle.std.specs.Prelude.{◌≡◌, ◌⊎◌, ℕ, List, [], ◌∷◌, take, None, Result, Ok, Err}
use Rattle.std.specs.Io.KnownBytes.{append_known}
use Rattle.refusals.specs.declared.refusal.Refusal.{Refusal}
use Rattle.refusals.specs.declared.refusal.Refusal.TheVariants as refusal
use Rattle.stages.specs.World.{Held}
use Rattle.refusals.specs.Causes.{Counts, Later, Caused}

-- a stage gives a value or refuses: what it means, by what is held before and after;
-- and what it leaves where want of memory or a counted fault cuts it off
pub record Stage (A : Type 0) : Type 1 where
  pub meant : Held → Held → Result A Refusal → Type 0
  pub cut : Held → Held → Refusal → Type 0

-- a stage, and then the next with the value that it gave; the first refusal is the answer
abbrev pub in_turn : {A B : Type 0} → Stage A → (A → Stage B) → Stage B
in_turn {A} {B} first next = record {
  meant = λ b n r. ((e : Refusal) × first.meant b n (Err e) × (r ≡ Err e)) ⊎ ((a : A) × (m : Held) × first.meant b m (Ok a) × (next a).meant m n r);
  cut = λ b n e. first.cut b n e ⊎ ((a : A) × (m : Held) × first.meant b m (Ok a) × (next a).cut m n e);
}

-- a judgement that touches nothing outside
abbrev pub judging : {A : Type 0} → (Result A Refusal → Type 0) → Stage A
judging P = record {
  meant = λ b n r. (n ≡ b) × P r;
  cut = λ b n e. (n ≡ b) × (e ≡ refusal.Memory);
}

-- a value
abbrev pub giving : {A : Type 0} → A → Stage A
giving a = record {
  meant = λ b n r. (n ≡ b) × (r ≡ Ok a);
  cut = λ b n e. ⊥;
}

-- a text for the output
abbrev pub printing : List ℕ → Stage (Unit {0})
printing text = record {
  meant = λ b n r. (n ≡ record b { out = append_known b.out text }) × (r ≡ Ok tt);
  cut = λ b n e. (k : ℕ) × (n ≡ record b { out = append_known b.out (take k text) }) × (e ≡ refusal.WriteFault None);
}

-- a stage for each of several items in their order, each with what the ones before have given
abbrev pub all : {A X : Type 0} → (A → X → Stage A) → A → List X → Stage A
all {A} {X} one done [] = giving done
all {A} {X} one done (x ∷ xs) = in_turn (one done x) (λ more. all one more xs)

-- what a call did: all that its stages mean, or it was cut off in one of them
pub record Does {A : Type 0} (stage : Stage A) (before now : Held) (counts counts' : Counts) (answer : Result A Refusal) : Type 0 where
  pub later : Later counts counts'
  pub how : stage.meant before now answer ⊎ ((e : Refusal) × (answer ≡ Err e) × stage.cut before now e × Caused counts counts' e)

-- an answer whose value is seen in plain form
abbrev pub given : {T A : Type 0} → (T → A) → Result T Refusal → Result A Refusal
given plain (Ok value) = Ok (plain value)
given plain (Err e) = Err e
