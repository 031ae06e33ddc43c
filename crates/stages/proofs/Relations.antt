-- What the lemmas say of stages. No contract cites these.
use Rattle.std.specs.Prelude.{◌≡◌, ◌⊎◌, ℕ, List, Some, Result, Err}
use Rattle.mars_base.specs.Outside.{Refused}
use Rattle.refusals.specs.declared.refusal.Refusal.{Refusal}
use Rattle.refusals.specs.declared.refusal.Refusal.TheVariants as refusal
use Rattle.stages.specs.Exact.{Alike, SameEnd, IsFront}
use Rattle.stages.specs.Stage.{Stage}
use Rattle.stages.specs.World.{Held}

-- what is held before and after every run of the stages, cut off or not, is so related
pub record Within {A : Type 0} (R : Held → Held → Type 0) (stage : Stage A) : Type 0 where
  pub by_meant : (b n : Held) (r : Result A Refusal) → stage.meant b n r → R b n
  pub by_cut : (b n : Held) (e : Refusal) → stage.cut b n e → R b n

-- a relation that is kept from stage to stage
pub record IsKept (R : Held → Held → Type 0) : Type 0 where
  pub same : (b : Held) → R b b
  pub along : (b m n : Held) → R b m → R m n → R b n

-- the files stay; the files but one; the input; the output
abbrev pub KeepsFiles : Held → Held → Type 0
KeepsFiles b n = n.files ≡ b.files

abbrev pub KeepsOthers : List ℕ → Held → Held → Type 0
KeepsOthers name b n = Refused b.files n.files name

abbrev pub KeepsLeft : Held → Held → Type 0
KeepsLeft b n = n.left ≡ b.left

abbrev pub KeepsOut : Held → Held → Type 0
KeepsOut b n = n.out ≡ b.out

-- all refusals that the stages mean are such
abbrev pub Refuses : {A : Type 0} → (Refusal → Type 0) → Stage A → Type 0
Refuses {A} P stage = (b n : Held) (r : Result A Refusal) (e : Refusal) → stage.meant b n r → r ≡ Err e → P e

-- from here on the stages always refuse so, or there was no memory
pub record AlwaysRefuses {A : Type 0} (b : Held) (f : Refusal) (stage : Stage A) : Type 0 where
  pub by_meant : (n : Held) (r : Result A Refusal) → stage.meant b n r → r ≡ Err f
  pub by_cut : (n : Held) (e : Refusal) → stage.cut b n e → (e ≡ refusal.Memory) ⊎ (e ≡ f)

-- from the same on, stages mean one answer, and what is held after is so related
abbrev pub OnceTo : {A : Type 0} → (Held → Held → Type 0) → Stage A → Type 0
OnceTo {A} E stage = (b c n m : Held) (r s : Result A Refusal) → Alike b c → stage.meant b n r → stage.meant c m s → (r ≡ s) × E n m

-- a judgement of one answer
abbrev pub OneAnswer : {A : Type 0} → (Result A Refusal → Type 0) → Type 0
OneAnswer {A} P = (r s : Result A Refusal) → P r → P s → r ≡ s

-- where the input is told, the stages only add to the output
abbrev pub Grows : {A : Type 0} → Stage A → Type 0
Grows {A} stage = (b n : Held) (r : Result A Refusal) (left : List ℕ) → b.left ≡ Some left → stage.meant b n r → IsFront b n

-- where the stages are cut off, a front of what they mean was put
abbrev pub CutsFront : {A : Type 0} → Stage A → Type 0
CutsFront {A} stage = (b c n m : Held) (e : Refusal) (r : Result A Refusal) → Alike b c → stage.cut b n e → stage.meant c m r → IsFront n m

-- A stage after which others come: it means one answer, leaves the input as it was, only adds to the output, and
-- where it is cut off a front of its text was put.
pub record Passes {A : Type 0} (stage : Stage A) : Type 0 where
  pub once : OnceTo Alike stage
  pub left : Within KeepsLeft stage
  pub grows : Within IsFront stage
  pub front : CutsFront stage

-- a last stage
pub record Lasts {A : Type 0} (stage : Stage A) : Type 0 where
  pub once : OnceTo SameEnd stage
  pub grows : Grows stage
  pub front : CutsFront stage
