-- A call that did sound stages left exactly what they mean.
use Rattle.std.proofs.Common.{◌≡◌, ◌⊎◌, inl, inr, Result, Err}
use Rattle.refusals.specs.Causes.{Counts, Caused}
use Rattle.refusals.specs.declared.refusal.Refusal.{Refusal}
use Rattle.stages.specs.Exact.{Exact, SameEnd, IsFront}
use Rattle.stages.specs.Stage.{Stage, Does}
use Rattle.stages.specs.World.{Held}
use Rattle.stages.proofs.Relations.{Lasts}

pub exact : {A : Type 0} (stage : Stage A) → Lasts stage → (b n : Held) (c d : Counts) (r : Result A Refusal) → Does stage b n c d r → Exact stage b n c d r
exact {A} stage lasts b n c d r does alike m s meant = by does.how
  where
    by : stage.meant b n r ⊎ ((e : Refusal) × (r ≡ Err e) × stage.cut b n e × Caused c d e) → ((r ≡ s) × SameEnd n m) ⊎ (((e : Refusal) × (r ≡ Err e) × Caused c d e) × IsFront n m)
    by (inl did) = inl (lasts.once b b n m r s alike did meant)
    by (inr cut) = inr ((cut.0, cut.1, cut.3), lasts.front b b n m cut.0 s alike cut.2 meant)
