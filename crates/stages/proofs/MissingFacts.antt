-- Stages that begin with the read of a file that isn't there.
use Rattle.std.proofs.Common.{◌≡◌, ◌⊎◌, inl, inr, ℕ, List, Option, Some, None, Result, Ok, Err, sym, ap, ◌∙◌}
use Rattle.mars_base.specs.declared.file.File.{File}
use Rattle.refusals.specs.Causes.{Counts, Caused}
use Rattle.refusals.specs.declared.refusal.Refusal.{Refusal}
use Rattle.refusals.specs.declared.refusal.Refusal.TheVariants as refusal
use Rattle.stages.specs.Files.{reading, IsMissing, FileGives, Whole, Missing, Long}
use Rattle.stages.specs.Stage.{Stage, Does, in_turn}
use Rattle.stages.specs.World.{Held}
use Rattle.stages.proofs.Relations.{AlwaysRefuses}
use Rattle.stages.proofs.Turns.{fails, err_once, not_err}

gives_missing : (held : Option (List File)) (name : List ℕ) (limit : ℕ) (r : Result (List ℕ) Refusal) → IsMissing held name → FileGives held name limit r → r ≡ Err (refusal.ReadFault (Some name))
gives_missing None name limit r missing gives = absurd missing
gives_missing (Some files) name limit r missing (Whole bytes ok file short) = absurd (let h : Some bytes ≡ None = sym file ∙ missing in cc)
gives_missing (Some files) name limit r missing (Missing none file) = none
gives_missing (Some files) name limit r missing (Long far file) = absurd (let h : Some file.0 ≡ None = sym file.1 ∙ missing in cc)

told : (held : Option (List File)) (name : List ℕ) (e : Refusal) → IsMissing held name → held ≡ None → (e ≡ refusal.Memory) ⊎ (e ≡ refusal.ReadFault (Some name))
told None name e missing none = absurd missing
told (Some files) name e missing none = absurd (cc)

pub missing_reading : (name : List ℕ) (limit : ℕ) (b : Held) → IsMissing b.files name → AlwaysRefuses b (refusal.ReadFault (Some name)) (reading name limit)
missing_reading name limit b missing = record { by_meant = λ n r m. gives_missing b.files name limit r missing m.1; by_cut = λ n e m. by e m.1 }
  where
    by : (e : Refusal) → (e ≡ refusal.Memory) ⊎ ((e ≡ refusal.ReadFault (Some name)) ⊎ ((b.files ≡ None) × (e ≡ refusal.TooLong (Some name)))) → (e ≡ refusal.Memory) ⊎ (e ≡ refusal.ReadFault (Some name))
    by e (inl memory) = inl memory
    by e (inr (inl fault)) = inr fault
    by e (inr (inr long)) = told b.files name e missing long.0

-- the stages after one that always refuses never come
pub refused_turn : {A B : Type 0} (b : Held) (f : Refusal) (first : Stage A) (next : A → Stage B) → AlwaysRefuses b f first → AlwaysRefuses b f (in_turn first next)
refused_turn {A} {B} b f first next one = record { by_meant = by_meant; by_cut = by_cut }
  where
    by_meant : (n : Held) (r : Result B Refusal) → (in_turn first next).meant b n r → r ≡ Err f
    by_meant n r (inl stop) = stop.2 ∙ ap (fails B) (err_once A stop.0 f (one.by_meant n (Err stop.0) stop.1))
    by_meant n r (inr go) = not_err go.0 f (sym (one.by_meant go.1 (Ok go.0) go.2))

    by_cut : (n : Held) (e : Refusal) → (in_turn first next).cut b n e → (e ≡ refusal.Memory) ⊎ (e ≡ f)
    by_cut n e (inl stop) = one.by_cut n e stop
    by_cut n e (inr go) = not_err go.0 f (sym (one.by_meant go.1 (Ok go.0) go.2))

pub refused_does : {A : Type 0} (f : Refusal) (stage : Stage A) {b n : Held} {c d : Counts} {r : Result A Refusal} → AlwaysRefuses b f stage → Does stage b n c d r → (r ≡ Err f) ⊎ (r ≡ Err refusal.Memory)
refused_does {A} f stage {b} {n} {c} {d} {r} always does = by does.how
  where
    cut : (e : Refusal) → r ≡ Err e → (e ≡ refusal.Memory) ⊎ (e ≡ f) → (r ≡ Err f) ⊎ (r ≡ Err refusal.Memory)
    cut e is (inl memory) = inr (is ∙ ap (fails A) memory)
    cut e is (inr fault) = inl (is ∙ ap (fails A) fault)

    by : stage.meant b n r ⊎ ((e : Refusal) × (r ≡ Err e) × stage.cut b n e × Caused c d e) → (r ≡ Err f) ⊎ (r ≡ Err refusal.Memory)
    by (inl meant) = inl (always.by_meant n r meant)
    by (inr stop) = cut stop.0 stop.1 (always.by_cut n stop.0 stop.2)
