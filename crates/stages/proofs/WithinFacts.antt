-- What a relation that each stage keeps says of all stages.
use Rattle.std.proofs.Common.{◌≡◌, ◌⊎◌, inl, inr, ℕ, List, Option, Some, None, Result, Ok, Err, refl, sym, ap, ◌∙◌, subst}
use Rattle.mars_base.specs.declared.file.File.{File}
use Rattle.mars_base.specs.Outside.{Refused, Wrote}
use Rattle.refusals.specs.declared.refusal.Refusal.{Refusal}
use Rattle.refusals.specs.declared.refusal.Refusal.TheVariants as refusal
use Rattle.stages.proofs.Relations.{Within, IsKept, Refuses, KeepsFiles, KeepsOthers, KeepsOut}
use Rattle.stages.specs.Files.{reading, writing, FileGives, Whole, Missing, Long}
use Rattle.stages.specs.Stage.{Stage, Does, in_turn, judging, giving, printing}
use Rattle.stages.specs.World.{Held}
use Rattle.refusals.specs.Causes.{Counts, Caused}
use Rattle.stages.proofs.Turns.{fails, err_once, not_err}

pub within_turn : {A B : Type 0} (R : Held → Held → Type 0) (first : Stage A) (next : A → Stage B) → IsKept R → Within R first → ((a : A) → Within R (next a)) → Within R (in_turn first next)
within_turn {A} {B} R first next kept one two = record { by_meant = by_meant; by_cut = by_cut }
  where
    by_meant : (b n : Held) (r : Result B Refusal) → (in_turn first next).meant b n r → R b n
    by_meant b n r (inl stop) = one.by_meant b n (Err stop.0) stop.1
    by_meant b n r (inr go) = kept.along b go.1 n (one.by_meant b go.1 (Ok go.0) go.2) ((two go.0).by_meant go.1 n r go.3)

    by_cut : (b n : Held) (e : Refusal) → (in_turn first next).cut b n e → R b n
    by_cut b n e (inl stop) = one.by_cut b n e stop
    by_cut b n e (inr go) = kept.along b go.1 n (one.by_meant b go.1 (Ok go.0) go.2) ((two go.0).by_cut go.1 n e go.3)

pub within_does : {A : Type 0} (R : Held → Held → Type 0) (stage : Stage A) {b n : Held} {c d : Counts} {r : Result A Refusal} → Within R stage → Does stage b n c d r → R b n
within_does {A} R stage {b} {n} {c} {d} {r} within does = by does.how
  where
    by : stage.meant b n r ⊎ ((e : Refusal) × (r ≡ Err e) × stage.cut b n e × Caused c d e) → R b n
    by (inl meant) = within.by_meant b n r meant
    by (inr cut) = within.by_cut b n cut.0 cut.2

same_then : (R : Held → Held → Type 0) (b n : Held) → IsKept R → n ≡ b → R b n
same_then R b n kept is = subst (λ (m : Held). R b m) (sym is) (kept.same b)

pub within_judging : {A : Type 0} (R : Held → Held → Type 0) (P : Result A Refusal → Type 0) → IsKept R → Within R (judging P)
within_judging R P kept = record { by_meant = λ b n r m. same_then R b n kept m.0; by_cut = λ b n e m. same_then R b n kept m.0 }

pub within_giving : {A : Type 0} (R : Held → Held → Type 0) (a : A) → IsKept R → Within R (giving a)
within_giving R a kept = record { by_meant = λ b n r m. same_then R b n kept m.0; by_cut = λ b n e m. absurd m }

pub within_reading : (R : Held → Held → Type 0) (name : List ℕ) (limit : ℕ) → IsKept R → Within R (reading name limit)
within_reading R name limit kept = record { by_meant = λ b n r m. same_then R b n kept m.0; by_cut = λ b n e m. same_then R b n kept m.0 }

-- the output
pub out_kept : IsKept KeepsOut
out_kept = record { same = λ b. refl; along = λ b m n e f. f ∙ e }

-- the files
pub files_kept : IsKept KeepsFiles
files_kept = record { same = λ b. refl; along = λ b m n e f. f ∙ e }

pub files_printing : (text : List ℕ) → Within KeepsFiles (printing text)
files_printing text = record { by_meant = λ b n r m. ap (λ (h : Held). h.files) m.0; by_cut = λ b n e m. ap (λ (h : Held). h.files) m.1 }

-- all files but one
others_same : (name : List ℕ) (f : Option (List File)) → Refused f f name
others_same name None = tt
others_same name (Some files) = λ other ne. refl

others_along : (name : List ℕ) (f g h : Option (List File)) → Refused f g name → Refused g h name → Refused f h name
others_along name None None None one two = tt
others_along name None None (Some h) one two = two
others_along name None (Some g) h one two = absurd one
others_along name (Some f) None h one two = absurd one
others_along name (Some f) (Some g) None one two = two
others_along name (Some f) (Some g) (Some h) one two = λ other ne. two other ne ∙ one other ne

pub others_kept : (name : List ℕ) → IsKept (KeepsOthers name)
others_kept name = record { same = λ b. others_same name b.files; along = λ b m n. others_along name b.files m.files n.files }

wrote_others : (name bytes : List ℕ) (f g : Option (List File)) → Wrote f g name bytes → Refused f g name
wrote_others name bytes None None wrote = tt
wrote_others name bytes None (Some g) wrote = wrote
wrote_others name bytes (Some f) None wrote = wrote
wrote_others name bytes (Some f) (Some g) wrote = wrote.1

pub others_writing : (name bytes : List ℕ) → Within (KeepsOthers name) (writing name bytes)
others_writing name bytes = record { by_meant = λ b n r m. wrote_others name bytes b.files n.files m.0; by_cut = λ b n e m. m.0 }

-- what keeps the files keeps all but one
pub others_of : {A : Type 0} (name : List ℕ) (stage : Stage A) → Within KeepsFiles stage → Within (KeepsOthers name) stage
others_of name stage within = record {
  by_meant = λ b n r m. subst (λ (f : Option (List File)). Refused b.files f name) (sym (within.by_meant b n r m)) (others_same name b.files);
  by_cut = λ b n e m. subst (λ (f : Option (List File)). Refused b.files f name) (sym (within.by_cut b n e m)) (others_same name b.files);
}

-- refusals
pub refuses_turn : {A B : Type 0} (P : Refusal → Type 0) (first : Stage A) (next : A → Stage B) → Refuses P first → ((a : A) → Refuses P (next a)) → Refuses P (in_turn first next)
refuses_turn {A} {B} P first next one two b n r e meant is = by meant
  where
    by : (in_turn first next).meant b n r → P e
    by (inl stop) = one b n (Err stop.0) e stop.1 (ap (fails A) (err_once B stop.0 e (sym stop.2 ∙ is)))
    by (inr go) = two go.0 go.1 n r e go.3 is

pub refuses_none : {A : Type 0} (P : Refusal → Type 0) (a : A) (r : Result A Refusal) (e : Refusal) → r ≡ Ok a → r ≡ Err e → P e
refuses_none P a r e ok is = not_err a e (sym is ∙ ok)

pub refuses_one : {A : Type 0} (P : Refusal → Type 0) (f : Refusal) (r : Result A Refusal) (e : Refusal) → P f → r ≡ Err f → r ≡ Err e → P e
refuses_one {A} P f r e holds one is = subst P (err_once A f e (sym one ∙ is)) holds

pub refuses_reading : (P : Refusal → Type 0) (name : List ℕ) (limit : ℕ) → P (refusal.ReadFault (Some name)) → P (refusal.TooLong (Some name)) → Refuses P (reading name limit)
refuses_reading P name limit missing long b n r e meant is = by meant.1
  where
    by : FileGives b.files name limit r → P e
    by (Whole bytes ok file short) = refuses_none P bytes r e ok is
    by (Missing none file) = refuses_one P (refusal.ReadFault (Some name)) r e missing none is
    by (Long far file) = refuses_one P (refusal.TooLong (Some name)) r e long far is

pub refuses_giving : {A : Type 0} (P : Refusal → Type 0) (a : A) → Refuses P (giving a)
refuses_giving P a b n r e meant is = refuses_none P a r e meant.1 is

pub refuses_printing : (P : Refusal → Type 0) (text : List ℕ) → Refuses P (printing text)
refuses_printing P text b n r e meant is = refuses_none P tt r e meant.1 is

pub refuses_writing : (P : Refusal → Type 0) (name bytes : List ℕ) → Refuses P (writing name bytes)
refuses_writing P name bytes b n r e meant is = refuses_none P tt r e meant.3 is
