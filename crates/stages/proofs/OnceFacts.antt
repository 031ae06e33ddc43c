-- Stages mean one answer.
use Rattle.std.proofs.Common.{◌≡◌, ◌≢◌, inl, inr, ℕ, List, length, Option, Some, None, Result, Ok, Err, Bool, true, false, refl, sym, ap, ◌∙◌, subst, arith}
use Rattle.std.specs.Io.KnownBytes.{append_known}
use Rattle.std.specs.Str.{bytes_eq}
use Rattle.std.proofs.lemmas.Slice.Eq.{bytes_eq-Decides}
use Rattle.mars_base.specs.declared.file.File.{File}
use Rattle.mars_base.specs.Outside.{file_at, Wrote}
use Rattle.refusals.specs.declared.refusal.Refusal.{Refusal}
use Rattle.stages.specs.Files.{reading, writing, FileGives, Whole, Missing, Long}
use Rattle.stages.specs.Exact.{FilesAlike, LeftAlike, SameEnd, Alike}
use Rattle.stages.proofs.Relations.{OnceTo, OneAnswer}
use Rattle.stages.specs.Stage.{Stage, in_turn, judging, giving, printing}
use Rattle.stages.specs.World.{Held}
use Rattle.stages.proofs.Gives.{ok_once}
use Rattle.stages.proofs.Turns.{fails, err_once, not_err}

-- one stage after another
pub once_turn : {A B : Type 0} (E : Held → Held → Type 0) (first : Stage A) (next : A → Stage B) → ((n m : Held) → Alike n m → E n m) → OnceTo Alike first → ((a : A) → OnceTo E (next a)) → OnceTo E (in_turn first next)
once_turn {A} {B} E first next sub one two b c n m r s alike left right = by left right
  where
    by : (in_turn first next).meant b n r → (in_turn first next).meant c m s → (r ≡ s) × E n m
    by (inl x) (inl y) =
        let both = one b c n m (Err x.0) (Err y.0) alike x.1 y.1 in
        (x.2 ∙ (ap (fails B) (err_once A x.0 y.0 both.0) ∙ sym y.2), sub n m both.1)
    by (inl x) (inr y) = not_err y.0 x.0 (one b c n y.1 (Err x.0) (Ok y.0) alike x.1 y.2).0
    by (inr x) (inl y) = not_err x.0 y.0 (sym (one b c x.1 m (Ok x.0) (Err y.0) alike x.2 y.1).0)
    by (inr x) (inr y) =
        let both = one b c x.1 y.1 (Ok x.0) (Ok y.0) alike x.2 y.2 in
        let same = ok_once A x.0 y.0 both.0 in
        two y.0 x.1 y.1 n m r s both.1 (subst (λ (a : A). (next a).meant x.1 n r) same x.3) y.3

pub alike_ends : (n m : Held) → Alike n m → SameEnd n m
alike_ends n m alike = alike.ends_alike

pub alike_same : (n m : Held) → Alike n m → Alike n m
alike_same n m alike = alike

pub once_last : {A : Type 0} (stage : Stage A) → OnceTo Alike stage → OnceTo SameEnd stage
once_last stage once b c n m r s alike left right = let both = once b c n m r s alike left right in (both.0, both.1.ends_alike)

moved : (b c n m : Held) → Alike b c → n ≡ b → m ≡ c → Alike n m
moved b c n m alike left right = subst (λ (x : Held). Alike x m) (sym left) (subst (λ (x : Held). Alike b x) (sym right) alike)

pub once_judging : {A : Type 0} (P : Result A Refusal → Type 0) → OneAnswer P → OnceTo Alike (judging P)
once_judging P one b c n m r s alike left right = (one r s left.1 right.1, moved b c n m alike left.0 right.0)

pub once_giving : {A : Type 0} (a : A) → OnceTo Alike (giving a)
once_giving a b c n m r s alike left right = (left.1 ∙ sym right.1, moved b c n m alike left.0 right.0)

-- a file gives one answer
some_once : (a b : List ℕ) → Some a ≡ Some b → a ≡ b
some_once a b is = cc

file_once : (f g : Option (List File)) (name : List ℕ) (limit : ℕ) (r s : Result (List ℕ) Refusal) → FilesAlike f g → FileGives f name limit r → FileGives g name limit s → r ≡ s
file_once None g name limit r s alike left right = absurd alike
file_once (Some x) None name limit r s alike left right = absurd alike
file_once (Some x) (Some y) name limit r s alike (Whole a ok file short) (Whole b fine is low) =
    ok ∙ (ap (λ z. Ok z) (some_once a b (sym file ∙ (alike name ∙ is))) ∙ sym fine)
file_once (Some x) (Some y) name limit r s alike (Whole a ok file short) (Missing none is) = absurd (let h : Some a ≡ None = sym file ∙ (alike name ∙ is) in cc)
file_once (Some x) (Some y) name limit r s alike (Whole a ok file short) (Long far is) = absurd (let h = ap length (some_once a is.0 (sym file ∙ (alike name ∙ is.1))) in let i = is.2 in omega (arith, h, i, short))
file_once (Some x) (Some y) name limit r s alike (Missing none is) (Whole b fine file low) = absurd (let h : Some b ≡ None = sym file ∙ (sym (alike name) ∙ is) in cc)
file_once (Some x) (Some y) name limit r s alike (Missing none is) (Missing none2 is2) = none ∙ sym none2
file_once (Some x) (Some y) name limit r s alike (Missing none is) (Long far is2) = absurd (let h : Some is2.0 ≡ None = sym is2.1 ∙ (sym (alike name) ∙ is) in cc)
file_once (Some x) (Some y) name limit r s alike (Long far is) (Whole b fine file low) = absurd (let h = ap length (some_once is.0 b (sym is.1 ∙ (alike name ∙ file))) in let i = is.2 in omega (arith, h, i, low))
file_once (Some x) (Some y) name limit r s alike (Long far is) (Missing none is2) = absurd (let h : Some is.0 ≡ None = sym is.1 ∙ (alike name ∙ is2) in cc)
file_once (Some x) (Some y) name limit r s alike (Long far is) (Long far2 is2) = far ∙ sym far2

pub once_reading : (name : List ℕ) (limit : ℕ) → OnceTo Alike (reading name limit)
once_reading name limit b c n m r s alike left right = (file_once b.files c.files name limit r s alike.ends_alike.files_alike left.1 right.1, moved b c n m alike left.0 right.0)

pub once_printing : (text : List ℕ) → OnceTo Alike (printing text)
once_printing text b c n m r s alike left right = (
  left.1 ∙ sym right.1,
  record {
    ends_alike = record {
      files_alike = subst (λ (x : Held). FilesAlike x.files m.files) (sym left.0) (subst (λ (x : Held). FilesAlike b.files x.files) (sym right.0) alike.ends_alike.files_alike);
      out_same = ap (λ (h : Held). h.out) left.0 ∙ (ap (λ o. append_known o text) alike.ends_alike.out_same ∙ sym (ap (λ (h : Held). h.out) right.0));
    };
    left_alike = subst (λ (x : Held). LeftAlike x.left m.left) (sym left.0) (subst (λ (x : Held). LeftAlike b.left x.left) (sym right.0) alike.left_alike);
  },
)

wrote_by : (d : Bool) (name other bytes : List ℕ) (x y v w : List File) → bytes_eq other name ≡ d → ((name : List ℕ) → file_at name x ≡ file_at name y) → Wrote (Some x) (Some v) name bytes → Wrote (Some y) (Some w) name bytes → file_at other v ≡ file_at other w
wrote_by true name other bytes x y v w e alike left right =
    let is = (bytes_eq-Decides other name).0 e in
    ap (λ z. file_at z v) is ∙ (left.0 ∙ (sym right.0 ∙ ap (λ z. file_at z w) (sym is)))
wrote_by false name other bytes x y v w e alike left right =
    let ne : other ≢ name = λ is. (let h = (bytes_eq-Decides other name).1 is in let k : true ≡ false = sym h ∙ e in cc) in
    left.1 other ne ∙ (alike other ∙ sym (right.1 other ne))

wrote_once : (f g v w : Option (List File)) (name bytes : List ℕ) → FilesAlike f g → Wrote f v name bytes → Wrote g w name bytes → FilesAlike v w
wrote_once None g v w name bytes alike left right = absurd alike
wrote_once (Some x) None v w name bytes alike left right = absurd alike
wrote_once (Some x) (Some y) None w name bytes alike left right = absurd left
wrote_once (Some x) (Some y) (Some v) None name bytes alike left right = absurd right
wrote_once (Some x) (Some y) (Some v) (Some w) name bytes alike left right = λ other. wrote_by (bytes_eq other name) name other bytes x y v w refl alike left right

pub once_writing : (name bytes : List ℕ) → OnceTo Alike (writing name bytes)
once_writing name bytes b c n m r s alike left right = (
  left.3 ∙ sym right.3,
  record {
    ends_alike = record {
      files_alike = wrote_once b.files c.files n.files m.files name bytes alike.ends_alike.files_alike left.0 right.0;
      out_same = left.2 ∙ (alike.ends_alike.out_same ∙ sym right.2);
    };
    left_alike = subst (λ (x : Option (List ℕ)). LeftAlike x m.left) (sym left.1) (subst (λ (x : Option (List ℕ)). LeftAlike b.left x) (sym right.1) alike.left_alike);
  },
)
