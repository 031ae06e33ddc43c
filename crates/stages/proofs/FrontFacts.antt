-- Stages that are cut off leave a front of what they mean.
use Rattle.std.proofs.Common.{◌≡◌, inl, inr, ℕ, List, [], ◌++◌, Option, Some, None, Result, Ok, Err, refl, sym, ap, ◌∙◌, subst, take, drop, append_assoc, append-nil, take-append-drop}
use Rattle.std.specs.Io.KnownBytes.{append_known}
use Rattle.refusals.specs.declared.refusal.Refusal.{Refusal}
use Rattle.stages.proofs.Relations.{Within, IsKept, KeepsLeft, CutsFront, Grows, OnceTo}
use Rattle.stages.specs.Files.{reading, writing}
use Rattle.stages.specs.Exact.{IsFront, Alike, LeftAlike}
use Rattle.stages.specs.Stage.{Stage, in_turn, judging, giving, printing}
use Rattle.stages.specs.World.{Held}
use Rattle.stages.proofs.Gives.{ok_once}
use Rattle.stages.proofs.Turns.{not_err}

pub appended_nothing : (o : Option (List ℕ)) → o ≡ append_known o []
appended_nothing None = refl
appended_nothing (Some x) = ap Some (sym (append-nil x))

pub appended_both : (o : Option (List ℕ)) (x y : List ℕ) → append_known (append_known o x) y ≡ append_known o (x ++ y)
appended_both None x y = refl
appended_both (Some o) x y = ap Some (append_assoc o x y)

pub front_kept : IsKept IsFront
front_kept = record {
  same = λ b. ([], appended_nothing b.out);
  along = λ b m n f g. (f.0 ++ g.0, g.1 ∙ (ap (λ o. append_known o g.0) f.1 ∙ appended_both b.out f.0 g.0));
}

pub front_same : (n m : Held) → m.out ≡ n.out → IsFront n m
front_same n m is = ([], is ∙ appended_nothing n.out)

left_told : (l k : Option (List ℕ)) → LeftAlike l k → (left : List ℕ) × (k ≡ Some left)
left_told None k alike = absurd alike
left_told (Some l) None alike = absurd alike
left_told (Some l) (Some k) alike = (k, refl)

pub left_kept : IsKept KeepsLeft
left_kept = record { same = λ b. refl; along = λ b m n e f. f ∙ e }

pub left_writing : (name bytes : List ℕ) → Within KeepsLeft (writing name bytes)
left_writing name bytes = record { by_meant = λ b n r m. m.1; by_cut = λ b n e m. m.1 }

pub left_printing : (text : List ℕ) → Within KeepsLeft (printing text)
left_printing text = record { by_meant = λ b n r m. ap (λ (h : Held). h.left) m.0; by_cut = λ b n e m. ap (λ (h : Held). h.left) m.1 }

pub grows_of : {A : Type 0} (stage : Stage A) → Within IsFront stage → Grows stage
grows_of stage within b n r left told meant = within.by_meant b n r meant

pub grows_turn : {A B : Type 0} (first : Stage A) (next : A → Stage B) → Within KeepsLeft first → Grows first → ((a : A) → Grows (next a)) → Grows (in_turn first next)
grows_turn {A} {B} first next keeps one two b n r left told meant = by meant
  where
    by : (in_turn first next).meant b n r → IsFront b n
    by (inl x) = one b n (Err x.0) left told x.1
    by (inr x) = front_kept.along b x.1 n (one b x.1 (Ok x.0) left told x.2) (two x.0 x.1 n r left (keeps.by_meant b x.1 (Ok x.0) x.2 ∙ told) x.3)

pub front_turn : {A B : Type 0} (first : Stage A) (next : A → Stage B) → OnceTo Alike first → CutsFront first → Within KeepsLeft first → ((a : A) → Grows (next a)) → ((a : A) → CutsFront (next a)) → CutsFront (in_turn first next)
front_turn {A} {B} first next once one keeps grows two b c n m e r alike cut meant = by cut meant
  where
    by : (in_turn first next).cut b n e → (in_turn first next).meant c m r → IsFront n m
    by (inl x) (inl y) = one b c n m e (Err y.0) alike x y.1
    by (inl x) (inr y) = front_kept.along n y.1 m (one b c n y.1 e (Ok y.0) alike x y.2) (let l = left_told b.left c.left alike.left_alike in grows y.0 y.1 m r l.0 (keeps.by_meant c y.1 (Ok y.0) y.2 ∙ l.1) y.3)
    by (inr x) (inl y) = not_err x.0 y.0 (sym (once b c x.1 m (Ok x.0) (Err y.0) alike x.2 y.1).0)
    by (inr x) (inr y) =
        let both = once b c x.1 y.1 (Ok x.0) (Ok y.0) alike x.2 y.2 in
        two y.0 x.1 y.1 n m e r both.1 (subst (λ (a : A). (next a).cut x.1 n e) (ok_once A x.0 y.0 both.0) x.3) y.3

pub front_judging : {A : Type 0} (P : Result A Refusal → Type 0) → CutsFront (judging P)
front_judging P b c n m e r alike cut meant = front_same n m (ap (λ (h : Held). h.out) meant.0 ∙ (sym alike.ends_alike.out_same ∙ sym (ap (λ (h : Held). h.out) cut.0)))

pub front_giving : {A : Type 0} (a : A) → CutsFront (giving a)
front_giving a b c n m e r alike cut meant = absurd cut

pub front_reading : (name : List ℕ) (limit : ℕ) → CutsFront (reading name limit)
front_reading name limit b c n m e r alike cut meant = front_same n m (ap (λ (h : Held). h.out) meant.0 ∙ (sym alike.ends_alike.out_same ∙ sym (ap (λ (h : Held). h.out) cut.0)))

pub front_writing : (name bytes : List ℕ) → CutsFront (writing name bytes)
front_writing name bytes b c n m e r alike cut meant = front_same n m (meant.2 ∙ (sym alike.ends_alike.out_same ∙ sym cut.2))

pub front_printing : (text : List ℕ) → CutsFront (printing text)
front_printing text b c n m e r alike cut meant =
    let front = take cut.0 text in
    let rest = drop cut.0 text in (
      rest,
      ap (λ (h : Held). h.out) meant.0 ∙ (ap (λ o. append_known o text) (sym alike.ends_alike.out_same)
          ∙ (ap (λ t. append_known b.out t) (sym (take-append-drop cut.0 text)) ∙ (sym (appended_both b.out front rest) ∙ ap (λ o. append_known o rest) (sym (ap (λ (h : Held). h.out) cut.1))))),
    )

-- the output grows
pub grows_printing : (text : List ℕ) → Within IsFront (printing text)
grows_printing text = record { by_meant = λ b n r m. (text, ap (λ (h : Held). h.out) m.0); by_cut = λ b n e m. (take m.0 text, ap (λ (h : Held). h.out) m.1) }

pub grows_writing : (name bytes : List ℕ) → Within IsFront (writing name bytes)
grows_writing name bytes = record { by_meant = λ b n r m. front_same b n m.2; by_cut = λ b n e m. front_same b n m.2 }
