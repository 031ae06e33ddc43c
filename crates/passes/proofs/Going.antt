-- The walk of a list, as far as it has come with the choices of the list.
use Rattle.std.proofs.Common.{◌≡◌, ℕ, suc, ◌+◌, ◌-◌, ◌<◌, ◌≤◌, Bool, true, false, leb, List, [], ◌∷◌, ◌++◌, length, Option, Some, None, refl, sym, ap, ◌∙◌, subst, arith, le-leb, length-append}
use Rattle.walks.specs.First.{Rules}
use Rattle.walks.specs.Walk.{Walked, either, followed, then_walk, over, expanded, walk}
use Rattle.passes.specs.declared.Ended.TheVariants.{Found, Missing, Stopped}
use Rattle.passes.specs.Answers.{Answers}

-- the walk of a list of the n decisions to be made
abbrev pub whole_walk : {C : Type 0} → Rules C → (n : ℕ) → List C → ℕ → Walked C
whole_walk ru n l k = walk ru (n - length l) l k

-- the walks of a list's choices from the rank i on
abbrev pub rest_walk : {C : Type 0} → Rules C → (n : ℕ) → List C → (k i : ℕ) → List C → Walked C
rest_walk ru n l k i cs = over (walk ru (n - suc (length l))) l k i cs

-- the walk full is what was done so far, in the steps from t to u, and then the walk rest
pub record SoFar {C : Type 0} (full rest : Walked C) (t u : ℕ) (done : Bool) : Type 0 where
  pub list : full.list ≡ rest.list
  pub count : t + full.count ≡ u + rest.count
  pub cut : full.cut ≡ either done rest.cut

-- the walk of l is what was done so far, and then the walks of the choices cs, the first of which has the rank i
pub record Going {C : Type 0} (ru : Rules C) (n : ℕ) (l : List C) (k t i u : ℕ) (cs : List C) (cut : Bool) : Type 0 where
  pub so_far : SoFar (whole_walk ru n l k) (rest_walk ru n l k i cs) t u cut

over_taken : {C : Type 0} (f : List C → ℕ → Walked C) (l : List C) (k i : ℕ) (e : C) (cs : List C) → i ≤ k → over f l k i (e ∷ cs) ≡ then_walk (f (l ++ e ∷ []) (k - i)) (over f l k (suc i) cs)
over_taken f l k i e cs h = let b : leb i k ≡ true = le-leb i k h in rw b refl

-- choices whose ranks are too great
record AllCut {C : Type 0} (w : Walked C) : Type 0 where
  list : w.list ≡ None
  count : w.count ≡ 0

over_cut : {C : Type 0} (f : List C → ℕ → Walked C) (l : List C) (k i : ℕ) (cs : List C) → k < i → AllCut (over f l k i cs)
over_cut f l k i [] h = record { list = refl; count = refl }
over_cut f l k i (e ∷ cs) h =
    let b : leb i k ≡ false = grind arith in
    let g = over_cut f l k (suc i) cs (omega arith) in
    rw b (record { list = g.list; count = omega (arith, g.count) })

first_cut : {C : Type 0} (f : List C → ℕ → Walked C) (l : List C) (k i : ℕ) (e : C) (cs : List C) → k < i → (over f l k i (e ∷ cs)).cut ≡ true
first_cut f l k i e cs h = let b : leb i k ≡ false = grind arith in rw b refl

either_false : (b : Bool) → either b false ≡ b
either_false true = refl
either_false false = refl

either_true : (b : Bool) → either b true ≡ true
either_true true = refl
either_true false = refl

either_assoc : (a b c : Bool) → either a (either b c) ≡ either (either a b) c
either_assoc true b c = refl
either_assoc false b c = refl

whole_is : {C : Type 0} (ru : Rules C) (n : ℕ) (l : List C) (k : ℕ) → ru.pruned l ≡ false → length l < n → whole_walk ru n l k ≡ expanded (rest_walk ru n l k 0 (ru.choices l))
unfolding walk
whole_is ru n l k p h = let e : n - length l ≡ suc (n - suc (length l)) = omega arith in rw (e, p) refl

pub going_start : {C : Type 0} (ru : Rules C) (n : ℕ) (l : List C) (k t u : ℕ) → ru.pruned l ≡ false → length l < n → u ≡ t + 1 → Going ru n l k t 0 u (ru.choices l) false
going_start ru n l k t u p h e =
    record { so_far = rw (whole_is ru n l k p h) (record { list = refl; count = omega arith; cut = refl }) }

pub going_end : {C : Type 0} (ru : Rules C) (n : ℕ) (l : List C) (k t i u limit : ℕ) (cut : Bool) → Going ru n l k t i u [] cut → u ≤ limit → Answers (whole_walk ru n l k) l limit t u l (Missing cut)
going_end ru n l k t i u limit cut g le = let s = g.so_far in (s.list, s.cut ∙ either_false cut, omega (arith, s.count), le, refl)

pub going_cut : {C : Type 0} (ru : Rules C) (n : ℕ) (l : List C) (k t i u limit : ℕ) (cut : Bool) (e : C) (cs : List C) → Going ru n l k t i u (e ∷ cs) cut → k < i → u ≤ limit → Answers (whole_walk ru n l k) l limit t u l (Missing true)
going_cut ru n l k t i u limit cut e cs g lt le =
    let s = g.so_far in
    let a = over_cut (walk ru (n - suc (length l))) l k i (e ∷ cs) lt in
    let c = first_cut (walk ru (n - suc (length l))) l k i e cs lt in
    (s.list ∙ a.list, s.cut ∙ (ap (either cut) c ∙ either_true cut), omega (arith, s.count, a.count), le, refl)

-- the walk of the list with the choice e
abbrev pub next_walk : {C : Type 0} → Rules C → (n : ℕ) → List C → (k i : ℕ) → C → Walked C
next_walk ru n l k i e = whole_walk ru n (l ++ e ∷ []) (k - i)

taken_at : {C : Type 0} (ru : Rules C) (n : ℕ) (l : List C) (k i : ℕ) (e : C) (cs : List C) → i ≤ k → rest_walk ru n l k i (e ∷ cs) ≡ then_walk (next_walk ru n l k i e) (rest_walk ru n l k (suc i) cs)
taken_at ru n l k i e cs le =
    let a : n - length (l ++ e ∷ []) ≡ n - suc (length l) = simp length-append (omega arith) in
    over_taken (walk ru (n - suc (length l))) l k i e cs le
    ∙ ap (λ x. then_walk (walk ru x (l ++ e ∷ []) (k - i)) (rest_walk ru n l k (suc i) cs)) (sym a)

-- the same, where the walk of that list has the list x
so_taken : {C : Type 0} (ru : Rules C) (n : ℕ) (l : List C) (k t i u : ℕ) (cut : Bool) (e : C) (cs : List C) (x : Option (List C)) → Going ru n l k t i u (e ∷ cs) cut → i ≤ k → (next_walk ru n l k i e).list ≡ x → SoFar (whole_walk ru n l k) (followed x (next_walk ru n l k i e) (rest_walk ru n l k (suc i) cs)) t u cut
so_taken ru n l k t i u cut e cs x g le y =
    subst (λ w. SoFar (whole_walk ru n l k) w t u cut)
    (taken_at ru n l k i e cs le ∙ ap (λ z. followed z (next_walk ru n l k i e) (rest_walk ru n l k (suc i) cs)) y) g.so_far

so_missing : {C : Type 0} (full v w : Walked C) (t u x : ℕ) (cut b : Bool) → SoFar full (followed None v w) t u cut → x ≡ u + v.count → v.cut ≡ b → SoFar full w t x (either cut b)
so_missing full v w t u x cut b s a e = record { list = s.list; count = omega (arith, s.count); cut = s.cut ∙ (rw e (either_assoc cut b w.cut)) }

pub going_missing : {C : Type 0} (ru : Rules C) (n : ℕ) (l : List C) (k t i j u x limit : ℕ) (cut b : Bool) (e : C) (cs m : List C) → Going ru n l k t i u (e ∷ cs) cut → i ≤ k → Answers (next_walk ru n l k i e) (l ++ e ∷ []) limit u x m (Missing b) → j ≡ i + 1 → Going ru n l k t j x cs (either cut b)
going_missing ru n l k t i j u x limit cut b e cs m g le a q =
    let s = so_missing (whole_walk ru n l k) (next_walk ru n l k i e) (rest_walk ru n l k (suc i) cs) t u x cut b (so_taken ru n l k t i u cut e cs None g le a.0) a.2 a.1 in
    let r : suc i ≡ j = omega arith in
    record { so_far = subst (λ y. SoFar (whole_walk ru n l k) (rest_walk ru n l k y cs) t x (either cut b)) r s }

pub going_found : {C : Type 0} (ru : Rules C) (n : ℕ) (l : List C) (k t i u x limit : ℕ) (cut : Bool) (e : C) (cs m : List C) → Going ru n l k t i u (e ∷ cs) cut → i ≤ k → Answers (next_walk ru n l k i e) (l ++ e ∷ []) limit u x m Found → Answers (whole_walk ru n l k) l limit t x m Found
going_found ru n l k t i u x limit cut e cs m g le a =
    let s = so_taken ru n l k t i u cut e cs (Some m) g le a.0 in
    (s.list ∙ a.0, omega (arith, s.count, a.1), a.2)

most_followed : {C : Type 0} (y : Option (List C)) (v w : Walked C) → v.count ≤ (followed y v w).count
most_followed (Some m) v w = omega arith
most_followed None v w = omega arith

pub going_stopped : {C : Type 0} (ru : Rules C) (n : ℕ) (l : List C) (k t i u x limit : ℕ) (cut : Bool) (e : C) (cs m : List C) → Going ru n l k t i u (e ∷ cs) cut → i ≤ k → Answers (next_walk ru n l k i e) (l ++ e ∷ []) limit u x m Stopped → Answers (whole_walk ru n l k) l limit t x m Stopped
going_stopped ru n l k t i u x limit cut e cs m g le a =
    let s = so_taken ru n l k t i u cut e cs (next_walk ru n l k i e).list g le refl in
    let c = most_followed (next_walk ru n l k i e).list (next_walk ru n l k i e) (rest_walk ru n l k (suc i) cs) in
    (a.0, omega (arith, s.count, a.1, c))
