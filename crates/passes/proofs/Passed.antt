-- The passes of a search, one after another.
use Rattle.std.proofs.Common.{◌≡◌, ℕ, zero, suc, ◌+◌, ◌-◌, ◌<◌, ◌≤◌, ◌⊎◌, inl, inr, Bool, true, false, List, [], length, Option, Some, None, Ok, Err, refl, sym, ◌∙◌, subst, arith}
use Rattle.walks.specs.First.{Rules, PrunesNone}
use Rattle.walks.specs.Walk.{walk, pass, Ends, EndsBy, nodes_below, IsLastPass}
use Rattle.walks.proofs.Passes.{is_first, has_none, has_last, cut_counts, not_ends, below_too}
use Rattle.passes.specs.declared.Ended.{Ended}
use Rattle.passes.specs.declared.Ended.TheVariants.{Found, Missing, Stopped}
use Rattle.passes.specs.declared.SearchFault.TheVariants.{Spent, NoTable}
use Rattle.passes.specs.Answers.{Answers, Searched}
use Rattle.passes.proofs.Going.{whole_walk}

-- before the pass b: the passes below it took the steps from t to u, and none of them ended the search
pub record Passed {C : Type 0} (ru : Rules C) (n b t u : ℕ) : Type 0 where
  pub taken : u ≡ t + nodes_below ru n b
  pub before : (a : ℕ) → a < b → Ends (pass ru n a) → ⊥
  pub grown : b + t ≤ u

pub passed_none : {C : Type 0} (ru : Rules C) (n t : ℕ) → Passed ru n 0 t t
passed_none ru n t = record { taken = omega arith; before = λ a h. absurd (omega arith); grown = omega arith }

-- the walk of the empty list is the pass
pub pass_answers : {C : Type 0} (ru : Rules C) (n : ℕ) (l : List C) (b limit t u : ℕ) (m : List C) (r : Ended) → l ≡ [] → Answers (whole_walk ru n l b) l limit t u m r → Answers (pass ru n b) [] limit t u m r
pass_answers ru n l b limit t u m r e a =
    let k : Answers (whole_walk ru n [] b) [] limit t u m r = subst (λ y. Answers (whole_walk ru n y b) y limit t u m r) e a in
    let z : n - 0 ≡ n = omega arith in
    subst (λ x. Answers (walk ru x [] b) [] limit t u m r) z k

ends_found : {C : Type 0} (x : Option (List C)) (b : Bool) (m : List C) → x ≡ Some m → EndsBy x b
ends_found (Some l) b m e = tt
ends_found None b m e = absurd (cc)

ends_uncut : {C : Type 0} (x : Option (List C)) (b : Bool) → b ≡ false → EndsBy x b
ends_uncut (Some l) b e = tt
ends_uncut None b e = e

pub found_searched : {C : Type 0} (ru : Rules C) (n b t u x budget limit : ℕ) (m : List C) → PrunesNone ru n → Passed ru n b t u → limit ≡ t + budget → Answers (pass ru n b) [] limit u x m Found → Searched ru n budget t x (Ok m)
found_searched ru n b t u x budget limit m o p e a =
    let l : IsLastPass ru n b = record { ends = ends_found (pass ru n b).list (pass ru n b).cut m a.0; before = p.before } in
    (nodes_below ru n (suc b), record { last = b; is_last = l; is = refl }, omega (arith, p.taken, a.1, a.2), omega (arith, p.taken, a.1), is_first ru n b m o l a.0)

pub none_searched : {C : Type 0} (ru : Rules C) (n b t u x budget limit : ℕ) (m : List C) (cut : Bool) → PrunesNone ru n → Passed ru n b t u → limit ≡ t + budget → cut ≡ false → Answers (pass ru n b) [] limit u x m (Missing cut) → Searched ru n budget t x (Err NoTable)
none_searched ru n b t u x budget limit m cut o p e f a =
    let l : IsLastPass ru n b = record { ends = ends_uncut (pass ru n b).list (pass ru n b).cut (a.1 ∙ f); before = p.before } in
    (nodes_below ru n (suc b), record { last = b; is_last = l; is = refl }, omega (arith, p.taken, a.2, a.3), omega (arith, p.taken, a.2), has_none ru n b o l a.0)

up_or : (a b : ℕ) → a ≤ suc b → (a ≡ suc b) ⊎ (a ≤ b)
up_or a b h = grind arith

nodes_rise : {C : Type 0} (ru : Rules C) (n a b : ℕ) → a ≤ b → nodes_below ru n a ≤ nodes_below ru n b
nodes_rise ru n a zero h = let e : a ≡ 0 = omega arith in rw e (omega arith)
nodes_rise ru n a (suc b) h = elim (up_or a b h) [
  | inl i ↦ rw i (omega arith)
  | inr i ↦ (let g = nodes_rise ru n a b i in omega arith)
]

below_or : (l b : ℕ) → (l < b) ⊎ (b ≤ l)
below_or l b = grind arith

least_last : {C : Type 0} (ru : Rules C) (n b l : ℕ) → ((a : ℕ) → a < b → Ends (pass ru n a) → ⊥) → IsLastPass ru n l → b ≤ l
least_last ru n b l h i = elim (below_or l b) [ inl g ↦ absurd (h l g i.ends) | inr g ↦ g ]

pub spent_searched : {C : Type 0} (ru : Rules C) (n most b t u x budget limit : ℕ) (m : List C) → ((l : List C) → length (ru.choices l) ≤ most) → Passed ru n b t u → limit ≡ t + budget → Answers (pass ru n b) [] limit u x m Stopped → Searched ru n budget t x (Err Spent)
spent_searched ru n most b t u x budget limit m few p e a =
    let l = has_last ru n most few in
    let g : b ≤ l.0 = least_last ru n b l.0 p.before l.1 in
    let r = nodes_rise ru n (suc b) (suc l.0) (omega arith) in
    (nodes_below ru n (suc l.0), record { last = l.0; is_last = l.1; is = refl }, omega (arith, p.taken, a.1), omega (arith, a.0))

pub passed_next : {C : Type 0} (ru : Rules C) (n b c t u x limit : ℕ) (m : List C) (cut : Bool) → Passed ru n b t u → c ≡ b + 1 → cut ≡ true → Answers (pass ru n b) [] limit u x m (Missing cut) → (u < x) × Passed ru n c t x
passed_next ru n b c t u x limit m cut p e f a =
    let w = pass ru n b in
    let g : w.cut ≡ true = a.1 ∙ f in
    let y = cut_counts ru n [] b g in
    let d : c ≡ suc b = omega arith in
    let q : Passed ru n (suc b) t x = record {
      taken = omega (arith, p.taken, a.2);
      before = below_too ru n b p.before (not_ends w.list w.cut a.0 g);
      grown = omega (arith, p.grown, a.2);
    } in
    (omega (arith, a.2), subst (λ z. Passed ru n z t x) (sym d) q)
