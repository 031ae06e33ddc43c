-- The passes of a search over a prefix.
use Rattle.std.proofs.Common.{◌≡◌, ℕ, ◌+◌, ◌*◌, ◌<◌, ◌≤◌, Bool, true, false, List, [], length, Ok, Err, refl, sym, ap, ◌∙◌, subst, arith}
use Rattle.decisions.specs.Decision.{Decision}
use Rattle.decisions.specs.Choices.{rules_of}
use Rattle.passes.specs.declared.Ended.{Ended}
use Rattle.passes.specs.declared.Ended.TheVariants.{Found, Missing, Stopped}
use Rattle.passes.specs.declared.SearchFault.TheVariants.{Spent, NoTable}
use Rattle.passes.specs.Answers.{Answers, Searched}
use Rattle.passes.proofs.Passed.{Passed, passed_none, pass_answers, found_searched, none_searched, spent_searched, passed_next}
use Rattle.reached.proofs.Prunes.{prunes_none, few_choices}
use Rattle.walks.specs.Walk.{pass}
use Rattle.placement.specs.Held.{Held}
use Rattle.search.proofs.Stepping.{WalkAnswers, held_same}

abbrev pub HasPassed : Held → (pass from to : ℕ) → Type 0
HasPassed h pass from to = Passed (rules_of h.problem) (length h.problem.works) pass from to

pub first_pass : (h : Held) (t : ℕ) → HasPassed h 0 t t
first_pass h t = passed_none (rules_of h.problem) (length h.problem.works) t

-- the walk of the empty prefix is the pass
pass_of : (z h : Held) (b limit t u : ℕ) (m : List Decision) (r : Ended) → z.list ≡ [] → h ≡ z → WalkAnswers h b limit t u m r → Answers (pass (rules_of z.problem) (length z.problem.works) b) [] limit t u m r
pass_of z h b limit t u m r empty e a =
    pass_answers (rules_of z.problem) (length z.problem.works) z.list b limit t u m r empty (subst (λ (x : Held). WalkAnswers x b limit t u m r) e a)

passed_of : (z h : Held) (b t u : ℕ) → h ≡ z → HasPassed h b t u → HasPassed z b t u
passed_of z h b t u e p = subst (λ (x : Held). HasPassed x b t u) e p

pub first_found : (z h : Held) (b t u x budget limit : ℕ) (m : List Decision) → z.list ≡ [] → h ≡ z → HasPassed h b t u → limit ≡ t + budget → WalkAnswers h b limit u x m Found → Searched (rules_of z.problem) (length z.problem.works) budget t x (Ok m)
first_found z h b t u x budget limit m empty e p l a =
    found_searched (rules_of z.problem) (length z.problem.works) b t u x budget limit m (prunes_none z.problem) (passed_of z h b t u e p) l (pass_of z h b limit u x m Found empty e a)

pub first_none : (z h : Held) (b t u x budget limit : ℕ) (m : List Decision) (cut : Bool) → z.list ≡ [] → h ≡ z → HasPassed h b t u → limit ≡ t + budget → cut ≡ false → WalkAnswers h b limit u x m (Missing cut) → Searched (rules_of z.problem) (length z.problem.works) budget t x (Err NoTable)
first_none z h b t u x budget limit m cut empty e p l f a =
    none_searched (rules_of z.problem) (length z.problem.works) b t u x budget limit m cut (prunes_none z.problem) (passed_of z h b t u e p) l f (pass_of z h b limit u x m (Missing cut) empty e a)

pub first_spent : (z h : Held) (b t u x budget limit : ℕ) (m : List Decision) → z.list ≡ [] → h ≡ z → HasPassed h b t u → limit ≡ t + budget → WalkAnswers h b limit u x m Stopped → Searched (rules_of z.problem) (length z.problem.works) budget t x (Err Spent)
first_spent z h b t u x budget limit m empty e p l a =
    spent_searched (rules_of z.problem) (length z.problem.works) (length z.problem.works * z.problem.round.units) b t u x budget limit m (few_choices z.problem) (passed_of z h b t u e p) l (pass_of z h b limit u x m Stopped empty e a)

-- the search goes on with the next pass
pub record GoesOnFrom (z n : Held) (c t u x limit : ℕ) : Type 0 where
  pub same : n ≡ z
  pub steps : u < x
  pub passed : HasPassed n c t x
  pub within : x ≤ limit

pub first_next : (z h n : Held) (b c t u x limit : ℕ) (cut : Bool) → z.list ≡ [] → h ≡ z → HasPassed h b t u → c ≡ b + 1 → cut ≡ true → n.problem ≡ h.problem → WalkAnswers h b limit u x n.list (Missing cut) → GoesOnFrom z n c t u x limit
first_next z h n b c t u x limit cut empty e p k f s a =
    let g = passed_next (rules_of z.problem) (length z.problem.works) b c t u x limit n.list cut (passed_of z h b t u e p) k f (pass_of z h b limit u x n.list (Missing cut) empty e a) in
    let same : n ≡ z = held_same n h s a.4 ∙ e in
    record { same = same; steps = g.0; passed = subst (λ (y : Held). HasPassed y c t x) (sym same) g.1; within = a.3 }
