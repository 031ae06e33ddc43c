-- The steps of a walk over prefixes.
use Rattle.std.proofs.Common.{◌≡◌, ℕ, zero, suc, ◌+◌, ◌-◌, ◌<◌, ◌≤◌, ◌⊎◌, inl, inr, Bool, true, false, List, [], ◌∷◌, ◌++◌, length, drop, Some, None, refl, sym, ap, ◌∙◌, subst, arith, length-append, ap₂, IsTrue, ◌↔◌}
use Rattle.std.specs.Prelude.{slice_get}
use Rattle.walks.specs.Walk.{walk, either}
use Rattle.decisions.specs.declared.problem.Problem.{Problem}
use Rattle.decisions.specs.declared.placed.Choice.{Choice}
use Rattle.decisions.specs.Decision.{Decision}
use Rattle.decisions.specs.Place.{place}
use Rattle.decisions.specs.Choices.{rules_of, choices, IsChoice}
use Rattle.reached.proofs.Members.{chosen}
use Rattle.reached.proofs.Decided.{decided_is}
use Rattle.passes.specs.declared.Ended.{Ended}
use Rattle.passes.specs.declared.Ended.TheVariants.{Found, Missing, Stopped}
use Rattle.passes.specs.Answers.{Answers}
use Rattle.passes.proofs.Going.{Going, whole_walk, going_found, going_missing, going_stopped, going_cut, going_end}
use Rattle.placement.specs.declared.cursor.Cursor.{Cursor}
use Rattle.placement.specs.Choosing.{IsLeft, GoesOn}
use Rattle.placement.specs.Held.{Held}

-- the first of what is left of a list
record First {A : Type 0} (xs : List A) (i : ℕ) (x : A) (rest : List A) : Type 0 where
  stands : slice_get xs i ≡ Some x
  next : rest ≡ drop (suc i) xs
  below : i < length xs

first_of : {A : Type 0} (xs : List A) (i : ℕ) (x : A) (rest : List A) → drop i xs ≡ x ∷ rest → First xs i x rest
first_of [] zero x rest h = absurd (cc)
first_of [] (suc i) x rest h = absurd (cc)
first_of (y ∷ xs) zero x rest h = let a : y ≡ x = cc in let b : xs ≡ rest = cc in record { stands = ap Some a; next = sym b; below = omega arith }
first_of (y ∷ xs) (suc i) x rest h = let f = first_of xs i x rest h in record { stands = f.stands; next = f.next; below = omega (arith, f.below) }

-- the choice of a rank, and what it places
pub record Pick (pr : Problem) (l : List Decision) (i j : ℕ) (choice : Choice) (after : Cursor) : Type 0 where
  pub decision : Decision
  pub rest : List Decision
  pub is : drop i (choices pr l) ≡ decision ∷ rest
  pub next : rest ≡ drop j (choices pr l)
  pub below : i < length (choices pr l)
  pub choice_is : IsChoice pr l choice
  pub placed : place pr l choice.job choice.unit ≡ Some decision
  pub left : IsLeft pr l after (drop j (choices pr l))

pub pick : (pr : Problem) (l : List Decision) (i j : ℕ) (choice : Choice) (after : Cursor) → j ≡ i + 1 → GoesOn pr l (drop i (choices pr l)) choice after → Pick pr l i j choice after
pick pr l i j choice after e g =
    let f = first_of (choices pr l) i g.decision g.rest g.is in
    let c = chosen pr l g.decision (i, f.stands) in
    let d = decided_is pr l c.job c.row.unit g.decision c.row.placed in
    let job : choice.job ≡ c.job = g.job ∙ d.job_is in
    let unit : choice.unit ≡ c.row.unit = g.unit ∙ d.unit_is in
    let s : suc i ≡ j = omega arith in
    let next : g.rest ≡ drop j (choices pr l) = f.next ∙ ap (λ n. drop n (choices pr l)) s in
    record {
      decision = g.decision;
      rest = g.rest;
      is = g.is;
      next = next;
      below = f.below;
      choice_is = record { rank = i; decision = g.decision; stands = f.stands; job = g.job; unit = g.unit };
      placed = ap₂ (λ x y. place pr l x y) job unit ∙ c.row.placed;
      left = subst (IsLeft pr l after) next g.left_is;
    }

-- the prefix n is the prefix h with the choice of rank i
pub record Stepped (h n : Held) (d : Decision) : Type 0 where
  pub problem : n.problem ≡ h.problem
  pub list : n.list ≡ h.list ++ d ∷ []

pub stepped : (h n : Held) (i j : ℕ) (choice : Choice) (after : Cursor) (p : Pick h.problem h.list i j choice after) → n.problem ≡ h.problem → ((d : Decision) → place h.problem h.list choice.job choice.unit ≡ Some d → n.list ≡ h.list ++ d ∷ []) → Stepped h n p.decision
stepped h n i j choice after p e f = record { problem = e; list = f p.decision p.placed }

-- one decision more leaves one less to make
pub nearer : (h n : Held) (d : Decision) → Stepped h n d → length h.list < length h.problem.works → length n.problem.works - length n.list < length h.problem.works - length h.list
nearer h n d s low =
    let a : length n.list ≡ length h.list + 1 = ap length s.list ∙ (simp length-append (omega arith)) in
    let b : length n.problem.works ≡ length h.problem.works = ap (λ (x : Problem). length x.works) s.problem in
    omega arith

moved : (h n : Held) (d : Decision) (j u limit x : ℕ) (m : List Decision) (r : Ended) → Stepped h n d → Answers (walk (rules_of n.problem) (length n.problem.works - length n.list) n.list j) n.list limit u x m r
    → Answers (whole_walk (rules_of h.problem) (length h.problem.works) (h.list ++ d ∷ []) j) (h.list ++ d ∷ []) limit u x m r
moved h n d j u limit x m r s a =
    let b : Answers (walk (rules_of h.problem) (length h.problem.works - length n.list) n.list j) n.list limit u x m r = subst (λ pr. Answers (walk (rules_of pr) (length pr.works - length n.list) n.list j) n.list limit u x m r) s.problem a in
    subst (λ l. Answers (walk (rules_of h.problem) (length h.problem.works - length l) l j) l limit u x m r) s.list b

-- the walk of the prefix
abbrev pub WalkAnswers : Held → (left limit from to : ℕ) → List Decision → Ended → Type 0
WalkAnswers h left limit from to m r = Answers (walk (rules_of h.problem) (length h.problem.works - length h.list) h.list left) h.list limit from to m r

abbrev pub Goes : Held → (left from rank to : ℕ) → Bool → Type 0
Goes h left from rank to cut = Going (rules_of h.problem) (length h.problem.works) h.list left from rank to (drop rank (choices h.problem h.list)) cut

at_pick : (h : Held) (k t i u j : ℕ) (cut : Bool) (choice : Choice) (after : Cursor) (p : Pick h.problem h.list i j choice after) → Goes h k t i u cut → Going (rules_of h.problem) (length h.problem.works) h.list k t i u (p.decision ∷ p.rest) cut
at_pick h k t i u j cut choice after p g = subst (λ cs. Going (rules_of h.problem) (length h.problem.works) h.list k t i u cs cut) p.is g

pub found_answers : (z h n : Held) (k t i j u x limit : ℕ) (cut : Bool) (choice : Choice) (after : Cursor) (m : List Decision) → h ≡ z → Goes h k t i u cut → (p : Pick h.problem h.list i j choice after) → Stepped h n p.decision → i ≤ k → WalkAnswers n (k - i) limit u x m Found → WalkAnswers z k limit t x m Found
found_answers z h n k t i j u x limit cut choice after m e g p s le a =
    subst (λ (y : Held). WalkAnswers y k limit t x m Found) e
    (going_found (rules_of h.problem) (length h.problem.works) h.list k t i u x limit cut p.decision p.rest m (at_pick h k t i u j cut choice after p g) le (moved h n p.decision (k - i) u limit x m Found s a))

pub stop_answers : (z h n : Held) (k t i j u x limit : ℕ) (cut : Bool) (choice : Choice) (after : Cursor) (m : List Decision) → h ≡ z → Goes h k t i u cut → (p : Pick h.problem h.list i j choice after) → Stepped h n p.decision → i ≤ k → WalkAnswers n (k - i) limit u x m Stopped → WalkAnswers z k limit t x m Stopped
stop_answers z h n k t i j u x limit cut choice after m e g p s le a =
    subst (λ (y : Held). WalkAnswers y k limit t x m Stopped) e
    (going_stopped (rules_of h.problem) (length h.problem.works) h.list k t i u x limit cut p.decision p.rest m (at_pick h k t i u j cut choice after p g) le (moved h n p.decision (k - i) u limit x m Stopped s a))

pub cut_answers : (z h : Held) (k t i j u limit : ℕ) (cut : Bool) (choice : Choice) (after : Cursor) → h ≡ z → Goes h k t i u cut → Pick h.problem h.list i j choice after → k < i → u ≤ limit → WalkAnswers z k limit t u h.list (Missing true)
cut_answers z h k t i j u limit cut choice after e g p lt le =
    subst (λ (y : Held). WalkAnswers y k limit t u h.list (Missing true)) e
    (going_cut (rules_of h.problem) (length h.problem.works) h.list k t i u limit cut p.decision p.rest (at_pick h k t i u j cut choice after p g) lt le)

pub end_answers : (z h : Held) (k t i u limit : ℕ) (cut : Bool) → h ≡ z → Goes h k t i u cut → drop i (choices h.problem h.list) ≡ [] → u ≤ limit → WalkAnswers z k limit t u h.list (Missing cut)
end_answers z h k t i u limit cut e g none le =
    subst (λ (y : Held). WalkAnswers y k limit t u h.list (Missing cut)) e
    (going_end (rules_of h.problem) (length h.problem.works) h.list k t i u limit cut (subst (λ cs. Going (rules_of h.problem) (length h.problem.works) h.list k t i u cs cut) none g) le)

pub missing_goes : (h n : Held) (k t i j u x limit : ℕ) (cut b : Bool) (choice : Choice) (after : Cursor) (m : List Decision) → Goes h k t i u cut → (p : Pick h.problem h.list i j choice after) → Stepped h n p.decision → i ≤ k → WalkAnswers n (k - i) limit u x m (Missing b) → j ≡ i + 1 → Goes h k t j x (either cut b)
missing_goes h n k t i j u x limit cut b choice after m g p s le a q =
    subst (λ cs. Going (rules_of h.problem) (length h.problem.works) h.list k t j x cs (either cut b)) p.next
    (going_missing (rules_of h.problem) (length h.problem.works) h.list k t i j u x limit cut b p.decision p.rest m (at_pick h k t i u j cut choice after p g) le (moved h n p.decision (k - i) u limit x m (Missing b) s a) q)

pub held_same : (a b : Held) → a.problem ≡ b.problem → a.list ≡ b.list → a ≡ b
held_same a b e f = ap₂ (λ p l. let h : Held = record { problem = p; list = l } in h) e f

pub restored : (h n m q : Held) (d : Decision) → Stepped h n d → m.problem ≡ n.problem → m.list ≡ n.list → q.problem ≡ m.problem → ((l : List Decision) (e : Decision) → m.list ≡ l ++ e ∷ [] → q.list ≡ l) → q ≡ h
restored h n m q d s a b c f = held_same q h (c ∙ (a ∙ s.problem)) (f h.list d (b ∙ s.list))

eq_or_below : (n m : ℕ) → n ≤ m → (n ≡ m) ⊎ (n < m)
eq_or_below n m h = grind arith

pub not_whole : (b : Bool) (n m : ℕ) → b ≡ false → (IsTrue b ↔ (n ≡ m)) → n ≤ m → n < m
not_whole b n m e f le = elim (eq_or_below n m le) [ inl h ↦ absurd (let g : b ≡ true = f.1 h in let k : true ≡ false = sym g ∙ e in cc) | inr h ↦ h ]

pub goes_moved : (h g : Held) (k t i j u x : ℕ) (a b : Bool) → g ≡ h → j ≡ i → x ≡ u → b ≡ a → Goes h k t i u a → Goes g k t j x b
goes_moved h g k t i j u x a b e n f d w = rw (e, n, f, d) w

pub left_moved : (h g : Held) (i j : ℕ) (c : Cursor) → g ≡ h → j ≡ i → IsLeft h.problem h.list c (drop i (choices h.problem h.list)) → IsLeft g.problem g.list c (drop j (choices g.problem g.list))
left_moved h g i j c e n w = rw (e, n) w
