-- What a part of the tree does, by recursion on the tree and on the stated bounds. The language is this
-- project's own. A break anywhere makes the whole broken.
use Rattle.std.specs.Prelude.{ℕ, zero, suc, ℤ, Bool, true, false, List, [], ◌∷◌, length, nat_eq, Option, Some, None, if◌then◌else◌, slice_set}
use Rattle.mars_base.specs.Word.{binary_of, unary_of, is_zero}
use Rattle.mars_base.specs.Store.{word_at, place_of, count_up}
use Rattle.mc_tree.specs.Tree.{Ex, Num, Var, Elem, Un, Bin, St, Assign, AssignAt, Invoke, When, Choice, Loop, Scoped, Count, Series, Bl, Nil, Then, Ls, NoLoop, OneLoop, Fn}

-- the words of all places, and the count of the innermost scope, after a statement
pub data After : Type 0 where
  Done : (cells : List ℤ) (count : ℕ) → After
  Broken : After

-- what follows a word, or a count, where there is one
abbrev pub then_word : Option ℤ → (ℤ → Option ℤ) → Option ℤ
then_word None go = None
then_word (Some v) go = go v

abbrev pub elem_at : List ℤ → Option ℕ → Option ℤ
elem_at cells None = None
elem_at cells (Some p) = Some (word_at cells p)

-- both words, the left one first
abbrev pub both : (ℤ → ℤ → Option ℤ) → Option ℤ → Option ℤ → Option ℤ
both f None o = None
both f (Some x) None = None
both f (Some x) (Some y) = f x y

-- the word of an expression; none where it breaks
abbrev pub value_of : Ex → List ℤ → Option ℤ
value_of (Num w) cells = Some w
value_of (Var c) cells = Some (word_at cells c)
value_of (Elem c n i) cells = then_word (value_of i cells) (λ v. elem_at cells (place_of c n v))
value_of (Un op a) cells = then_word (value_of a cells) (λ v. Some (unary_of op v))
value_of (Bin op l r) cells = both (binary_of op) (value_of l cells) (value_of r cells)

abbrev pub with_value : Option ℤ → (ℤ → After) → After
with_value None go = Broken
with_value (Some v) go = go v

abbrev pub with_count : Option ℕ → (ℕ → After) → After
with_count None go = Broken
with_count (Some v) go = go v

-- the first where the word is 0, and else the second
abbrev pub by_test : Bool → After → After → After
by_test true a b = a
by_test false a b = b

abbrev pub then_do : After → (List ℤ → ℕ → After) → After
then_do (Done cells m) go = go cells m
then_do Broken go = Broken

-- a scope's own count is gone after it
abbrev pub back_to : ℕ → After → After
back_to m (Done cells k) = Done cells m
back_to m Broken = Broken

-- at most n turns more of a loop
abbrev pub turns : ℕ → (List ℤ → Option ℤ) → (List ℤ → ℕ → After) → List ℤ → ℕ → After
turns zero test body cells m = with_value (test cells) (λ v. by_test (is_zero v) (Done cells m) Broken)
turns (suc n) test body cells m =
    with_value (test cells) (λ v. by_test (is_zero v) (Done cells m) (then_do (body cells m) (turns n test body)))

-- at most n turns more of a loop in a sequence, whose count is m and has the bound k
abbrev pub series_turns : ℕ → ℕ → (List ℤ → Option ℤ) → (List ℤ → After) → List ℤ → ℕ → After
series_turns zero k test body cells m = with_value (test cells) (λ v. by_test (is_zero v) (Done cells m) Broken)
series_turns (suc n) k test body cells m =
    with_value (test cells) (λ v. by_test (is_zero v) (Done cells m) (with_count (count_up m k) (λ j. then_do (body cells) (λ ds x. series_turns n k test body ds j))))

-- a function's answer, and the words after it
pub data Back : Type 0 where
  Answers : (cells : List ℤ) (word : ℤ) → Back
  Fails : Back

abbrev pub with_back : Back → (List ℤ → ℤ → After) → After
with_back Fails go = Broken
with_back (Answers cells v) go = go cells v

-- the words of arguments, left to right
abbrev pub also : Option (List ℤ) → ℤ → Option (List ℤ)
also None v = None
also (Some vs) v = Some (v ∷ vs)

abbrev pub first_then : Option ℤ → Option (List ℤ) → Option (List ℤ)
first_then None os = None
first_then (Some v) os = also os v

abbrev pub values_of : List Ex → List ℤ → Option (List ℤ)
values_of [] cells = Some []
values_of (e ∷ es) cells = first_then (value_of e cells) (values_of es cells)

abbrev pub with_values : Option (List ℤ) → (List ℤ → After) → After
with_values None go = Broken
with_values (Some vs) go = go vs

-- the parameters set, the last one first
abbrev pub set_all : List ℕ → List ℤ → List ℤ → List ℤ
set_all [] vs cells = cells
set_all (p ∷ ps) [] cells = cells
set_all (p ∷ ps) (v ∷ vs) cells = slice_set (set_all ps vs cells) p v

abbrev pub set_elem : Option ℕ → List ℤ → ℤ → ℕ → After
set_elem None cells v m = Broken
set_elem (Some p) cells v m = Done (slice_set cells p v) m

-- What a statement, a block and the loops of a sequence do. `params` are the places of a function's
-- parameters, and `run` is what a function does; a sequence's total stands in the count's place.
abbrev mutual
  pub does : (ℕ → List ℕ) → (ℕ → List ℤ → Back) → St → List ℤ → ℕ → After
  does params run (Assign c e) cells m = with_value (value_of e cells) (λ v. Done (slice_set cells c v) m)
  does params run (AssignAt c n i e) cells m = with_value (value_of i cells) (λ x. with_value (value_of e cells) (λ v. set_elem (place_of c n x) cells v m))
  does params run (Invoke c g args) cells m =
      with_values (values_of args cells) (λ vs. with_back (run g (set_all (params g) vs cells)) (λ ds v. Done (slice_set ds c v) m))
  does params run (When t a) cells m = with_value (value_of t cells) (λ v. by_test (is_zero v) (Done cells m) (all_do params run a cells m))
  does params run (Choice t a b) cells m = with_value (value_of t cells) (λ v. by_test (is_zero v) (all_do params run b cells m) (all_do params run a cells m))
  does params run (Loop c n t a) cells m = turns n (value_of t) (all_do params run a) cells m
  does params run (Scoped c n a) cells m = back_to m (all_do params run a cells 0)
  does params run (Count c n) cells m = with_count (count_up m n) (λ k. Done cells k)
  does params run (Series c n l) cells m = back_to m (series_do params run n l cells 0)

  pub all_do : (ℕ → List ℕ) → (ℕ → List ℤ → Back) → Bl → List ℤ → ℕ → After
  all_do params run Nil cells m = Done cells m
  all_do params run (Then s rest) cells m = then_do (does params run s cells m) (all_do params run rest)

  pub series_do : (ℕ → List ℕ) → (ℕ → List ℤ → Back) → ℕ → Ls → List ℤ → ℕ → After
  series_do params run k NoLoop cells m = Done cells m
  series_do params run k (OneLoop c n t a rest) cells m =
      then_do (series_turns n k (value_of t) (λ ds. all_do params run a ds 0) cells m) (series_do params run k rest)

-- a function's statements, and then its answer
abbrev pub answered : List ℤ → Option ℤ → Back
answered cells None = Fails
answered cells (Some v) = Answers cells v

abbrev pub answer_of : Ex → After → Back
answer_of e Broken = Fails
answer_of e (Done cells m) = answered cells (value_of e cells)

abbrev pub run_fn : (ℕ → List ℕ) → (ℕ → List ℤ → Back) → Fn → List ℤ → Back
run_fn params run f cells = answer_of f.answer (all_do params run f.body cells 0)

-- the functions, the last one first: each sees those before it in the text
abbrev pub run_all : (ℕ → List ℕ) → List Fn → ℕ → List ℤ → Back
run_all params [] g cells = Fails
run_all params (f ∷ fs) g cells = if nat_eq g (length fs) then run_fn params (run_all params fs) f cells else run_all params fs g cells

-- the parameters of the function of a number
abbrev pub params_at : List Fn → ℕ → List ℕ
params_at [] g = []
params_at (f ∷ fs) zero = f.params
params_at (f ∷ fs) (suc g) = params_at fs g
