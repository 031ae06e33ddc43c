-- What the parts of a checked task keep, for inductions over its tree.
use Rattle.std.proofs.Common.{◌≡◌, ℕ, zero, suc, ◌+◌, ◌<◌, ◌≤◌, List, [], ◌∷◌, ◌++◌, length, Some, refl, sym, ap, subst, arith, inl, inr}
use Rattle.std.specs.Prelude.{map, slice_get, slice_index_or}
use Rattle.std.specs.List.{All, Contains}
use Rattle.std.proofs.lemmas.List.Elements.{Contains-append_left, Contains-append_right, Contains-append_cases}
use Rattle.mc_tree.specs.declared.tree.Cell.{Cell}
use Rattle.mc_tree.specs.Tree.{Ex, Num, Var, Elem, Un, Bin, St, Assign, AssignAt, Invoke, When, Choice, Loop, Scoped, Count, Series, Bl, Nil, Then, Ls, NoLoop, OneLoop, Fn, Tree}
use Rattle.mc_tree.specs.Meaning.{params_at}
use Rattle.mc_tree.specs.Counters.{Counted, CountedB, CountedL, CountedF}
use Rattle.mc_tree.specs.Sound.{IsCell, SoundE, SoundTest, Sound, SoundB, SoundL}
use Rattle.mc_tree.specs.Checked.{Placed, words_in, FnChecked, Routines, IsChecked}

-- a cell's words lie between the first place and the end
contained_within : (cells : List Cell) (lo : ℕ) → Placed lo cells → (k : ℕ) (c : Cell) → k < length cells → slice_index_or cells k c ≡ c → c.place + c.width ≤ lo + words_in cells
contained_within [] lo h k c lt e = absurd (omega arith)
contained_within (d ∷ cells) lo h zero c lt e =
    let p = ap (λ (x : Cell). x.place) e in
    let w = ap (λ (x : Cell). x.width) e in
    omega (arith, h.0, p, w)
contained_within (d ∷ cells) lo h (suc k) c lt e =
    let r = contained_within cells (lo + d.width) h.1 k c (omega arith) e in
    omega (arith, r)

pub cell_within : (cells : List Cell) → Placed 0 cells → (p n : ℕ) → IsCell cells p n → p + n ≤ words_in cells
cell_within cells h p n is =
    let r = contained_within cells 0 h is.1.0 is.0 is.1.1 is.1.2 in
    omega (arith, r, is.2, is.3)

-- every cell of the first list is in the second
abbrev pub Within : List Cell → List Cell → Type 0
Within seen more = (c : Cell) → Contains seen c → Contains more c

-- what is sound over some cells is so over more
module _ (seen more : List Cell) (w : Within seen more) where
  pub cell_in : (p n : ℕ) → IsCell seen p n → IsCell more p n
  cell_in p n h = (h.0, w h.0 h.1, h.2, h.3)

  pub sound_in_e : (e : Ex) → SoundE seen e → SoundE more e
  sound_in_e (Num v) h = h
  sound_in_e (Var p) h = cell_in p 1 h
  sound_in_e (Elem p n i) h = ((cell_in p n h.0.0, h.0.1), sound_in_e i h.1)
  sound_in_e (Un op a) h = sound_in_e a h
  sound_in_e (Bin op l r) h = (sound_in_e l h.0, sound_in_e r h.1)

  pub sound_in_test : (e : Ex) → SoundTest seen e → SoundTest more e
  sound_in_test e h = (sound_in_e e h.0, h.1)

  mutual
    pub sound_in : (s : St) → Sound seen s → Sound more s
    sound_in (Assign p e) h = (cell_in p 1 h.0, sound_in_test e h.1)
    sound_in (AssignAt p n i e) h = ((cell_in p n h.0.0, h.0.1), sound_in_e i h.1, sound_in_e e h.2, h.3)
    sound_in (Invoke p g args) h = (cell_in p 1 h.0, (λ k d lt. sound_in_e (slice_index_or args k d) (h.1 k d lt)), h.2)
    sound_in (When t a) h = (sound_in_test t h.0, sound_in_b a h.1)
    sound_in (Choice t a b) h = (sound_in_test t h.0, sound_in_b a h.1, sound_in_b b h.2)
    sound_in (Loop c n t a) h = (h.0, sound_in_test t h.1, sound_in_b a h.2)
    sound_in (Scoped c n a) h = (h.0, sound_in_b a h.1)
    sound_in (Count c n) h = h
    sound_in (Series c n l) h = (h.0, sound_in_l l h.1)

    pub sound_in_b : (b : Bl) → SoundB seen b → SoundB more b
    sound_in_b Nil h = tt
    sound_in_b (Then s rest) h = (sound_in s h.0, sound_in_b rest h.1)

    pub sound_in_l : (l : Ls) → SoundL seen l → SoundL more l
    sound_in_l NoLoop h = tt
    sound_in_l (OneLoop c n t a rest) h = (h.0, sound_in_test t h.1, sound_in_b a h.2, sound_in_l rest h.3)

-- a function whose cells are among these
pub record FnSound (cells : List Cell) (f : Fn) : Type 0 where
  pub params : All (λ (p : ℕ). IsCell cells p 1) f.params
  pub body : SoundB cells f.body
  pub answer : SoundTest cells f.answer

fn_in : (seen more : List Cell) → Within seen more → (f : Fn) → FnSound seen f → FnSound more f
fn_in seen more w f h = record {
  params = λ k d lt. cell_in seen more w (slice_index_or f.params k d) 1 (h.params k d lt);
  body = sound_in_b seen more w f.body h.body;
  answer = sound_in_test seen more w f.answer h.answer;
}

-- the place of a cell of one word
mapped : (all cells : List Cell) → ((c : Cell) → Contains cells c → Contains all c) → All (λ (c : Cell). c.width ≡ 1) cells → All (λ (p : ℕ). IsCell all p 1) (map (λ (c : Cell). c.place) cells)
mapped all [] w ones k d lt = absurd (omega arith)
mapped all (c ∷ cells) w ones zero d lt = (c, w c (0, omega arith, refl), refl, ones 0 c (omega arith))
mapped all (c ∷ cells) w ones (suc k) d lt =
    mapped all cells (λ x h. w x (suc h.0, omega (arith, h.1), h.2)) (λ j x lt. ones (suc j) x (omega arith)) k d (omega arith)

-- the first of three lists, and the first and third
left_in : (globals a rest : List Cell) → Within (globals ++ a) (globals ++ (a ++ rest))
left_in globals a rest c h =
    elim (Contains-append_cases globals a c h) [ inl x ↦ Contains-append_left globals (a ++ rest) c x | inr y ↦ Contains-append_right globals (a ++ rest) c (Contains-append_left a rest c y) ]

right_in : (globals a rest : List Cell) → Within (globals ++ rest) (globals ++ (a ++ rest))
right_in globals a rest c h =
    elim (Contains-append_cases globals rest c h) [ inl x ↦ Contains-append_left globals (a ++ rest) c x | inr y ↦ Contains-append_right globals (a ++ rest) c (Contains-append_right a rest c y) ]

params_in : (globals params locals : List Cell) (f : Fn) → FnChecked globals params locals f → FnSound (globals ++ (params ++ locals)) f
params_in globals params locals f h = record {
  params = subst (λ ps. All (λ (p : ℕ). IsCell (globals ++ (params ++ locals)) p 1) ps) (sym h.places)
      (mapped (globals ++ (params ++ locals)) params (λ c x. Contains-append_right globals (params ++ locals) c (Contains-append_left params locals c x)) h.words);
  body = h.body;
  answer = h.answer;
}

-- the function of a number, over all cells from its own on
routine_at : (globals cells : List Cell) (fs : List Fn) (body : Bl) → Routines globals cells fs body → (g : ℕ) (f : Fn) → slice_get fs g ≡ Some f → FnSound (globals ++ cells) f
routine_at globals cells [] body h g f e = absurd (let x : ⊥ = cc in x)
routine_at globals cells (x ∷ fs) body h zero f e =
    let is : x ≡ f = cc in
    subst (λ y. FnSound (globals ++ cells) y) is (subst (λ cs. FnSound (globals ++ cs) x) (sym h.3)
    (fn_in _ _ (left_in globals (h.0 ++ h.1) h.2) x (params_in globals h.0 h.1 x h.4)))
routine_at globals cells (x ∷ fs) body h (suc g) f e =
    subst (λ cs. FnSound (globals ++ cs) f) (sym h.3) (fn_in _ _ (right_in globals (h.0 ++ h.1) h.2) f (routine_at globals h.2 fs body h.5 g f e))

body_at : (globals cells : List Cell) (fs : List Fn) (body : Bl) → Routines globals cells fs body → SoundB (globals ++ cells) body
body_at globals cells [] body h = h.1
body_at globals cells (x ∷ fs) body h =
    subst (λ cs. SoundB (globals ++ cs) body) (sym h.3) (sound_in_b _ _ (right_in globals (h.0 ++ h.1) h.2) body (body_at globals h.2 fs body h.5))

-- the body of a checked task, and its functions, over all its cells
pub checked_body : (t : Tree) → IsChecked t → SoundB t.cells t.body
checked_body t h = subst (λ cs. SoundB cs t.body) (sym h.declared) (body_at h.globals h.locals t.funcs t.body h.routines)

pub checked_fn : (t : Tree) → IsChecked t → (g : ℕ) (f : Fn) → slice_get t.funcs g ≡ Some f → FnSound t.cells f
checked_fn t h g f e = subst (λ cs. FnSound cs f) (sym h.declared) (routine_at h.globals h.locals t.funcs t.body h.routines g f e)

-- each named cell lies in the words of the task
pub checked_cell : (t : Tree) → IsChecked t → (p n : ℕ) → IsCell t.cells p n → p + n ≤ words_in t.cells
checked_cell t h p n is = cell_within t.cells h.placed p n is

-- counters rise
mutual
  pub counted_up : (params : ℕ → List ℕ) (cur sc kb lo : ℕ) (s : St) (hi : ℕ) → Counted params cur sc kb lo s hi → lo ≤ hi
  counted_up params cur sc kb lo (Assign p e) hi h = omega arith
  counted_up params cur sc kb lo (AssignAt p n i e) hi h = omega arith
  counted_up params cur sc kb lo (Invoke p g args) hi h = omega (arith, h.0)
  counted_up params cur sc kb lo (When t a) hi h = counted_up_b params cur sc kb lo a hi h
  counted_up params cur sc kb lo (Choice t a b) hi h =
      omega (arith, counted_up_b params cur sc kb lo a h.0 h.1, counted_up_b params cur sc kb h.0 b hi h.2)
  counted_up params cur sc kb lo (Loop c n t a) hi h = omega (arith, counted_up_b params cur sc kb (suc lo) a hi h.1)
  counted_up params cur sc kb lo (Scoped c n a) hi h = omega (arith, counted_up_b params cur (suc lo) n (suc lo) a hi h.1)
  counted_up params cur sc kb lo (Count c n) hi h = omega (arith, h.0)
  counted_up params cur sc kb lo (Series c n l) hi h = omega (arith, counted_up_l params cur (suc lo) l hi h.1)

  pub counted_up_b : (params : ℕ → List ℕ) (cur sc kb lo : ℕ) (b : Bl) (hi : ℕ) → CountedB params cur sc kb lo b hi → lo ≤ hi
  counted_up_b params cur sc kb lo Nil hi h = omega arith
  counted_up_b params cur sc kb lo (Then s rest) hi h =
      omega (arith, counted_up params cur sc kb lo s h.0 h.1, counted_up_b params cur sc kb h.0 rest hi h.2)

  pub counted_up_l : (params : ℕ → List ℕ) (cur lo : ℕ) (l : Ls) (hi : ℕ) → CountedL params cur lo l hi → lo ≤ hi
  counted_up_l params cur lo NoLoop hi h = omega arith
  counted_up_l params cur lo (OneLoop c n t a rest) hi h =
      omega (arith, counted_up_b params cur 0 0 (suc lo) a h.0 h.2, counted_up_l params cur h.0 rest hi h.3)

pub counted_up_f : (params : ℕ → List ℕ) (cur lo : ℕ) (fs : List Fn) (hi : ℕ) → CountedF params cur lo fs hi → lo ≤ hi
counted_up_f params cur lo [] hi h = omega arith
counted_up_f params cur lo (f ∷ fs) hi h = omega (arith, counted_up_b params cur 0 0 lo f.body h.0 h.1, counted_up_f params (suc cur) h.0 fs hi h.2)

-- the counters of one function: from `from` up to `upto`, which lie among those of all
pub record FnCounters (params : ℕ → List ℕ) (g lo hi : ℕ) (f : Fn) : Type 0 where
  pub from : ℕ
  pub upto : ℕ
  pub counted : CountedB params g 0 0 from f.body upto
  pub above : lo ≤ from
  pub below : upto ≤ hi

counted_at : (params : ℕ → List ℕ) (cur lo : ℕ) (fs : List Fn) (hi : ℕ) → CountedF params cur lo fs hi → (g : ℕ) (f : Fn) → slice_get fs g ≡ Some f → FnCounters params (cur + g) lo hi f
counted_at params cur lo [] hi h g f e = absurd (let x : ⊥ = cc in x)
counted_at params cur lo (x ∷ fs) hi h zero f e =
    let is : x ≡ f = cc in
    let n : cur ≡ cur + 0 = omega arith in
    subst (λ y. FnCounters params (cur + 0) lo hi y) is (record {
      from = lo;
      upto = h.0;
      counted = subst (λ k. CountedB params k 0 0 lo x.body h.0) n h.1;
      above = omega arith;
      below = counted_up_f params (suc cur) h.0 fs hi h.2;
    })
counted_at params cur lo (x ∷ fs) hi h (suc g) f e =
    let r = counted_at params (suc cur) h.0 fs hi h.2 g f e in
    let n : suc cur + g ≡ cur + suc g = omega arith in
    let up = counted_up_b params cur 0 0 lo x.body h.0 h.1 in
    record {
      from = r.from;
      upto = r.upto;
      counted = subst (λ k. CountedB params k 0 0 r.from f.body r.upto) n r.counted;
      above = omega (arith, up, r.above);
      below = r.below;
    }

-- the counters of a function of a checked task lie before those of its body
pub checked_counters : (t : Tree) (h : IsChecked t) → (g : ℕ) (f : Fn) → slice_get t.funcs g ≡ Some f → FnCounters (params_at t.funcs) g 0 h.first f
checked_counters t h g f e =
    let n : 0 + g ≡ g = omega arith in
    subst (λ k. FnCounters (params_at t.funcs) k 0 h.first f) n (counted_at (params_at t.funcs) 0 0 t.funcs h.first h.fn_counters g f e)
