-- Two worked tasks keep what a checked task keeps: one with a sequence, and one with a function.
use Rattle.std.proofs.Common.{◌≡◌, ◌≢◌, ℕ, ◌<◌, List, [], ◌∷◌, length, get_or, refl, ap, arith, lit≤, lit<, ◌⊎◌, inl, inr}
use Rattle.std.proofs.Math.Facts.{sfits_lit}
use Rattle.std.specs.List.{All}
use Rattle.std.proofs.lemmas.List.Elements.{All-cons, All-nil}
use Rattle.std.proofs.lemmas.List.Kept.{AllPairs-cons}
use Rattle.std.specs.Prelude.{codes}
use Rattle.mars_base.specs.declared.word.Role.TheVariants as role
use Rattle.mc_tree.specs.declared.tree.Cell.{Cell}
use Rattle.mc_tree.specs.Tree.{Var}
use Rattle.mc_tree.specs.Sound.{IsCell, SoundE}
use Rattle.mc_tree.specs.Checked.{HasWidth, DifferInName, IsChecked}
use Rattle.mc_tree.specs.Worked.{cell, seq, twice}

-- a cell is found at its number
at : (cells : List Cell) (k : ℕ) (c : Cell) → k < length cells → get_or cells k c ≡ c → IsCell cells c.place c.width
at cells k c lt e = (c, (k, lt, e), refl, refl)

wide : (c : Cell) (cells : List Cell) → HasWidth c → All HasWidth cells → All HasWidth (c ∷ cells)
wide c cells h rest = All-cons HasWidth c cells h rest

global : (c : Cell) (cells : List Cell) → c.role ≢ role.Local → All (λ (d : Cell). d.role ≢ role.Local) cells → All (λ (d : Cell). d.role ≢ role.Local) (c ∷ cells)
global c cells h rest = All-cons (λ (d : Cell). d.role ≢ role.Local) c cells h rest

local : (c : Cell) (cells : List Cell) → c.role ≡ role.Local → All (λ (d : Cell). d.role ≡ role.Local) cells → All (λ (d : Cell). d.role ≡ role.Local) (c ∷ cells)
local c cells h rest = All-cons (λ (d : Cell). d.role ≡ role.Local) c cells h rest

-- the first letters of two names differ
abbrev Apart : Cell → Cell → Type 0
Apart c d = (get_or c.name 0 0 < get_or d.name 0 0) ⊎ (get_or d.name 0 0 < get_or c.name 0 0)

above : (c d : Cell) (cells : List Cell) → Apart c d → All (Apart c) cells → All (Apart c) (d ∷ cells)
above c d cells h rest = All-cons (Apart c) d cells h rest

names_differ : (c d : Cell) → Apart c d → c.name ≢ d.name
names_differ c d (inl h) e = let n = ap (λ l. get_or l 0 0) e in omega (arith, n)
names_differ c d (inr h) e = let n = ap (λ l. get_or l 0 0) e in omega (arith, n)

differ : (c : Cell) (cells : List Cell) → All (Apart c) cells → DifferInName cells → DifferInName (c ∷ cells)
differ c cells h rest = AllPairs-cons (λ (a b : Cell). a.name ≢ b.name) c cells (λ k d lt. names_differ c (get_or cells k d) (h k d lt)) rest

none_differ : DifferInName []
none_differ i j d lt lt2 = absurd (omega arith)

abbrev x : Cell
x = cell role.In (codes "x") 0 1

abbrev y : Cell
y = cell role.Out (codes "y") 1 1

abbrev a : Cell
a = cell role.Local (codes "a") 2 1

abbrev n : Cell
n = cell role.Local (codes "n") 3 1

ports_global : All (λ (d : Cell). d.role ≢ role.Local) (x ∷ y ∷ [])
ports_global = global x (y ∷ []) (λ (e : role.In ≡ role.Local). cc) (global y [] (λ (e : role.Out ≡ role.Local). cc) (All-nil (λ (d : Cell). d.role ≢ role.Local)))

ports_wide : (cells : List Cell) → All HasWidth cells → All HasWidth (x ∷ y ∷ cells)
ports_wide cells h = wide x (y ∷ cells) (lit≤ tt, lit≤ tt) (wide y cells (lit≤ tt, lit≤ tt) h)

none : (c : Cell) → All (Apart c) []
none c = All-nil (Apart c)

seq_checked : IsChecked seq
seq_checked = record {
  placed = (refl, (refl, tt));
  widths = ports_wide [] (All-nil HasWidth);
  words = lit≤ tt;
  ports = lit≤ tt;
  functions = lit≤ tt;
  globals = x ∷ y ∷ [];
  locals = [];
  declared = refl;
  global_roles = ports_global;
  local_roles = All-nil (λ (d : Cell). d.role ≡ role.Local);
  routines =
      let is_x = at seq.cells 0 x (lit< tt) refl in
      let is_y = at seq.cells 1 y (lit< tt) refl in (
        differ x (y ∷ []) (above x y [] (inl (lit< tt)) (none x)) (differ y [] (none y) none_differ),
        (((lit≤ tt, lit≤ tt), ((lit≤ tt, lit≤ tt), (is_x, lit≤ tt), ((is_y, ((is_y, sfits_lit tt), lit≤ tt)), tt), ((lit≤ tt, lit≤ tt), (is_x, lit≤ tt), ((is_y, ((is_y, sfits_lit tt), lit≤ tt)), tt), tt))), tt),
      );
  first = 0;
  fn_counters = refl;
  body_counters = (3, (refl, (2, refl, (2, refl, refl), (3, refl, (3, refl, refl), refl))), refl);
  counters = lit≤ tt;
}

-- the function sees x, y and its own cells, and the body x and y
twice_checked : IsChecked twice
twice_checked =
    let seen : List Cell = x ∷ y ∷ a ∷ n ∷ [] in
    let ports : List Cell = x ∷ y ∷ [] in
    let is_n = at seen 3 n (lit< tt) refl in
    let is_a = at seen 2 a (lit< tt) refl in
    let is_x = at ports 0 x (lit< tt) refl in
    let is_y = at ports 1 y (lit< tt) refl in
    record {
      placed = (refl, (refl, (refl, (refl, tt))));
      widths = ports_wide (a ∷ n ∷ []) (wide a (n ∷ []) (lit≤ tt, lit≤ tt) (wide n [] (lit≤ tt, lit≤ tt) (All-nil HasWidth)));
      words = lit≤ tt;
      ports = lit≤ tt;
      functions = lit≤ tt;
      globals = x ∷ y ∷ [];
      locals = a ∷ n ∷ [];
      declared = refl;
      global_roles = ports_global;
      local_roles = local a (n ∷ []) refl (local n [] refl (All-nil (λ (d : Cell). d.role ≡ role.Local)));
      routines = (
        a ∷ [],
        n ∷ [],
        [],
        refl,
        record {
          places = refl;
          words = All-cons (λ (c : Cell). c.width ≡ 1) a [] refl (All-nil (λ (c : Cell). c.width ≡ 1));
          names = differ x (y ∷ a ∷ n ∷ []) (above x y (a ∷ n ∷ []) (inl (lit< tt)) (above x a (n ∷ []) (inr (lit< tt)) (above x n [] (inr (lit< tt)) (none x))))
              (differ y (a ∷ n ∷ []) (above y a (n ∷ []) (inr (lit< tt)) (above y n [] (inr (lit< tt)) (none y))) (differ a (n ∷ []) (above a n [] (inl (lit< tt)) (none a)) (differ n [] (none n) none_differ)));
          body = ((is_n, ((is_n, is_a), lit≤ tt)), tt);
          answer = (is_n, lit≤ tt);
        },
        (
          differ x (y ∷ []) (above x y [] (inl (lit< tt)) (none x)) (differ y [] (none y) none_differ),
          ((is_y, All-cons (SoundE ports) (Var 0) [] is_x (All-nil (SoundE ports)), lit≤ tt), ((is_y, All-cons (SoundE ports) (Var 0) [] is_x (All-nil (SoundE ports)), lit≤ tt), tt)),
        ),
      );
      first = 0;
      fn_counters = (0, (0, refl, refl), refl);
      body_counters = (0, (refl, lit< tt, refl), (0, (refl, lit< tt, refl), refl));
      counters = lit≤ tt;
    }
