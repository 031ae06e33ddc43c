-- Expressions without a fault: the cells that they name are seen, and they are as deep as they need words.
use Rattle.std.proofs.Common.{◌≡◌, ◌≢◌, ℕ, zero, suc, ◌+◌, ◌<◌, ◌≤◌, Bool, true, false, List, [], ◌∷◌, ◌++◌, length, map, min, max, Option, Some, None, arith, refl, ap, sym, subst, ◌∙◌, ℤ, pos}
use Rattle.std.specs.Prelude.{slice_get, nat_lt, nat_le, nat_eq, ◌&&◌, ◌||◌, not, FitsSigned}
use Rattle.std.specs.Int.{w32}
use Rattle.std.specs.List.{All, list_all}
use Rattle.std.proofs.lemmas.Bool.Decides.{nat_tests}
use Rattle.std.proofs.lemmas.List.Elements.{All-cons, All-nil}
use Rattle.std.proofs.lemmas.Option.{slice_get_within}
use Rattle.mars_base.specs.declared.text.Span.{Span}
use Rattle.mc_tree.specs.declared.kind.Fault.{Fault}
use Rattle.mc_tree.specs.declared.kind.Kind.TheVariants as kind
use Rattle.mc_tree.specs.declared.raw.Name.{Name}
use Rattle.mc_tree.specs.declared.symbol.Symbol.{Symbol}
use Rattle.mc_tree.specs.declared.symbol.Symbol.TheVariants as symbol
use Rattle.mc_tree.specs.declared.symbol.Callee.{Callee}
use Rattle.mc_tree.specs.declared.tree.Cell.{Cell}
use Rattle.mc_tree.specs.declared.tree.Expr.{Expr}
use Rattle.mc_tree.specs.declared.tree.Expr.TheVariants as e
use Rattle.mc_tree.specs.CheckedTask.{is_expr_within}
use Rattle.mc_tree.specs.Height.{height, args_height}
use Rattle.mc_tree.specs.Numbered.{up_to, cell_of, func_of, numbered_ex, numbered_args}
use Rattle.mc_tree.specs.Plain.{place_or_0, width_or_0, place_in, width_in, plain_expr, plain_args}
use Rattle.mc_tree.specs.Raw as R
use Rattle.mc_tree.specs.Rules.{first, rule, plain_use, indexed_use, call_use, Constant, Plain, Indexed}
use Rattle.mc_tree.specs.Sites.{Outside, means, need, args_need, ex_sites, args_sites}
use Rattle.mc_tree.specs.Sound.{IsCell, IsArray, SoundE, SoundTest}
use Rattle.mc_tree.specs.Symbols.{Table, look}
use Rattle.mc_tree.specs.Tree.{Ex, Num, Var, Elem, Un, Bin}
use Rattle.mc_tree.proofs.Plain.{plain_number, plain_cell, plain_at, plain_unary, plain_binary}
use Rattle.mc_tree.proofs.Within.{within_number, within_cell, within_at, within_unary, within_binary}
use Rattle.mc_rules.proofs.NoFault.{none_parts, none_at, none_from, test_fails}
use Rattle.mc_rules.proofs.Cells.{IsNumbered, Knows, up_to_fine}

pub both : (a b : Bool) → a ≡ true → b ≡ true → (a && b) ≡ true
both a b h g = ap (λ x. x && b) h ∙ g

pub no_fault : (f : Fault) → Some f ≡ None → ⊥
no_fault f h = cc

-- a number of the text is a word
word_fits : (n : ℕ) → FitsSigned w32 (pos (up_to 2147483647 n))
word_fits n = record { sfits = grind (arith, nat_tests) }

-- a call names an earlier function of the file, with as many parameters
pub record IsCalled (found : Option Callee) (args current : ℕ) : Type 0 where
  pub callee : Callee
  pub is : found ≡ Some callee
  pub earlier : callee.number < current
  pub same : args ≡ callee.params

pub called : (found : Option Callee) (args current : ℕ) (s : Span) → call_use found args current s ≡ None → IsCalled found args current
called None args current s h = absurd (no_fault (record { kind = kind.UnknownName; span = s }) h)
called (Some f) args current s h = by (nat_le current f.number) refl h
  where
    equal : (b : Bool) → nat_eq args f.params ≡ b → Rattle.mc_tree.specs.Rules.fault (not b) kind.WrongArgumentCount s ≡ None → args ≡ f.params
    equal true e h = grind (arith, nat_tests)
    equal false e h = absurd (no_fault (record { kind = kind.WrongArgumentCount; span = s }) h)

    by : (b : Bool) → nat_le current f.number ≡ b → Rattle.std.specs.Prelude.cond b (Some (record { kind = kind.Recursion; span = s })) (Rattle.mc_tree.specs.Rules.fault (not (nat_eq args f.params)) kind.WrongArgumentCount s) ≡ None → IsCalled (Some f) args current
    by true e h = absurd (no_fault (record { kind = kind.Recursion; span = s }) h)
    by false e h = record { callee = f; is = refl; earlier = grind (arith, nat_tests); same = equal (nat_eq args f.params) refl h }

-- an expression needs as many words as its checked one
pub height_same : (all : List Cell) (o : Outside) (t : Table Symbol) (x : R.Ex) → height (plain_expr all (numbered_ex o t x)) ≡ need x
height_same all o t (R.Num n) = ap height (plain_number all (pos (up_to 2147483647 n.value)))
height_same all o t (R.Cell n) = ap height (plain_cell all (cell_of (means o t n)))
height_same all o t (R.At n i s) = ap height (plain_at all (cell_of (means o t n)) (numbered_ex o t i)) ∙ height_same all o t i
height_same all o t (R.Un op a s) = ap height (plain_unary all op (numbered_ex o t a)) ∙ height_same all o t a
height_same all o t (R.Bin op l r s) =
    ap height (plain_binary all op (numbered_ex o t l) (numbered_ex o t r))
    ∙ ap (λ n. max n (1 + height (plain_expr all (numbered_ex o t r)))) (height_same all o t l) ∙ ap (λ n. max (need l) (1 + n)) (height_same all o t r)

need_some : (x : R.Ex) → 1 ≤ need x
need_some (R.Num n) = omega arith
need_some (R.Cell n) = omega arith
need_some (R.At n i s) = need_some i
need_some (R.Un op a s) = need_some a
need_some (R.Bin op l r s) = omega (arith, need_some l)

args_height_within : (all : List Cell) (o : Outside) (t : Table Symbol) (i : ℕ) (xs : List R.Ex) → i + args_height (plain_args all (numbered_args o t xs)) ≤ max i (args_need i xs)
args_height_within all o t i [] = omega arith
args_height_within all o t i (x ∷ xs) = omega (arith, args_height_within all o t (i + 1) xs, height_same all o t x, need_some x)

pub args_height_fine : (all : List Cell) (o : Outside) (t : Table Symbol) (xs : List R.Ex) → max 1 (args_need 0 xs) ≤ 64 → args_height (plain_args all (numbered_args o t xs)) ≤ 64
args_height_fine all o t xs h = omega (arith, args_height_within all o t 0 xs, h)

pub args_count : (all : List Cell) (o : Outside) (t : Table Symbol) (xs : List R.Ex) → length (plain_args all (numbered_args o t xs)) ≡ length xs
args_count all o t [] = refl
args_count all o t (x ∷ xs) = ap suc (args_count all o t xs)

-- an expression over the cells that are seen, whose numbers are those of cells
pub record ExFine (all seen : List Cell) (x : Expr) : Type 0 where
  pub sound : SoundE seen (plain_expr all x)
  pub within : is_expr_within (length all) x ≡ true

module _ (all seen : List Cell) (o : Outside) (t : Table Symbol) (known : Knows all seen o.globals t) where
  pub cell_fine : (n : Name) → plain_use (means o t n) n.span ≡ None → IsCell seen (place_in all (cell_of (means o t n))) 1 × (nat_lt (cell_of (means o t n)) (length all) ≡ true)
  cell_fine n h = by (means o t n) refl h
    where
      by : (m : Option Symbol) → means o t n ≡ m → plain_use m n.span ≡ None → IsCell seen (place_in all (cell_of m)) 1 × (nat_lt (cell_of m) (length all) ≡ true)
      by None e h = absurd (no_fault (record { kind = kind.UnknownName; span = n.span }) h)
      by (Some symbol.Func) e h = absurd (no_fault (record { kind = kind.UnknownName; span = n.span }) h)
      by (Some symbol.Scope) e h = absurd (no_fault (record { kind = kind.UnknownName; span = n.span }) h)
      by (Some (symbol.Cell i w)) e h =
          let f = test_fails (nat_le 2 w) kind.IsAnArray n.span h in
          let g = known n.text i w e in
          let lt = slice_get_within all i g.cell g.at in
          let one : g.cell.width ≡ 1 = grind (arith, nat_tests, f, g.width, g.some) in
          ((g.cell, g.one, sym (ap place_or_0 g.at), one), grind (arith, nat_tests, lt))

  pub array_fine : (n : Name) → indexed_use (means o t n) n.span ≡ None
      → IsArray seen (place_in all (cell_of (means o t n))) (width_in all (cell_of (means o t n))) × (nat_lt (cell_of (means o t n)) (length all) ≡ true)
  array_fine n h = by (means o t n) refl h
    where
      by : (m : Option Symbol) → means o t n ≡ m → indexed_use m n.span ≡ None → IsArray seen (place_in all (cell_of m)) (width_in all (cell_of m)) × (nat_lt (cell_of m) (length all) ≡ true)
      by None e h = absurd (no_fault (record { kind = kind.UnknownName; span = n.span }) h)
      by (Some symbol.Func) e h = absurd (no_fault (record { kind = kind.UnknownName; span = n.span }) h)
      by (Some symbol.Scope) e h = absurd (no_fault (record { kind = kind.UnknownName; span = n.span }) h)
      by (Some (symbol.Cell i w)) e h =
          let f = test_fails (nat_eq w 1) kind.NotAnArray n.span h in
          let g = known n.text i w e in
          let lt = slice_get_within all i g.cell g.at in
          let width = ap width_or_0 g.at in
          let two : 2 ≤ g.cell.width = grind (arith, nat_tests, f, g.width, g.some) in
          (((g.cell, g.one, sym (ap place_or_0 g.at), sym width), omega (arith, two, width)), grind (arith, nat_tests, lt))

  pub ex_fine : (x : R.Ex) → first (ex_sites o t x) ≡ None → ExFine all seen (numbered_ex o t x)
  ex_fine (R.Num n) h = record {
    sound = subst (SoundE seen) (sym (plain_number all (pos (up_to 2147483647 n.value)))) (word_fits n.value);
    within = within_number (length all) (pos (up_to 2147483647 n.value));
  }
  ex_fine (R.Cell n) h =
      let c = cell_fine n (none_at (ex_sites o t (R.Cell n)) 0 h) in
      record {
        sound = subst (SoundE seen) (sym (plain_cell all (cell_of (means o t n)))) c.0;
        within = within_cell (length all) (cell_of (means o t n)) ∙ c.1;
      }
  ex_fine (R.At n i s) h =
      let c = array_fine n (none_at (ex_sites o t (R.At n i s)) 0 h) in
      let r = ex_fine i (none_from (ex_sites o t (R.At n i s)) 1 h) in
      record {
        sound = subst (SoundE seen) (sym (plain_at all (cell_of (means o t n)) (numbered_ex o t i))) (c.0, r.sound);
        within = within_at (length all) (cell_of (means o t n)) (numbered_ex o t i) ∙ both _ _ c.1 r.within;
      }
  ex_fine (R.Un op a s) h =
      let r = ex_fine a h in
      record {
        sound = subst (SoundE seen) (sym (plain_unary all op (numbered_ex o t a))) r.sound;
        within = within_unary (length all) op (numbered_ex o t a) ∙ r.within;
      }
  ex_fine (R.Bin op l r s) h =
      let parts = none_parts (ex_sites o t l) (ex_sites o t r) h in
      let a = ex_fine l parts.0 in
      let b = ex_fine r parts.1 in
      record {
        sound = subst (SoundE seen) (sym (plain_binary all op (numbered_ex o t l) (numbered_ex o t r))) (a.sound, b.sound);
        within = within_binary (length all) op (numbered_ex o t l) (numbered_ex o t r) ∙ both _ _ a.within b.within;
      }

  pub args_fine : (xs : List R.Ex) → first (args_sites o t xs) ≡ None
      → All (SoundE seen) (plain_args all (numbered_args o t xs)) × (list_all (is_expr_within (length all)) (numbered_args o t xs) ≡ true)
  args_fine [] h = (All-nil (SoundE seen), refl)
  args_fine (x ∷ xs) h =
      let parts = none_parts (ex_sites o t x) (args_sites o t xs) h in
      let a = ex_fine x parts.0 in
      let b = args_fine xs parts.1 in
      (All-cons (SoundE seen) (plain_expr all (numbered_ex o t x)) (plain_args all (numbered_args o t xs)) a.sound b.0, both _ _ a.within b.1)

  -- a test, or a value
  pub test_fine : (x : R.Ex) (s : Span) → first (ex_sites o t x) ≡ None → rule (Rattle.mc_tree.specs.Rules.Needs s (need x)) ≡ None → SoundTest seen (plain_expr all (numbered_ex o t x))
  test_fine x s h g =
      let f = test_fails (nat_lt 64 (need x)) kind.ExpressionTooDeep s g in
      ((ex_fine x h).sound, grind (arith, nat_tests, f, height_same all o t x))
