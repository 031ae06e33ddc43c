-- Declared cells: how they lie, and that their names are found.
use Rattle.std.proofs.Common.{◌≡◌, ◌≢◌, ℕ, zero, suc, ◌+◌, ◌<◌, ◌≤◌, ◌⊎◌, inl, inr, Bool, true, false, cond, List, [], ◌∷◌, ◌++◌, length, get_or, map, min, Option, Some, None, arith, refl, ap, sym, subst, ◌∙◌, append_assoc, length-append}
use Rattle.std.specs.Prelude.{slice_get, nat_lt, nat_le, ◌&&◌, ◌||◌}
use Rattle.std.specs.List.{All, AllPairs, Contains}
use Rattle.std.proofs.lemmas.Bool.Decides.{nat_tests}
use Rattle.std.proofs.lemmas.List.{append-nil}
use Rattle.std.proofs.lemmas.List.Elements.{All-append, All-cons, All-nil, Contains-append_left, Contains-append_right, Contains-append_cases, Contains-get_or}
use Rattle.std.proofs.lemmas.Option.{slice_get_within, slice_get-get_or, get_or_from_slice_get}
use Rattle.std.proofs.Math.ListN.{get_or-append}
use Rattle.std.proofs.Math.Seq.{get_or-append_seam}
use Rattle.mars_base.specs.declared.word.Role.{Role}
use Rattle.mars_base.specs.declared.word.Role.TheVariants as role
use Rattle.mc_tree.specs.declared.raw.RawDecl.{RawDecl}
use Rattle.mc_tree.specs.declared.raw.RawNumber.{RawNumber}
use Rattle.mc_tree.specs.declared.symbol.Symbol.{Symbol}
use Rattle.mc_tree.specs.declared.symbol.Symbol.TheVariants as symbol
use Rattle.mc_tree.specs.declared.tree.Cell.{Cell}
use Rattle.mc_tree.specs.declared.kind.Kind.TheVariants as kind
use Rattle.mc_tree.specs.Symbols.{Table, look, declare, is_some, or_else}
use Rattle.mc_tree.specs.Checked.{Placed, words_in, ports_in, is_port, HasWidth, greatest_width, DifferInName}
use Rattle.mc_tree.specs.Rules.{first, rule, width_fault, Declares, Widths, Adds}
use Rattle.mc_tree.specs.Sites.{Outside, Sofar, means}
use Rattle.mc_tree.specs.TaskSites.{width_of, ports_of, decl_sites, decl_after, decls_sites, decls_after}
use Rattle.mc_tree.specs.Numbered.{up_to, cell_at, decls_cells}
use Rattle.mc_rules.proofs.NoFault.{none_parts, none_4, test_fails}
use Rattle.mc_rules.proofs.Lookups.{look_declared, still_some, now_some, found_before, some_left, some_right, or_some, or_found, is_none}

-- the cell of a number, one of those that are seen
pub record IsNumbered (before seen : List Cell) (k w : ℕ) : Type 0 where
  pub cell : Cell
  pub one : Contains seen cell
  pub at : slice_get before k ≡ Some cell
  pub width : cell.width ≡ w
  pub some : 1 ≤ w

-- each name that stands for a cell stands for one that is seen
abbrev pub Knows : (before seen : List Cell) → (g t : Table Symbol) → Type 0
Knows before seen g t = (x : List ℕ) (k w : ℕ) → or_else (look x g) (look x t) ≡ Some (symbol.Cell k w) → IsNumbered before seen k w

-- the names of the cells that are seen
pub record Names (before seen : List Cell) (g t : Table Symbol) : Type 0 where
  pub knows : Knows before seen g t
  pub covers : (c : Cell) → Contains seen c → is_some (or_else (look c.name g) (look c.name t)) ≡ true
  pub differ : DifferInName seen

pub slice_get_more : {X : Type 0} (xs ys : List X) (k : ℕ) (x : X) → slice_get xs k ≡ Some x → slice_get (xs ++ ys) k ≡ Some x
slice_get_more {X} xs ys k x h =
    let lt = slice_get_within xs k x h in
    let long : k < length (xs ++ ys) = omega (arith, length-append xs ys, lt) in
    slice_get-get_or (xs ++ ys) k x long ∙ ap (λ (y : X). Some y) (get_or-append xs ys x k lt ∙ get_or_from_slice_get xs k x x h)

pub slice_get_next : {X : Type 0} (xs ys : List X) (x : X) → slice_get (xs ++ x ∷ ys) (length xs) ≡ Some x
slice_get_next {X} xs ys x =
    let long : length xs < length (xs ++ x ∷ ys) = omega (arith, length-append xs (x ∷ ys)) in
    slice_get-get_or (xs ++ x ∷ ys) (length xs) x long ∙ ap (λ (y : X). Some y) (get_or-append_seam xs x ys x)

pub numbered_more : (before more seen seen' : List Cell) (k w : ℕ) → ((c : Cell) → Contains seen c → Contains seen' c) → IsNumbered before seen k w → IsNumbered (before ++ more) seen' k w
numbered_more before more seen seen' k w into h = record {
  cell = h.cell;
  one = into h.cell h.one;
  at = slice_get_more before more k h.cell h.at;
  width = h.width;
  some = h.some;
}

pub knows_more : (before more seen : List Cell) (g t : Table Symbol) → Knows before seen g t → Knows (before ++ more) seen g t
knows_more before more seen g t h x k w e = numbered_more before more seen seen k w (λ c i. i) (h x k w e)

pub names_more : (before more seen : List Cell) (g t : Table Symbol) → Names before seen g t → Names (before ++ more) seen g t
names_more before more seen g t h = record { knows = knows_more before more seen g t h.knows; covers = h.covers; differ = h.differ }

-- a name of a function or a scope
pub knows_other : (before seen : List Cell) (g t : Table Symbol) (y : List ℕ) (v : Symbol) → ((k w : ℕ) → v ≢ symbol.Cell k w) → Knows before seen g t → Knows before seen g (declare y v t)
knows_other before seen g t y v other h x k w e = elim (or_found (look x g) (look x (declare y v t)) (symbol.Cell k w) e) [
  | inl a ↦ h x k w (ap (λ (o : Option Symbol). or_else o (look x t)) a)
  | inr b ↦ elim (found_before x y v (symbol.Cell k w) t b.1) [
    | inl c ↦ h x k w (ap (λ (o : Option Symbol). or_else o (look x t)) b.0 ∙ c)
    | inr c ↦ absurd (other k w c.2)
  ]
]

pub func_no_cell : (k w : ℕ) → symbol.Func ≢ symbol.Cell k w
func_no_cell k w h = cc

pub scope_no_cell : (k w : ℕ) → symbol.Scope ≢ symbol.Cell k w
scope_no_cell k w h = cc

-- the names of the globals, when a routine begins
pub names_enter : (before seen : List Cell) (t : Table Symbol) → Names before seen [] t → Names before seen t []
names_enter before seen t h = record {
  knows = λ x k w e. h.knows x k w (none (look x t) ∙ e);
  covers = λ c i. ap is_some (sym (none (look c.name t))) ∙ h.covers c i;
  differ = h.differ;
}
  where
    none : (o : Option Symbol) → o ≡ or_else o None
    none None = refl
    none (Some v) = refl

pub names_leave : (before seen : List Cell) (t : Table Symbol) → Names before seen t [] → Names before seen [] t
names_leave before seen t h = record {
  knows = λ x k w e. h.knows x k w (sym (none (look x t)) ∙ e);
  covers = λ c i. ap is_some (none (look c.name t)) ∙ h.covers c i;
  differ = h.differ;
}
  where
    none : (o : Option Symbol) → o ≡ or_else o None
    none None = refl
    none (Some v) = refl

-- a function's name among the globals
pub names_func : (before seen : List Cell) (t : Table Symbol) (y : List ℕ) → Names before seen t [] → Names before seen (declare y symbol.Func t) []
names_func before seen t y h =
    let l = names_leave before seen t h in
    names_enter before seen (declare y symbol.Func t) (record {
      knows = knows_other before seen [] t y symbol.Func func_no_cell l.knows;
      covers = λ c i. still_some c.name y symbol.Func t (l.covers c i);
      differ = h.differ;
    })

order-cases : (a b : ℕ) → (a < b) ⊎ (b ≤ a)
order-cases a b = by (nat_lt a b) refl
  where
    by : (c : Bool) → nat_lt a b ≡ c → (a < b) ⊎ (b ≤ a)
    by true h = inl (grind (arith, nat_tests))
    by false h = inr (grind (arith, nat_tests))

-- one more at the end of a list whose elements are apart
pub pairs_snoc : {X : Type 0} (R : X → X → Type 0) (xs : List X) (x : X) → AllPairs R xs → ((y : X) → Contains xs y → R y x) → AllPairs R (xs ++ x ∷ [])
pairs_snoc {X} R xs x h apart i j d lt lt2 =
    let within : i < length xs = omega (arith, length-append xs (x ∷ []), lt, lt2) in
    subst (λ (y : X). R y (get_or (xs ++ x ∷ []) j d)) (sym (get_or-append xs (x ∷ []) d i within))
    (elim (order-cases j (length xs)) [
      | inl b ↦ subst (R (get_or xs i d)) (sym (get_or-append xs (x ∷ []) d j b)) (h i j d lt b)
      | inr b ↦ let last : j ≡ length xs = omega (arith, length-append xs (x ∷ []), lt2, b) in
          subst (R (get_or xs i d)) (sym (ap (λ n. get_or (xs ++ x ∷ []) n d) last ∙ get_or-append_seam xs x [] d)) (apart (get_or xs i d) (Contains-get_or xs i d within))
    ])

only : {X : Type 0} (x y : X) → Contains (x ∷ []) y → x ≡ y
only x y (zero, lt, e) = e
only x y (suc k, lt, e) = absurd (omega (arith, lt))

-- one more cell
pub names_decl : (before seen : List Cell) (g t : Table Symbol) (c : Cell) (k w : ℕ) → Names before seen g t → k ≡ length before → 1 ≤ w → c.width ≡ w → is_some (or_else (look c.name g) (look c.name t)) ≡ false
    → Names (before ++ c ∷ []) (seen ++ c ∷ []) g (declare c.name (symbol.Cell k w) t)
names_decl before seen g t c k w h at some width free = record {
  knows = λ x i v e. elim (or_found (look x g) (look x (declare c.name (symbol.Cell k w) t)) (symbol.Cell i v) e) [
    | inl a ↦ old x i v (ap (λ (o : Option Symbol). or_else o (look x t)) a)
    | inr b ↦ elim (found_before x c.name (symbol.Cell k w) (symbol.Cell i v) t b.1) [
      | inl a ↦ old x i v (ap (λ (o : Option Symbol). or_else o (look x t)) b.0 ∙ a)
      | inr a ↦ new i v a.2
    ]
  ];
  covers = λ d i. elim (Contains-append_cases seen (c ∷ []) d i) [
    | inl a ↦ elim (or_some (look d.name g) (look d.name t) (h.covers d a)) [
      | inl b ↦ some_left (look d.name g) (look d.name (declare c.name (symbol.Cell k w) t)) b
      | inr b ↦ some_right (look d.name g) (look d.name (declare c.name (symbol.Cell k w) t)) (still_some d.name c.name (symbol.Cell k w) t b)
    ]
    | inr a ↦ subst (λ (x : Cell). is_some (or_else (look x.name g) (look x.name (declare c.name (symbol.Cell k w) t))) ≡ true) (only c d a)
        (some_right (look c.name g) (look c.name (declare c.name (symbol.Cell k w) t)) (now_some c.name (symbol.Cell k w) t))
  ];
  differ = pairs_snoc (λ (a b : Cell). a.name ≢ b.name) seen c h.differ (λ y i e.
      let f : true ≡ false = sym (h.covers y i) ∙ ap (λ n. is_some (or_else (look n g) (look n t))) e ∙ free in cc);
}
  where
    old : (x : List ℕ) (i v : ℕ) → or_else (look x g) (look x t) ≡ Some (symbol.Cell i v) → IsNumbered (before ++ c ∷ []) (seen ++ c ∷ []) i v
    old x i v e = numbered_more before (c ∷ []) seen (seen ++ c ∷ []) i v (λ d m. Contains-append_left seen (c ∷ []) d m) (h.knows x i v e)

    new : (i v : ℕ) → symbol.Cell k w ≡ symbol.Cell i v → IsNumbered (before ++ c ∷ []) (seen ++ c ∷ []) i v
    new i v e =
        let same : k ≡ i = cc in
        let wide : w ≡ v = cc in
        subst (λ n. IsNumbered (before ++ c ∷ []) (seen ++ c ∷ []) n v) (sym at ∙ same) (subst (λ n. IsNumbered (before ++ c ∷ []) (seen ++ c ∷ []) (length before) n) wide (record {
          cell = c;
          one = Contains-append_right seen (c ∷ []) c (0, omega arith, refl);
          at = slice_get_next before [] c;
          width = width;
          some = some;
        }))

-- the cells so far lie one after another, and these are how many they are, their words and their ports
pub record Laid (before : List Cell) (cells words ports : ℕ) : Type 0 where
  pub count : cells ≡ length before
  pub placed : Placed 0 before
  pub widths : All HasWidth before
  pub sum : words ≡ words_in before
  pub role_count : ports ≡ ports_in before
  pub limit : words ≤ 4096
  pub most : ports ≤ 16
  pub few : cells ≤ words

placed_snoc : (p : ℕ) (xs : List Cell) (c : Cell) → Placed p xs → c.place ≡ p + words_in xs → Placed p (xs ++ c ∷ [])
placed_snoc p [] c h e = (omega (arith, e), tt)
placed_snoc p (x ∷ xs) c h e = (h.0, placed_snoc (p + x.width) xs c h.1 (omega (arith, e)))

words_snoc : (xs : List Cell) (c : Cell) → words_in (xs ++ c ∷ []) ≡ words_in xs + c.width
words_snoc [] c = omega arith
words_snoc (x ∷ xs) c = omega (arith, words_snoc xs c)

ports_snoc : (xs : List Cell) (c : Cell) → ports_in (xs ++ c ∷ []) ≡ ports_in xs + ports_of c.role
ports_snoc [] c = by c.role
  where
    by : (r : Role) → (cond (is_port r) 1 0) + 0 ≡ 0 + ports_of r
    by role.In = refl
    by role.Out = refl
    by role.State = refl
    by role.Local = refl
ports_snoc (x ∷ xs) c = omega (arith, ports_snoc xs c)

pub up_to_fine : (limit n : ℕ) → n ≤ limit → up_to limit n ≡ n
up_to_fine limit n h = grind (arith, nat_tests)

width_fine : (r : Role) (w : Option RawNumber) → width_fault r w ≡ None → (1 ≤ width_of w) × (width_of w ≤ greatest_width r)
width_fine r None h = (omega arith, by r)
  where
    by : (r : Role) → 1 ≤ greatest_width r
    by role.In = omega arith
    by role.Out = omega arith
    by role.State = omega arith
    by role.Local = omega arith
width_fine r (Some w) h =
    let f = test_fails (nat_lt w.value 1 || nat_lt (greatest_width r) w.value) kind.WrongWidth w.span h in
    between w.value (greatest_width r) f
  where
    between : (a b : ℕ) → (nat_lt a 1 || nat_lt b a) ≡ false → (1 ≤ a) × (a ≤ b)
    between a b h = (grind (arith, nat_tests), grind (arith, nat_tests))

pub within_limit : (limit before more : ℕ) → (nat_le before limit && nat_lt limit (before + more)) ≡ false → before ≤ limit → before + more ≤ limit
within_limit limit before more h le = grind (arith, nat_tests)

greatest_of_all : (r : Role) → greatest_width r ≤ 4096
greatest_of_all role.In = omega arith
greatest_of_all role.Out = omega arith
greatest_of_all role.State = omega arith
greatest_of_all role.Local = omega arith

-- what a declaration adds
pub record Declared (before seen : List Cell) (g : Table Symbol) (f f' : Sofar) : Type 0 where
  pub laid : Laid before f'.cells f'.words f'.ports
  pub names : Names before seen g f'.locals
  pub counters : f'.counters ≡ f.counters

pub decl_fine : (o : Outside) (f : Sofar) (d : RawDecl) (before seen : List Cell) → first (decl_sites o f d) ≡ None → Laid before f.cells f.words f.ports → Names before seen o.globals f.locals
    → Declared (before ++ cell_at f d ∷ []) (seen ++ cell_at f d ∷ []) o.globals f (decl_after d f)
decl_fine o f d before seen none l n =
    let a = none_4 (Declares d.name (is_some (means o f.locals d.name))) (Widths d.role d.width) (Adds d.name 4096 f.words (width_of d.width)) (Adds d.name 16 f.ports (ports_of d.role)) [] none in
    let free = test_fails (is_some (means o f.locals d.name)) kind.TwiceNamed d.name.span a.0 in
    let wide = width_fine d.role d.width a.1 in
    let room = within_limit 4096 f.words (width_of d.width) (test_fails (nat_le f.words 4096 && nat_lt 4096 (f.words + width_of d.width)) kind.TooMany d.name.span a.2) l.limit in
    let ports = within_limit 16 f.ports (ports_of d.role) (test_fails (nat_le f.ports 16 && nat_lt 16 (f.ports + ports_of d.role)) kind.TooMany d.name.span a.3) l.most in
    let width : (cell_at f d).width ≡ width_of d.width = up_to_fine 65535 (width_of d.width) (omega (arith, wide.1, greatest_of_all d.role)) in
    let place : (cell_at f d).place ≡ f.words = up_to_fine 65535 f.words (omega (arith, l.limit)) in
    record {
      laid = record {
        count = omega (arith, l.count, l.few, l.limit, length-append before (cell_at f d ∷ []));
        placed = placed_snoc 0 before (cell_at f d) l.placed (omega (arith, place, l.sum));
        widths = All-append HasWidth before (cell_at f d ∷ []) l.widths (All-cons HasWidth (cell_at f d) [] (omega (arith, width, wide.0), omega (arith, width, wide.1)) (All-nil HasWidth));
        sum = omega (arith, words_snoc before (cell_at f d), width, l.sum, room);
        role_count = omega (arith, ports_snoc before (cell_at f d), l.role_count, ports);
        limit = omega (arith, room);
        most = omega (arith, ports);
        few = omega (arith, l.few, wide.0, room);
      };
      names = names_decl before seen o.globals f.locals (cell_at f d) f.cells (width_of d.width) n l.count wide.0 width free;
      counters = refl;
    }

pub decls_fine : (o : Outside) (ds : List RawDecl) (f : Sofar) (before seen : List Cell) → first (decls_sites o f ds) ≡ None → Laid before f.cells f.words f.ports → Names before seen o.globals f.locals
    → Declared (before ++ decls_cells f ds) (seen ++ decls_cells f ds) o.globals f (decls_after ds f)
decls_fine o [] f before seen none l n =
    let b = sym (append-nil before) in
    let s = sym (append-nil seen) in
    record {
      laid = subst (λ (x : List Cell). Laid x f.cells f.words f.ports) b l;
      names = subst (λ (x : List Cell). Names x (seen ++ []) o.globals f.locals) b (subst (λ (x : List Cell). Names before x o.globals f.locals) s n);
      counters = refl;
    }
decls_fine o (d ∷ ds) f before seen none l n =
    let parts = none_parts (decl_sites o f d) (decls_sites o (decl_after d f) ds) none in
    let here = decl_fine o f d before seen parts.0 l n in
    let rest = decls_fine o ds (decl_after d f) (before ++ cell_at f d ∷ []) (seen ++ cell_at f d ∷ []) parts.1 here.laid here.names in
    let cs = decls_cells (decl_after d f) ds in
    let b = append_assoc before (cell_at f d ∷ []) cs in
    let s = append_assoc seen (cell_at f d ∷ []) cs in
    let end = decls_after ds (decl_after d f) in
    record {
      laid = subst (λ (x : List Cell). Laid x end.cells end.words end.ports) b rest.laid;
      names = subst (λ (x : List Cell). Names x (seen ++ cell_at f d ∷ cs) o.globals end.locals) b (subst (λ (x : List Cell). Names ((before ++ cell_at f d ∷ []) ++ cs) x o.globals end.locals) s rest.names);
      counters = rest.counters;
    }
