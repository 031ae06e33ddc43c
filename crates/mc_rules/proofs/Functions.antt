-- Functions without a fault.
use Rattle.std.proofs.Common.{◌≡◌, ◌≢◌, ℕ, zero, suc, ◌+◌, ◌<◌, ◌≤◌, Bool, true, false, List, [], ◌∷◌, ◌++◌, length, map, min, max, Option, Some, None, arith, refl, ap, sym, subst, ◌∙◌, append_assoc, length-append, ◌⊎◌, inl, inr}
use Rattle.std.specs.Prelude.{nat_lt, nat_le, slice_get, ◌&&◌}
use Rattle.std.specs.List.{All}
use Rattle.std.proofs.lemmas.Bool.Decides.{nat_tests}
use Rattle.std.proofs.lemmas.List.{append-nil}
use Rattle.std.proofs.lemmas.List.Elements.{All-append, All-cons, All-nil}
use Rattle.mars_base.specs.declared.word.Role.TheVariants as role
use Rattle.mc_tree.specs.declared.kind.Kind.TheVariants as kind
use Rattle.mc_tree.specs.declared.raw.Name.{Name}
use Rattle.mc_tree.specs.declared.raw.RawDecl.{RawDecl}
use Rattle.mc_tree.specs.declared.symbol.Symbol.{Symbol}
use Rattle.mc_tree.specs.declared.symbol.Symbol.TheVariants as symbol
use Rattle.mc_tree.specs.declared.symbol.Callee.{Callee}
use Rattle.mc_tree.specs.declared.tree.Cell.{Cell}
use Rattle.mc_tree.specs.declared.tree.Func.{Func}
use Rattle.mc_tree.specs.Checked.{FnChecked, Routines, DifferInName}
use Rattle.mc_tree.specs.CheckedTask.{IsFuncWithin}
use Rattle.mc_tree.specs.Counters.{CountedB, CountedF}
use Rattle.mc_tree.specs.Meaning.{params_at as params_of}
use Rattle.mc_tree.specs.Numbered.{cell_at, decls_cells, params_at, fn_cells, fns_cells, numbered_fn, numbered_fns, numbered_bl, numbered_ex}
use Rattle.mc_tree.specs.Plain.{place_or_0, place_in, plain_list, plain_expr, plain_func}
use Rattle.mc_tree.specs.Raw as R
use Rattle.mc_tree.specs.Spellable.{AreLocals, FuncsHaveLocals}
use Rattle.mc_tree.specs.Rules.{first}
use Rattle.mc_tree.specs.Sites.{Outside, Sofar, need, ex_sites, bl_sites, st_after, bl_after, else_after, counted, scoped}
use Rattle.mc_tree.specs.Sound.{SoundB, SoundTest}
use Rattle.mc_tree.specs.Symbols.{Table, look, declare, is_some}
use Rattle.mc_tree.specs.TaskSites.{decl_sites, decls_sites, decl_after, decls_after, param_of, no_around, enter, fn_sites, fn_after, fns_sites, fns_after, named_fn_sites, with_function, with_functions, callees_from}
use Rattle.mc_tree.specs.Tree.{Bl, Fn}
use Rattle.mc_rules.proofs.NoFault.{none_parts, none_at, none_from, test_fails}
use Rattle.mc_rules.proofs.Lookups.{found_before}
use Rattle.mc_rules.proofs.Cells.{Knows, Names, Laid, Declared, decl_fine, decls_fine, knows_more, names_more, names_func, slice_get_next, within_limit}
use Rattle.mc_rules.proofs.Expressions.{test_fine, ex_fine}
use Rattle.mc_rules.proofs.Statements.{bl_fine}

-- statements add no cells
mutual
  laid_st : (before : List Cell) (x : R.St) (f : Sofar) → Laid before f.cells f.words f.ports → Laid before (st_after x f).cells (st_after x f).words (st_after x f).ports
  laid_st before (R.Set n v p) f l = l
  laid_st before (R.SetAt n i v p) f l = l
  laid_st before (R.Call n g es p) f l = l
  laid_st before (R.If t a b p) f l = laid_else before b (bl_after a f) (laid_bl before a f l)
  laid_st before (R.While n t a p) f l = laid_bl before a (counted f) l
  laid_st before (R.Scope n k a p) f l = laid_bl before a (scoped n f) l
  laid_st before (R.Mark n p) f l = l
  laid_st before (R.Sequence k a p) f l = laid_bl before a (counted f) l

  pub laid_bl : (before : List Cell) (b : R.Bl) (f : Sofar) → Laid before f.cells f.words f.ports → Laid before (bl_after b f).cells (bl_after b f).words (bl_after b f).ports
  laid_bl before R.Nil f l = l
  laid_bl before (R.Then x rest) f l = laid_bl before rest (st_after x f) (laid_st before x f l)

  laid_else : (before : List Cell) (b : R.Else) (f : Sofar) → Laid before f.cells f.words f.ports → Laid before (else_after b f).cells (else_after b f).words (else_after b f).ports
  laid_else before R.Nothing f l = l
  laid_else before (R.Otherwise b) f l = laid_bl before b f l

-- the numbers of parameters are those of their cells
pub params_fine : (all : List Cell) (o : Outside) (ns : List Name) (f : Sofar) (before seen rest : List Cell) → all ≡ before ++ (decls_cells f (map param_of ns) ++ rest) → first (decls_sites o f (map param_of ns)) ≡ None
    → Laid before f.cells f.words f.ports → Names before seen o.globals f.locals
    → (map (place_in all) (params_at f ns) ≡ map (λ (c : Cell). c.place) (decls_cells f (map param_of ns))) × All (λ (c : ℕ). c < length all) (params_at f ns)
params_fine all o [] f before seen rest is none l n = (refl, All-nil (λ (c : ℕ). c < length all))
params_fine all o (x ∷ ns) f before seen rest is none l n =
    let d = param_of x in
    let c = cell_at f d in
    let cs = decls_cells (decl_after d f) (map param_of ns) in
    let parts = none_parts (decl_sites o f d) (decls_sites o (decl_after d f) (map param_of ns)) none in
    let here = decl_fine o f d before seen parts.0 l n in
    let more = params_fine all o ns (decl_after d f) (before ++ c ∷ []) (seen ++ c ∷ []) rest (is ∙ sym (append_assoc before (c ∷ []) (cs ++ rest))) parts.1 here.laid here.names in
    let at : slice_get all f.cells ≡ Some c = ap (λ (l : List Cell). slice_get l f.cells) is ∙ ap (slice_get (before ++ c ∷ (cs ++ rest))) l.count ∙ slice_get_next before (cs ++ rest) c in
    let lt : f.cells < length all = omega (arith, ap (λ (l : List Cell). length l) is, length-append before (c ∷ (cs ++ rest)), l.count) in
    let place : place_in all f.cells ≡ c.place = ap place_or_0 at in (
      ap (λ (p : ℕ). p ∷ map (place_in all) (params_at (decl_after d f) ns)) place ∙ ap (λ (ps : List ℕ). c.place ∷ ps) more.0,
      All-cons (λ (c : ℕ). c < length all) f.cells (params_at (decl_after d f) ns) lt more.1,
    )

params_words : (ns : List Name) (f : Sofar) → All (λ (c : Cell). c.width ≡ 1) (decls_cells f (map param_of ns))
params_words [] f = All-nil (λ (c : Cell). c.width ≡ 1)
params_words (x ∷ ns) f = All-cons (λ (c : Cell). c.width ≡ 1) (cell_at f (param_of x)) (decls_cells (decl_after (param_of x) f) (map param_of ns)) refl (params_words ns (decl_after (param_of x) f))

params_role : (ns : List Name) (f : Sofar) → All (λ (c : Cell). c.role ≡ role.Local) (decls_cells f (map param_of ns))
params_role [] f = All-nil (λ (c : Cell). c.role ≡ role.Local)
params_role (x ∷ ns) f = All-cons (λ (c : Cell). c.role ≡ role.Local) (cell_at f (param_of x)) (decls_cells (decl_after (param_of x) f) (map param_of ns)) refl (params_role ns (decl_after (param_of x) f))

pub locals_role : (ds : List RawDecl) (f : Sofar) → AreLocals ds → All (λ (c : Cell). c.role ≡ role.Local) (decls_cells f ds)
locals_role [] f h = All-nil (λ (c : Cell). c.role ≡ role.Local)
locals_role (d ∷ ds) f h =
    All-cons (λ (c : Cell). c.role ≡ role.Local) (cell_at f d) (decls_cells (decl_after d f) ds) (h 0 d (omega arith)) (locals_role ds (decl_after d f) (λ k x lt. h (suc k) x (omega (arith, lt))))

module _ (all globals_cells : List Cell) (cs : Table Callee) (params : ℕ → List ℕ) (funcs : ℕ) (calls : (x : List ℕ) (f : Callee) → look x cs ≡ Some f → length (params f.number) ≡ f.params) where
  -- a function with its own cells
  pub record FnFine (before : List Cell) (i : ℕ) (o : Outside) (f : Sofar) (g : R.Func) : Type 0 where
    pub checked : FnChecked globals_cells (decls_cells f (map param_of g.params)) (decls_cells (decls_after (map param_of g.params) f) g.locals) (plain_func all (numbered_fn o f g))
    pub count : CountedB params i 0 0 f.counters (plain_func all (numbered_fn o f g)).body (fn_after g f).counters
    pub within : IsFuncWithin (length all) funcs (numbered_fn o f g)
    pub laid : Laid (before ++ fn_cells f g) (fn_after g f).cells (fn_after g f).words (fn_after g f).ports
    pub limit : (fn_after g f).counters ≤ 256

  pub fn_fine : (before rest : List Cell) (o : Outside) (f : Sofar) (g : R.Func) → all ≡ before ++ (fn_cells f g ++ rest) → o.callees ≡ cs → o.current ≤ funcs → o.current ≤ 255 → f.locals ≡ [] → Names before globals_cells o.globals f.locals
      → Laid before f.cells f.words f.ports → f.counters ≤ 256 → first (fn_sites o f g) ≡ None → FnFine before o.current o f g
  fn_fine before rest o f g is table low few empty n l limit none =
      let ps = map param_of g.params in
      let f1 = decls_after ps f in
      let f2 = decls_after g.locals f1 in
      let f3 = bl_after g.body f2 in
      let cs1 = decls_cells f ps in
      let cs2 = decls_cells f1 g.locals in
      let answer_sites = Rattle.mc_tree.specs.Rules.Needs (Rattle.mc_tree.specs.Raw.span_of g.answer) (need g.answer) ∷ ex_sites o f3.locals g.answer in
      let one = none_parts (decls_sites o f ps) (decls_sites o f1 g.locals ++ (bl_sites o no_around f2 g.body ++ answer_sites)) none in
      let two = none_parts (decls_sites o f1 g.locals) (bl_sites o no_around f2 g.body ++ answer_sites) one.1 in
      let three = none_parts (bl_sites o no_around f2 g.body) answer_sites two.1 in
      let d1 = decls_fine o ps f before globals_cells one.0 l n in
      let d2 = decls_fine o g.locals f1 (before ++ cs1) (globals_cells ++ cs1) two.0 d1.laid d1.names in
      let seen = globals_cells ++ (cs1 ++ cs2) in
      let joined : (before ++ cs1) ++ cs2 ≡ before ++ (cs1 ++ cs2) = append_assoc before cs1 cs2 in
      let whole : ((before ++ cs1) ++ cs2) ++ rest ≡ all = ap (λ (l : List Cell). l ++ rest) joined ∙ append_assoc before (cs1 ++ cs2) rest ∙ sym is in
      let names : Names ((before ++ cs1) ++ cs2) seen o.globals f2.locals = subst (λ (l : List Cell). Names ((before ++ cs1) ++ cs2) l o.globals f2.locals) (append_assoc globals_cells cs1 cs2) d2.names in
      let known : Knows all seen o.globals f2.locals =
      subst (λ (l : List Cell). Knows l seen o.globals f2.locals) whole (knows_more ((before ++ cs1) ++ cs2) rest seen o.globals f2.locals names.knows) in
      let same : f.counters ≡ f2.counters = sym (d2.counters ∙ d1.counters) in
      let called = λ (x : List ℕ) (f : Callee) (e : look x o.callees ≡ Some f) (lt : f.number < o.current). calls x f (ap (look x) (sym table) ∙ e) in
      let body = bl_fine all seen o params funcs called low few no_around 0 0 0 0 f.counters f2 g.body (λ h g. absurd (let c : false ≡ true = h in cc)) (omega arith) refl same (omega (arith, limit, same)) known three.0 in
      let answer = ex_fine all seen o f3.locals body.known g.answer (none_from answer_sites 1 three.1) in
      let params = params_fine all o g.params f before globals_cells (cs2 ++ rest) (is ∙ ap (λ (l : List Cell). before ++ l) (append_assoc cs1 cs2 rest)) one.0 l n in
      record {
        checked = record {
          places = params.0;
          words = params_words g.params f;
          names = names.differ;
          body = body.sound;
          answer = test_fine all seen o f3.locals body.known g.answer (Rattle.mc_tree.specs.Raw.span_of g.answer) (none_from answer_sites 1 three.1) (none_at answer_sites 0 three.1);
        };
        count = body.count;
        within = record { params = params.1; body = body.within; answer = answer.within };
        laid = subst (λ (l : List Cell). Laid l f3.cells f3.words f3.ports) joined (laid_bl ((before ++ cs1) ++ cs2) g.body f2 d2.laid);
        limit = body.limit;
      }

  -- functions, with other cells after theirs
  pub record FnsFine (before last : List Cell) (i : ℕ) (globals : Table Symbol) (f : Sofar) (gs : List R.Func) : Type 0 where
    pub routines : (body : Bl) → Routines globals_cells last [] body → Routines globals_cells (fns_cells f gs ++ last) (map (plain_func all) (numbered_fns cs globals i f gs)) body
    pub count : CountedF params i f.counters (map (plain_func all) (numbered_fns cs globals i f gs)) (fns_after gs f).counters
    pub within : All (IsFuncWithin (length all) funcs) (numbered_fns cs globals i f gs)
    pub laid : Laid (before ++ fns_cells f gs) (fns_after gs f).cells (fns_after gs f).words (fns_after gs f).ports
    pub names : Names (before ++ fns_cells f gs) globals_cells (with_functions gs globals) []
    pub few : i + length gs ≤ 16
    pub limit : (fns_after gs f).counters ≤ 256

  pub fns_fine : (before last : List Cell) (i : ℕ) (globals : Table Symbol) (f : Sofar) (gs : List R.Func) → all ≡ before ++ (fns_cells f gs ++ last) → i + length gs ≤ funcs → i ≤ 16 → Names before globals_cells globals []
      → Laid before f.cells f.words f.ports → f.counters ≤ 256 → first (fns_sites cs globals i f gs) ≡ None → FnsFine before last i globals f gs
  fns_fine before last i globals f [] is many few n l limit none = record {
    routines = λ body r. r;
    count = refl;
    within = All-nil (IsFuncWithin (length all) funcs);
    laid = subst (λ (x : List Cell). Laid x f.cells f.words f.ports) (sym (append-nil before)) l;
    names = subst (λ (x : List Cell). Names x globals_cells globals []) (sym (append-nil before)) n;
    few = omega (arith, few);
    limit = limit;
  }
  fns_fine before last i globals f (g ∷ gs) is many few n l limit none =
      let o = with_function cs globals i g in
      let f0 = enter f in
      let f1 = fn_after g f0 in
      let names1 = declare g.name.text symbol.Func globals in
      let own = fn_cells f0 g in
      let others = fns_cells f1 gs in
      let parts = none_parts (named_fn_sites cs globals i f g) (fns_sites cs names1 (i + 1) f1 gs) none in
      let room = within_limit 16 i 1 (test_fails (nat_le i 16 && nat_lt 16 (i + 1)) kind.TooMany g.name.span (none_at (named_fn_sites cs globals i f g) 1 parts.0)) few in
      let named = names_func before globals_cells globals g.name.text n in
      let place : all ≡ before ++ (own ++ (others ++ last)) = is ∙ ap (λ (x : List Cell). before ++ x) (append_assoc own others last) in
      let here = fn_fine before (others ++ last) o f0 g place refl (omega (arith, many)) (omega (arith, room)) refl named l limit (none_from (named_fn_sites cs globals i f g) 2 parts.0) in
      let more = fns_fine (before ++ own) last (i + 1) names1 f1 gs (place ∙ sym (append_assoc before own (others ++ last))) (omega (arith, many)) room (names_more before own globals_cells names1 [] named) here.laid here.limit parts.1 in
      let joined : (before ++ own) ++ others ≡ before ++ (own ++ others) = append_assoc before own others in
      let cs1 = decls_cells f0 (map param_of g.params) in
      let cs2 = decls_cells (decls_after (map param_of g.params) f0) g.locals in
      let next : suc i ≡ i + 1 = omega arith in
      let end = fns_after gs f1 in
      record {
        routines = λ body r. (cs1, cs2, others ++ last, append_assoc own others last, here.checked, more.routines body r);
        count = (f1.counters, here.count, subst (λ (k : ℕ). CountedF params k f1.counters (map (plain_func all) (numbered_fns cs names1 (i + 1) f1 gs)) end.counters) (sym next) more.count);
        within = All-cons (IsFuncWithin (length all) funcs) (numbered_fn o f0 g) (numbered_fns cs names1 (i + 1) f1 gs) here.within more.within;
        laid = subst (λ (x : List Cell). Laid x end.cells end.words end.ports) joined more.laid;
        names = subst (λ (x : List Cell). Names x globals_cells (with_functions gs names1) []) joined more.names;
        few = omega (arith, more.few);
        limit = more.limit;
      }

-- how many parameters the function of a number has
abbrev pub counts : List R.Func → ℕ → ℕ
counts [] j = 0
counts (g ∷ gs) zero = length g.params
counts (g ∷ gs) (suc j) = counts gs j

params_count : (f : Sofar) (ns : List Name) → length (params_at f ns) ≡ length ns
params_count f [] = refl
params_count f (n ∷ ns) = ap suc (params_count (decl_after (param_of n) f) ns)

places_count : (all : List Cell) (ns : List ℕ) → length (map (place_in all) ns) ≡ length ns
places_count all [] = refl
places_count all (n ∷ ns) = ap suc (places_count all ns)

pub counts_same : (all : List Cell) (cs : Table Callee) (globals : Table Symbol) (i : ℕ) (f : Sofar) (gs : List R.Func) (j : ℕ)
    → length (params_of (map (plain_func all) (numbered_fns cs globals i f gs)) j) ≡ counts gs j
counts_same all cs globals i f [] j = refl
counts_same all cs globals i f (g ∷ gs) zero = places_count all (params_at (enter f) g.params) ∙ params_count (enter f) g.params
counts_same all cs globals i f (g ∷ gs) (suc j) = counts_same all cs (declare g.name.text symbol.Func globals) (i + 1) (fn_after g (enter f)) gs j

-- a function that is found is one of the file
pub callee_found : (x : List ℕ) (i : ℕ) (gs : List R.Func) (t : Table Callee) (f : Callee) → look x (callees_from i gs t) ≡ Some f → (look x t ≡ Some f) ⊎ ((j : ℕ) × (f.number ≡ i + j) × (counts gs j ≡ f.params))
callee_found x i [] t f h = inl h
callee_found x i (g ∷ gs) t f h = elim (callee_found x (i + 1) gs (declare g.name.text (record { number = i; params = length g.params }) t) f h) [
  | inl a ↦ elim (found_before x g.name.text (record { number = i; params = length g.params }) f t a) [
    | inl b ↦ inl b
    | inr b ↦ inr (0, let e : i ≡ f.number = ap (λ (c : Callee). c.number) b.2 in omega (arith, e), ap (λ (c : Callee). c.params) b.2)
  ]
  | inr a ↦ inr (suc a.0, let e : f.number ≡ (i + 1) + a.0 = a.1 in omega (arith, e), a.2)
]

pub callees_fine : (x : List ℕ) (gs : List R.Func) (f : Callee) → look x (callees_from 0 gs []) ≡ Some f → counts gs f.number ≡ f.params
callees_fine x gs f h = elim (callee_found x 0 gs [] f h) [
  | inl a ↦ absurd (let c : None ≡ Some f = a in cc)
  | inr a ↦ let e : f.number ≡ a.0 = omega (arith, a.1) in ap (counts gs) e ∙ a.2
]

pub fns_count : (cs : Table Callee) (globals : Table Symbol) (i : ℕ) (f : Sofar) (gs : List R.Func) → length (numbered_fns cs globals i f gs) ≡ length gs
fns_count cs globals i f [] = refl
fns_count cs globals i f (g ∷ gs) = ap suc (fns_count cs (declare g.name.text symbol.Func globals) (i + 1) (fn_after g (enter f)) gs)

pub fns_role : (gs : List R.Func) (f : Sofar) → FuncsHaveLocals gs → All (λ (c : Cell). c.role ≡ role.Local) (fns_cells f gs)
fns_role [] f h = All-nil (λ (c : Cell). c.role ≡ role.Local)
fns_role (g ∷ gs) f h =
    let f0 = enter f in
    let f1 = decls_after (map param_of g.params) f0 in
    All-append (λ (c : Cell). c.role ≡ role.Local) (fn_cells f0 g) (fns_cells (fn_after g f0) gs)
    (All-append (λ (c : Cell). c.role ≡ role.Local) (decls_cells f0 (map param_of g.params)) (decls_cells f1 g.locals) (params_role g.params f0) (locals_role g.locals f1 h.0))
    (fns_role gs (fn_after g f0) h.1)
