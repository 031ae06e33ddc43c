-- Statements without a fault: they name cells that are seen, their counters follow one another, and a mark has the
-- counter and the bound of its scope.
use Rattle.std.proofs.Common.{◌≡◌, ◌≢◌, ℕ, zero, suc, ◌+◌, ◌<◌, ◌≤◌, Bool, true, false, List, [], ◌∷◌, ◌++◌, length, map, min, max, Option, Some, None, arith, refl, ap, sym, subst, ◌∙◌}
use Rattle.std.specs.Prelude.{nat_lt, nat_le, nat_eq, cond, ◌&&◌, ◌||◌, not}
use Rattle.std.proofs.lemmas.Bool.Decides.{nat_tests}
use Rattle.mars_base.specs.declared.text.Span.{Span}
use Rattle.mc_tree.specs.declared.kind.Kind.TheVariants as kind
use Rattle.mc_tree.specs.declared.raw.Name.{Name}
use Rattle.mc_tree.specs.declared.raw.RawNumber.{RawNumber}
use Rattle.mc_tree.specs.declared.symbol.Symbol.TheVariants as symbol
use Rattle.mc_tree.specs.declared.symbol.Callee.{Callee}
use Rattle.mc_tree.specs.declared.tree.Cell.{Cell}
use Rattle.mc_tree.specs.declared.tree.Stmt.{Stmt}
use Rattle.mc_tree.specs.declared.tree.Stmt.TheVariants as s
use Rattle.mc_tree.specs.CheckedTask.{Look, look_stmt, is_expr_within, all_within, all_loops}
use Rattle.mc_tree.specs.Counters.{Counted, CountedB, CountedL}
use Rattle.mc_tree.specs.Height.{height}
use Rattle.mc_tree.specs.Numbered.{up_to, cell_of, func_of, numbered_ex, numbered_args, numbered_st, numbered_bl}
use Rattle.mc_tree.specs.Plain.{place_in, width_in, plain_expr, plain_args, plain_stmt, plain_list, plain_loops, loop_before}
use Rattle.mc_tree.specs.Raw as R
use Rattle.mc_tree.specs.Rules.{first, rule, fault, has_scope, is_scope, Bound, Needs}
use Rattle.mc_tree.specs.Sites.{Outside, Sofar, Around, means, need, args_need, ex_sites, args_sites, st_sites, bl_sites, else_sites, st_after, bl_after, counted, scoped, in_block, in_while, in_scope, in_sequence}
use Rattle.mc_tree.specs.Sound.{Sound, SoundB, SoundL, SoundTest}
use Rattle.mc_tree.specs.Symbols.{look}
use Rattle.mc_tree.specs.Tree.{St, Bl, Ls}
use Rattle.mc_tree.proofs.Plain.{plain_set, plain_set_at, plain_call, plain_when, plain_choice, plain_while, plain_scope, plain_mark, plain_sequence}
use Rattle.mc_tree.proofs.Within.{looks, look_set, look_set_at, look_call, look_when, look_choice, look_while, look_scope, look_mark, look_sequence}
use Rattle.mc_rules.proofs.NoFault.{none_parts, none_at, none_from, test_fails, rule_at}
use Rattle.mc_rules.proofs.Cells.{Knows, knows_other, scope_no_cell, up_to_fine}
use Rattle.mc_rules.proofs.Expressions.{both, called, height_same, args_height_fine, args_count, cell_fine, array_fine, ex_fine, args_fine, test_fine, no_fault}

-- where a mark may stand, it has the counter and the bound of the innermost scope
abbrev pub Reach : Around → (c k sc kb : ℕ) → Type 0
Reach a c k sc kb = has_scope a.scope ≡ true → a.closed ≡ false → (suc c ≡ sc) × (k ≡ kb)

or_left : (a b : Bool) → (a || b) ≡ false → a ≡ false
or_left true b h = h
or_left false b h = refl

or_right : (a b : Bool) → (a || b) ≡ false → b ≡ false
or_right true b h = absurd (let c : true ≡ false = h in cc)
or_right false b h = h

some_scope : (m : Option (List ℕ)) (x : List ℕ) → is_scope m x ≡ true → has_scope m ≡ true
some_scope None x h = h
some_scope (Some y) x h = refl

not_true : (b : Bool) → not b ≡ false → b ≡ true
not_true true h = refl
not_true false h = absurd (let c : true ≡ false = h in cc)

and_closed : (a b : Bool) → (a && b) ≡ false → a ≡ true → b ≡ false
and_closed true b h g = h
and_closed false b h g = absurd (let c : false ≡ true = g in cc)

bound_fine : (b : RawNumber) (lo hi : ℕ) → rule (Bound b lo hi) ≡ None → (lo ≤ b.value) × (b.value ≤ hi)
bound_fine b lo hi h = by (nat_lt b.value lo) refl h
  where
    below : (d : Bool) → nat_lt hi b.value ≡ d → fault d kind.BoundTooLarge b.span ≡ None → b.value ≤ hi
    below true e h = absurd (no_fault (record { kind = kind.BoundTooLarge; span = b.span }) h)
    below false e h = grind (arith, nat_tests)

    by : (d : Bool) → nat_lt b.value lo ≡ d → cond d (Some (record { kind = kind.ZeroBound; span = b.span })) (fault (nat_lt hi b.value) kind.BoundTooLarge b.span) ≡ None → (lo ≤ b.value) × (b.value ≤ hi)
    by true e h = absurd (no_fault (record { kind = kind.ZeroBound; span = b.span }) h)
    by false e h = (grind (arith, nat_tests), below (nat_lt hi b.value) refl h)

counts_fine : (n : ℕ) (p : Span) → fault (nat_eq n 256) kind.TooManyCounters p ≡ None → n ≤ 256 → n ≤ 255
counts_fine n p h le = let f = test_fails (nat_eq n 256) kind.TooManyCounters p h in grind (arith, nat_tests, f)

deep_fine : (n : ℕ) (p : Span) → rule (Needs p n) ≡ None → n ≤ 64
deep_fine n p h = let f = test_fails (nat_lt 64 n) kind.ExpressionTooDeep p h in grind (arith, nat_tests, f)

-- what stands before any other statement than a while
directly : (a : Around) (p : Span) → fault a.direct kind.NotALoop p ≡ None → a.direct ≡ true → ⊥
directly a p h d = let e = test_fails a.direct kind.NotALoop p h in let c : true ≡ false = sym d ∙ e in cc

module _ (all seen : List Cell) (o : Outside) (params : ℕ → List ℕ) (funcs : ℕ)
    (calls : (x : List ℕ) (f : Callee) → look x o.callees ≡ Some f → f.number < o.current → length (params f.number) ≡ f.params)
    (low : o.current ≤ funcs) (few : o.current ≤ 255) where
  -- a statement, after which f' stands
  pub record StFine (sc kb lo : ℕ) (x : Stmt) (f' : Sofar) : Type 0 where
    pub sound : Sound seen (plain_stmt all x)
    pub count : Counted params o.current sc kb lo (plain_stmt all x) f'.counters
    pub within : (look_stmt (length all) funcs x).within ≡ true
    pub limit : f'.counters ≤ 256
    pub known : Knows all seen o.globals f'.locals

  pub record BlFine (sc kb lo : ℕ) (xs : List Stmt) (f' : Sofar) : Type 0 where
    pub sound : SoundB seen (plain_list all xs)
    pub count : CountedB params o.current sc kb lo (plain_list all xs) f'.counters
    pub within : all_within (looks (length all) funcs xs) ≡ true
    pub limit : f'.counters ≤ 256
    pub known : Knows all seen o.globals f'.locals

  pub record LsFine (lo : ℕ) (xs : List Stmt) (f' : Sofar) : Type 0 where
    pub sound : SoundL seen (plain_loops all xs)
    pub count : CountedL params o.current lo (plain_loops all xs) f'.counters
    pub within : all_within (looks (length all) funcs xs) ≡ true
    pub loops : all_loops (looks (length all) funcs xs) ≡ true
    pub limit : f'.counters ≤ 256
    pub known : Knows all seen o.globals f'.locals

  abbrev Counts : (sc kb lo hi : ℕ) → St → Type 0
  Counts sc kb lo hi x = Counted params o.current sc kb lo x hi

  mutual
    pub st_fine : (a : Around) (c k sc kb lo : ℕ) (f : Sofar) (x : R.St) → Reach a c k sc kb → kb ≤ 1023 → a.direct ≡ false → lo ≡ f.counters → f.counters ≤ 256 → Knows all seen o.globals f.locals → first (st_sites o a f x) ≡ None
        → StFine sc kb lo (numbered_st o c k f x) (st_after x f)
    st_fine a c k sc kb lo f (R.Set n v p) reach small loose at limit known none =
        let ss = st_sites o a f (R.Set n v p) in
        let x = cell_fine all seen o f.locals known n (none_at ss 2 none) in
        let e = ex_fine all seen o f.locals known v (none_from ss 3 none) in
        let place = cell_of (means o f.locals n) in
        let value = numbered_ex o f.locals v in
        let test = test_fine all seen o f.locals known v p (none_from ss 3 none) (none_at ss 1 none) in
        record {
          sound = subst (Sound seen) (sym (plain_set all place value)) (x.0, test);
          count = subst (Counts sc kb lo f.counters) (sym (plain_set all place value)) (sym at);
          within = ap (λ (l : Look). l.within) (look_set (length all) funcs place value) ∙ both _ _ x.1 e.within;
          limit = limit;
          known = known;
        }
    st_fine a c k sc kb lo f (R.SetAt n i v p) reach small loose at limit known none =
        let ss = st_sites o a f (R.SetAt n i v p) in
        let x = array_fine all seen o f.locals known n (none_at ss 2 none) in
        let parts = none_parts (ex_sites o f.locals i) (ex_sites o f.locals v) (none_from ss 3 none) in
        let d = ex_fine all seen o f.locals known i parts.0 in
        let e = ex_fine all seen o f.locals known v parts.1 in
        let place = cell_of (means o f.locals n) in
        let index = numbered_ex o f.locals i in
        let value = numbered_ex o f.locals v in
        let deep = deep_fine (max (need i) (1 + need v)) p (none_at ss 1 none) in
        let high : max (height (plain_expr all index)) (1 + height (plain_expr all value)) ≤ 64 = omega (arith, deep, height_same all o f.locals i, height_same all o f.locals v) in
        record {
          sound = subst (Sound seen) (sym (plain_set_at all place index value)) (x.0, d.sound, e.sound, high);
          count = subst (Counts sc kb lo f.counters) (sym (plain_set_at all place index value)) (sym at);
          within = ap (λ (l : Look). l.within) (look_set_at (length all) funcs place index value) ∙ both _ _ x.1 (both _ _ d.within e.within);
          limit = limit;
          known = known;
        }
    st_fine a c k sc kb lo f (R.Call n g es p) reach small loose at limit known none =
        let ss = st_sites o a f (R.Call n g es p) in
        let x = cell_fine all seen o f.locals known n (none_at ss 2 none) in
        let callee = called (look g.text o.callees) (length es) o.current g.span (none_at ss 3 none) in
        let es_fine = args_fine all seen o f.locals known es (none_from ss 4 none) in
        let place = cell_of (means o f.locals n) in
        let number = func_of (look g.text o.callees) in
        let args = numbered_args o f.locals es in
        let high = args_height_fine all o f.locals es (deep_fine (max 1 (args_need 0 es)) p (none_at ss 1 none)) in
        let is : number ≡ callee.callee.number = ap func_of callee.is ∙ up_to_fine 255 callee.callee.number (omega (arith, callee.earlier, few)) in
        let below : number < o.current = omega (arith, is, callee.earlier) in
        let full = calls g.text callee.callee callee.is callee.earlier in
        let there : nat_lt number funcs ≡ true = grind (arith, nat_tests, below, low) in
        record {
          sound = subst (Sound seen) (sym (plain_call all place number args)) (x.0, es_fine.0, high);
          count = subst (Counts sc kb lo f.counters) (sym (plain_call all place number args))
              (sym at, below, args_count all o f.locals es ∙ callee.same ∙ sym full ∙ ap (λ (m : ℕ). length (params m)) (sym is));
          within = ap (λ (l : Look). l.within) (look_call (length all) funcs place number args) ∙ both _ _ x.1 (both _ _ there es_fine.1);
          limit = limit;
          known = known;
        }
    st_fine a c k sc kb lo f (R.If t b R.Nothing p) reach small loose at limit known none =
        let ss = st_sites o a f (R.If t b R.Nothing p) in
        let parts = none_parts (ex_sites o f.locals t) (bl_sites o (in_block a) f b ++ []) (none_from ss 2 none) in
        let inner = none_parts (bl_sites o (in_block a) f b) [] parts.1 in
        let e = ex_fine all seen o f.locals known t parts.0 in
        let test = test_fine all seen o f.locals known t p parts.0 (none_at ss 1 none) in
        let x = bl_fine (in_block a) c k sc kb lo f b reach small refl at limit known inner.0 in
        let tested = numbered_ex o f.locals t in
        let body = numbered_bl o c k f b in
        record {
          sound = subst (Sound seen) (sym (plain_when all tested body)) (test, x.sound);
          count = subst (Counts sc kb lo (bl_after b f).counters) (sym (plain_when all tested body)) x.count;
          within = ap (λ (l : Look). l.within) (look_when (length all) funcs tested body) ∙ both _ _ e.within (both _ _ x.within refl);
          limit = x.limit;
          known = x.known;
        }
    st_fine a c k sc kb lo f (R.If t b (R.Otherwise d) p) reach small loose at limit known none =
        let ss = st_sites o a f (R.If t b (R.Otherwise d) p) in
        let f1 = bl_after b f in
        let parts = none_parts (ex_sites o f.locals t) (bl_sites o (in_block a) f b ++ bl_sites o (in_block a) f1 d) (none_from ss 2 none) in
        let inner = none_parts (bl_sites o (in_block a) f b) (bl_sites o (in_block a) f1 d) parts.1 in
        let e = ex_fine all seen o f.locals known t parts.0 in
        let test = test_fine all seen o f.locals known t p parts.0 (none_at ss 1 none) in
        let x = bl_fine (in_block a) c k sc kb lo f b reach small refl at limit known inner.0 in
        let y = bl_fine (in_block a) c k sc kb f1.counters f1 d reach small refl refl x.limit x.known inner.1 in
        let tested = numbered_ex o f.locals t in
        let body = numbered_bl o c k f b in
        let other = numbered_bl o c k f1 d in
        record {
          sound = subst (Sound seen) (sym (plain_choice all tested body other)) (test, x.sound, y.sound);
          count = subst (Counts sc kb lo (bl_after d f1).counters) (sym (plain_choice all tested body other)) (f1.counters, x.count, y.count);
          within = ap (λ (l : Look). l.within) (look_choice (length all) funcs tested body other) ∙ both _ _ e.within (both _ _ x.within y.within);
          limit = y.limit;
          known = y.known;
        }
    st_fine a c k sc kb lo f (R.While n t b p) reach small loose at limit known none =
        let ss = st_sites o a f (R.While n t b p) in
        let parts = none_parts (ex_sites o f.locals t) (bl_sites o (in_while a) (counted f) b) (none_from ss 3 none) in
        let room = counts_fine f.counters p (none_at ss 0 none) limit in
        let test = test_fine all seen o f.locals known t p parts.0 (none_at ss 1 none) in
        let e = ex_fine all seen o f.locals known t parts.0 in
        let bound = bound_fine n 1 65535 (none_at ss 2 none) in
        let next : suc lo ≡ (counted f).counters = omega (arith, at, room) in
        let x = bl_fine (in_while a) c k sc kb (suc lo) (counted f) b (λ h g. reach h (or_left a.closed a.direct g)) small refl next (omega (arith, room)) known parts.1 in
        let own = up_to 255 f.counters in
        let most = up_to 65535 n.value in
        let tested = numbered_ex o f.locals t in
        let body = numbered_bl o c k (counted f) b in
        let own_is : own ≡ lo = up_to_fine 255 f.counters room ∙ sym at in
        let most_is : most ≡ n.value = up_to_fine 65535 n.value bound.1 in
        record {
          sound = subst (Sound seen) (sym (plain_while all own most tested body)) ((omega (arith, most_is, bound.0), omega (arith, most_is, bound.1)), test, x.sound);
          count = subst (Counts sc kb lo (bl_after b (counted f)).counters) (sym (plain_while all own most tested body)) (own_is, x.count);
          within = ap (λ (l : Look). l.within) (look_while (length all) funcs own most tested body) ∙ both _ _ e.within x.within;
          limit = x.limit;
          known = x.known;
        }
    st_fine a c k sc kb lo f (R.Scope n m b p) reach small loose at limit known none =
        let ss = st_sites o a f (R.Scope n m b p) in
        let room = counts_fine f.counters p (none_at ss 1 none) limit in
        let bound = bound_fine m 0 1023 (none_at ss 3 none) in
        let next : suc lo ≡ (scoped n f).counters = omega (arith, at, room) in
        let own = up_to 255 f.counters in
        let most = up_to 65535 m.value in
        let own_is : own ≡ lo = up_to_fine 255 f.counters room ∙ sym at in
        let most_is : most ≡ m.value = up_to_fine 65535 m.value (omega (arith, bound.1)) in
        let few_marks : most ≤ 1023 = omega (arith, most_is, bound.1) in
        let x = bl_fine (in_scope n) own most (suc lo) most (suc lo) (scoped n f) b (λ h g. (ap suc own_is, refl)) few_marks refl next (omega (arith, room))
        (knows_other all seen o.globals f.locals n.text symbol.Scope scope_no_cell known) (none_from ss 4 none) in
        let body = numbered_bl o own most (scoped n f) b in
        record {
          sound = subst (Sound seen) (sym (plain_scope all own most body)) (few_marks, x.sound);
          count = subst (Counts sc kb lo (bl_after b (scoped n f)).counters) (sym (plain_scope all own most body)) (own_is, x.count);
          within = ap (λ (l : Look). l.within) (look_scope (length all) funcs own most body) ∙ x.within;
          limit = x.limit;
          known = x.known;
        }
    st_fine a c k sc kb lo f (R.Mark n p) reach small loose at limit known none =
        let ss = st_sites o a f (R.Mark n p) in
        let inside = not_true (is_scope a.scope n.text) (test_fails (not (is_scope a.scope n.text)) kind.MarkOutsideItsScope n.span (none_at ss 1 none)) in
        let some = some_scope a.scope n.text inside in
        let free = and_closed (has_scope a.scope) a.closed (test_fails (has_scope a.scope && a.closed) kind.MarkOfAnOuterScope n.span (none_at ss 2 none)) some in
        let r = reach some free in
        record {
          sound = subst (Sound seen) (sym (plain_mark all c k)) (omega (arith, r.1, small));
          count = subst (Counts sc kb lo f.counters) (sym (plain_mark all c k)) (sym at, r.0, r.1);
          within = ap (λ (l : Look). l.within) (look_mark (length all) funcs c k);
          limit = limit;
          known = known;
        }
    st_fine a c k sc kb lo f (R.Sequence m b p) reach small loose at limit known none =
        let ss = st_sites o a f (R.Sequence m b p) in
        let room = counts_fine f.counters p (none_at ss 1 none) limit in
        let bound = bound_fine m 1 65535 (none_at ss 2 none) in
        let next : suc lo ≡ (counted f).counters = omega (arith, at, room) in
        let x = ls_fine (in_sequence a) c k (suc lo) (counted f) b refl next (omega (arith, room)) known (none_from ss 3 none) in
        let own = up_to 255 f.counters in
        let most = up_to 65535 m.value in
        let body = numbered_bl o c k (counted f) b in
        let own_is : own ≡ lo = up_to_fine 255 f.counters room ∙ sym at in
        let most_is : most ≡ m.value = up_to_fine 65535 m.value bound.1 in
        record {
          sound = subst (Sound seen) (sym (plain_sequence all own most body)) ((omega (arith, most_is, bound.0), omega (arith, most_is, bound.1)), x.sound);
          count = subst (Counts sc kb lo (bl_after b (counted f)).counters) (sym (plain_sequence all own most body)) (own_is, x.count);
          within = ap (λ (l : Look). l.within) (look_sequence (length all) funcs own most body) ∙ both _ _ x.loops x.within;
          limit = x.limit;
          known = x.known;
        }

    pub bl_fine : (a : Around) (c k sc kb lo : ℕ) (f : Sofar) (b : R.Bl) → Reach a c k sc kb → kb ≤ 1023 → a.direct ≡ false → lo ≡ f.counters → f.counters ≤ 256 → Knows all seen o.globals f.locals → first (bl_sites o a f b) ≡ None
        → BlFine sc kb lo (numbered_bl o c k f b) (bl_after b f)
    bl_fine a c k sc kb lo f R.Nil reach small loose at limit known none = record { sound = tt; count = sym at; within = refl; limit = limit; known = known }
    bl_fine a c k sc kb lo f (R.Then x rest) reach small loose at limit known none =
        let f1 = st_after x f in
        let parts = none_parts (st_sites o a f x) (bl_sites o a f1 rest) none in
        let here = st_fine a c k sc kb lo f x reach small loose at limit known parts.0 in
        let more = bl_fine a c k sc kb f1.counters f1 rest reach small loose refl here.limit here.known parts.1 in
        record {
          sound = (here.sound, more.sound);
          count = (f1.counters, here.count, more.count);
          within = both _ _ here.within more.within;
          limit = more.limit;
          known = more.known;
        }

    pub ls_fine : (a : Around) (c k lo : ℕ) (f : Sofar) (b : R.Bl) → a.direct ≡ true → lo ≡ f.counters → f.counters ≤ 256 → Knows all seen o.globals f.locals → first (bl_sites o a f b) ≡ None → LsFine lo (numbered_bl o c k f b) (bl_after b f)
    ls_fine a c k lo f R.Nil direct at limit known none = record { sound = tt; count = sym at; within = refl; loops = refl; limit = limit; known = known }
    ls_fine a c k lo f (R.Then (R.While n t b p) rest) direct at limit known none =
        let ss = st_sites o a f (R.While n t b p) in
        let f1 = bl_after b (counted f) in
        let two = none_parts ss (bl_sites o a f1 rest) none in
        let parts = none_parts (ex_sites o f.locals t) (bl_sites o (in_while a) (counted f) b) (none_from ss 3 two.0) in
        let room = counts_fine f.counters p (none_at ss 0 two.0) limit in
        let test = test_fine all seen o f.locals known t p parts.0 (none_at ss 1 two.0) in
        let e = ex_fine all seen o f.locals known t parts.0 in
        let bound = bound_fine n 1 65535 (none_at ss 2 two.0) in
        let next : suc lo ≡ (counted f).counters = omega (arith, at, room) in
        let x = bl_fine (in_while a) c k 0 0 (suc lo) (counted f) b (λ h g. absurd (let d : true ≡ false = sym direct ∙ or_right a.closed a.direct g in cc)) (omega arith) refl next (omega (arith, room)) known parts.1 in
        let more = ls_fine a c k f1.counters f1 rest direct refl x.limit x.known two.1 in
        let own = up_to 255 f.counters in
        let most = up_to 65535 n.value in
        let tested = numbered_ex o f.locals t in
        let body = numbered_bl o c k (counted f) b in
        let others = numbered_bl o c k f1 rest in
        let own_is : own ≡ lo = up_to_fine 255 f.counters room ∙ sym at in
        let most_is : most ≡ n.value = up_to_fine 65535 n.value bound.1 in
        record {
          sound = subst (λ (y : St). SoundL seen (loop_before y (plain_loops all others))) (sym (plain_while all own most tested body))
              ((omega (arith, most_is, bound.0), omega (arith, most_is, bound.1)), test, x.sound, more.sound);
          count = subst (λ (y : St). CountedL params o.current lo (loop_before y (plain_loops all others)) (bl_after rest f1).counters) (sym (plain_while all own most tested body))
              (f1.counters, own_is, x.count, more.count);
          within = both _ _ (ap (λ (l : Look). l.within) (look_while (length all) funcs own most tested body) ∙ both _ _ e.within x.within) more.within;
          loops = both _ _ (ap (λ (l : Look). l.loop) (look_while (length all) funcs own most tested body)) more.loops;
          limit = more.limit;
          known = more.known;
        }
    ls_fine a c k lo f (R.Then (R.Set n v p) rest) direct at limit known none =
        let x = none_parts (st_sites o a f (R.Set n v p)) (bl_sites o a (st_after (R.Set n v p) f) rest) none in
        absurd (directly a p (none_at (st_sites o a f (R.Set n v p)) 0 x.0) direct)
    ls_fine a c k lo f (R.Then (R.SetAt n i v p) rest) direct at limit known none =
        let x = none_parts (st_sites o a f (R.SetAt n i v p)) (bl_sites o a (st_after (R.SetAt n i v p) f) rest) none in
        absurd (directly a p (none_at (st_sites o a f (R.SetAt n i v p)) 0 x.0) direct)
    ls_fine a c k lo f (R.Then (R.Call n g es p) rest) direct at limit known none =
        let x = none_parts (st_sites o a f (R.Call n g es p)) (bl_sites o a (st_after (R.Call n g es p) f) rest) none in
        absurd (directly a p (none_at (st_sites o a f (R.Call n g es p)) 0 x.0) direct)
    ls_fine a c k lo f (R.Then (R.If t b d p) rest) direct at limit known none =
        let x = none_parts (st_sites o a f (R.If t b d p)) (bl_sites o a (st_after (R.If t b d p) f) rest) none in
        absurd (directly a p (none_at (st_sites o a f (R.If t b d p)) 0 x.0) direct)
    ls_fine a c k lo f (R.Then (R.Scope n m b p) rest) direct at limit known none =
        let x = none_parts (st_sites o a f (R.Scope n m b p)) (bl_sites o a (st_after (R.Scope n m b p) f) rest) none in
        absurd (directly a p (none_at (st_sites o a f (R.Scope n m b p)) 0 x.0) direct)
    ls_fine a c k lo f (R.Then (R.Mark n p) rest) direct at limit known none =
        let x = none_parts (st_sites o a f (R.Mark n p)) (bl_sites o a (st_after (R.Mark n p) f) rest) none in
        absurd (directly a p (none_at (st_sites o a f (R.Mark n p)) 0 x.0) direct)
    ls_fine a c k lo f (R.Then (R.Sequence m b p) rest) direct at limit known none =
        let x = none_parts (st_sites o a f (R.Sequence m b p)) (bl_sites o a (st_after (R.Sequence m b p) f) rest) none in
        absurd (directly a p (none_at (st_sites o a f (R.Sequence m b p)) 0 x.0) direct)
