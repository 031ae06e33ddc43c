-- Which tokens spell a task doesn't depend on the text of its names.
use Rattle.std.proofs.Common.{◌≡◌, ℕ, suc, List, [], ◌∷◌, length, Option, Some, None, arith, refl, ap}
use Rattle.mars_base.specs.declared.text.Span.{Span}
use Rattle.mars_base.specs.declared.word.Role.{Role}
use Rattle.mc_tree.specs.declared.raw.Name.{Name}
use Rattle.mc_tree.specs.declared.raw.RawDecl.{RawDecl}
use Rattle.mc_tree.specs.declared.token.Token.{Token}
use Rattle.mc_tree.specs.Raw.{Ex, Cell, At, Un, Bin, span_of, join, ops, St, Set, SetAt, Call, If, While, Scope, Mark, Sequence, Bl, Nil, Then, Else, Nothing, Otherwise, Func, Body, Task}
use Rattle.mc_tree.specs.Expression.{name_at, number_at, IsExpressionIn, number, cell, at, parens, un, bin, IsExpression}
use Rattle.mc_tree.specs.Grammar.{IsName, MoreParts, Parts, IsStatement, IsElse, IsBlock, Declares, Funcs, IsBody, IsTask}

module _ (a b : List ℕ) where
  ex_text : {o k : ℕ} {ts : List Token} {e : Ex} {rest : List Token} → IsExpressionIn a o k ts e rest → (f : Ex) × IsExpressionIn b o k ts f rest × (ops f ≡ ops e)
  ex_text (number v s) = (number_at v s, number v s, refl)
  ex_text (cell s) = (Cell (name_at b s), cell s, refl)
  ex_text (at s p q l i) = let w = ex_text i in (At (name_at b s) w.0 (join s q), at s p q l w.1, w.2)
  ex_text (parens p q l i) = let w = ex_text i in (w.0, parens p q l w.1, w.2)
  ex_text (un s p op x i) = let w = ex_text i in (Un op w.0 (join p (span_of w.0)), un s p op x w.1, ap suc w.2)
  ex_text (bin s p op x l i j) = let w = ex_text i in let v = ex_text j in (Bin op w.0 v.0 (join (span_of w.0) (span_of v.0)), bin s p op x l w.1 v.1, omega (arith, w.2, v.2))

  whole_text : (ts : List Token) (e : Ex) (rest : List Token) → IsExpression a ts e rest → (f : Ex) × IsExpression b ts f rest
  whole_text ts e rest h = let w = ex_text h.spells in (w.0, record { spells = w.1; few = omega (arith, h.few, w.2) })

  abbrev re : Name → Name
  re n = name_at b n.span

  name_text : (ts : List Token) (n : Name) (rest : List Token) → IsName a ts n rest → (m : Name) × IsName b ts m rest
  name_text ts n rest h = (re n, (h.0, refl))

  module _ {X : Type 0} (R S : List Token → X → List Token → Type 0) (f : (ts : List Token) (x : X) (rest : List Token) → R ts x rest → (y : X) × S ts y rest) where
    more_text : (xs : List X) (ts rest : List Token) → MoreParts R ts xs rest → (ys : List X) × MoreParts S ts ys rest
    more_text [] ts rest h = ([], h)
    more_text (x ∷ xs) ts rest (p, t1, t2, c, r, more) = let w = f t1 x t2 r in let v = more_text xs t2 rest more in (w.0 ∷ v.0, (p, t1, t2, c, w.1, v.1))

    parts_text : (xs : List X) (ts rest : List Token) → Parts R ts xs rest → (ys : List X) × Parts S ts ys rest
    parts_text [] ts rest h = ([], h)
    parts_text (x ∷ xs) ts rest (t1, r, more) = let w = f ts x t1 r in let v = more_text xs t1 rest more in (w.0 ∷ v.0, (t1, w.1, v.1))

  mutual
    st_text : (d : ℕ) (s : St) (ts rest : List Token) → IsStatement a d ts s rest → (u : St) × IsStatement b d ts u rest
    st_text d (Set c e sp) ts rest (t1, p, t2, t3, q, x, y, z, w, r) = let v = whole_text t2 e t3 z in (Set (re c) v.0 sp, (t1, p, t2, t3, q, (x.0, refl), y, v.1, w, r))
    st_text d (SetAt c i e sp) ts rest (t1, p1, t2, t3, p2, t4, p3, t5, t6, q, x, y1, y2, y3, y4, y5, y6, r) =
        let v = whole_text t2 i t3 y2 in let w = whole_text t5 e t6 y5 in (SetAt (re c) v.0 w.0 sp, (t1, p1, t2, t3, p2, t4, p3, t5, t6, q, (x.0, refl), y1, v.1, y3, y4, w.1, y6, r))
    st_text d (Call c f es sp) ts rest (t1, p1, t2, t3, p2, t4, t5, q, x, y1, y2, y3, y4, y5, r) =
        let v = parts_text (IsExpression a) (IsExpression b) whole_text es t4 t5 y4 in (Call (re c) (re f) v.0 sp, (t1, p1, t2, t3, p2, t4, t5, q, (x.0, refl), y1, (y2.0, refl), y3, v.1, y5, r))
    st_text d (If e l o sp) ts rest (f, t1, p1, t2, t3, p2, t4, p3, t5, t6, p4, t7, lt, x, x1, x2, x3, x4, x5, x6, w) =
        let v = whole_text t2 e t3 x2 in let m = bl_text (suc d) l t5 t6 x5 in let n = else_text d f p4 o t7 sp rest w in
        (If v.0 m.0 n.0 sp, (f, t1, p1, t2, t3, p2, t4, p3, t5, t6, p4, t7, lt, x, x1, v.1, x3, x4, m.1, x6, n.1))
    st_text d (While k e l sp) ts rest (f, t1, p1, t2, t3, p2, t4, t5, p3, t6, p4, t7, t8, q, lt, x, x1, x2, x3, x4, x5, x6, x7, x8, r) =
        let v = whole_text t4 e t5 x4 in let m = bl_text (suc d) l t7 t8 x7 in (While k v.0 m.0 sp, (f, t1, p1, t2, t3, p2, t4, t5, p3, t6, p4, t7, t8, q, lt, x, x1, x2, x3, v.1, x5, x6, m.1, x8, r))
    st_text d (Scope n k l sp) ts rest (f, t1, t2, p1, t3, t4, p2, t5, t6, q, lt, x, x1, x2, x3, x4, x5, x6, r) =
        let m = bl_text (suc d) l t5 t6 x5 in (Scope (re n) k m.0 sp, (f, t1, t2, p1, t3, t4, p2, t5, t6, q, lt, x, (x1.0, refl), x2, x3, x4, m.1, x6, r))
    st_text d (Mark n sp) ts rest (f, t1, t2, q, x, x1, x2, r) = (Mark (re n) sp, (f, t1, t2, q, x, (x1.0, refl), x2, r))
    st_text d (Sequence k l sp) ts rest (f, t1, p1, t2, t3, p2, t4, t5, q, lt, x, x1, x2, x3, x4, x5, r) =
        let m = bl_text (suc d) l t4 t5 x4 in (Sequence k m.0 sp, (f, t1, p1, t2, t3, p2, t4, t5, q, lt, x, x1, x2, x3, m.1, x5, r))

    else_text : (d : ℕ) (f q : Span) (o : Else) (ts : List Token) (sp : Span) (rest : List Token) → IsElse a d f q ts o sp rest → (u : Else) × IsElse b d f q ts u sp rest
    else_text d f q Nothing ts sp rest h = (Nothing, h)
    else_text d f q (Otherwise c) ts sp rest (p1, t1, p2, t2, t3, z, x1, x2, x3, x4, r) = let m = bl_text (suc d) c t2 t3 x3 in (Otherwise m.0, (p1, t1, p2, t2, t3, z, x1, x2, m.1, x4, r))

    bl_text : (d : ℕ) (l : Bl) (ts rest : List Token) → IsBlock a d ts l rest → (u : Bl) × IsBlock b d ts u rest
    bl_text d Nil ts rest h = (Nil, h)
    bl_text d (Then s l) ts rest (m, x, more) = let w = st_text d s ts m x in let v = bl_text d l m rest more in (Then w.0 v.0, (m, w.1, v.1))

  decls_text : (ok : Role → Type 0) (ds : List RawDecl) (ts rest : List Token) → Declares a ok ts ds rest → (es : List RawDecl) × Declares b ok ts es rest
  decls_text ok [] ts rest h = ([], h)
  decls_text ok (d ∷ ds) ts rest (m, o, (p, t1, t2, t3, q, x, y, z, w), more) =
      let v = decls_text ok ds m rest more in (record { role = d.role; name = re d.name; width = d.width } ∷ v.0, (m, o, (p, t1, t2, t3, q, x, (y.0, refl), z, w), v.1))

  funcs_text : (fs : List Func) (ts rest : List Token) → Funcs a ts fs rest → (gs : List Func) × Funcs b ts gs rest
  funcs_text [] ts rest h = ([], h)
  funcs_text (f ∷ fs) ts rest (m, (k, t1, t2, p1, t3, t4, p2, t5, t6, t7, p3, t8, t9, p4, t10, q, x, x1, x2, x3, x4, x5, x6, x7, x8, x9, x10, r), more) =
      let v = funcs_text fs m rest more in
      let ns = parts_text (IsName a) (IsName b) name_text f.params t3 t4 x3 in
      let ls = decls_text _ f.locals t5 t6 x5 in
      let l = bl_text 0 f.body t6 t7 x6 in
      let e = whole_text t8 f.answer t9 x8 in (
        record { name = re f.name; params = ns.0; locals = ls.0; body = l.0; answer = e.0; span = f.span } ∷ v.0,
        (m, (k, t1, t2, p1, t3, t4, p2, t5, t6, t7, p3, t8, t9, p4, t10, q, x, (x1.0, refl), x2, ns.1, x4, ls.1, l.1, x7, e.1, x9, x10, r), v.1),
      )

  body_text : (o : Option Body) (ts rest : List Token) → IsBody a ts o rest → (u : Option Body) × IsBody b ts u rest
  body_text None ts rest h = (None, h)
  body_text (Some c) ts rest (p1, t1, p2, t2, t3, t4, q, x1, x2, x3, x4, x5) =
      let ls = decls_text _ c.locals t2 t3 x3 in let l = bl_text 0 c.body t3 t4 x4 in (Some (record { locals = ls.0; body = l.0 }), (p1, t1, p2, t2, t3, t4, q, x1, x2, ls.1, l.1, x5))

  pub task_text : (ts : List Token) (t : Task) → IsTask a ts t → (u : Task) × IsTask b ts u
  task_text ts t (p1, t1, t2, p2, t3, t4, t5, x1, x2, x3, x4, x5, x6, e) =
      let ds = decls_text _ t.decls t3 t4 x4 in let fs = funcs_text t.funcs t4 t5 x5 in let o = body_text t.body t5 [] x6 in
      (record { name = re t.name; decls = ds.0; funcs = fs.0; body = o.0; end = length b }, (p1, t1, t2, p2, t3, t4, t5, x1, (x2.0, refl), x3, ds.1, fs.1, o.1, refl))
