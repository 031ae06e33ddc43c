-- A spelled tree has at most as many nodes as tokens, and declares what stands in its place.
use Rattle.std.proofs.Common.{◌≡◌, ◌≢◌, ℕ, zero, suc, ◌+◌, ◌<◌, ◌≤◌, List, [], ◌∷◌, length, Option, Some, None, arith, ap}
use Rattle.std.specs.List.{All}
use Rattle.std.proofs.lemmas.List.Elements.{All-nil, All-cons}
use Rattle.mars_base.specs.declared.text.Span.{Span}
use Rattle.mars_base.specs.declared.word.Role.TheVariants as role
use Rattle.mars_base.specs.declared.word.Role.{Role}
use Rattle.mc_tree.specs.declared.raw.RawDecl.{RawDecl}
use Rattle.mc_tree.specs.declared.raw.RawNumber.{RawNumber}
use Rattle.mc_tree.specs.declared.token.Token.{Token}
use Rattle.mc_tree.specs.Raw.{Ex, St, Set, SetAt, Call, If, While, Scope, Mark, Sequence, Bl, Nil, Then, Else, Nothing, Otherwise, Func, Body, Task}
use Rattle.mc_tree.specs.RawSize.{ex_nodes, args_nodes, st_nodes, bl_nodes, else_nodes, fn_nodes, fns_nodes, body_nodes, raw_nodes}
use Rattle.mc_tree.specs.Spellable.{AreLocals, FuncsHaveLocals, BodyHasLocals, IsSpellable}
use Rattle.mc_tree.specs.Expression.{IsExpressionIn, IsExpression, number, cell, at, parens, un, bin}
use Rattle.mc_tree.specs.Grammar.{IsName, IsWidth, MoreParts, Parts, IsStatement, IsElse, IsBlock, IsDecl, IsLocal, Declares, IsFunc, Funcs, IsBody, IsTask}

module _ (bytes : List ℕ) where
  pub ex_size : {o k : ℕ} {ts : List Token} {e : Ex} {rest : List Token} → IsExpressionIn bytes o k ts e rest → ex_nodes e + length rest ≤ length ts
  ex_size (number v s) = omega arith
  ex_size (cell s) = omega arith
  ex_size (at s p q lt d) = omega (arith, ex_size d)
  ex_size (parens p q lt d) = omega (arith, ex_size d)
  ex_size (un s p op is d) = omega (arith, ex_size d)
  ex_size (bin s p op is le d f) = omega (arith, ex_size d, ex_size f)

  more_size : (es : List Ex) (ts rest : List Token) → MoreParts (IsExpression bytes) ts es rest → args_nodes es + length rest ≤ length ts
  more_size [] ts rest (p, c) = omega (arith, ap length c)
  more_size (e ∷ es) ts rest (p, t1, t2, c, x, more) = omega (arith, ap length c, ex_size x.spells, more_size es t2 rest more)

  args_size : (es : List Ex) (ts rest : List Token) → Parts (IsExpression bytes) ts es rest → args_nodes es + length rest ≤ length ts
  args_size [] ts rest (p, c) = omega (arith, ap length c)
  args_size (e ∷ es) ts rest (t1, x, more) = omega (arith, ex_size x.spells, more_size es t1 rest more)

  names_size : {X : Type 0} (R : List Token → X → List Token → Type 0) → ((ts : List Token) (x : X) (rest : List Token) → R ts x rest → length rest ≤ length ts) → (xs : List X) (ts rest : List Token) → MoreParts R ts xs rest → length rest ≤ length ts
  names_size R f [] ts rest (p, c) = omega (arith, ap length c)
  names_size R f (x ∷ xs) ts rest (p, t1, t2, c, r, more) = omega (arith, ap length c, f t1 x t2 r, names_size R f xs t2 rest more)

  params_size : {X : Type 0} (R : List Token → X → List Token → Type 0) → ((ts : List Token) (x : X) (rest : List Token) → R ts x rest → length rest ≤ length ts) → (xs : List X) (ts rest : List Token) → Parts R ts xs rest → length rest ≤ length ts
  params_size R f [] ts rest (p, c) = omega (arith, ap length c)
  params_size R f (x ∷ xs) ts rest (t1, r, more) = omega (arith, f ts x t1 r, names_size R f xs t1 rest more)

  mutual
    st_size : (d : ℕ) (s : St) (ts rest : List Token) → IsStatement bytes d ts s rest → st_nodes s + length rest ≤ length ts
    st_size d (Set c e span) ts rest (t1, p, t2, t3, q, n, a, x, b, s) = omega (arith, ap length n.0, ap length a, ex_size x.spells, ap length b)
    st_size d (SetAt c i e span) ts rest (t1, p1, t2, t3, p2, t4, p3, t5, t6, q, n, a, x, b, f, y, g, s) =
        omega (arith, ap length n.0, ap length a, ex_size x.spells, ap length b, ap length f, ex_size y.spells, ap length g)
    st_size d (Call c g args span) ts rest (t1, p1, t2, t3, p2, t4, t5, q, n, a, m, b, x, f, s) = omega (arith, ap length n.0, ap length a, ap length m.0, ap length b, args_size args t4 t5 x, ap length f)
    st_size d (If e b o span) ts rest (f, t1, p1, t2, t3, p2, t4, p3, t5, t6, p4, t7, lt, k, a, x, c, g, bl, h, other) =
        omega (arith, ap length k, ap length a, ex_size x.spells, ap length c, ap length g, bl_size (suc d) b t5 t6 bl, ap length h, else_size d f p4 o t7 span rest other)
    st_size d (While n e b span) ts rest (f, t1, p1, t2, t3, p2, t4, t5, p3, t6, p4, t7, t8, q, lt, k, m, v, a, x, c, g, bl, h, s) =
        omega (arith, ap length k, ap length m, ap length v, ap length a, ex_size x.spells, ap length c, ap length g, bl_size (suc d) b t7 t8 bl, ap length h)
    st_size d (Scope n k b span) ts rest (f, t1, t2, p1, t3, t4, p2, t5, t6, q, lt, a, m, c, v, g, bl, h, s) = omega (arith, ap length a, ap length m.0, ap length c, ap length v, ap length g, bl_size (suc d) b t5 t6 bl, ap length h)
    st_size d (Mark n span) ts rest (f, t1, t2, q, k, m, a, s) = omega (arith, ap length k, ap length m.0, ap length a)
    st_size d (Sequence k b span) ts rest (f, t1, p1, t2, t3, p2, t4, t5, q, lt, a, m, v, g, bl, h, s) = omega (arith, ap length a, ap length m, ap length v, ap length g, bl_size (suc d) b t4 t5 bl, ap length h)

    else_size : (d : ℕ) (f q : Span) (o : Else) (ts : List Token) (span : Span) (rest : List Token) → IsElse bytes d f q ts o span rest → else_nodes o + length rest ≤ length ts
    else_size d f q Nothing ts span rest (e, s) = omega (arith, ap length e)
    else_size d f q (Otherwise b) ts span rest (p1, t1, p2, t2, t3, z, k, g, bl, h, s) = omega (arith, ap length k, ap length g, bl_size (suc d) b t2 t3 bl, ap length h)

    pub bl_size : (d : ℕ) (b : Bl) (ts rest : List Token) → IsBlock bytes d ts b rest → bl_nodes b + length rest ≤ length ts
    bl_size d Nil ts rest e = omega (arith, ap length e)
    bl_size d (Then s b) ts rest (mid, x, more) = omega (arith, st_size d s ts mid x, bl_size d b mid rest more)

  width_size : (w : Option RawNumber) (ts rest : List Token) → IsWidth ts w rest → length rest ≤ length ts
  width_size None ts rest e = omega (arith, ap length e)
  width_size (Some n) ts rest (p, t1, t2, q, a, b, c) = omega (arith, ap length a, ap length b, ap length c)

  decl_size : (ts : List Token) (d : RawDecl) (rest : List Token) → IsDecl bytes ts d rest → length rest ≤ length ts
  decl_size ts d rest (p, t1, t2, t3, q, k, n, w, a) = omega (arith, ap length k, ap length n.0, width_size d.width t2 t3 w, ap length a)

  decls_size : (ok : Role → Type 0) (ds : List RawDecl) (ts rest : List Token) → Declares bytes ok ts ds rest → length rest ≤ length ts
  decls_size ok [] ts rest e = omega (arith, ap length e)
  decls_size ok (d ∷ ds) ts rest (mid, o, x, more) = omega (arith, decl_size ts d mid x, decls_size ok ds mid rest more)

  fn_size : (f : Func) (ts rest : List Token) → IsFunc bytes ts f rest → fn_nodes f + length rest ≤ length ts
  fn_size f ts rest (k, t1, t2, p1, t3, t4, p2, t5, t6, t7, p3, t8, t9, p4, t10, q, a, n, b, ps, c, ls, bl, r, x, s, z, span) =
      omega (arith, ap length a, ap length n.0, ap length b, params_size (IsName bytes) (λ ts n rest h. omega (arith, ap length h.0)) f.params t3 t4 ps, ap length c, decls_size (IsLocal bytes) f.locals t5 t6 ls, bl_size 0 f.body t6 t7 bl, ap length r, ex_size x.spells, ap length s, ap length z)

  fns_size : (fs : List Func) (ts rest : List Token) → Funcs bytes ts fs rest → fns_nodes fs + length rest ≤ length ts
  fns_size [] ts rest e = omega (arith, ap length e)
  fns_size (f ∷ fs) ts rest (mid, x, more) = omega (arith, fn_size f ts mid x, fns_size fs mid rest more)

  body_size : (b : Option Body) (ts rest : List Token) → IsBody bytes ts b rest → body_nodes b + length rest ≤ length ts
  body_size None ts rest e = omega (arith, ap length e)
  body_size (Some b) ts rest (p1, t1, p2, t2, t3, t4, q, k, a, ls, bl, c) = omega (arith, ap length k, ap length a, decls_size (IsLocal bytes) b.locals t2 t3 ls, bl_size 0 b.body t3 t4 bl, ap length c)

  -- each node has a token of its own
  pub task_size : (ts : List Token) (t : Task) → IsTask bytes ts t → raw_nodes t ≤ length ts
  task_size ts t (p1, t1, t2, p2, t3, t4, t5, k, n, a, ds, fs, b, e) =
      omega (arith, ap length k, ap length n.0, ap length a, decls_size (λ r. IsLocal bytes r → ⊥) t.decls t3 t4 ds, fns_size t.funcs t4 t5 fs, body_size t.body t5 [] b)

  locals_are : (ds : List RawDecl) (ts rest : List Token) → Declares bytes (IsLocal bytes) ts ds rest → AreLocals ds
  locals_are [] ts rest h = All-nil (λ (d : RawDecl). d.role ≡ role.Local)
  locals_are (d ∷ ds) ts rest (mid, o, x, more) = All-cons (λ (d : RawDecl). d.role ≡ role.Local) d ds o (locals_are ds mid rest more)

  ports_are : (ds : List RawDecl) (ts rest : List Token) → Declares bytes (λ r. IsLocal bytes r → ⊥) ts ds rest → All (λ (d : RawDecl). d.role ≢ role.Local) ds
  ports_are [] ts rest h = All-nil (λ (d : RawDecl). d.role ≢ role.Local)
  ports_are (d ∷ ds) ts rest (mid, o, x, more) = All-cons (λ (d : RawDecl). d.role ≢ role.Local) d ds o (ports_are ds mid rest more)

  funcs_have : (fs : List Func) (ts rest : List Token) → Funcs bytes ts fs rest → FuncsHaveLocals fs
  funcs_have [] ts rest h = tt
  funcs_have (f ∷ fs) ts rest (mid, (k, t1, t2, p1, t3, t4, p2, t5, t6, t7, p3, t8, t9, p4, t10, q, a, n, b, ps, c, ls, bl, r, x, s, z, span), others) = (locals_are f.locals t5 t6 ls, funcs_have fs mid rest others)

  body_has : (b : Option Body) (ts rest : List Token) → IsBody bytes ts b rest → BodyHasLocals b
  body_has None ts rest h = tt
  body_has (Some b) ts rest (p1, t1, p2, t2, t3, t4, q, k, a, ls, bl, c) = locals_are b.locals t2 t3 ls

  -- what is spelled by fewer than 2^32 tokens is spellable
  pub task_spellable : (ts : List Token) (t : Task) → length ts < 4294967296 → IsTask bytes ts t → IsSpellable t
  task_spellable ts t lt h = let w = task_size ts t h in by h (omega (arith, w, lt))
    where
      by : IsTask bytes ts t → raw_nodes t < 4294967296 → IsSpellable t
      by (p1, t1, t2, p2, t3, t4, t5, k, n, a, ds, fs, b, e) size = record { globals = ports_are t.decls t3 t4 ds; funcs = funcs_have t.funcs t4 t5 fs; body = body_has t.body t5 [] b; size = size }
