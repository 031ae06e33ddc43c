-- Tasks are read exactly.
use Rattle.std.proofs.Common.{◌≡◌, ℕ, List, [], ◌∷◌, length, Option, Some, None, arith, refl, ap, ◌∙◌, sym, subst, inl, inr}
use Rattle.mars_base.specs.declared.text.Span.{Span}
use Rattle.mars_base.specs.declared.word.Role.{Role}
use Rattle.mars_base.specs.declared.word.Role.TheVariants as R
use Rattle.mc_tree.specs.declared.raw.Name.{Name}
use Rattle.mc_tree.specs.declared.raw.RawNumber.{RawNumber}
use Rattle.mc_tree.specs.declared.raw.RawDecl.{RawDecl}
use Rattle.mc_tree.specs.declared.token.Key.TheVariants as K
use Rattle.mc_tree.specs.declared.token.Sign.TheVariants as S
use Rattle.mc_tree.specs.declared.token.Token.{Token}
use Rattle.mc_tree.specs.declared.token.TokenKind.TheVariants as T
use Rattle.mc_tree.specs.Raw.{Ex, join, St, Bl, Func, Body, Task}
use Rattle.mc_reader.specs.Roles.{tok}
use Rattle.mc_tree.specs.Expression.{IsExpression}
use Rattle.mc_tree.specs.Grammar.{IsKey, IsSign, IsNumber, IsName, IsWidth, Parts, IsBlock, word_of, IsDecl, Ports, Locals, IsFunc, Funcs, IsBody, IsTask}
use Rattle.mc_reader.specs.Reading.{done}
use Rattle.mc_reader.specs.Readers.{at_sign, at_key, name, enclosed, width, block_of, decl, at_port, at_local, ports, locals, func, funcs, body, task}
use Rattle.mc_reader.proofs.Live.{Any, Misses, AtEnd}
use Rattle.mc_reader.proofs.LiveTask.{FolWidth, width_fol, is_local, is_port, live_name, name_not, live_decl, live_func, FolFuncs, FolBody, func_end, body_end, func_rests, func_no_local, body_rests, body_no_local, fits_locals, tree, no_func, no_port, body_fits}
use Rattle.mc_reader.proofs.Firsts.{is_sign, is_key, sign_first}
use Rattle.mc_reader.proofs.Exact.{Exact, says, Nothing_, Then_, Choice_, Many, exact_both, exact_next, exact_choice, exact_end}
use Rattle.mc_reader.proofs.ExactLists.{Part, exact_listed}
use Rattle.mc_reader.proofs.ExactStatements.{exact_number, exact_name, sign_ex, key_ex, value_ex, done_ex, exact_enclosed, exact_statements, IsSts, list_of, list_block}

exact_width : Exact FolWidth width IsWidth
exact_width = says (exact_choice (λ p. exact_next exact_number (λ n. sign_ex S.CloseBracket refl (λ q. done_ex FolWidth (Some n)))) (λ ts h. h)) to from
  where
    R : Span → List Token → Option RawNumber → List Token → Type 0
    R p = Then_ IsNumber (λ n. Then_ (IsSign S.CloseBracket) (λ q. Nothing_ (Some n)))

    to : (ts : List Token) (w : Option RawNumber) (rest : List Token) → Choice_ (at_sign S.OpenBracket) R None ts w rest → IsWidth ts w rest
    to ts None rest (inr (e, l)) = l
    to ts None rest (inl (t, p, us, i, g, (n, m, x, (q, m2, y, (e, l))))) = absurd cc
    to ts (Some v) rest (inr (e, l)) = absurd cc
    to ts (Some v) rest (inl (t, p, us, i, g, (n, m, x, (q, m2, y, (e, l))))) =
        let c : v ≡ n = cc in
        (p, us, m, q, i ∙ ap (λ s. s ∷ us) (is_sign S.OpenBracket t p g), x ∙ ap (λ (k : RawNumber). tok (T.Number k.value) k.span ∷ m) (sym c), y ∙ ap (λ k. tok (T.Sign S.CloseBracket) q ∷ k) l)

    from : (ts : List Token) (w : Option RawNumber) (rest : List Token) → IsWidth ts w rest → Choice_ (at_sign S.OpenBracket) R None ts w rest
    from ts None rest h = inr (refl, h)
    from ts (Some v) rest (p, t1, t2, q, x, y, z) = inl (tok (T.Sign S.OpenBracket) p, p, t1, x, refl, (v, t2, y, (q, rest, z, (refl, refl))))

module _ (bytes : List ℕ) where
  abbrev made : Role → Name → Option RawNumber → RawDecl
  made r n w = record { role = r; name = n; width = w }

  abbrev AfterWord : Role → List Token → RawDecl → List Token → Type 0
  AfterWord r = Then_ (IsName bytes) (λ n. Then_ IsWidth (λ w. Then_ (IsSign S.Semicolon) (λ q. Nothing_ (made r n w))))

  exact_decl : (r : Role) → Exact Any (decl bytes r) (AfterWord r)
  exact_decl r = exact_next (exact_name bytes) (λ n. exact_both exact_width (λ w. sign_ex S.Semicolon refl (λ q. done_ex Any (made r n w))) (λ w ts y rest h k. sign_first (λ q. done (made r n w)) ts y rest S.Semicolon (FolWidth w) h (λ p us. width_fol w p us)))

  decl_to : (t : Token) (r : Role) (us ts : List Token) (d : RawDecl) (rest : List Token) → ts ≡ t ∷ us → t ≡ tok (T.Key (word_of r)) t.span → AfterWord r us d rest → (d.role ≡ r) × IsDecl bytes ts d rest
  decl_to t r us ts d rest i e (n, m, x, (w, m2, y, (q, m3, z, (k, l)))) =
      subst (λ (v : RawDecl). (v.role ≡ r) × IsDecl bytes ts v rest) (sym k) (refl, (t.span, us, m, m2, q, i ∙ ap (λ s. s ∷ us) e, x, y, z ∙ ap (λ v. tok (T.Sign S.Semicolon) q ∷ v) l))

  decl_from : (d : RawDecl) (ts rest : List Token) → IsDecl bytes ts d rest → (p : Span) × (us : List Token) × (ts ≡ tok (T.Key (word_of d.role)) p ∷ us) × AfterWord d.role us d rest
  decl_from d ts rest (p, t1, t2, t3, q, x, y, z, w) = (p, t1, x, (d.name, t2, y, (d.width, t3, z, (q, rest, w, (refl, refl)))))

  locals_to : (ds : List RawDecl) (ts rest : List Token) → Many (Part at_local AfterWord) ts ds rest → Locals bytes ts ds rest
  locals_to [] ts rest h = h
  locals_to (d ∷ ds) ts rest (m, (t, r, us, i, g, w), more) = let l = is_local t r g in let x = decl_to t r us ts d m i (l.0 ∙ ap (λ k. tok (T.Key (word_of k)) t.span) (sym l.1)) w in (m, x.0 ∙ l.1, x.1, locals_to ds m rest more)

  locals_from : (ds : List RawDecl) (ts rest : List Token) → Locals bytes ts ds rest → Many (Part at_local AfterWord) ts ds rest
  locals_from [] ts rest h = h
  locals_from (d ∷ ds) ts rest (m, ok, x, more) =
      let w = decl_from d ts m x in
      (m, (tok (T.Key (word_of d.role)) w.0, d.role, w.1, w.2, subst (λ r. at_local (tok (T.Key (word_of r)) w.0) ≡ Some r) (sym ok) refl, w.3), locals_from ds m rest more)

  ports_to : (ds : List RawDecl) (ts rest : List Token) → Many (Part at_port AfterWord) ts ds rest → Ports bytes ts ds rest
  ports_to [] ts rest h = h
  ports_to (d ∷ ds) ts rest (m, (t, r, us, i, g, w), more) = let l = is_port t r g in let x = decl_to t r us ts d m i l.0 w in (m, (λ e. l.1 (sym x.0 ∙ e)), x.1, ports_to ds m rest more)

  port_role : (r : Role) (p : Span) → (r ≡ R.Local → ⊥) → at_port (tok (T.Key (word_of r)) p) ≡ Some r
  port_role R.In p h = refl
  port_role R.Out p h = refl
  port_role R.State p h = refl
  port_role R.Local p h = absurd (h refl)

  ports_from : (ds : List RawDecl) (ts rest : List Token) → Ports bytes ts ds rest → Many (Part at_port AfterWord) ts ds rest
  ports_from [] ts rest h = h
  ports_from (d ∷ ds) ts rest (m, ok, x, more) = let w = decl_from d ts m x in (m, (tok (T.Key (word_of d.role)) w.0, d.role, w.1, w.2, port_role d.role w.0 ok, w.3), ports_from ds m rest more)

  exact_locals : Exact (λ ds. Misses at_local) (locals bytes) (Locals bytes)
  exact_locals = says (exact_listed at_local (decl bytes) Any (Misses at_local) (live_decl bytes) (λ t a ts y e. tt) (λ ts y h. tt) (λ ts h. h) AfterWord exact_decl) (λ ts ds rest h. locals_to ds ts rest h) (λ ts ds rest h. locals_from ds ts rest h)

  exact_ports : Exact (λ ds. Misses at_port) (ports bytes) (Ports bytes)
  exact_ports = says (exact_listed at_port (decl bytes) Any (Misses at_port) (live_decl bytes) (λ t a ts y e. tt) (λ ts y h. tt) (λ ts h. h) AfterWord exact_decl) (λ ts ds rest h. ports_to ds ts rest h) (λ ts ds rest h. ports_from ds ts rest h)

  exact_params : Exact Any (enclosed (name bytes)) (Parts (IsName bytes))
  exact_params = exact_enclosed (name bytes) Any (live_name bytes) (λ x p us. tt) (λ x p us. tt) (name_not bytes) (IsName bytes) (exact_name bytes)

  abbrev func_of : Span → Name → List Name → List RawDecl → List St → Ex → Span → Func
  func_of k n ns ls ss e q = record { name = n; params = ns; locals = ls; body = block_of ss; answer = e; span = join k q }

  abbrev AfterFunc : Span → List Token → Func → List Token → Type 0
  AfterFunc k = Then_ (IsName bytes) (λ n. Then_ (IsSign S.OpenParen) (λ p. Then_ (Parts (IsName bytes)) (λ ns. Then_ (IsSign S.OpenBrace) (λ p. Then_ (Locals bytes) (λ ls. Then_ (IsSts bytes 0) (λ ss. Then_ (IsKey K.Return) (λ p.
      Then_ (IsExpression bytes) (λ e. Then_ (IsSign S.Semicolon) (λ p. Then_ (IsSign S.CloseBrace) (λ q. Nothing_ (func_of k n ns ls ss e q)))))))))))

  exact_func : (k : Span) → Exact Any (func bytes k) (AfterFunc k)
  exact_func k = exact_next (exact_name bytes) (λ n. sign_ex S.OpenParen refl (λ p. exact_next exact_params (λ ns. sign_ex S.OpenBrace refl (λ p. exact_both exact_locals (λ ls. exact_both (exact_statements bytes 64 0 (omega arith))
      (λ ss. key_ex K.Return refl (λ p. value_ex bytes S.Semicolon refl refl (λ e p. sign_ex S.CloseBrace refl (λ q. done_ex Any (func_of k n ns ls ss e q))))) (λ ss ts y rest h g. func_rests bytes k n ns ls ss ts y rest h))
      (λ ls ts y rest h g. fits_locals bytes (func_end bytes k n ns) (func_no_local bytes k n ns) ls ts y rest h)))))

  funcs_to : (fs : List Func) (ts rest : List Token) → Many (Part (at_key K.Func) AfterFunc) ts fs rest → Funcs bytes ts fs rest
  funcs_to [] ts rest h = h
  funcs_to (f ∷ fs) ts rest (mid, (t, k, us, i, g, (n, m1, x1, (p1, m2, x2, (ns, m3, x3, (p2, m4, x4, (ls, m5, x5, (ss, m6, x6, (p3, m7, x7, (e, m8, x8, (p4, m9, x9, (q, m10, x10, (z, l)))))))))))), more) = (
    mid,
    subst (λ v. IsFunc bytes ts v mid) (sym z)
        (k, us, m1, p1, m2, m3, p2, m4, m5, m6, p3, m7, m8, p4, m9, q, i ∙ ap (λ s. s ∷ us) (is_key K.Func t k g), x1, x2, x3, x4, x5, x6, x7, x8, x9, x10 ∙ ap (λ v. tok (T.Sign S.CloseBrace) q ∷ v) l, refl),
    funcs_to fs mid rest more,
  )

  same_func : (f : Func) (k q : Span) → f.span ≡ join k q → f ≡ func_of k f.name f.params f.locals (list_of bytes f.body) f.answer q
  same_func f k q h = ap (λ s. record { name = f.name; params = f.params; locals = f.locals; body = f.body; answer = f.answer; span = s }) h
      ∙ ap (λ b. record { name = f.name; params = f.params; locals = f.locals; body = b; answer = f.answer; span = join k q }) (sym (list_block bytes f.body))

  sts_of : (d : ℕ) (b : Bl) (ts rest : List Token) → IsBlock bytes d ts b rest → IsSts bytes d ts (list_of bytes b) rest
  sts_of d b ts rest h = subst (λ v. IsBlock bytes d ts v rest) (sym (list_block bytes b)) h

  funcs_from : (fs : List Func) (ts rest : List Token) → Funcs bytes ts fs rest → Many (Part (at_key K.Func) AfterFunc) ts fs rest
  funcs_from [] ts rest h = h
  funcs_from (f ∷ fs) ts rest (mid, (k, t1, t2, p1, t3, t4, p2, t5, t6, t7, p3, t8, t9, p4, t10, q, x, x1, x2, x3, x4, x5, x6, x7, x8, x9, x10, r), more) = (
    mid,
    (
      tok (T.Key K.Func) k,
      k,
      t1,
      x,
      refl,
      (
        f.name,
        t2,
        x1,
        (
          p1,
          t3,
          x2,
          (
            f.params,
            t4,
            x3,
            (
              p2,
              t5,
              x4,
              (
                f.locals,
                t6,
                x5,
                (
                  list_of bytes f.body,
                  t7,
                  sts_of 0 f.body t6 t7 x6,
                  (
                    p3,
                    t8,
                    x7,
                    (
                      f.answer,
                      t9,
                      x8,
                      (
                        p4,
                        t10,
                        x9,
                        (
                          q,
                          mid,
                          x10,
                          (same_func f k q r, refl),
                        ),
                      ),
                    ),
                  ),
                ),
              ),
            ),
          ),
        ),
      ),
    ),
    funcs_from fs mid rest more,
  )

  exact_funcs : Exact (FolFuncs bytes) (funcs bytes) (Funcs bytes)
  exact_funcs = says (exact_listed (at_key K.Func) (func bytes) Any (Misses (at_key K.Func)) (live_func bytes) (λ t a ts y e. tt) (λ ts y h. tt) (λ ts h. h) AfterFunc exact_func) (λ ts fs rest h. funcs_to fs ts rest h) (λ ts fs rest h. funcs_from fs ts rest h)

  abbrev body_of : List RawDecl → List St → Body
  body_of ls ss = record { locals = ls; body = block_of ss }

  abbrev AfterBody : Span → List Token → Option Body → List Token → Type 0
  AfterBody p = Then_ (IsSign S.OpenBrace) (λ p. Then_ (Locals bytes) (λ ls. Then_ (IsSts bytes 0) (λ ss. Then_ (IsSign S.CloseBrace) (λ q. Nothing_ (Some (body_of ls ss))))))

  exact_body : Exact (FolBody bytes) (body bytes) (IsBody bytes)
  exact_body = says (exact_choice (λ p. sign_ex S.OpenBrace refl (λ p. exact_both exact_locals (λ ls. exact_both (exact_statements bytes 64 0 (omega arith)) (λ ss. sign_ex S.CloseBrace refl (λ q. done_ex (FolBody bytes) (Some (body_of ls ss))))
      (λ ss ts y rest h g. body_rests bytes ls ss ts y rest h)) (λ ls ts y rest h g. fits_locals bytes (body_end bytes) (body_no_local bytes) ls ts y rest h))) (λ ts h. h)) to from
    where
      to : (ts : List Token) (b : Option Body) (rest : List Token) → Choice_ (at_key K.Body) AfterBody None ts b rest → IsBody bytes ts b rest
      to ts None rest (inr (e, l)) = l
      to ts None rest (inl (t, p, us, i, g, (p2, m1, x1, (ls, m2, x2, (ss, m3, x3, (q, m4, x4, (z, l))))))) = absurd cc
      to ts (Some b) rest (inr (e, l)) = absurd cc
      to ts (Some b) rest (inl (t, p, us, i, g, (p2, m1, x1, (ls, m2, x2, (ss, m3, x3, (q, m4, x4, (z, l))))))) =
          subst (λ v. IsBody bytes ts v rest) (sym z) (p, us, p2, m1, m2, m3, q, i ∙ ap (λ s. s ∷ us) (is_key K.Body t p g), x1, x2, x3, x4 ∙ ap (λ v. tok (T.Sign S.CloseBrace) q ∷ v) l)

      from : (ts : List Token) (b : Option Body) (rest : List Token) → IsBody bytes ts b rest → Choice_ (at_key K.Body) AfterBody None ts b rest
      from ts None rest h = inr (refl, h)
      from ts (Some b) rest (p1, t1, p2, t2, t3, t4, q, x1, x2, x3, x4, x5) =
          inl (tok (T.Key K.Body) p1, p1, t1, x1, refl, (p2, t2, x2, (b.locals, t3, x3, (list_of bytes b.body, t4, sts_of 0 b.body t3 t4 x4, (q, rest, x5, (ap (λ v. Some (record { locals = b.locals; body = v })) (sym (list_block bytes b.body)), refl))))))

  -- the tokens spell the task, and none is left
  abbrev pub IsWhole : List Token → Task → List Token → Type 0
  IsWhole ts t rest = IsTask bytes ts t × (rest ≡ [])

  pub exact_task : Exact AtEnd (task bytes) IsWhole
  exact_task = says (key_ex K.Task refl (λ p. exact_next (exact_name bytes) (λ n. sign_ex S.Semicolon refl (λ p. exact_both exact_ports (λ ds. exact_both exact_funcs (λ fs. exact_both exact_body (λ b. exact_end (tree bytes n ds fs b))
      (λ b ts y rest h k. body_fits bytes n ds fs b ts y rest h)) (λ fs ts y rest h k. no_func bytes n ds fs ts y rest h)) (λ ds ts y rest h k. no_port bytes n ds ts y rest h)))))
      (λ ts t rest (p1, m1, x1, (n, m2, x2, (p2, m3, x3, (ds, m4, x4, (fs, m5, x5, (b, m6, x6, (z, l, r))))))).
      (subst (IsTask bytes ts) (sym z) (p1, m1, m2, p2, m3, m4, m5, x1, x2, x3, x4, x5, subst (IsBody bytes m5 b) l x6, refl), r))
      (λ ts t rest ((p1, t1, t2, p2, t3, t4, t5, x1, x2, x3, x4, x5, x6, e), r). (p1, t1, x1, (t.name, t2, x2, (p2, t3, x3, (t.decls, t4, x4, (t.funcs, t5, x5, (t.body, [], x6, (ended t e, refl, r))))))))
    where
      ended : (t : Task) → t.end ≡ length bytes → t ≡ tree bytes t.name t.decls t.funcs t.body
      ended t e = ap (λ v. record { name = t.name; decls = t.decls; funcs = t.funcs; body = t.body; end = v }) e
