-- Statements as code grows by them: a jump forward is put first, and mended once its target is reached.
use Rattle.std.proofs.Common.{◌≡◌, ℕ, ◌+◌, List, [], ◌∷◌, ◌++◌, length, refl, sym, ap, ◌∙◌, arith, append_assoc, length-append}
use Rattle.std.specs.Prelude.{Vec, vec_len, slice_set}
use Rattle.std.specs.Global.{Global}
use Rattle.std.proofs.Math.Seq.{set-append_seam}
use Rattle.mc_tree.specs.Tree.{Ex, St, Assign, AssignAt, Invoke, When, Choice, Loop, Scoped, Series, Bl, Ls, NoLoop, OneLoop}
use Rattle.word_code.specs.declared.code.Instr.TheVariants.{Store, StoreX, Jmp, Jz, CZero, CInc, Call}
use Rattle.word_code.specs.declared.code.Slot.{Slot}
use Rattle.mc_compile.specs.Emit.{Grows, Mends}
use Rattle.mc_compile.specs.Translate.{slot, ex_len, ex_code, args_len, args_code, stores_code, st_len, bl_len, ls_len, st_code, bl_code, ls_code}
use Rattle.mc_compile.proofs.Grow.{grows_then, grows_as}
use Rattle.mc_compile.proofs.Lengths.{bl_length}

-- the instruction behind some that grew is mended
pub grows_mended : (c0 c1 c2 : Vec Slot Global) (front more : List Slot) (x y : Slot) (n k : ℕ) → Grows c0 c1 (front ++ x ∷ more) n → k ≡ vec_len c0 + length front
    → Mends c1 c2 k y → Grows c0 c2 (front ++ y ∷ more) n
grows_mended c0 c1 c2 front more x y n k g at m =
    let place : k ≡ length (c0.items ++ front) = omega (arith, at, c0.ok.0, length-append c0.items front) in
    record {
      items =
          m.items ∙ ap (λ l. slice_set l k y) (g.items ∙ sym (append_assoc c0.items front (x ∷ more)))
          ∙ ap (λ j. slice_set ((c0.items ++ front) ++ x ∷ more) j y) place
          ∙ set-append_seam (c0.items ++ front) x more y ∙ append_assoc c0.items front (y ∷ more);
      len = m.len ∙ g.len;
      capacity = m.capacity ∙ g.capacity;
    }

module _ (starts : ℕ → ℕ) (params : ℕ → List ℕ) where
  -- an assignment
  pub assign_grows : (c0 c1 c2 : Vec Slot Global) (a b : ℕ) (e : Ex) (s : St) → s ≡ Assign a e → b ≡ a → Grows c0 c1 (ex_code 0 e) (ex_len e)
      → Grows c1 c2 (slot (Store b) 1 ∷ []) 1 → Grows c0 c2 (st_code starts params (vec_len c0) s) (st_len params s)
  assign_grows c0 c1 c2 a b e s is same g last =
      grows_as c0 c2 _ _ _ _ (ap (λ x. ex_code 0 e ++ slot (Store x) 1 ∷ []) same ∙ ap (st_code starts params (vec_len c0)) (sym is)) (ap (st_len params) (sym is))
      (grows_then c0 c1 c2 _ _ _ _ g last)

  pub assign_at_grows : (c0 c1 c2 c3 : Vec Slot Global) (a n b m : ℕ) (i e : Ex) (s : St) → s ≡ AssignAt a n i e → b ≡ a → m ≡ n
      → Grows c0 c1 (ex_code 0 i) (ex_len i) → Grows c1 c2 (ex_code 1 e) (ex_len e) → Grows c2 c3 (slot (StoreX b m) 2 ∷ []) 1
      → Grows c0 c3 (st_code starts params (vec_len c0) s) (st_len params s)
  assign_at_grows c0 c1 c2 c3 a n b m i e s is same width g h last =
      let size : ex_len i + (ex_len e + 1) ≡ st_len params s = omega (arith, ap (st_len params) is) in
      grows_as c0 c3 _ _ _ _ (ap (λ x. ex_code 0 i ++ (ex_code 1 e ++ slot (StoreX x m) 2 ∷ [])) same ∙ ap (λ x. ex_code 0 i ++ (ex_code 1 e ++ slot (StoreX a x) 2 ∷ [])) width ∙ ap (st_code starts params (vec_len c0)) (sym is)) size
      (grows_then c0 c1 c3 _ _ _ _ g (grows_then c1 c2 c3 _ _ _ _ h last))

  -- a call
  pub call_grows : (c0 c1 c2 c3 c4 : Vec Slot Global) (a f g b : ℕ) (args : List Ex) (s : St) → s ≡ Invoke a g args → f ≡ starts g → b ≡ a
      → Grows c0 c1 (args_code 0 args) (args_len args) → Grows c1 c2 (stores_code 0 (params g)) (length (params g))
      → Grows c2 c3 (slot (Call f) 0 ∷ []) 1 → Grows c3 c4 (slot (Store b) 1 ∷ []) 1
      → Grows c0 c4 (st_code starts params (vec_len c0) s) (st_len params s)
  call_grows c0 c1 c2 c3 c4 a f g b args s is first same u v call last =
      let size : args_len args + (length (params g) + (1 + 1)) ≡ st_len params s = omega (arith, ap (st_len params) is) in
      grows_as c0 c4 _ _ _ _ (ap (λ x. args_code 0 args ++ (stores_code 0 (params g) ++ slot (Call x) 0 ∷ slot (Store b) 1 ∷ [])) first ∙ ap (λ x. args_code 0 args ++ (stores_code 0 (params g) ++ slot (Call (starts g)) 0 ∷ slot (Store x) 1 ∷ [])) same ∙ ap (st_code starts params (vec_len c0)) (sym is)) size
      (grows_then c0 c1 c4 _ _ _ _ u (grows_then c1 c2 c4 _ _ _ _ v (grows_then c2 c3 c4 _ _ _ _ call last)))

  -- an `if` without `else`
  pub when_grows : (c0 c1 c2 c3 c4 : Vec Slot Global) (t : Ex) (b : Bl) (s : St) (x : Slot) (leave end : ℕ) → s ≡ When t b
      → Grows c0 c1 (ex_code 0 t) (ex_len t) → leave ≡ vec_len c1 → Grows c1 c2 (x ∷ []) 1
      → Grows c2 c3 (bl_code starts params (vec_len c2) b) (bl_len params b) → end ≡ vec_len c3 → Mends c3 c4 leave (slot (Jz end) 1)
      → Grows c0 c4 (st_code starts params (vec_len c0) s) (st_len params s)
  when_grows c0 c1 c2 c3 c4 t b s x leave end is test at jump body stop mended =
      let first = vec_len c0 + ex_len t + 1 in
      let begins : vec_len c2 ≡ first = omega (arith, test.len, jump.len) in
      let ends : end ≡ first + bl_len params b = omega (arith, stop, body.len, begins) in
      let block = grows_as c2 c3 _ (bl_code starts params first b) _ _ (ap (λ p. bl_code starts params p b) begins) refl body in
      let there : leave ≡ vec_len c1 + 0 = omega (arith, at) in
      let more = grows_mended c1 c3 c4 [] (bl_code starts params first b) x (slot (Jz end) 1) (1 + bl_len params b) leave (grows_then c1 c2 c3 _ _ _ _ jump block) there mended in
      let size : ex_len t + (1 + bl_len params b) ≡ st_len params s = omega (arith, ap (st_len params) is) in
      grows_as c0 c4 _ _ _ _ (ap (λ e. ex_code 0 t ++ slot (Jz e) 1 ∷ bl_code starts params first b) ends ∙ ap (st_code starts params (vec_len c0)) (sym is)) size
      (grows_then c0 c1 c4 _ _ _ _ test more)

  -- an `if` with `else`
  pub choice_grows : (c0 c1 c2 c3 c4 c5 c6 c7 : Vec Slot Global) (t : Ex) (b d : Bl) (s : St) (x y : Slot) (leave skip start end : ℕ) → s ≡ Choice t b d
      → Grows c0 c1 (ex_code 0 t) (ex_len t) → leave ≡ vec_len c1 → Grows c1 c2 (x ∷ []) 1
      → Grows c2 c3 (bl_code starts params (vec_len c2) b) (bl_len params b) → skip ≡ vec_len c3 → Grows c3 c4 (y ∷ []) 1
      → start ≡ vec_len c4 → Mends c4 c5 leave (slot (Jz start) 1)
      → Grows c5 c6 (bl_code starts params (vec_len c5) d) (bl_len params d) → end ≡ vec_len c6 → Mends c6 c7 skip (slot (Jmp end) 0)
      → Grows c0 c7 (st_code starts params (vec_len c0) s) (st_len params s)
  choice_grows c0 c1 c2 c3 c4 c5 c6 c7 t b d s x y leave skip start end is test at jump body at2 jump2 begin mended rest stop mended2 =
      let first = vec_len c0 + ex_len t + 1 in
      let other = first + bl_len params b + 1 in
      let begins : vec_len c2 ≡ first = omega (arith, test.len, jump.len) in
      let second : vec_len c5 ≡ other = omega (arith, mended.len, jump2.len, body.len, begins) in
      let target : start ≡ other = omega (arith, begin, mended.len, second) in
      let ends : end ≡ other + bl_len params d = omega (arith, stop, rest.len, second) in
      let A = bl_code starts params first b in
      let D = bl_code starts params other d in
      let block = grows_as c2 c3 _ A _ _ (ap (λ p. bl_code starts params p b) begins) refl body in
      let block2 = grows_as c5 c6 _ D _ _ (ap (λ p. bl_code starts params p d) second) refl rest in
      let there : leave ≡ vec_len c1 + 0 = omega (arith, at) in
      let up = grows_mended c1 c4 c5 [] (A ++ y ∷ []) x (slot (Jz start) 1) _ leave (grows_then c1 c2 c4 _ _ _ _ jump (grows_then c2 c3 c4 _ _ _ _ block jump2)) there mended in
      let whole = grows_as c1 c6 _ (slot (Jz start) 1 ∷ (A ++ y ∷ D)) _ (1 + (bl_len params b + 1) + bl_len params d) (ap (λ l. slot (Jz start) 1 ∷ l) (append_assoc A (y ∷ []) D)) refl (grows_then c1 c5 c6 _ _ _ _ up block2) in
      let there2 : skip ≡ vec_len c1 + length (slot (Jz start) 1 ∷ A) = omega (arith, at2, jump.len, body.len, bl_length starts params first b) in
      let more = grows_mended c1 c6 c7 (slot (Jz start) 1 ∷ A) D y (slot (Jmp end) 0) _ skip whole there2 mended2 in
      let size : ex_len t + (1 + (bl_len params b + 1) + bl_len params d) ≡ st_len params s = omega (arith, ap (st_len params) is) in
      grows_as c0 c7 _ _ _ _ (ap (λ e. ex_code 0 t ++ slot (Jz e) 1 ∷ (A ++ slot (Jmp end) 0 ∷ D)) target ∙ ap (λ e. ex_code 0 t ++ slot (Jz other) 1 ∷ (A ++ slot (Jmp e) 0 ∷ D)) ends ∙ ap (st_code starts params (vec_len c0)) (sym is)) size
      (grows_then c0 c1 c7 _ _ _ _ test more)

  -- a `while`
  pub loop_grows : (c0 c1 c2 c3 c4 c5 c6 c7 : Vec Slot Global) (c n : ℕ) (t : Ex) (b : Bl) (s : St) (x : Slot) (head leave end : ℕ) → s ≡ Loop c n t b
      → Grows c0 c1 (slot (CZero c) 0 ∷ []) 1 → head ≡ vec_len c1 → Grows c1 c2 (ex_code 0 t) (ex_len t) → leave ≡ vec_len c2 → Grows c2 c3 (x ∷ []) 1
      → Grows c3 c4 (slot (CInc c n) 0 ∷ []) 1 → Grows c4 c5 (bl_code starts params (vec_len c4) b) (bl_len params b)
      → Grows c5 c6 (slot (Jmp head) 0 ∷ []) 1 → end ≡ vec_len c6 → Mends c6 c7 leave (slot (Jz end) 1)
      → Grows c0 c7 (st_code starts params (vec_len c0) s) (st_len params s)
  loop_grows c0 c1 c2 c3 c4 c5 c6 c7 c n t b s x head leave end is zero at test at2 jump count body back stop mended =
      let top = vec_len c0 + 1 in
      let first = top + ex_len t + 2 in
      let begins : vec_len c4 ≡ first = omega (arith, zero.len, test.len, jump.len, count.len) in
      let heads : head ≡ top = omega (arith, at, zero.len) in
      let ends : end ≡ first + bl_len params b + 1 = omega (arith, stop, back.len, body.len, begins) in
      let A = bl_code starts params first b in
      let block = grows_as c4 c5 _ A _ _ (ap (λ p. bl_code starts params p b) begins) refl body in
      let there : leave ≡ vec_len c2 + 0 = omega (arith, at2) in
      let more = grows_mended c2 c6 c7 [] (slot (CInc c n) 0 ∷ (A ++ slot (Jmp head) 0 ∷ [])) x (slot (Jz end) 1) _ leave
      (grows_then c2 c3 c6 _ _ _ _ jump (grows_then c3 c4 c6 _ _ _ _ count (grows_then c4 c5 c6 _ _ _ _ block back))) there mended in
      let size : 1 + (ex_len t + (1 + (1 + (bl_len params b + 1)))) ≡ st_len params s = omega (arith, ap (st_len params) is) in
      grows_as c0 c7 _ _ _ _ (ap (λ e. slot (CZero c) 0 ∷ (ex_code 0 t ++ slot (Jz e) 1 ∷ slot (CInc c n) 0 ∷ (A ++ slot (Jmp head) 0 ∷ []))) ends ∙ ap (λ h. slot (CZero c) 0 ∷ (ex_code 0 t ++ slot (Jz (first + bl_len params b + 1)) 1 ∷ slot (CInc c n) 0 ∷ (A ++ slot (Jmp h) 0 ∷ []))) heads ∙ ap (st_code starts params (vec_len c0)) (sym is)) size
      (grows_then c0 c1 c7 _ _ _ _ zero (grows_then c1 c2 c7 _ _ _ _ test more))

  -- a loop of a sequence whose counter is u and whose bound is k
  pub turns_grows : (c0 c1 c2 c3 c4 c5 c6 c7 c8 : Vec Slot Global) (u k c n : ℕ) (t : Ex) (b : Bl) (l : Ls) (x : Slot) (head leave end : ℕ) → l ≡ OneLoop c n t b NoLoop
      → Grows c0 c1 (slot (CZero c) 0 ∷ []) 1 → head ≡ vec_len c1 → Grows c1 c2 (ex_code 0 t) (ex_len t) → leave ≡ vec_len c2 → Grows c2 c3 (x ∷ []) 1
      → Grows c3 c4 (slot (CInc c n) 0 ∷ []) 1 → Grows c4 c5 (slot (CInc u k) 0 ∷ []) 1 → Grows c5 c6 (bl_code starts params (vec_len c5) b) (bl_len params b)
      → Grows c6 c7 (slot (Jmp head) 0 ∷ []) 1 → end ≡ vec_len c7 → Mends c7 c8 leave (slot (Jz end) 1)
      → Grows c0 c8 (ls_code starts params u k (vec_len c0) l) (ls_len params l)
  turns_grows c0 c1 c2 c3 c4 c5 c6 c7 c8 u k c n t b l x head leave end is zero at test at2 jump count count2 body back stop mended =
      let top = vec_len c0 + 1 in
      let first = top + ex_len t + 3 in
      let begins : vec_len c5 ≡ first = omega (arith, zero.len, test.len, jump.len, count.len, count2.len) in
      let heads : head ≡ top = omega (arith, at, zero.len) in
      let ends : end ≡ first + bl_len params b + 1 = omega (arith, stop, back.len, body.len, begins) in
      let A = bl_code starts params first b in
      let block = grows_as c5 c6 _ A _ _ (ap (λ p. bl_code starts params p b) begins) refl body in
      let there : leave ≡ vec_len c2 + 0 = omega (arith, at2) in
      let more = grows_mended c2 c7 c8 [] (slot (CInc c n) 0 ∷ slot (CInc u k) 0 ∷ (A ++ slot (Jmp head) 0 ∷ [])) x (slot (Jz end) 1) _ leave
      (grows_then c2 c3 c7 _ _ _ _ jump (grows_then c3 c4 c7 _ _ _ _ count (grows_then c4 c5 c7 _ _ _ _ count2 (grows_then c5 c6 c7 _ _ _ _ block back)))) there mended in
      let size : 1 + (ex_len t + (1 + (1 + (1 + (bl_len params b + 1))))) ≡ ls_len params l = omega (arith, ap (ls_len params) is) in
      grows_as c0 c8 _ _ _ _ (ap (λ e. slot (CZero c) 0 ∷ (ex_code 0 t ++ slot (Jz e) 1 ∷ slot (CInc c n) 0 ∷ slot (CInc u k) 0 ∷ (A ++ slot (Jmp head) 0 ∷ []))) ends ∙ ap (λ h. slot (CZero c) 0 ∷ (ex_code 0 t ++ slot (Jz (first + bl_len params b + 1)) 1 ∷ slot (CInc c n) 0 ∷ slot (CInc u k) 0 ∷ (A ++ slot (Jmp h) 0 ∷ []))) heads ∙ ap (ls_code starts params u k (vec_len c0)) (sym is)) size
      (grows_then c0 c1 c8 _ _ _ _ zero (grows_then c1 c2 c8 _ _ _ _ test more))

  -- a scope, and a sequence
  pub scope_grows : (c0 c1 c2 : Vec Slot Global) (c n : ℕ) (b : Bl) (s : St) → s ≡ Scoped c n b → Grows c0 c1 (slot (CZero c) 0 ∷ []) 1
      → Grows c1 c2 (bl_code starts params (vec_len c1) b) (bl_len params b) → Grows c0 c2 (st_code starts params (vec_len c0) s) (st_len params s)
  scope_grows c0 c1 c2 c n b s is zero body =
      grows_as c0 c2 _ _ _ _ (ap (λ p. slot (CZero c) 0 ∷ bl_code starts params p b) zero.len ∙ ap (st_code starts params (vec_len c0)) (sym is)) (ap (st_len params) (sym is))
      (grows_then c0 c1 c2 _ _ _ _ zero body)

  pub series_grows : (c0 c1 c2 : Vec Slot Global) (c n : ℕ) (l : Ls) (s : St) → s ≡ Series c n l → Grows c0 c1 (slot (CZero c) 0 ∷ []) 1
      → Grows c1 c2 (ls_code starts params c n (vec_len c1) l) (ls_len params l) → Grows c0 c2 (st_code starts params (vec_len c0) s) (st_len params s)
  series_grows c0 c1 c2 c n l s is zero loops =
      grows_as c0 c2 _ _ _ _ (ap (λ p. slot (CZero c) 0 ∷ ls_code starts params c n p l) zero.len ∙ ap (st_code starts params (vec_len c0)) (sym is)) (ap (st_len params) (sym is))
      (grows_then c0 c1 c2 _ _ _ _ zero loops)
