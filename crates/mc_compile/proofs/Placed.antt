-- The translation stands where it is put.
use Rattle.std.proofs.Common.{◌≡◌, ℕ, ◌+◌, ◌<◌, List, [], ◌∷◌, ◌++◌, length, Some, refl, sym, ap, ◌∙◌, subst, arith, append_assoc, length-append}
use Rattle.std.specs.Prelude.{slice_index}
use Rattle.std.proofs.Math.Seq.{get_or-append_seam}
use Rattle.std.proofs.lemmas.Option.{slice_get-get_or}
use Rattle.mc_tree.specs.Tree.{Ex, Num, Var, Elem, Un, Bin, St, Assign, AssignAt, Invoke, When, Choice, Loop, Scoped, Count, Series, Bl, Nil, Then, Ls, NoLoop, OneLoop, Fn, Tree}
use Rattle.mc_tree.specs.Meaning.{params_at}
use Rattle.word_code.specs.declared.code.Instr.TheVariants.{Store, LoadX, StoreX, Jmp, Jz, CInc, Ret, Halt}
use Rattle.word_code.specs.declared.code.Slot.{Slot}
use Rattle.mc_compile.specs.Translate.{slot, unary_instr, between, joined, ex_len, ex_code, args_len, args_code, stores_code, st_len, bl_len, st_code, bl_code, ls_code}
use Rattle.mc_compile.specs.Whole.{fn_len, fn_code, fns_code, fn_starts, main_len, starts_of, instrs_of, translate}
use Rattle.mc_compile.specs.Coded.{Has, HasAll, CodedE, CodedA, CodedS, Coded, CodedB, CodedL, CodedF, CodedFs, CodedTask}
use Rattle.mc_compile.proofs.Lengths.{between_length, ex_length, args_length, stores_length, st_length, bl_length, fn_length}

-- a list stands in itself, behind what comes before
pub stands : (ss pre : List Slot) → HasAll (pre ++ ss) (length pre) ss (length (pre ++ ss))
stands [] pre = omega (arith, length-append {A = Slot} pre [])
stands (s ∷ ss) pre =
    let within : length pre < length (pre ++ s ∷ ss) = omega (arith, length-append pre (s ∷ ss)) in
    let here = slice_get-get_or (pre ++ s ∷ ss) (length pre) s within ∙ ap Some (get_or-append_seam pre s ss s) in
    let next : length pre + 1 ≡ length (pre ++ s ∷ []) = omega (arith, length-append pre (s ∷ [])) in
    let rest = stands ss (pre ++ s ∷ []) in (
      length (pre ++ s ∷ []),
      record { here = here; next = next },
      subst (λ l. HasAll l (length (pre ++ s ∷ [])) ss (length l)) (append_assoc pre (s ∷ []) ss) rest,
    )

module _ (instrs : List Slot) where
  -- where a list ends
  pub all_end : (ss : List Slot) (p q : ℕ) → HasAll instrs p ss q → p + length ss ≡ q
  all_end [] p q h = omega arith
  all_end (s ∷ ss) p q h = omega (arith, h.1.next, all_end ss h.0 q h.2)

  -- one instruction and the rest
  cons : (s : Slot) (ss : List Slot) (p q : ℕ) → HasAll instrs p (s ∷ ss) q → Has instrs p s (p + 1) × HasAll instrs (p + 1) ss q
  cons s ss p q h =
      (record { here = h.1.here; next = refl }, subst (λ n. HasAll instrs n ss q) (sym h.1.next) h.2)

  -- a list of one
  pub only : (s : Slot) (p q : ℕ) → HasAll instrs p (s ∷ []) q → Has instrs p s q
  only s p q h = record { here = h.1.here; next = h.1.next ∙ h.2 }

  -- a list of length n and the rest
  cut : (a b : List Slot) (n p q : ℕ) → length a ≡ n → HasAll instrs p (a ++ b) q → HasAll instrs p a (p + n) × HasAll instrs (p + n) b q
  cut [] b n p q e h =
      let same : p ≡ p + n = omega arith in
      (same, subst (λ m. HasAll instrs m b q) same h)
  cut (s ∷ a) b n p q e h =
      let same : h.0 + length a ≡ p + n = omega (arith, h.1.next) in
      let parts = cut a b (length a) h.0 q refl h.2 in
      ((h.0, h.1, subst (λ m. HasAll instrs h.0 a m) same parts.0), subst (λ m. HasAll instrs m b q) same parts.1)

  -- the same instruction
  as_is : (s s' : Slot) (p q : ℕ) → s ≡ s' → Has instrs p s q → Has instrs p s' q
  as_is s s' p q e h = record { here = h.here ∙ ap Some e; next = h.next }

  -- an expression
  pub placed_e : (h : ℕ) (e : Ex) (p q : ℕ) → HasAll instrs p (ex_code h e) q → CodedE instrs h p e q
  placed_e h (Num w) p q x = only _ p q x
  placed_e h (Var a) p q x = only _ p q x
  placed_e h (Elem a n i) p q x =
      let parts = cut (ex_code h i) (slot (LoadX a n) (h + 1) ∷ []) (ex_len i) p q (ex_length h i) x in
      (p + ex_len i, placed_e h i p (p + ex_len i) parts.0, only _ (p + ex_len i) q parts.1)
  placed_e h (Un op e) p q x =
      let parts = cut (ex_code h e) (slot (unary_instr op) (h + 1) ∷ []) (ex_len e) p q (ex_length h e) x in
      (p + ex_len e, placed_e h e p (p + ex_len e) parts.0, only _ (p + ex_len e) q parts.1)
  placed_e h (Bin op l r) p q x =
      let p1 = p + ex_len l in
      let p2 = p1 + length (between op 0) in
      let p3 = p2 + ex_len r in
      let left = cut (ex_code h l) _ (ex_len l) p q (ex_length h l) x in
      let middle = cut (between op h) _ (length (between op 0)) p1 q (between_length op h) left.1 in
      let right = cut (ex_code (h + 1) r) (joined op h) (ex_len r) p2 q (ex_length (h + 1) r) middle.1 in
      (p1, p2, p3, placed_e h l p p1 left.0, middle.0, placed_e (h + 1) r p2 p3 right.0, right.1)

  -- arguments
  pub placed_a : (h : ℕ) (es : List Ex) (p q : ℕ) → HasAll instrs p (args_code h es) q → CodedA instrs h p es q
  placed_a h [] p q x = x
  placed_a h (e ∷ es) p q x =
      let parts = cut (ex_code h e) (args_code (h + 1) es) (ex_len e) p q (ex_length h e) x in
      (p + ex_len e, placed_e h e p (p + ex_len e) parts.0, placed_a (h + 1) es (p + ex_len e) q parts.1)

  -- stores of parameters
  pub placed_s : (h : ℕ) (xs : List ℕ) (p q : ℕ) → HasAll instrs p (stores_code h xs) q → CodedS instrs h p xs q
  placed_s h [] p q x = x
  placed_s h (y ∷ xs) p q x =
      let parts = cut (stores_code (h + 1) xs) (slot (Store y) (h + 1) ∷ []) (length xs) p q (stores_length (h + 1) xs) x in
      (p + length xs, placed_s (h + 1) xs p (p + length xs) parts.0, only _ (p + length xs) q parts.1)

module _ (instrs : List Slot) (starts : ℕ → ℕ) (params : ℕ → List ℕ) where
  mutual
    -- a statement
    pub placed : (s : St) (p q : ℕ) → HasAll instrs p (st_code starts params p s) q → Coded starts params instrs p s q
    placed (Assign a e) p q x =
        let value = cut instrs (ex_code 0 e) (slot (Store a) 1 ∷ []) (ex_len e) p q (ex_length 0 e) x in
        (p + ex_len e, placed_e instrs 0 e p (p + ex_len e) value.0, only instrs _ (p + ex_len e) q value.1)
    placed (AssignAt a n i e) p q x =
        let p1 = p + ex_len i in
        let p2 = p1 + ex_len e in
        let index = cut instrs (ex_code 0 i) _ (ex_len i) p q (ex_length 0 i) x in
        let value = cut instrs (ex_code 1 e) (slot (StoreX a n) 2 ∷ []) (ex_len e) p1 q (ex_length 1 e) index.1 in
        (p1, p2, placed_e instrs 0 i p p1 index.0, placed_e instrs 1 e p1 p2 value.0, only instrs _ p2 q value.1)
    placed (Invoke a g args) p q x =
        let p1 = p + args_len args in
        let p2 = p1 + length (params g) in
        let given = cut instrs (args_code 0 args) _ (args_len args) p q (args_length 0 args) x in
        let stored = cut instrs (stores_code 0 (params g)) _ (length (params g)) p1 q (stores_length 0 (params g)) given.1 in
        let call = cons instrs _ (slot (Store a) 1 ∷ []) p2 q stored.1 in
        (p1, p2, p2 + 1, placed_a instrs 0 args p p1 given.0, placed_s instrs 0 (params g) p1 p2 stored.0, call.0, only instrs (slot (Store a) 1) (p2 + 1) q call.1)
    placed (When t b) p q x =
        let p1 = p + ex_len t in
        let first = p1 + 1 in
        let test = cut instrs (ex_code 0 t) _ (ex_len t) p q (ex_length 0 t) x in
        let jump = cons instrs _ (bl_code starts params first b) p1 q test.1 in
        let end : first + bl_len params b ≡ q = omega (arith, all_end instrs (bl_code starts params first b) first q jump.1, bl_length starts params first b) in
        (p1, first, placed_e instrs 0 t p p1 test.0, as_is instrs _ _ p1 first (ap (λ n. slot (Jz n) 1) end) jump.0, placed_b b first q jump.1)
    placed (Choice t b d) p q x =
        let p1 = p + ex_len t in
        let first = p1 + 1 in
        let p3 = first + bl_len params b in
        let other = p3 + 1 in
        let test = cut instrs (ex_code 0 t) _ (ex_len t) p q (ex_length 0 t) x in
        let other_code = slot (Jmp (other + bl_len params d)) 0 ∷ bl_code starts params other d in
        let jump = cons instrs _ (bl_code starts params first b ++ other_code) p1 q test.1 in
        let yes = cut instrs (bl_code starts params first b) other_code (bl_len params b) first q (bl_length starts params first b) jump.1 in
        let over = cons instrs _ (bl_code starts params other d) p3 q yes.1 in
        let end : other + bl_len params d ≡ q = omega (arith, all_end instrs (bl_code starts params other d) other q over.1, bl_length starts params other d) in
        (p1, first, p3, other, placed_e instrs 0 t p p1 test.0, jump.0, placed_b b first p3 yes.0, as_is instrs _ _ p3 other (ap (λ n. slot (Jmp n) 0) end) over.0, placed_b d other q over.1)
    placed (Loop c n t b) p q x =
        let head = p + 1 in
        let p1 = head + ex_len t in
        let body = head + ex_len t + 2 in
        let p4 = body + bl_len params b in
        let turn_code = bl_code starts params body b ++ slot (Jmp head) 0 ∷ [] in
        let clear = cons instrs _ _ p q x in
        let test = cut instrs (ex_code 0 t) _ (ex_len t) head q (ex_length 0 t) clear.1 in
        let jump = cons instrs _ (slot (CInc c n) 0 ∷ turn_code) p1 q test.1 in
        let count = cons instrs (slot (CInc c n) 0) turn_code (p1 + 1) q jump.1 in
        let two : p1 + 1 + 1 ≡ body = omega arith in
        let turn = cut instrs (bl_code starts params body b) (slot (Jmp head) 0 ∷ []) (bl_len params b) body q (bl_length starts params body b) (subst (λ m. HasAll instrs m turn_code q) two count.1) in
        let back = only instrs (slot (Jmp head) 0) p4 q turn.1 in
        (head, p1, p1 + 1, body, p4, clear.0, placed_e instrs 0 t head p1 test.0, as_is instrs _ _ p1 (p1 + 1) (ap (λ n. slot (Jz n) 1) back.next) jump.0, record { here = count.0.here; next = two }, placed_b b body p4 turn.0, back)
    placed (Scoped c n b) p q x =
        let clear = cons instrs _ (bl_code starts params (p + 1) b) p q x in
        (p + 1, clear.0, placed_b b (p + 1) q clear.1)
    placed (Count c n) p q x = only instrs _ p q x
    placed (Series c n l) p q x =
        let clear = cons instrs _ (ls_code starts params c n (p + 1) l) p q x in
        (p + 1, clear.0, placed_l l c n (p + 1) q clear.1)

    -- a block
    pub placed_b : (b : Bl) (p q : ℕ) → HasAll instrs p (bl_code starts params p b) q → CodedB starts params instrs p b q
    placed_b Nil p q x = x
    placed_b (Then s rest) p q x =
        let p1 = p + st_len params s in
        let parts = cut instrs (st_code starts params p s) _ (st_len params s) p q (st_length starts params p s) x in
        (p1, placed s p p1 parts.0, placed_b rest p1 q parts.1)

    -- the loops of a sequence
    pub placed_l : (l : Ls) (s k p q : ℕ) → HasAll instrs p (ls_code starts params s k p l) q → CodedL starts params instrs s k p l q
    placed_l NoLoop s k p q x = x
    placed_l (OneLoop c n t b rest) s k p q x =
        let head = p + 1 in
        let p1 = head + ex_len t in
        let body = head + ex_len t + 3 in
        let p5 = body + bl_len params b in
        let next = p5 + 1 in
        let back_code = slot (Jmp head) 0 ∷ ls_code starts params s k next rest in
        let turn_code = bl_code starts params body b ++ back_code in
        let clear = cons instrs _ _ p q x in
        let test = cut instrs (ex_code 0 t) _ (ex_len t) head q (ex_length 0 t) clear.1 in
        let jump = cons instrs _ (slot (CInc c n) 0 ∷ slot (CInc s k) 0 ∷ turn_code) p1 q test.1 in
        let count = cons instrs (slot (CInc c n) 0) (slot (CInc s k) 0 ∷ turn_code) (p1 + 1) q jump.1 in
        let total = cons instrs (slot (CInc s k) 0) turn_code (p1 + 1 + 1) q count.1 in
        let three : p1 + 1 + 1 + 1 ≡ body = omega arith in
        let turn = cut instrs (bl_code starts params body b) back_code (bl_len params b) body q (bl_length starts params body b) (subst (λ m. HasAll instrs m turn_code q) three total.1) in
        let back = cons instrs (slot (Jmp head) 0) (ls_code starts params s k next rest) p5 q turn.1 in
        (head, p1, p1 + 1, p1 + 1 + 1, body, p5, next, clear.0, placed_e instrs 0 t head p1 test.0, jump.0, count.0, record { here = total.0.here; next = three }, placed_b b body p5 turn.0, back.0, placed_l rest s k next q back.1)

  -- a function
  pub placed_f : (f : Fn) (p q : ℕ) → HasAll instrs p (fn_code starts params p f) q → CodedF starts params instrs p f q
  placed_f f p q x =
      let p1 = p + bl_len params f.body in
      let p2 = p1 + ex_len f.answer in
      let body = cut instrs (bl_code starts params p f.body) _ (bl_len params f.body) p q (bl_length starts params p f.body) x in
      let answer = cut instrs (ex_code 0 f.answer) (slot Ret 1 ∷ []) (ex_len f.answer) p1 q (ex_length 0 f.answer) body.1 in
      (p1, p2, placed_b f.body p p1 body.0, placed_e instrs 0 f.answer p1 p2 answer.0, only instrs _ p2 q answer.1)

  -- the functions
  pub placed_fs : (fs : List Fn) (p q : ℕ) → HasAll instrs p (fns_code starts params p fs) q → CodedFs starts params instrs p fs (fn_starts params p fs) q
  placed_fs [] p q x = (refl, x)
  placed_fs (f ∷ fs) p q x =
      let p1 = p + fn_len params f in
      let parts = cut instrs (fn_code starts params p f) _ (fn_len params f) p q (fn_length starts params p f) x in
      (fn_starts params p1 fs, p1, refl, placed_f f p p1 parts.0, placed_fs fs p1 q parts.1)

-- the whole task
pub placed_task : (t : Tree) → CodedTask t (translate t)
placed_task t =
    let params = params_at t.funcs in
    let starts = slice_index (starts_of t) in
    let instrs = instrs_of t in
    let n = bl_len params t.body in
    let body = cut instrs (bl_code starts params 0 t.body) (slot Halt 0 ∷ fns_code starts params (main_len t) t.funcs) n 0 (length instrs) (bl_length starts params 0 t.body) (stands instrs []) in
    let none : 0 + n ≡ n = omega arith in
    let stop = cons instrs _ _ n (length instrs) (subst (λ m. HasAll instrs m (slot Halt 0 ∷ fns_code starts params (main_len t) t.funcs) (length instrs)) none body.1) in
    record {
      halt = n;
      functions = main_len t;
      firsts = starts_of t;
      starts = refl;
      body = placed_b instrs starts params t.body 0 n (subst (λ m. HasAll instrs 0 (bl_code starts params 0 t.body) m) none body.0);
      stop = stop.0;
      rest = placed_fs instrs starts params t.funcs (main_len t) (length instrs) stop.1;
      places = refl;
      counters = refl;
      cells = refl;
    }
