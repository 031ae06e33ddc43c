-- The code of a statement does what the statement does, and breaks where it breaks.
use Rattle.std.proofs.Common.{◌≡◌, ◌≢◌, inl, inr, ℕ, zero, suc, ◌+◌, ◌<◌, ◌≤◌, Bool, true, false, ℤ, List, [], ◌∷◌, length, Option, Some, None, refl, sym, ap, ◌∙◌, subst, arith, get_or-set_same, get_or-set_other}
use Rattle.std.specs.Prelude.{if◌then◌else◌, slice_get, slice_index, slice_set, All}
use Rattle.mars_base.specs.Store.{place_of, count_up}
use Rattle.mars_base.specs.Word.{is_zero}
use Rattle.mc_tree.specs.declared.tree.Cell.{Cell}
use Rattle.mc_tree.specs.Tree.{Ex, St, Assign, AssignAt, Invoke, When, Choice, Loop, Scoped, Count, Series, Bl, Nil, Then, Ls, NoLoop, OneLoop}
use Rattle.mc_tree.specs.Counters.{Counted, CountedB, CountedL}
use Rattle.mc_tree.specs.Meaning.{After, Done, Broken, Back, Answers, Fails, value_of, with_value, with_count, by_test, then_do, back_to, turns, series_turns, with_back, also, first_then, values_of, with_values, set_all, set_elem, does, all_do, series_do}
use Rattle.mc_tree.specs.Sound.{IsCell, SoundE, Sound, SoundB, SoundL}
use Rattle.mc_tree.proofs.Checked.{counted_up, counted_up_b, counted_up_l}
use Rattle.processor.specs.Ends.{Broken as Broke, Goes, found, gives}
use Rattle.processor.specs.System.{ends, goes}
use Rattle.word_code.specs.Runs.{Run}
use Rattle.word_code.specs.State.{State, at as state}
use Rattle.word_code.specs.Step.{step}
use Rattle.word_code.specs.declared.code.Instr.TheVariants.{Store, StoreX, Jmp, Jz, CZero, CInc, Call}
use Rattle.word_code.specs.declared.code.Slot.{Slot}
use Rattle.mc_compile.specs.Translate.{slot}
use Rattle.mc_compile.specs.Coded.{Has, CodedE, CodedA, CodedS, Coded, CodedB, CodedL}
use Rattle.mc_compile.proofs.Counts.{scope_count, IsOwn, Keeps, KeepsFrom, counter_there, keeps_all, keeps_then, keeps_less, keeps_set, keeps_count, keeps_scope, keeps_none, keeps_call, up_below, up_full}
use Rattle.mc_compile.proofs.Expressions.{AreWords, word_there, set_words, place_below, Leads, stays, on, Gives, one_step, next, same_place, expr_runs}
use Rattle.mc_compile.proofs.Words.{IsWord}

abbrev pub EachWord : List ℤ → Type 0
EachWord [] = Unit {0}
EachWord (v ∷ vs) = IsWord v × EachWord vs

set_all_words : (n : ℕ) (xs : List ℕ) (vs ws : List ℤ) → EachWord vs → AreWords n ws → AreWords n (set_all xs vs ws)
set_all_words n [] vs ws each are = are
set_all_words n (x ∷ xs) [] ws each are = are
set_all_words n (x ∷ xs) (v ∷ vs) ws each are = set_words n (set_all xs vs ws) x v (set_all_words n xs vs ws each.1 are) each.0

-- how a function comes back to r: with its answer on the stack, n words, and the counters from base on kept
abbrev pub Returns : List Slot → (n : ℕ) → State → (base : ℕ) → List ℕ → ℕ → List ℤ → List ℕ → Back → Type 0
Returns instrs n s base ks r st rs Fails = Run instrs s Broke
Returns instrs n s base ks r st rs (Answers ds v) = (ls : List ℕ) × KeepsFrom base ks ls × AreWords n ds × IsWord v × Leads instrs s (state r (v ∷ st) ds ls rs)

-- the code of the functions below cur does what they do
abbrev pub AreGood : List Slot → (n : ℕ) → (ℕ → ℕ) → (ℕ → List ℤ → Back) → ℕ → ℕ → Type 0
AreGood instrs n starts run cur base =
    (g : ℕ) → g < cur → (ws st : List ℤ) (ks rs : List ℕ) (r : ℕ) → AreWords n ws → base ≤ length ks
    → Returns instrs n (state (starts g) st ws ks (r ∷ rs)) base ks r st rs (run g ws)

module _ (instrs : List Slot) (cells : List Cell) (n : ℕ) (fits : (p w : ℕ) → IsCell cells p w → p + w ≤ n) (params : ℕ → List ℕ) (starts : ℕ → ℕ) (run : ℕ → List ℤ → Back) (cur base top : ℕ) (are_cells : (g : ℕ) → g < cur → All (λ (p : ℕ). IsCell cells p 1) (params g)) (good : AreGood instrs n starts run cur base) (rs : List ℕ) where
  abbrev at : ℕ → List ℤ → List ℤ → List ℕ → State
  at p st ws ks = state p st ws ks rs

  -- what the code of a part does
  abbrev pub Follows : State → (sc lo : ℕ) → List ℕ → ℕ → List ℤ → After → Type 0
  Follows s sc lo ks q st (Done ws m) = (ls : List ℕ) × Keeps base top sc lo ks ls m × AreWords n ws × Leads instrs s (at q st ws ls)
  Follows s sc lo ks q st Broken = Run instrs s Broke

  value : (e : Ex) (h p q : ℕ) (st ws : List ℤ) (ks : List ℕ) → CodedE instrs h p e q → SoundE cells e → AreWords n ws → Gives instrs (at p st ws ks) (λ v. at q (v ∷ st) ws ks) (value_of e ws)
  value e h p q st ws ks c sound are = expr_runs instrs rs cells n fits e h p q st ws ks c sound are

  after : (s u : State) (sc lo : ℕ) (ks : List ℕ) (q : ℕ) (st : List ℤ) (o : After) → Leads instrs s u → Follows u sc lo ks q st o → Follows s sc lo ks q st o
  after s u sc lo ks q st (Done ws m) a r = (r.0, r.1, r.2, on instrs s u _ a r.3)
  after s u sc lo ks q st Broken a r = a.by Broke r

  -- one more stretch before, which keeps the counters to ls
  after_keeps : (s : State) (sc lo mid : ℕ) (ks ls : List ℕ) (q : ℕ) (st : List ℤ) (m : ℕ) (o : After) → lo ≤ mid → Keeps base top sc lo ks ls m → Follows s sc mid ls q st o → Follows s sc lo ks q st o
  after_keeps s sc lo mid ks ls q st m (Done ws k) le kept r = (r.0, keeps_then base top sc lo mid ks ls r.0 m k le kept r.1, r.2, r.3)
  after_keeps s sc lo mid ks ls q st m Broken le kept r = r

  less : (s : State) (sc lo mid : ℕ) (ks : List ℕ) (q : ℕ) (st : List ℤ) (o : After) → lo ≤ mid → Follows s sc mid ks q st o → Follows s sc lo ks q st o
  less s sc lo mid ks q st (Done ws m) le r = (r.0, keeps_less base top sc lo mid ks r.0 m le r.1, r.2, r.3)
  less s sc lo mid ks q st Broken le r = r

  store : (p q a : ℕ) (h : ℕ) (v : ℤ) (st ws : List ℤ) (ks : List ℕ) → Has instrs p (slot (Store a) h) q → a < n → AreWords n ws → Leads instrs (at p (v ∷ st) ws ks) (at q st (slice_set ws a v) ks)
  store p q a h v st ws ks c inside are =
      next instrs rs p q _ (v ∷ st) ws st (slice_set ws a v) ks ks c (ap (λ o. found o (λ _. Goes (at (p + 1) st (slice_set ws a v) ks))) (word_there n ws a are inside))

  clear : (p q c : ℕ) (st ws : List ℤ) (ks : List ℕ) → Has instrs p (slot (CZero c) 0) q → c < length ks → Leads instrs (at p st ws ks) (at q st ws (slice_set ks c 0))
  clear p q c st ws ks h lt =
      next instrs rs p q _ st ws st ws ks (slice_set ks c 0) h (ap (λ o. found o (λ _. Goes (at (p + 1) st ws (slice_set ks c 0)))) (counter_there ks c lt))

  jump : (p q t : ℕ) (st ws : List ℤ) (ks : List ℕ) → Has instrs p (slot (Jmp t) 0) q → Leads instrs (at p st ws ks) (at t st ws ks)
  jump p q t st ws ks h = record { by = λ o u. goes (one_step instrs rs p q _ st ws ks h) u }

  count_step : (p q c b : ℕ) (st ws : List ℤ) (ks : List ℕ) (o : Option ℕ) → Has instrs p (slot (CInc c b) 0) q → c < length ks → count_up (slice_index ks c) b ≡ o → step instrs (at p st ws ks) ≡ gives o (λ v. Goes (at (p + 1) st ws (slice_set ks c v)))
  count_step p q c b st ws ks o h lt e =
      one_step instrs rs p q _ st ws ks h
      ∙ ap (λ o. found o (λ k. gives (count_up k b) (λ v. Goes (at (p + 1) st ws (slice_set ks c v))))) (counter_there ks c lt)
      ∙ ap (λ o. gives o (λ v. Goes (at (p + 1) st ws (slice_set ks c v)))) e

  count_breaks : (p q c b : ℕ) (st ws : List ℤ) (ks : List ℕ) → Has instrs p (slot (CInc c b) 0) q → c < length ks → count_up (slice_index ks c) b ≡ None → Run instrs (at p st ws ks) Broke
  count_breaks p q c b st ws ks h lt e = ends (count_step p q c b st ws ks None h lt e)

  count_goes : (p q c b w : ℕ) (st ws : List ℤ) (ks : List ℕ) → Has instrs p (slot (CInc c b) 0) q → c < length ks → count_up (slice_index ks c) b ≡ Some w → Leads instrs (at p st ws ks) (at q st ws (slice_set ks c w))
  count_goes p q c b w st ws ks h lt e =
      record { by = λ o r. goes (count_step p q c b st ws ks (Some w) h lt e ∙ ap (λ x. Goes (at x st ws (slice_set ks c w))) h.next) r }

  -- a value, and what is made of it
  use_value : (s : State) (sc lo p1 q : ℕ) (st st' ws : List ℤ) (ks : List ℕ) (o : Option ℤ) (k : ℤ → After) → Gives instrs s (λ v. at p1 (v ∷ st') ws ks) o → ((v : ℤ) → IsWord v → Follows (at p1 (v ∷ st') ws ks) sc lo ks q st (k v)) → Follows s sc lo ks q st (with_value o k)
  use_value s sc lo p1 q st st' ws ks None k r f = r
  use_value s sc lo p1 q st st' ws ks (Some v) k r f = after s _ sc lo ks q st (k v) r.1 (f v r.0)

  -- a test and its jump
  jump_if_zero : (p1 p2 t : ℕ) (v : ℤ) (st ws : List ℤ) (ks : List ℕ) (b : Bool) → is_zero v ≡ b → Has instrs p1 (slot (Jz t) 1) p2 → Leads instrs (at p1 (v ∷ st) ws ks) (at (if b then t else p2) st ws ks)
  jump_if_zero p1 p2 t v st ws ks b e h =
      record { by = λ o r. goes (one_step instrs rs p1 p2 _ (v ∷ st) ws ks h ∙ ap (λ x. Goes (at x st ws ks)) (ap (λ z. if z then t else p1 + 1) e ∙ ap (λ x. if b then t else x) h.next)) r }

  test_run : (s : State) (sc lo p1 p2 t q : ℕ) (st ws : List ℤ) (ks : List ℕ) (o : Option ℤ) (x y : After) → Has instrs p1 (slot (Jz t) 1) p2 → Gives instrs s (λ v. at p1 (v ∷ st) ws ks) o → Follows (at t st ws ks) sc lo ks q st x → Follows (at p2 st ws ks) sc lo ks q st y → Follows s sc lo ks q st (with_value o (λ v. by_test (is_zero v) x y))
  test_run s sc lo p1 p2 t q st ws ks None x y h r rx ry = r
  test_run s sc lo p1 p2 t q st ws ks (Some v) x y h r rx ry = go (is_zero v) refl
    where
      go : (b : Bool) → is_zero v ≡ b → Follows s sc lo ks q st (by_test b x y)
      go true e = after s _ sc lo ks q st x (on instrs s _ _ r.1 (jump_if_zero p1 p2 t v st ws ks true e h)) rx
      go false e = after s _ sc lo ks q st y (on instrs s _ _ r.1 (jump_if_zero p1 p2 t v st ws ks false e h)) ry

  jump_after : (s : State) (sc lo p q t : ℕ) (ks : List ℕ) (st : List ℤ) (o : After) → Has instrs p (slot (Jmp t) 0) q → Follows s sc lo ks p st o → Follows s sc lo ks t st o
  jump_after s sc lo p q t ks st (Done ws m) h r = (r.0, r.1, r.2, on instrs s _ _ r.3 (jump p q t st ws r.0 h))
  jump_after s sc lo p q t ks st Broken h r = r

  seq_run : (s : State) (sc lo mid p q : ℕ) (ks : List ℕ) (st : List ℤ) (o : After) (b : List ℤ → ℕ → After) → lo ≤ mid → Follows s sc lo ks p st o → ((ws : List ℤ) (ls : List ℕ) (m : ℕ) → AreWords n ws → Keeps base top sc lo ks ls m → Follows (at p st ws ls) sc mid ls q st (b ws m)) → Follows s sc lo ks q st (then_do o b)
  seq_run s sc lo mid p q ks st (Done ws m) b le r rb =
      after_keeps s sc lo mid ks r.0 q st m (b ws m) le r.1 (after s _ sc mid r.0 q st (b ws m) r.3 (rb ws r.0 m r.2 r.1))
  seq_run s sc lo mid p q ks st Broken b le r rb = r

  scope_run : (s : State) (sc lo : ℕ) (ks : List ℕ) (q : ℕ) (st : List ℤ) (m : ℕ) (o : After) → IsOwn base sc → sc ≤ lo → lo < top → scope_count sc ks ≡ m → Follows s (suc lo) (suc lo) (slice_set ks lo 0) q st o → Follows s sc lo ks q st (back_to m o)
  scope_run s sc lo ks q st m (Done ws k) w le lt e r = (r.0, keeps_scope base top sc lo ks r.0 m k w le lt e r.1, r.2, r.3)
  scope_run s sc lo ks q st m Broken w le lt e r = r

  mark_run : (p q c b lo : ℕ) (st ws : List ℤ) (ks : List ℕ) (o : Option ℕ) → c < length ks → c < top → AreWords n ws → Has instrs p (slot (CInc c b) 0) q → count_up (slice_index ks c) b ≡ o → Follows (at p st ws ks) (suc c) lo ks q st (with_count o (λ k. Done ws k))
  mark_run p q c b lo st ws ks None le ct are h e = count_breaks p q c b st ws ks h le e
  mark_run p q c b lo st ws ks (Some w) le ct are h e = (slice_set ks c w, keeps_count base top c lo ks w le ct, are, count_goes p q c b w st ws ks h le e)

  -- after a turn's body: the jump back, and the other turns
  turn_run : (s : State) (sc lo head p4 q : ℕ) (ks : List ℕ) (st : List ℤ) (o : After) (rest : List ℤ → ℕ → After) → Has instrs p4 (slot (Jmp head) 0) q → Follows s sc (suc lo) ks p4 st o → ((ws : List ℤ) (ls : List ℕ) (m : ℕ) → AreWords n ws → Keeps base top sc (suc lo) ks ls m → Follows (at head st ws ls) sc lo ls q st (rest ws m)) → Follows s sc lo ks q st (then_do o rest)
  turn_run s sc lo head p4 q ks st (Done ws m) rest hj r more =
      after_keeps s sc lo lo ks r.0 q st m (rest ws m) (omega arith) (keeps_less base top sc lo (suc lo) ks r.0 m (omega arith) r.1)
      (after s (at head st ws r.0) sc lo r.0 q st (rest ws m) (on instrs s _ _ r.3 (jump p4 q head st ws r.0 hj)) (more ws r.0 m r.2 r.1))
  turn_run s sc lo head p4 q ks st Broken rest hj r more = r

  -- a loop from its test on, with k turns left
  loop_run : (bound sc lo head p1 p2 p3 p4 q : ℕ) (t : Ex) (body : List ℤ → ℕ → After) (st : List ℤ) (len : ℕ) → base ≤ lo → lo < top → lo < len → sc ≤ lo → SoundE cells t → CodedE instrs 0 head t p1 → Has instrs p1 (slot (Jz q) 1) p2 → Has instrs p2 (slot (CInc lo bound) 0) p3 → Has instrs p4 (slot (Jmp head) 0) q
      → ((ws : List ℤ) (ks : List ℕ) (m : ℕ) → AreWords n ws → length ks ≡ len → scope_count sc ks ≡ m → Follows (at p3 st ws ks) sc (suc lo) ks p4 st (body ws m))
      → (k : ℕ) (ws : List ℤ) (ks : List ℕ) (m : ℕ) → AreWords n ws → length ks ≡ len → scope_count sc ks ≡ m → slice_index ks lo + k ≡ bound → Follows (at head st ws ks) sc lo ks q st (turns k (value_of t) body ws m)
  loop_run bound sc lo head p1 p2 p3 p4 q t body st len bl tp lt le sound ht hz hi hj rb zero ws ks m are el es ec =
      test_run (at head st ws ks) sc lo p1 p2 q q st ws ks (value_of t ws) (Done ws m) Broken hz (value t 0 head p1 st ws ks ht sound are)
      (ks, keeps_all base top sc lo ks m es, are, stays instrs _)
      (count_breaks p2 p3 lo bound st ws ks hi (omega arith) (up_full (slice_index ks lo) bound (omega arith)))
  loop_run bound sc lo head p1 p2 p3 p4 q t body st len bl tp lt le sound ht hz hi hj rb (suc k) ws ks m are el es ec =
      let w = slice_index ks lo + 1 in
      let ks1 = slice_set ks lo w in
      let k1 = keeps_set base top sc lo ks w m le tp es in
      let el1 = k1.len ∙ el in
      let got : slice_index ks1 lo ≡ w = get_or-set_same ks lo w 0 (omega arith) in
      let ne : suc lo ≢ sc = omega arith in
      let more = then_do (body ws m) (turns k (value_of t) body) in
      let go = after (at p2 st ws ks) (at p3 st ws ks1) sc lo ks1 q st more (count_goes p2 p3 lo bound w st ws ks hi (omega arith) (up_below (slice_index ks lo) bound (omega arith)))
      (turn_run (at p3 st ws ks1) sc lo head p4 q ks1 st (body ws m) (turns k (value_of t) body) hj (rb ws ks1 m are el1 k1.count)
      (λ ws1 ls m1 are1 kept. loop_run bound sc lo head p1 p2 p3 p4 q t body st len bl tp lt le sound ht hz hi hj rb k ws1 ls m1 are1 (kept.len ∙ el1) kept.count (let e = kept.same lo bl (omega arith) ne in omega arith))) in
      test_run (at head st ws ks) sc lo p1 p2 q q st ws ks (value_of t ws) (Done ws m) more hz (value t 0 head p1 st ws ks ht sound are)
      (ks, keeps_all base top sc lo ks m es, are, stays instrs _)
      (after_keeps (at p2 st ws ks) sc lo lo ks ks1 q st m more (omega arith) k1 go)

  -- arguments, the last one on top
  abbrev push_all : List ℤ → List ℤ → List ℤ
  push_all [] st = st
  push_all (v ∷ vs) st = push_all vs (v ∷ st)

  abbrev GivesAll : State → (List ℤ → State) → Option (List ℤ) → Type 0
  GivesAll s t None = Run instrs s Broke
  GivesAll s t (Some vs) = EachWord vs × Leads instrs s (t vs)

  args_first : (s : State) (p1 q : ℕ) (st ws : List ℤ) (ks : List ℕ) (o : Option ℤ) (os : Option (List ℤ)) → Gives instrs s (λ v. at p1 (v ∷ st) ws ks) o → ((v : ℤ) → GivesAll (at p1 (v ∷ st) ws ks) (λ vs. at q (push_all vs (v ∷ st)) ws ks) os) → GivesAll s (λ vs. at q (push_all vs st) ws ks) (first_then o os)
  args_first s p1 q st ws ks None os r more = r
  args_first s p1 q st ws ks (Some v) os r more = go os (more v)
    where
      go : (os : Option (List ℤ)) → GivesAll (at p1 (v ∷ st) ws ks) (λ vs. at q (push_all vs (v ∷ st)) ws ks) os → GivesAll s (λ vs. at q (push_all vs st) ws ks) (also os v)
      go None x = r.1.by Broke x
      go (Some vs) x = ((r.0, x.0), on instrs s _ _ r.1 x.1)

  args_run : (es : List Ex) (h p q : ℕ) (st ws : List ℤ) (ks : List ℕ) → CodedA instrs h p es q → All (SoundE cells) es → AreWords n ws → GivesAll (at p st ws ks) (λ vs. at q (push_all vs st) ws ks) (values_of es ws)
  args_run [] h p q st ws ks c sound are = (tt, same_place instrs rs p q st ws ks c)
  args_run (e ∷ es) h p q st ws ks c sound are =
      args_first (at p st ws ks) c.0 q st ws ks (value_of e ws) (values_of es ws) (value e h p c.0 st ws ks c.1 (sound 0 e (omega arith)) are)
      (λ v. args_run es (h + 1) c.0 q (v ∷ st) ws ks c.2 (λ k d lt. sound (suc k) d (omega arith)) are)

  stores_run : (xs : List ℕ) (vs : List ℤ) (h p q : ℕ) (st ws : List ℤ) (ks : List ℕ) → length vs ≡ length xs → CodedS instrs h p xs q → All (λ (a : ℕ). IsCell cells a 1) xs → EachWord vs → AreWords n ws → Leads instrs (at p (push_all vs st) ws ks) (at q st (set_all xs vs ws) ks)
  stores_run [] [] h p q st ws ks e c cs each are = same_place instrs rs p q st ws ks c
  stores_run [] (v ∷ vs) h p q st ws ks e c cs each are = absurd (let x : ⊥ = omega arith in x)
  stores_run (x ∷ xs) [] h p q st ws ks e c cs each are = absurd (let x : ⊥ = omega arith in x)
  stores_run (x ∷ xs) (v ∷ vs) h p q st ws ks e c cs each are =
      on instrs _ _ _ (stores_run xs vs (h + 1) p c.0 (v ∷ st) ws ks (omega arith) c.1 (λ k d lt. cs (suc k) d (omega arith)) each.1 are)
      (store c.0 q x (h + 1) v st (set_all xs vs ws) ks c.2 (omega (arith, fits x 1 (cs 0 x (omega arith)))) (set_all_words n xs vs ws each.1 are))

  -- as many values as arguments
  as_many : (es : List Ex) (ws vs : List ℤ) → values_of es ws ≡ Some vs → length vs ≡ length es
  as_many [] ws vs e = let f : [] ≡ vs = cc in ap length (sym f)
  as_many (x ∷ es) ws vs e = go (value_of x ws) (values_of es ws) (λ us f. as_many es ws us f) refl e
    where
      go : (o : Option ℤ) (os : Option (List ℤ)) → ((us : List ℤ) → values_of es ws ≡ Some us → length us ≡ length es) → values_of es ws ≡ os → first_then o os ≡ Some vs → length vs ≡ suc (length es)
      go None os ih q e = cc
      go (Some v) None ih q e = cc
      go (Some v) (Some us) ih q e = let f : v ∷ us ≡ vs = cc in let g = ih us q in omega (arith, ap length (sym f), g)

  back_run : (s : State) (sc lo p3 q a : ℕ) (st : List ℤ) (ks : List ℕ) (m : ℕ) (b : Back) → IsOwn base sc → sc ≤ lo → base ≤ top → scope_count sc ks ≡ m → a < n → Has instrs p3 (slot (Store a) 1) q → Returns instrs n s base ks p3 st rs b → Follows s sc lo ks q st (with_back b (λ ds v. Done (slice_set ds a v) m))
  back_run s sc lo p3 q a st ks m Fails w le bt e inside h r = r
  back_run s sc lo p3 q a st ks m (Answers ds v) w le bt e inside h r =
      (r.0, keeps_call base top sc lo ks r.0 m w le bt e r.1, set_words n ds a v r.2 r.3, on instrs s _ _ r.4 (store p3 q a 1 v st ds r.0 h inside r.2))

  call_run : (s : State) (sc lo p1 p2 p3 q a g : ℕ) (st ws : List ℤ) (ks : List ℕ) (m : ℕ) (os : Option (List ℤ)) → g < cur → base ≤ length ks → IsOwn base sc → sc ≤ lo → base ≤ top → scope_count sc ks ≡ m → a < n → AreWords n ws
      → CodedS instrs 0 p1 (params g) p2 → Has instrs p2 (slot (Call (starts g)) 0) p3 → Has instrs p3 (slot (Store a) 1) q → ((vs : List ℤ) → os ≡ Some vs → length vs ≡ length (params g)) → GivesAll s (λ vs. at p1 (push_all vs st) ws ks) os
      → Follows s sc lo ks q st (with_values os (λ vs. with_back (run g (set_all (params g) vs ws)) (λ ds v. Done (slice_set ds a v) m)))
  call_run s sc lo p1 p2 p3 q a g st ws ks m None lt bl w le bt e inside are hs hc hx many r = r
  call_run s sc lo p1 p2 p3 q a g st ws ks m (Some vs) lt bl w le bt e inside are hs hc hx many r =
      let ds = set_all (params g) vs ws in
      let words = set_all_words n (params g) vs ws r.0 are in
      let s2 = at p2 st ds ks in
      let s3 = state (starts g) st ds ks (p3 ∷ rs) in
      let in_it : Leads instrs s2 s3 = record { by = λ o u. goes (one_step instrs rs p2 p3 _ st ds ks hc ∙ ap (λ x. Goes (state (starts g) st ds ks (x ∷ rs))) hc.next) u } in
      after s s3 sc lo ks q st (with_back (run g ds) (λ es v. Done (slice_set es a v) m))
      (on instrs s _ s3 r.1 (on instrs _ s2 s3 (stores_run (params g) vs 0 p1 p2 st ws ks (many vs refl) hs (are_cells g lt) r.0 are) in_it))
      (back_run s3 sc lo p3 q a st ks m (run g ds) w le bt e inside hx (good g lt ds st ks rs p3 words bl))

  -- an indexed assignment
  element_run : (p2 q a w sc lo : ℕ) (i v : ℤ) (st ws : List ℤ) (ks : List ℕ) (m : ℕ) (o : Option ℕ) → scope_count sc ks ≡ m → a + w ≤ n → AreWords n ws → IsWord v → Has instrs p2 (slot (StoreX a w) 2) q → place_of a w i ≡ o → Follows (at p2 (v ∷ i ∷ st) ws ks) sc lo ks q st (set_elem o ws v m)
  element_run p2 q a w sc lo i v st ws ks m None e inside are f h is =
      ends (one_step instrs rs p2 q _ (v ∷ i ∷ st) ws ks h ∙ ap (λ o. gives o (λ k. found (slice_get ws k) (λ _. Goes (at (p2 + 1) st (slice_set ws k v) ks)))) is)
  element_run p2 q a w sc lo i v st ws ks m (Some x) e inside are f h is =
      let below : x < n = omega (arith, place_below a w i x is) in (
        ks,
        keeps_all base top sc lo ks m e,
        set_words n ws x v are f,
        next instrs rs p2 q _ (v ∷ i ∷ st) ws st (slice_set ws x v) ks ks h
            (ap (λ o. gives o (λ k. found (slice_get ws k) (λ _. Goes (at (p2 + 1) st (slice_set ws k v) ks)))) is ∙ ap (λ o. found o (λ _. Goes (at (p2 + 1) st (slice_set ws x v) ks))) (word_there n ws x are below)),
      )

  -- a loop of a sequence whose counter is tot and whose bound is tb, from its test on, with k turns left
  series_run : (bound tot tb lo head p1 p2 p3 p4 p5 q : ℕ) (t : Ex) (body : List ℤ → After) (st : List ℤ) (len : ℕ) → base ≤ tot → tot < lo → lo < top → lo < len → SoundE cells t → CodedE instrs 0 head t p1 → Has instrs p1 (slot (Jz q) 1) p2 → Has instrs p2 (slot (CInc lo bound) 0) p3 → Has instrs p3 (slot (CInc tot tb) 0) p4 → Has instrs p5 (slot (Jmp head) 0) q
      → ((ws : List ℤ) (ks : List ℕ) → AreWords n ws → length ks ≡ len → Follows (at p4 st ws ks) 0 (suc lo) ks p5 st (body ws))
      → (k : ℕ) (ws : List ℤ) (ks : List ℕ) (m : ℕ) → AreWords n ws → length ks ≡ len → slice_index ks tot ≡ m → slice_index ks lo + k ≡ bound → Follows (at head st ws ks) (suc tot) lo ks q st (series_turns k tb (value_of t) body ws m)
  series_run bound tot tb lo head p1 p2 p3 p4 p5 q t body st len bl tl tp lt sound ht hz hi hs hj rb zero ws ks m are el es ec =
      test_run (at head st ws ks) (suc tot) lo p1 p2 q q st ws ks (value_of t ws) (Done ws m) Broken hz (value t 0 head p1 st ws ks ht sound are)
      (ks, keeps_all base top (suc tot) lo ks m es, are, stays instrs _)
      (count_breaks p2 p3 lo bound st ws ks hi (omega arith) (up_full (slice_index ks lo) bound (omega arith)))
  series_run bound tot tb lo head p1 p2 p3 p4 p5 q t body st len bl tl tp lt sound ht hz hi hs hj rb (suc k) ws ks m are el es ec =
      let w = slice_index ks lo + 1 in
      let ks1 = slice_set ks lo w in
      let k1 = keeps_set base top (suc tot) lo ks w m tl tp es in
      let el1 = k1.len ∙ el in
      let got : slice_index ks1 lo ≡ w = get_or-set_same ks lo w 0 (omega arith) in
      let more = with_count (count_up m tb) (λ j. then_do (body ws) (λ ds x. series_turns k tb (value_of t) body ds j)) in
      test_run (at head st ws ks) (suc tot) lo p1 p2 q q st ws ks (value_of t ws) (Done ws m) more hz (value t 0 head p1 st ws ks ht sound are)
      (ks, keeps_all base top (suc tot) lo ks m es, are, stays instrs _)
      (after_keeps (at p2 st ws ks) (suc tot) lo lo ks ks1 q st m more (omega arith) k1
      (after (at p2 st ws ks) (at p3 st ws ks1) (suc tot) lo ks1 q st more (count_goes p2 p3 lo bound w st ws ks hi (omega arith) (up_below (slice_index ks lo) bound (omega arith)))
      (counted (count_up m tb) ks1 w got el1 k1.count (ap (λ v. count_up v tb) k1.count)
      (λ ds ls j are1 e1 e2 e3. series_run bound tot tb lo head p1 p2 p3 p4 p5 q t body st len bl tl tp lt sound ht hz hi hs hj rb k ds ls j are1 e1 e2 (omega (arith, e3, ec))))))
    where
      counted : (o : Option ℕ) (ks1 : List ℕ) (w : ℕ) → slice_index ks1 lo ≡ w → length ks1 ≡ len → slice_index ks1 tot ≡ m → count_up (slice_index ks1 tot) tb ≡ o
          → ((ds : List ℤ) (ls : List ℕ) (j : ℕ) → AreWords n ds → length ls ≡ len → slice_index ls tot ≡ j → slice_index ls lo ≡ w → Follows (at head st ds ls) (suc tot) lo ls q st (series_turns k tb (value_of t) body ds j))
          → Follows (at p3 st ws ks1) (suc tot) lo ks1 q st (with_count o (λ j. then_do (body ws) (λ ds x. series_turns k tb (value_of t) body ds j)))
      counted None ks1 w got el1 es1 e ih = count_breaks p3 p4 tot tb st ws ks1 hs (omega arith) e
      counted (Some j) ks1 w got el1 es1 e ih =
          let ks2 = slice_set ks1 tot j in
          let k2 = keeps_count base top tot lo ks1 j (omega arith) (omega arith) in
          let el2 = k2.len ∙ el1 in
          let neq : lo ≢ tot = omega arith in
          let got2 : slice_index ks2 lo ≡ w = get_or-set_other ks1 tot lo j 0 neq ∙ got in
          let rest = λ (ds : List ℤ) (x : ℕ). series_turns k tb (value_of t) body ds j in
          after_keeps (at p3 st ws ks1) (suc tot) lo lo ks1 ks2 q st j (then_do (body ws) rest) (omega arith) k2
          (after (at p3 st ws ks1) (at p4 st ws ks2) (suc tot) lo ks2 q st (then_do (body ws) rest) (count_goes p3 p4 tot tb j st ws ks1 hs (omega arith) e)
          (turn ks2 el2 k2.count got2 (body ws) (rb ws ks2 are el2)))
        where
          turn : (ks2 : List ℕ) → length ks2 ≡ len → slice_index ks2 tot ≡ j → slice_index ks2 lo ≡ w → (o : After) → Follows (at p4 st ws ks2) 0 (suc lo) ks2 p5 st o → Follows (at p4 st ws ks2) (suc tot) lo ks2 q st (then_do o (λ ds x. series_turns k tb (value_of t) body ds j))
          turn ks2 el2 es2 got2 Broken r = r
          turn ks2 el2 es2 got2 (Done ds x) r =
              let none : (i : ℕ) → suc i ≢ 0 = (λ i z. absurd (let y : ⊥ = omega (arith, z) in y)) in
              let kept = keeps_none base top (suc tot) (suc lo) ks2 r.0 j x (inr (omega arith)) (omega arith) es2 r.1 in
              let s1 = r.1.same lo (omega arith) (omega arith) (none lo) in
              after_keeps (at p4 st ws ks2) (suc tot) lo lo ks2 r.0 q st j (series_turns k tb (value_of t) body ds j) (omega arith) (keeps_less base top (suc tot) lo (suc lo) ks2 r.0 j (omega arith) kept)
              (after (at p4 st ws ks2) (at head st ds r.0) (suc tot) lo r.0 q st (series_turns k tb (value_of t) body ds j) (on instrs _ _ _ r.3 (jump p5 q head st ds r.0 hj)) (ih ds r.0 j r.2 (kept.len ∙ el2) kept.count (s1 ∙ got2)))

  mutual
    pub runs : (s : St) (p q sc kb lo hi : ℕ) (st ws : List ℤ) (ks : List ℕ) (m : ℕ) → Coded starts params instrs p s q → Sound cells s → Counted params cur sc kb lo s hi → AreWords n ws → hi ≤ length ks → hi ≤ top → base ≤ lo → IsOwn base sc → sc ≤ lo → scope_count sc ks ≡ m → Follows (at p st ws ks) sc lo ks q st (does params run s ws m)
    runs (Assign a e) p q sc kb lo hi st ws ks m c sound f are le tp bl wi sl es =
        use_value (at p st ws ks) sc lo c.0 q st st ws ks (value_of e ws) (λ v. Done (slice_set ws a v) m) (value e 0 p c.0 st ws ks c.1 sound.1.0 are)
        (λ v word. (ks, keeps_all base top sc lo ks m es, set_words n ws a v are word, store c.0 q a 1 v st ws ks c.2 (omega (arith, fits a 1 sound.0)) are))
    runs (AssignAt a w i e) p q sc kb lo hi st ws ks m c sound f are le tp bl wi sl es =
        use_value (at p st ws ks) sc lo c.0 q st st ws ks (value_of i ws) (λ x. with_value (value_of e ws) (λ v. set_elem (place_of a w x) ws v m)) (value i 0 p c.0 st ws ks c.2 sound.1 are)
        (λ x word. use_value (at c.0 (x ∷ st) ws ks) sc lo c.1 q st (x ∷ st) ws ks (value_of e ws) (λ v. set_elem (place_of a w x) ws v m) (value e 1 c.0 c.1 (x ∷ st) ws ks c.3 sound.2 are)
        (λ v word. element_run c.1 q a w sc lo x v st ws ks m (place_of a w x) es (fits a w sound.0.0) are word c.4 refl))
    runs (Invoke a g args) p q sc kb lo hi st ws ks m c sound f are le tp bl wi sl es =
        call_run (at p st ws ks) sc lo c.0 c.1 c.2 q a g st ws ks m (values_of args ws) f.1 (omega (arith, f.0)) wi sl (omega (arith, f.0)) es (omega (arith, fits a 1 sound.0)) are c.4 c.5 c.6 (λ vs e. as_many args ws vs e ∙ f.2) (args_run args 0 p c.0 st ws ks c.3 sound.1 are)
    runs (When t b) p q sc kb lo hi st ws ks m c sound f are le tp bl wi sl es =
        test_run (at p st ws ks) sc lo c.0 c.1 q q st ws ks (value_of t ws) (Done ws m) (all_do params run b ws m) c.3 (value t 0 p c.0 st ws ks c.2 sound.0.0 are)
        (ks, keeps_all base top sc lo ks m es, are, stays instrs _)
        (runs_b b c.1 q sc kb lo hi st ws ks m c.4 sound.1 f are le tp bl wi sl es)
    runs (Choice t b d) p q sc kb lo hi st ws ks m c sound f are le tp bl wi sl es =
        let up = counted_up_b params cur sc kb f.0 d hi f.2 in
        let down = counted_up_b params cur sc kb lo b f.0 f.1 in
        test_run (at p st ws ks) sc lo c.0 c.1 c.3 q st ws ks (value_of t ws) (all_do params run d ws m) (all_do params run b ws m) c.5 (value t 0 p c.0 st ws ks c.4 sound.0.0 are)
        (less (at c.3 st ws ks) sc lo f.0 ks q st (all_do params run d ws m) down (runs_b d c.3 q sc kb f.0 hi st ws ks m c.8 sound.2 f.2 are le tp (omega arith) wi (omega arith) es))
        (jump_after (at c.1 st ws ks) sc lo c.2 c.3 q ks st (all_do params run b ws m) c.7 (runs_b b c.1 c.2 sc kb lo f.0 st ws ks m c.6 sound.1 f.1 are (omega arith) (omega arith) bl wi sl es))
    runs (Loop d w t b) p q sc kb lo hi st ws ks m c sound f are le tp bl wi sl es =
        let up = counted_up_b params cur sc kb (suc lo) b hi f.1 in
        let hc = subst (λ x. Has instrs p (slot (CZero x) 0) c.0) f.0 c.5 in
        let hi' = subst (λ x. Has instrs c.2 (slot (CInc x w) 0) c.3) f.0 c.8 in
        let ks0 = slice_set ks lo 0 in
        let k0 = keeps_set base top sc lo ks 0 m sl (omega arith) es in
        let got : slice_index ks0 lo ≡ 0 = get_or-set_same ks lo 0 0 (omega arith) in
        let whole = turns w (value_of t) (all_do params run b) ws m in
        after_keeps (at p st ws ks) sc lo lo ks ks0 q st m whole (omega arith) k0
        (after (at p st ws ks) (at c.0 st ws ks0) sc lo ks0 q st whole (clear p c.0 lo st ws ks hc (omega arith))
        (loop_run w sc lo c.0 c.1 c.2 c.3 c.4 q t (all_do params run b) st (length ks) bl (omega arith) (omega arith) sl sound.1.0 c.6 c.7 hi' c.10
        (λ ws1 ks1 m1 are1 el es1. runs_b b c.3 c.4 sc kb (suc lo) hi st ws1 ks1 m1 c.9 sound.2 f.1 are1 (omega arith) tp (omega arith) wi (omega arith) es1)
        w ws ks0 m are k0.len k0.count (omega arith)))
    runs (Scoped d w b) p q sc kb lo hi st ws ks m c sound f are le tp bl wi sl es =
        let up = counted_up_b params cur (suc lo) w (suc lo) b hi f.1 in
        let hc = subst (λ x. Has instrs p (slot (CZero x) 0) c.0) f.0 c.1 in
        let ks0 = slice_set ks lo 0 in
        let got : slice_index ks0 lo ≡ 0 = get_or-set_same ks lo 0 0 (omega arith) in
        let len0 = (keeps_set base top sc lo ks 0 m sl (omega arith) es).len in
        scope_run (at p st ws ks) sc lo ks q st m (all_do params run b ws 0) wi sl (omega arith) es
        (after (at p st ws ks) (at c.0 st ws ks0) (suc lo) (suc lo) ks0 q st (all_do params run b ws 0) (clear p c.0 lo st ws ks hc (omega arith))
        (runs_b b c.0 q (suc lo) w (suc lo) hi st ws ks0 0 c.2 sound.1 f.1 are (omega arith) tp (omega arith) (inr (omega arith)) (omega arith) got))
    runs (Count d w) p q sc kb lo hi st ws ks m c sound f are le tp bl wi sl es =
        let own : sc ≡ suc d = sym f.1 in
        let value_is : slice_index ks d ≡ m = subst (λ x. scope_count x ks ≡ m) own es in
        subst (λ x. Follows (at p st ws ks) x lo ks q st (does params run (Count d w) ws m)) (sym own)
        (mark_run p q d w lo st ws ks (count_up m w) (omega (arith, f.0)) (omega (arith, f.0)) are c (ap (λ v. count_up v w) value_is))
    runs (Series d w l) p q sc kb lo hi st ws ks m c sound f are le tp bl wi sl es =
        let up = counted_up_l params cur (suc lo) l hi f.1 in
        let hc = subst (λ x. Has instrs p (slot (CZero x) 0) c.0) f.0 c.1 in
        let hl = subst (λ x. CodedL starts params instrs x w c.0 l q) f.0 c.2 in
        let ks0 = slice_set ks lo 0 in
        let got : slice_index ks0 lo ≡ 0 = get_or-set_same ks lo 0 0 (omega arith) in
        let len0 = (keeps_set base top sc lo ks 0 m sl (omega arith) es).len in
        scope_run (at p st ws ks) sc lo ks q st m (series_do params run w l ws 0) wi sl (omega arith) es
        (after (at p st ws ks) (at c.0 st ws ks0) (suc lo) (suc lo) ks0 q st (series_do params run w l ws 0) (clear p c.0 lo st ws ks hc (omega arith))
        (runs_l l c.0 q lo w (suc lo) hi st ws ks0 0 hl sound.1 f.1 are (omega arith) tp bl (omega arith) got))

    pub runs_b : (b : Bl) (p q sc kb lo hi : ℕ) (st ws : List ℤ) (ks : List ℕ) (m : ℕ) → CodedB starts params instrs p b q → SoundB cells b → CountedB params cur sc kb lo b hi → AreWords n ws → hi ≤ length ks → hi ≤ top → base ≤ lo → IsOwn base sc → sc ≤ lo → scope_count sc ks ≡ m → Follows (at p st ws ks) sc lo ks q st (all_do params run b ws m)
    runs_b Nil p q sc kb lo hi st ws ks m c sound f are le tp bl wi sl es = (ks, keeps_all base top sc lo ks m es, are, same_place instrs rs p q st ws ks c)
    runs_b (Then s rest) p q sc kb lo hi st ws ks m c sound f are le tp bl wi sl es =
        let up = counted_up_b params cur sc kb f.0 rest hi f.2 in
        let down = counted_up params cur sc kb lo s f.0 f.1 in
        seq_run (at p st ws ks) sc lo f.0 c.0 q ks st (does params run s ws m) (all_do params run rest) down (runs s p c.0 sc kb lo f.0 st ws ks m c.1 sound.0 f.1 are (omega arith) (omega arith) bl wi sl es)
        (λ ws1 ls m1 are1 kept. let e = kept.len in runs_b rest c.0 q sc kb f.0 hi st ws1 ls m1 c.2 sound.1 f.2 are1 (omega arith) tp (omega arith) wi (omega arith) kept.count)

    pub runs_l : (l : Ls) (p q tot tb lo hi : ℕ) (st ws : List ℤ) (ks : List ℕ) (m : ℕ) → CodedL starts params instrs tot tb p l q → SoundL cells l → CountedL params cur lo l hi → AreWords n ws → hi ≤ length ks → hi ≤ top → base ≤ tot → tot < lo → slice_index ks tot ≡ m → Follows (at p st ws ks) (suc tot) lo ks q st (series_do params run tb l ws m)
    runs_l NoLoop p q tot tb lo hi st ws ks m c sound f are le tp bl tl es = (ks, keeps_all base top (suc tot) lo ks m es, are, same_place instrs rs p q st ws ks c)
    runs_l (OneLoop d w t b rest) p q tot tb lo hi st ws ks m c sound f are le tp bl tl es =
        let down = counted_up_b params cur 0 0 (suc lo) b f.0 f.2 in
        let up = counted_up_l params cur f.0 rest hi f.3 in
        let hc = subst (λ x. Has instrs p (slot (CZero x) 0) c.0) f.1 c.7 in
        let hi' = subst (λ x. Has instrs c.2 (slot (CInc x w) 0) c.3) f.1 c.10 in
        let ks0 = slice_set ks lo 0 in
        let k0 = keeps_set base top (suc tot) lo ks 0 m tl (omega arith) es in
        let got : slice_index ks0 lo ≡ 0 = get_or-set_same ks lo 0 0 (omega arith) in
        let one_loop = series_turns w tb (value_of t) (λ ds. all_do params run b ds 0) ws m in
        seq_run (at p st ws ks) (suc tot) lo f.0 c.6 q ks st one_loop (series_do params run tb rest) (omega arith)
        (after_keeps (at p st ws ks) (suc tot) lo lo ks ks0 c.6 st m one_loop (omega arith) k0
        (after (at p st ws ks) (at c.0 st ws ks0) (suc tot) lo ks0 c.6 st one_loop (clear p c.0 lo st ws ks hc (omega arith))
        (series_run w tot tb lo c.0 c.1 c.2 c.3 c.4 c.5 c.6 t (λ ds. all_do params run b ds 0) st (length ks) bl tl (omega arith) (omega arith) sound.1.0 c.8 c.9 hi' c.11 c.13
        (λ ws1 ks1 are1 el. runs_b b c.4 c.5 0 0 (suc lo) f.0 st ws1 ks1 0 c.12 sound.2 f.2 are1 (omega arith) (omega arith) (omega arith) (inl refl) (omega arith) refl)
        w ws ks0 m are k0.len k0.count (omega arith))))
        (λ ws1 ls m1 are1 kept. let e = kept.len in runs_l rest c.6 q tot tb f.0 hi st ws1 ls m1 c.14 sound.3 f.3 are1 (omega arith) tp bl (omega arith) kept.count)
