-- The code of each function comes back with what the function answers.
use Rattle.std.proofs.Common.{◌≡◌, inl, ℕ, suc, ◌+◌, ◌<◌, ◌≤◌, Bool, true, false, ℤ, List, [], ◌∷◌, length, Option, Some, None, refl, sym, ap, ◌∙◌, subst, arith}
use Rattle.std.specs.Prelude.{slice_get, slice_index, nat_eq, if◌then◌else◌, All}
use Rattle.std.proofs.lemmas.Bool.{eqb-true, eqb-false}
use mathlib.Core.List.{reverse_aux}
use Rattle.mc_tree.specs.declared.tree.Cell.{Cell}
use Rattle.mc_tree.specs.Tree.{Fn}
use Rattle.mc_tree.specs.Counters.{CountedB, CountedF}
use Rattle.mc_tree.specs.Meaning.{After, Done, Broken, Back, Answers, Fails, value_of, all_do, answered, answer_of, run_fn, run_all}
use Rattle.mc_tree.specs.Sound.{IsCell}
use Rattle.mc_tree.proofs.Checked.{FnSound, counted_up_b}
use Rattle.processor.specs.Ends.{Broken as Broke}
use Rattle.processor.specs.System.{goes}
use Rattle.word_code.specs.State.{State, at}
use Rattle.word_code.specs.declared.code.Slot.{Slot}
use Rattle.mc_compile.specs.Coded.{CodedF, CodedFs}
use Rattle.mc_compile.proofs.Counts.{Keeps}
use Rattle.mc_compile.proofs.Expressions.{AreWords, Leads, on, Gives, one_step, expr_runs}
use Rattle.mc_compile.proofs.Statements.{Returns, AreGood, Follows, runs_b}

module _ (instrs : List Slot) (cells : List Cell) (n : ℕ) (fits : (p w : ℕ) → IsCell cells p w → p + w ≤ n) (params : ℕ → List ℕ) (starts : ℕ → ℕ) where
  -- what keeps the counters from lo on keeps those from hi on
  wider : (s : State) (lo hi : ℕ) (ks : List ℕ) (r : ℕ) (st : List ℤ) (rs : List ℕ) (b : Back) → lo ≤ hi → Returns instrs n s lo ks r st rs b → Returns instrs n s hi ks r st rs b
  wider s lo hi ks r st rs Fails le x = x
  wider s lo hi ks r st rs (Answers ds v) le x = (x.0, record { len = x.1.len; same = λ i h. x.1.same i (omega (arith, le, h)) }, x.2, x.3, x.4)

  -- one function, whose counters are lo to hi, over those that it calls
  one_returns : (run : ℕ → List ℤ → Back) (f : Fn) (cur lo hi p q : ℕ) → ((g : ℕ) → g < cur → All (λ (a : ℕ). IsCell cells a 1) (params g)) → AreGood instrs n starts run cur lo → CodedF starts params instrs p f q → FnSound cells f → CountedB params cur 0 0 lo f.body hi
      → (ws st : List ℤ) (ks rs : List ℕ) (r : ℕ) → AreWords n ws → lo ≤ hi → hi ≤ length ks → Returns instrs n (at p st ws ks (r ∷ rs)) hi ks r st rs (run_fn params run f ws)
  one_returns run f cur lo hi p q are_cells good c sound counted ws st ks rs r are le len =
      body (all_do params run f.body ws 0)
      (runs_b instrs cells n fits params starts run cur lo hi are_cells good (r ∷ rs) f.body p c.0 0 0 lo hi st ws ks 0 c.2 sound.body counted are len (omega arith) (omega arith) (inl refl) (omega arith) refl)
    where
      ret : (ds : List ℤ) (ls : List ℕ) (v : ℤ) → Leads instrs (at c.1 (v ∷ st) ds ls (r ∷ rs)) (at r (v ∷ st) ds ls rs)
      ret ds ls v = record { by = λ o u. goes (one_step instrs (r ∷ rs) c.1 q _ (v ∷ st) ds ls c.4) u }

      answer : (ds : List ℤ) (ls : List ℕ) (x : ℕ) → Keeps lo hi 0 lo ks ls x → AreWords n ds → Leads instrs (at p st ws ks (r ∷ rs)) (at c.0 st ds ls (r ∷ rs)) → (o : Option ℤ) → Gives instrs (at c.0 st ds ls (r ∷ rs)) (λ v. at c.1 (v ∷ st) ds ls (r ∷ rs)) o → Returns instrs n (at p st ws ks (r ∷ rs)) hi ks r st rs (answered ds o)
      answer ds ls x kept words l None g = l.by Broke g
      answer ds ls x kept words l (Some v) g = (ls, record { len = kept.len; same = kept.above }, words, g.0, on instrs _ _ _ l (on instrs _ _ _ g.1 (ret ds ls v)))

      body : (o : After) → Follows instrs cells n fits params starts run cur lo hi are_cells good (r ∷ rs) (at p st ws ks (r ∷ rs)) 0 lo ks c.0 st o → Returns instrs n (at p st ws ks (r ∷ rs)) hi ks r st rs (answer_of f.answer o)
      body Broken g = g
      body (Done ds x) g = answer ds g.0 x g.1 g.2 g.3 (value_of f.answer ds) (expr_runs instrs (r ∷ rs) cells n fits f.answer 0 c.0 c.1 st ds g.0 c.3 sound.answer.0 g.2)

  -- all functions, of which those of `done` come before, the last one first
  pub all_good : (done fs : List Fn) (firsts : List ℕ) (p q lo hi : ℕ) → ((g : ℕ) → g < length done + length fs → All (λ (a : ℕ). IsCell cells a 1) (params g))
      → AreGood instrs n starts (run_all params done) (length done) lo → CodedFs starts params instrs p fs firsts q → CountedF params (length done) lo fs hi
      → ((i : ℕ) → i < length fs → starts (length done + i) ≡ slice_index firsts i) → ((i : ℕ) (f : Fn) → slice_get fs i ≡ Some f → FnSound cells f)
      → AreGood instrs n starts (run_all params (reverse_aux fs done)) (length done + length fs) hi
  all_good done [] firsts p q lo hi are_cells good c counted begin sound =
      let e : hi ≡ lo = counted in
      let m : length done ≡ length done + 0 = omega arith in
      subst (λ x. AreGood instrs n starts (run_all params done) (length done + 0) x) (sym e) (subst (λ x. AreGood instrs n starts (run_all params done) x lo) m good)
  all_good done (f ∷ fs) firsts p q lo hi are_cells good c counted begin sound =
      let up = counted_up_b params (length done) 0 0 lo f.body counted.0 counted.1 in
      let e : length (f ∷ done) + length fs ≡ length done + length (f ∷ fs) = omega arith in
      let first : starts (length done) ≡ p = subst (λ x. starts x ≡ slice_index firsts 0) (let z : length done + 0 ≡ length done = omega arith in z) (begin 0 (omega arith)) ∙ ap (λ xs. slice_index xs 0) c.2 in
      subst (λ x. AreGood instrs n starts (run_all params (reverse_aux fs (f ∷ done))) x hi) e
      (all_good (f ∷ done) fs c.0 c.1 q counted.0 hi (λ g lt. are_cells g (omega arith)) (extended first up) c.4 counted.2
      (λ i lt. let z : length done + suc i ≡ length (f ∷ done) + i = omega arith in subst (λ x. starts x ≡ slice_index c.0 i) z (begin (suc i) (omega arith) ∙ ap (λ xs. slice_index xs (suc i)) c.2))
      (λ i x h. sound (suc i) x h))
    where
      own : starts (length done) ≡ p → lo ≤ counted.0 → (ws st : List ℤ) (ks rs : List ℕ) (r : ℕ) → AreWords n ws → counted.0 ≤ length ks → Returns instrs n (at p st ws ks (r ∷ rs)) counted.0 ks r st rs (run_fn params (run_all params done) f ws)
      own first up ws st ks rs r are len =
          one_returns (run_all params done) f (length done) lo counted.0 p c.1 (λ g lt. are_cells g (omega arith)) good c.3 (sound 0 f refl) counted.1 ws st ks rs r are up len

      extended : starts (length done) ≡ p → lo ≤ counted.0 → AreGood instrs n starts (run_all params (f ∷ done)) (length (f ∷ done)) counted.0
      extended first up g lt ws st ks rs r are len = go (nat_eq g (length done)) refl
        where
          go : (b : Bool) → nat_eq g (length done) ≡ b → Returns instrs n (at (starts g) st ws ks (r ∷ rs)) counted.0 ks r st rs (if b then run_fn params (run_all params done) f ws else run_all params done g ws)
          go true e =
              let same : starts g ≡ p = ap starts (eqb-true g (length done) e) ∙ first in
              subst (λ x. Returns instrs n (at x st ws ks (r ∷ rs)) counted.0 ks r st rs (run_fn params (run_all params done) f ws)) (sym same) (own first up ws st ks rs r are len)
          go false e =
              let ne = eqb-false g (length done) e in
              let l : g < length done = omega arith in
              wider (at (starts g) st ws ks (r ∷ rs)) lo counted.0 ks r st rs (run_all params done g ws) up (good g l ws st ks rs r are (omega (arith, up, len)))
