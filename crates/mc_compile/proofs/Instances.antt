-- The code of a checked task does what the task does.
use Rattle.std.proofs.Common.{◌≡◌, inl, ℕ, ◌+◌, ◌-◌, ◌<◌, ◌≤◌, ℤ, List, [], ◌++◌, length, replicate, refl, sym, ap, ◌∙◌, subst, arith}
use Rattle.std.specs.Prelude.{pos, reverse, slice_index, All, FitsSigned}
use Rattle.std.specs.Int.{w32}
use Rattle.std.proofs.lemmas.List.{length-replicate}
use Rattle.mars_base.specs.declared.word.Role.{Role}
use Rattle.mars_base.specs.declared.word.Role.TheVariants as role
use Rattle.mc_tree.specs.Tree.{Tree}
use Rattle.mc_tree.specs.Meaning.{After, Done, Broken, all_do, run_all, params_at}
use Rattle.mc_tree.specs.Instance.{Outcome, Gives, Breaks as Breaking, is_out, is_state, words_at_start, words_of, ended, instance_of}
use Rattle.mc_tree.specs.Sound.{IsCell}
use Rattle.mc_tree.specs.Checked.{words_in, IsChecked}
use Rattle.mc_tree.proofs.Checked.{checked_body, checked_fn, checked_cell, counted_up_b}
use Rattle.word_code.specs.Cells as cells
use Rattle.processor.specs.Ends.{End, Halted, Broken as Broke}
use Rattle.processor.specs.System.{ends, cycles_of}
use Rattle.word_code.specs.Execution.{Halts, Breaks}
use Rattle.word_code.specs.Runs.{Run}
use Rattle.word_code.specs.State.{State, at}
use Rattle.word_code.specs.declared.code.Code.{Code}
use Rattle.word_code.specs.declared.code.Slot.{Slot}
use Rattle.word_code.proofs.Runs.{run_once}
use Rattle.mc_compile.specs.Coded.{CodedTask}
use Rattle.mc_compile.specs.Correct.{AreGiven, AreLeft, KeepsWords, EndsAs, IsRight}
use Rattle.mc_compile.specs.Whole.{translate, shapes_of}
use Rattle.mc_compile.proofs.Expressions.{AreWords, one_step}
use Rattle.mc_compile.proofs.Functions.{all_good}
use Rattle.mc_compile.proofs.Memory.{same_start, same_end, start_words, kept_words}
use Rattle.mc_compile.proofs.Placed.{placed_task}
use Rattle.mc_compile.proofs.Statements.{AreGood, Follows, runs_b}
use Rattle.mc_compile.proofs.TypedTask.{fn_at, params_is}

-- the machine's tests of a role are the task's
pub same_state : (r : Role) → is_state r ≡ cells.is_state r
same_state role.In = refl
same_state role.Out = refl
same_state role.State = refl
same_state role.Local = refl

pub same_out : (r : Role) → is_out r ≡ cells.is_out r
same_out role.In = refl
same_out role.Out = refl
same_out role.State = refl
same_out role.Local = refl

-- how the run of the body and HALT ends
abbrev RunsTo : List Slot → State → After → Type 0
RunsTo instrs s (Done words m) = Run instrs s (Halted words)
RunsTo instrs s Broken = Run instrs s Broke

module _ (t : Tree) (h : IsChecked t) where
  -- the code of the task
  abbrev code : Code
  code = translate t

  abbrev params : ℕ → List ℕ
  params = params_at t.funcs

  -- a cell of the task lies in the places of the code
  fits : (p w : ℕ) → IsCell t.cells p w → p + w ≤ code.places
  fits p w is = checked_cell t h p w is

  -- the parameters of a function are cells of one word
  are_cells : (g : ℕ) → g < length t.funcs → All (λ (a : ℕ). IsCell t.cells a 1) (params g)
  are_cells g lt =
      let f = fn_at t.funcs g lt in
      subst (λ ps. All (λ (a : ℕ). IsCell t.cells a 1) ps) (sym (params_is t.funcs g f.0 f.1)) (checked_fn t h g f.0 f.1).params

  -- the functions, all of them
  functions_good : (c : CodedTask t code) → AreGood code.instrs code.places (slice_index c.firsts) (run_all params (reverse t.funcs)) (length t.funcs) h.first
  functions_good c =
      let none : 0 + length t.funcs ≡ length t.funcs = omega arith in
      subst (λ k. AreGood code.instrs code.places (slice_index c.firsts) (run_all params (reverse t.funcs)) k h.first) none
      (all_good code.instrs t.cells code.places fits params (slice_index c.firsts) [] t.funcs c.firsts c.functions (length code.instrs) 0 h.first
      (λ g lt. are_cells g (omega arith))
      (λ g lt ws st ks rs r are len. absurd (let x : ⊥ = omega arith in x))
      c.rest h.fn_counters
      (λ i lt. let z : 0 + i ≡ i = omega arith in ap (slice_index c.firsts) z)
      (λ i f e. checked_fn t h i f e))

  -- the body and HALT
  body_runs : (c : CodedTask t code) (ws : List ℤ) → AreWords code.places ws → RunsTo code.instrs (at 0 [] ws (replicate code.counters 0) []) (all_do params (run_all params (reverse t.funcs)) t.body ws 0)
  body_runs c ws are =
      let ks : List ℕ = replicate t.counters 0 in
      let len : length ks ≡ t.counters = length-replicate t.counters 0 in
      let low = counted_up_b params (length t.funcs) 0 0 h.first t.body t.counters h.body_counters in
      finish (all_do params (run_all params (reverse t.funcs)) t.body ws 0)
      (runs_b code.instrs t.cells code.places fits params (slice_index c.firsts) (run_all params (reverse t.funcs)) (length t.funcs) h.first t.counters are_cells (functions_good c) [] t.body 0 c.halt 0 0 h.first t.counters [] ws ks 0 c.body (checked_body t h) h.body_counters are (omega (arith, len)) (omega arith) (omega arith) (inl refl) (omega arith) refl)
    where
      finish : (o : After) → Follows code.instrs t.cells code.places fits params (slice_index c.firsts) (run_all params (reverse t.funcs)) (length t.funcs) h.first t.counters are_cells (functions_good c) [] (at 0 [] ws (replicate t.counters 0) []) 0 h.first (replicate t.counters 0) c.halt [] o → RunsTo code.instrs (at 0 [] ws (replicate t.counters 0) []) o
      finish (Done vs m) r = r.3.by (Halted vs) (ends (one_step code.instrs [] c.halt c.functions _ [] vs r.0 c.stop))
      finish Broken r = r

  -- the words after the body
  abbrev Left : After → Type 0
  Left (Done words m) = AreWords code.places words
  Left Broken = Unit {0}

  body_words : (c : CodedTask t code) (ws : List ℤ) → AreWords code.places ws → Left (all_do params (run_all params (reverse t.funcs)) t.body ws 0)
  body_words c ws are =
      let ks : List ℕ = replicate t.counters 0 in
      let len : length ks ≡ t.counters = length-replicate t.counters 0 in
      let low = counted_up_b params (length t.funcs) 0 0 h.first t.body t.counters h.body_counters in
      words (all_do params (run_all params (reverse t.funcs)) t.body ws 0)
      (runs_b code.instrs t.cells code.places fits params (slice_index c.firsts) (run_all params (reverse t.funcs)) (length t.funcs) h.first t.counters are_cells (functions_good c) [] t.body 0 c.halt 0 0 h.first t.counters [] ws ks 0 c.body (checked_body t h) h.body_counters are (omega (arith, len)) (omega arith) (omega arith) (inl refl) (omega arith) refl)
    where
      words : (o : After) → Follows code.instrs t.cells code.places fits params (slice_index c.firsts) (run_all params (reverse t.funcs)) (length t.funcs) h.first t.counters are_cells (functions_good c) [] (at 0 [] ws (replicate t.counters 0) []) 0 h.first (replicate t.counters 0) c.halt [] o → Left o
      words (Done vs m) r = r.2
      words Broken r = tt

  module _ (state ins : List ℤ) (given : AreGiven t state ins) where
    -- the words at the start
    start_is : words_at_start t.cells state ins ≡ cells.words_at_start code state ins
    start_is =
        subst (λ cs. words_at_start cs state ins ≡ cells.cells_at_start (shapes_of cs) state ins ++ replicate (words_in cs - cells.total_width (shapes_of cs)) (pos 0)) (sym h.declared)
        (same_start h.globals h.locals h.global_roles h.local_roles state ins)

    -- there are as many as places
    are_words : AreWords code.places (words_at_start t.cells state ins)
    are_words =
        let x = start_words t.cells state ins (omega (arith, given.state_len)) (omega (arith, given.ins_len)) given.state_words given.ins_words in
        record { len = x.0; words = x.1 }

    -- the state at the end
    state_is : (ws : List ℤ) → cells.cell_words cells.is_state code.cells ws ≡ words_of is_state t.cells ws
    state_is ws =
        subst (λ cs. cells.cell_words cells.is_state (shapes_of cs) ws ≡ words_of is_state cs ws) (sym h.declared)
        (same_end is_state cells.is_state same_state refl h.globals h.locals h.global_roles h.local_roles ws)

    -- the outs at the end
    outs_are : (ws : List ℤ) → cells.cell_words cells.is_out code.cells ws ≡ words_of is_out t.cells ws
    outs_are ws =
        subst (λ cs. cells.cell_words cells.is_out (shapes_of cs) ws ≡ words_of is_out cs ws) (sym h.declared)
        (same_end is_out cells.is_out same_out refl h.globals h.locals h.global_roles h.local_roles ws)

    -- and as many words as the cells have
    left_so : (left outs : List ℤ) → instance_of t state ins ≡ Gives left outs → AreLeft t left outs
    unfolding instance_of
    left_so left outs e = go (all_do params (run_all params (reverse t.funcs)) t.body (words_at_start t.cells state ins) 0) (body_words (placed_task t) (words_at_start t.cells state ins) are_words) e
      where
        go : (o : After) → Left o → ended t.cells o ≡ Gives left outs → AreLeft t left outs
        go (Done ws m) are f =
            let a : words_of is_state t.cells ws ≡ left = cc in
            let b : words_of is_out t.cells ws ≡ outs = cc in
            let s = kept_words is_state t.cells ws (omega (arith, are.len)) are.words in
            let u = kept_words is_out t.cells ws (omega (arith, are.len)) are.words in
            record {
              left_len = ap length (sym a) ∙ s.0;
              outs_len = ap length (sym b) ∙ u.0;
              left_words = subst (λ l. All (λ v. FitsSigned w32 v) l) a s.1;
              outs_words = subst (λ l. All (λ v. FitsSigned w32 v) l) b u.1;
            }
        go Broken are f = absurd (let x : ⊥ = cc in x)

    -- the run from the start
    ends_as : EndsAs code state ins (instance_of t state ins)
    unfolding instance_of
    ends_as = go (all_do params (run_all params (reverse t.funcs)) t.body (words_at_start t.cells state ins) 0) (body_runs (placed_task t) (words_at_start t.cells state ins) are_words)
      where
        moved : (o : End (List ℤ)) → Run code.instrs (at 0 [] (words_at_start t.cells state ins) (replicate code.counters 0) []) o → Run code.instrs (cells.start_of code state ins) o
        moved o r = subst (λ ws. Run code.instrs (at 0 [] ws (replicate code.counters 0) []) o) start_is r

        go : (o : After) → RunsTo code.instrs (at 0 [] (words_at_start t.cells state ins) (replicate code.counters 0) []) o → EndsAs code state ins (ended t.cells o)
        go (Done ws m) r =
            let run = moved (Halted ws) r in
            (cycles_of run, record { words = ws; run = run; state_is = state_is ws; outs_are = outs_are ws; cycles_are = refl })
        go Broken r = moved Broke r

-- a state and in words have one end
halts_once : (code : Code) (state ins left outs : List ℤ) (cycles : ℕ) (o : Outcome) → EndsAs code state ins o → Halts code state ins left outs cycles → o ≡ Gives left outs
halts_once code state ins left outs cycles (Gives l u) x y =
    let e = (run_once code.instrs (cells.start_of code state ins) (Halted x.1.words) (Halted y.words) x.1.run y.run).0 in
    let w : x.1.words ≡ y.words = cc in
    let a : l ≡ left = sym x.1.state_is ∙ ap (λ ws. cells.cell_words cells.is_state code.cells ws) w ∙ y.state_is in
    let b : u ≡ outs = sym x.1.outs_are ∙ ap (λ ws. cells.cell_words cells.is_out code.cells ws) w ∙ y.outs_are in
    cc
halts_once code state ins left outs cycles Breaking x y =
    let e = (run_once code.instrs (cells.start_of code state ins) Broke (Halted y.words) x y.run).0 in cc

-- a run that breaks is that of a broken instance
breaks_once : (code : Code) (state ins : List ℤ) (o : Outcome) → EndsAs code state ins o → Breaks code state ins → o ≡ Breaking
breaks_once code state ins (Gives l u) x y =
    let e = (run_once code.instrs (cells.start_of code state ins) (Halted x.1.words) Broke x.1.run y).0 in cc
breaks_once code state ins Breaking x y = refl

-- the code of a checked task ends as the instance does, and no other way
pub translation_right : (t : Tree) → IsChecked t → IsRight t (translate t)
translation_right t h = record {
  ends = ends_as t h;
  halts = λ state ins left outs cycles given y. halts_once (translate t) state ins left outs cycles (instance_of t state ins) (ends_as t h state ins given) y;
  breaks = λ state ins given y. breaks_once (translate t) state ins (instance_of t state ins) (ends_as t h state ins given) y;
}

-- an instance of a checked task keeps to words
pub keeps_words : (t : Tree) → IsChecked t → KeepsWords t
keeps_words t h state ins left outs given e = left_so t h state ins given left outs e
