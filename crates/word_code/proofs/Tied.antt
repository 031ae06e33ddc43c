-- Executions of code under a limit are its runs.
use Rattle.std.proofs.Common.{◌≡◌, ℕ, ◌+◌, ◌<◌, ◌≤◌, List, length, ℤ, refl, sym, ap, ◌∙◌, subst, arith}
use Rattle.word_code.specs.Cells.{start_of, cell_words, width_of, is_in, is_out, is_state}
use Rattle.processor.specs.Results.{Results}
use Rattle.processor.specs.Ends.{End, Halted, Broken, Limited, Over, Cut, limited_map}
use Rattle.word_code.specs.Execution.{Halts, Breaks, exec_from, results_of, exec}
use Rattle.word_code.specs.Step.{machine_of}
use Rattle.processor.specs.System.{cycles_of, IsTiedBy}
use Rattle.word_code.specs.Tied.{IsTied}
use Rattle.word_code.specs.Typing.{IsVerified}
use Rattle.word_code.specs.declared.code.Code.{Code}
use Rattle.word_code.proofs.Course.{course_start, course_reaches, course_free}
use Rattle.word_code.proofs.Exec.{costed}
use Rattle.processor.proofs.Ties.{halted_same, tied_by}

module _ (code : Code) (state ins : List ℤ) (ties : IsTiedBy (machine_of code.instrs) (start_of code state ins)) where
  -- an execution that is done came from an end that halted
  halts_from : (left outs : List ℤ) (cycles limit : ℕ) (e : Limited (List ℤ)) → exec_from code.instrs limit (start_of code state ins) 0 ≡ e
      → limited_map (results_of code) e ≡ Over (Halted (left, outs)) cycles → Halts code state ins left outs cycles
  halts_from left outs cycles limit (Over (Halted words) k) is e =
      let run = ties.runs (Halted words) k limit is in
      let same = halted_same (results_of code words) (left, outs) k cycles e in
      record {
        words = words;
        run = run.0;
        state_is = ap (λ (r : Results). r.0) same.0;
        outs_are = ap (λ (r : Results). r.1) same.0;
        cycles_are = run.1 ∙ same.1;
      }
  halts_from left outs cycles limit (Over Broken k) is e = cc
  halts_from left outs cycles limit (Cut k) is e = cc

  -- one that is broken came from an end that broke
  breaks_from : (cycles limit : ℕ) (e : Limited (List ℤ)) → exec_from code.instrs limit (start_of code state ins) 0 ≡ e
      → limited_map (results_of code) e ≡ Over Broken cycles → (run : Breaks code state ins) × (cycles_of run ≡ cycles)
  breaks_from cycles limit (Over (Halted words) k) is e = cc
  breaks_from cycles limit (Over Broken k) is e =
      let same : k ≡ cycles = cc in
      let run = ties.runs Broken k limit is in
      (run.0, run.1 ∙ same)
  breaks_from cycles limit (Cut k) is e = cc

  tied_from : IsTied code state ins
  tied_from = record {
    halts_done = λ left outs cycles limit h fits.
        ap (limited_map (results_of code)) (ties.over (Halted h.words) h.run limit (omega (arith, h.cycles_are)))
        ∙ ap (λ k. Over (Halted (results_of code h.words)) k) h.cycles_are
        ∙ ap (λ st. Over (Halted (st, cell_words is_out code.cells h.words)) cycles) h.state_is
        ∙ ap (λ os. Over (Halted (left, os)) cycles) h.outs_are;
    halts_cut = λ left outs cycles limit h past.
        let cut = ties.cut (Halted h.words) h.run limit (omega (arith, h.cycles_are)) in
        (cut.0, ap (limited_map (results_of code)) cut.1);
    breaks_broke = λ run limit fits. ap (limited_map (results_of code)) (ties.over Broken run limit fits);
    breaks_cut = λ run limit past.
        let cut = ties.cut Broken run limit past in
        (cut.0, ap (limited_map (results_of code)) cut.1);
    done_halts = λ left outs cycles limit e. halts_from left outs cycles limit (exec_from code.instrs limit (start_of code state ins) 0) refl e;
    broke_breaks = λ cycles limit e. breaks_from cycles limit (exec_from code.instrs limit (start_of code state ins) 0) refl e;
  }

-- the executions of verified code are its runs
pub tied : (code : Code) → IsVerified code → (state ins : List ℤ) → length state ≡ width_of is_state code.cells → length ins ≡ width_of is_in code.cells
    → IsTied code state ins
tied code v state ins hs hi =
    tied_from code state ins
    (tied_by (machine_of code.instrs) (costed code.instrs) (start_of code state ins)
    (λ t reaches. course_free code t v (course_reaches code v (course_start code state ins v hs hi) reaches)))
