-- What executions under a limit are, by the whole runs. This project's own.
use Rattle.std.specs.Prelude.{◌≡◌, ℕ, ◌<◌, ◌≤◌, ℤ, List}
use Rattle.processor.specs.Ends.{Halted, Broken, Over, Cut}
use Rattle.word_code.specs.Execution.{Halts, Breaks, exec}
use Rattle.processor.specs.System.{cycles_of}
use Rattle.word_code.specs.declared.code.Code.{Code}

-- An execution is done exactly as the run without a limit halts, and broken exactly as it breaks, where the limit is no
-- less than the run's cycles; it is cut where the limit is less.
pub record IsTied (code : Code) (state ins : List ℤ) : Type 0 where
  pub halts_done : (left outs : List ℤ) (cycles limit : ℕ) → Halts code state ins left outs cycles → cycles ≤ limit
      → exec code limit state ins ≡ Over (Halted (left, outs)) cycles
  pub halts_cut : (left outs : List ℤ) (cycles limit : ℕ) → Halts code state ins left outs cycles → limit < cycles
      → (k : ℕ) × (exec code limit state ins ≡ Cut k)
  pub breaks_broke : (run : Breaks code state ins) (limit : ℕ) → cycles_of run ≤ limit → exec code limit state ins ≡ Over Broken (cycles_of run)
  pub breaks_cut : (run : Breaks code state ins) (limit : ℕ) → limit < cycles_of run → (k : ℕ) × (exec code limit state ins ≡ Cut k)
  pub done_halts : (left outs : List ℤ) (cycles limit : ℕ) → exec code limit state ins ≡ Over (Halted (left, outs)) cycles
      → Halts code state ins left outs cycles
  pub broke_breaks : (cycles limit : ℕ) → exec code limit state ins ≡ Over Broken cycles → (run : Breaks code state ins) × (cycles_of run ≡ cycles)
