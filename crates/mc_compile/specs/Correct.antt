-- What it is that code does what a task does: an execution from each state and each in words ends as the
-- instance does, and never otherwise. This project's own.
use Rattle.std.specs.Prelude.{◌≡◌, ℕ, ℤ, List, length, All, FitsSigned}
use Rattle.std.specs.Int.{w32}
use Rattle.mc_tree.specs.Tree.{Tree}
use Rattle.mc_tree.specs.Instance.{Outcome, Gives, Breaks as Breaking, is_in, is_out, is_state, width_of, instance_of}
use Rattle.word_code.specs.Execution.{Halts, Breaks}
use Rattle.word_code.specs.declared.code.Code.{Code}

-- a state and in words of the task: as many words as its cells have
pub record AreGiven (t : Tree) (state ins : List ℤ) : Type 0 where
  pub state_len : length state ≡ width_of is_state t.cells
  pub ins_len : length ins ≡ width_of is_in t.cells
  pub state_words : All (λ v. FitsSigned w32 v) state
  pub ins_words : All (λ v. FitsSigned w32 v) ins

-- a state and outs as an instance gives them: again as many words as the task's cells have
pub record AreLeft (t : Tree) (left outs : List ℤ) : Type 0 where
  pub left_len : length left ≡ width_of is_state t.cells
  pub outs_len : length outs ≡ width_of is_out t.cells
  pub left_words : All (λ v. FitsSigned w32 v) left
  pub outs_words : All (λ v. FitsSigned w32 v) outs

-- each instance keeps to words, and to as many as its cells have
abbrev pub KeepsWords : Tree → Type 0
KeepsWords t = (state ins left outs : List ℤ) → AreGiven t state ins → instance_of t state ins ≡ Gives left outs → AreLeft t left outs

-- the code halts with this state and these outs, or breaks
abbrev pub EndsAs : Code → (state ins : List ℤ) → Outcome → Type 0
EndsAs code state ins (Gives left outs) = (cycles : ℕ) × Halts code state ins left outs cycles
EndsAs code state ins Breaking = Breaks code state ins

-- the code ends as the instance does, and no other way
pub record IsRight (t : Tree) (code : Code) : Type 0 where
  pub ends : (state ins : List ℤ) → AreGiven t state ins → EndsAs code state ins (instance_of t state ins)
  pub halts : (state ins left outs : List ℤ) (cycles : ℕ) → AreGiven t state ins → Halts code state ins left outs cycles → instance_of t state ins ≡ Gives left outs
  pub breaks : (state ins : List ℤ) → AreGiven t state ins → Breaks code state ins → instance_of t state ins ≡ Breaking
