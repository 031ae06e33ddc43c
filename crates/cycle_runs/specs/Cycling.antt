-- A run over lines, for whatever runs cycles: its text, how it ends, and the state that it leaves.
use Rattle.std.specs.Prelude.{ℕ, List, [], ◌++◌, ℤ}
use Rattle.lines.specs.Lines.{Lines, End, Bad, Line}
use Rattle.cluster_model.specs.State.{State}
use Rattle.run_texts.specs.RunText.{RunEnding, Finished, BadLine, Lost, Broken}
use Rattle.cycle_runs.specs.declared.ended.CycleEnd.{CycleEnd}
use Rattle.cycle_runs.specs.declared.ended.CycleEnd.TheVariants as ended

-- a cluster's state, and the most cycles of each task's executions so far
pub record Ongoing : Type 0 where
  pub state : State
  pub seen : List ℕ

-- What a cycle that begins with a state and has a line writes, how it ends and which state it leaves; and what is written
-- at the end of the lines.
pub record Cycling (S : Type 0) : Type 0 where
  pub text : S → (line : List ℤ) → List ℕ
  pub ended : S → (line : List ℤ) → CycleEnd
  pub next : S → (line : List ℤ) → S
  pub closing : S → List ℕ

-- one of three, by how a cycle ended
abbrev pub by_end : {A : Type 0} → CycleEnd → (clean broken lost : A) → A
by_end ended.Clean clean broken lost = clean
by_end ended.Broken clean broken lost = broken
by_end ended.Lost clean broken lost = lost

module _ {S : Type 0} (c : Cycling S) where
  -- the text from a state on; a bad line ends it, and so does a cycle that isn't clean
  abbrev pub text_from : S → Lines → List ℕ
  text_from s End = c.closing s
  text_from s (Bad n) = []
  text_from s (Line line rest) = c.text s line ++ by_end (c.ended s line) (text_from (c.next s line) rest) [] []

  -- the text of the cycles alone, without what is written at the end of the lines
  abbrev pub answers_from : S → Lines → List ℕ
  answers_from s End = []
  answers_from s (Bad n) = []
  answers_from s (Line line rest) = c.text s line ++ by_end (c.ended s line) (answers_from (c.next s line) rest) [] []

  -- how the run ends
  abbrev pub ending_from : S → Lines → RunEnding
  ending_from s End = Finished
  ending_from s (Bad n) = BadLine n
  ending_from s (Line line rest) = by_end (c.ended s line) (ending_from (c.next s line) rest) Broken Lost

  -- the state after every cycle with a well-formed line, up to the one that ended the run, with it
  abbrev pub state_from : S → Lines → S
  state_from s End = s
  state_from s (Bad n) = s
  state_from s (Line line rest) = by_end (c.ended s line) (state_from (c.next s line) rest) (c.next s line) (c.next s line)
