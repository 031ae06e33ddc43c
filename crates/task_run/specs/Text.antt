-- The text that a task's run over input lines writes, from what the task means line by line. `run` is one
-- execution of the task's code under the printed bound; of it the text has the cycles alone.
use Rattle.std.specs.Prelude.{ℕ, ◌+◌, max, List, [], ◌∷◌, ◌++◌, replicate, codes, decimal, ℤ, pos}
use Rattle.std.specs.Fmt.{signed_decimal}
use Rattle.lines.specs.Lines.{Lines, End, Bad, Line}
use Rattle.mc_tree.specs.Instance.{Outcome, Gives, Breaks, is_state, width_of, instance_of}
use Rattle.mc_tree.specs.Tree.{Tree}
use Rattle.processor.specs.Ends.{cycles_in}
use Rattle.processor.specs.Results.{Ran}

-- words with single spaces between them
abbrev pub tail_text : List ℤ → List ℕ
tail_text [] = []
tail_text (w ∷ ws) = 32 ∷ (signed_decimal w ++ tail_text ws)

abbrev pub words_text : List ℤ → List ℕ
words_text [] = []
words_text (w ∷ ws) = signed_decimal w ++ tail_text ws

-- the line of an instance's outputs; without outputs it is empty
abbrev pub out_line : List ℤ → List ℕ
out_line ws = words_text ws ++ 10 ∷ []

-- the line of a broken instance, by its line's number from 0
abbrev pub broken_line : ℕ → List ℕ → List ℕ
broken_line line name = codes "broken " ++ (decimal line ++ (codes " " ++ (name ++ codes " 0\n")))

-- the last line: the bound, and the most cycles of an execution
abbrev pub task_line : List ℕ → ℕ → ℕ → List ℕ
task_line name maxt seen = codes "task " ++ (name ++ (codes " maxt " ++ (decimal maxt ++ (codes " seen " ++ (decimal seen ++ codes "\n")))))

-- the words of a state at the first line
abbrev pub first_state : Tree → List ℤ
first_state t = replicate (width_of is_state t.cells) (pos 0)

-- what follows an instance
abbrev pub after : Outcome → (List ℤ → List ℤ → List ℕ) → List ℕ → List ℕ
after (Gives state outs) go broken = go state outs
after Breaks go broken = broken

-- the text from a line on; a bad line ends it
abbrev pub text_from : Tree → ℕ → (List ℤ → List ℤ → Ran) → (line seen : ℕ) → List ℤ → Lines → List ℕ
text_from t maxt run line seen state End = task_line t.name maxt seen
text_from t maxt run line seen state (Bad n) = []
text_from t maxt run line seen state (Line ins rest) = after (instance_of t state ins)
    (λ new outs. out_line outs ++ text_from t maxt run (line + 1) (max seen (cycles_in (run state ins))) new rest)
    (broken_line line t.name)

-- the whole text
abbrev pub task_text : Tree → ℕ → (List ℤ → List ℤ → Ran) → Lines → List ℕ
task_text t maxt run lines = text_from t maxt run 0 0 (first_state t) lines

-- the text of the instances alone, without the last line
abbrev pub answers_from : Tree → (line : ℕ) → List ℤ → Lines → List ℕ
answers_from t line state End = []
answers_from t line state (Bad n) = []
answers_from t line state (Line ins rest) = after (instance_of t state ins) (λ new outs. out_line outs ++ answers_from t (line + 1) new rest) (broken_line line t.name)

abbrev pub answers_text : Tree → Lines → List ℕ
answers_text t lines = answers_from t 0 (first_state t) lines

-- how a run ends: at the end of the lines, at a bad line, or at a broken instance
pub data Ending : Type 0 where
  Finished : Ending
  BadLine : (n : ℕ) → Ending
  Broken : Ending

abbrev pub ends_after : Outcome → (List ℤ → Ending) → Ending
ends_after (Gives state outs) go = go state
ends_after Breaks go = Broken

abbrev pub ending_from : Tree → List ℤ → Lines → Ending
ending_from t state End = Finished
ending_from t state (Bad n) = BadLine n
ending_from t state (Line ins rest) = ends_after (instance_of t state ins) (λ new. ending_from t new rest)

abbrev pub ending_of : Tree → Lines → Ending
ending_of t lines = ending_from t (first_state t) lines
