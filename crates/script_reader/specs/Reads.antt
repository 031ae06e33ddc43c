-- What the readers of single words answer. No public clause of the crate's root cites this.
use Rattle.std.specs.Prelude.{◌≡◌, ℕ, List, [], ◌∷◌, Option, Some, None, MatchOption}
use Rattle.std.specs.Borrow.{Bor}
use Rattle.script_reader.specs.Entry.{Entry, Nothing, Silent, Paced, takes}
use Rattle.script_reader.specs.Words.{words_between}
use Rattle.script_reader.specs.declared.entry.Line.{Line}
use Rattle.script_reader.specs.declared.entry.Line.TheVariants as line

abbrev pub said : Line → Entry
said line.Nothing = Nothing
said (line.Silence s) = Silent s
said (line.Pace p) = Paced p

-- the first word is read as the answer's, and the text behind it is the answer's; or it can't be read, or there is none
abbrev pub Reads : {W : Type 0} → (List ℕ → Option W) → List ℕ → Option (W × Bor (List ℕ)) → Type 0
Reads {W} reading text result = MatchOption result
    ((next : W → List (List ℕ) → Option Entry) → takes reading next (words_between text) ≡ None)
    (λ r. (next : W → List (List ℕ) → Option Entry) → takes reading next (words_between text) ≡ next r.0 (words_between r.1.now))
