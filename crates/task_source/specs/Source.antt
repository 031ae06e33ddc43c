-- What the text of a source gives.
use Rattle.std.specs.Prelude.{◌≡◌, ℕ, List, Option, None, Some, Result, Ok, Err}
use Rattle.mars_base.specs.declared.text.Span.{Span}
use Rattle.mc_tree.specs.Grammar.{Spells, IsHopelessAt}
use Rattle.mc_tree.specs.Numbered.{numbered}
use Rattle.mc_tree.specs.Raw as raw
use Rattle.mc_tree.specs.TaskSites.{first_fault}
use Rattle.mc_tree.specs.Tokens.{IsTokens, IsBadAt}
use Rattle.mc_tree.specs.declared.kind.Kind.{Kind}
use Rattle.mc_tree.specs.declared.token.Token.{Token}
use Rattle.mc_tree.specs.declared.tree.Task.{Task}
use Rattle.refusals.specs.declared.fault.Fault.TheVariants as fault
use Rattle.refusals.specs.declared.refusal.Refusal.{Refusal}
use Rattle.refusals.specs.declared.refusal.Refusal.TheVariants as refusal
use Rattle.stages.specs.Files.{reading}
use Rattle.stages.specs.Stage.{Stage, in_turn, judging}

-- the text is the source of a task: its tokens spell a tree without a fault, and the task is that tree's
pub record SourceIs (bytes : List ℕ) (t : Task) : Type 0 where
  pub tokens : List Token
  pub tree : raw.Task
  pub spelled : Spells bytes tokens tree
  pub sound : first_fault tree ≡ None
  pub checked : t ≡ numbered tree

-- What a text gives: the task whose source it is, or the first fault of its file. A byte begins no token; or the token
-- of this number is the first with which the tokens begin no task; or a rule of the language is broken.
pub data SourceGives (file bytes : List ℕ) (answer : Result Task Refusal) : Type 0 where
  Sound : (t : Task) → answer ≡ Ok t → SourceIs bytes t → SourceGives file bytes answer
  BadByte : (at : ℕ) → answer ≡ Err (refusal.Fault (fault.BadByte file at)) → IsBadAt bytes at → SourceGives file bytes answer
  Syntax : (tokens : List Token) (n : ℕ) → answer ≡ Err (refusal.Fault (fault.Syntax file n)) → IsTokens bytes tokens → IsHopelessAt tokens n → SourceGives file bytes answer
  Rule : (tokens : List Token) (tree : raw.Task) (span : Span) (kind : Kind) → answer ≡ Err (refusal.Fault (fault.Rule file span kind))
      → Spells bytes tokens tree → first_fault tree ≡ Some (record { kind = kind; span = span }) → SourceGives file bytes answer

-- the file's read, and then its text
abbrev pub source : List ℕ → Stage Task
source file = in_turn (reading file 65536) (λ bytes. judging (SourceGives file bytes))
