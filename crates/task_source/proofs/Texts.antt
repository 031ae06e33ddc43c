-- What reading a text gives.
use Rattle.std.proofs.Common.{◌≡◌, ◌⊎◌, inl, ◌∙◌, refl, ap, sym, subst, ℕ, List, None, Some, Result, Ok, Err}
use Rattle.mars_base.specs.declared.text.Span.{Span}
use Rattle.mc_check.specs.Outcome.{IsFault}
use Rattle.mc_check.specs.declared.task.CheckFault.{CheckFault}
use Rattle.mc_check.specs.declared.task.CheckFault.TheVariants as check
use Rattle.mc_tree.specs.Grammar.{Spells, IsHopelessAt}
use Rattle.mc_tree.specs.Numbered.{numbered}
use Rattle.mc_tree.specs.Raw as raw
use Rattle.mc_tree.specs.TaskSites.{first_fault}
use Rattle.mc_tree.specs.Tokens.{IsTokens, IsBadAt}
use Rattle.mc_tree.specs.declared.kind.Kind.{Kind}
use Rattle.mc_tree.specs.declared.token.Token.{Token}
use Rattle.mc_tree.specs.declared.tree.Task.{Task}
use Rattle.refusals.specs.declared.fault.Fault.TheVariants as fault
use Rattle.refusals.specs.declared.refusal.Refusal.{Refusal}
use Rattle.refusals.specs.declared.refusal.Refusal.TheVariants as refusal
use Rattle.stages.proofs.Turns.{fails}
use Rattle.task_source.specs.Source.{SourceGives, Sound, BadByte, Syntax, Rule}

-- a text's answer, or want of memory
abbrev pub Gives : List ℕ → List ℕ → Result Task Refusal → Type 0
Gives file bytes r = SourceGives file bytes r ⊎ (r ≡ Err refusal.Memory)

pub give_bad : (file name bytes : List ℕ) (x at : ℕ) → name ≡ file → x ≡ at → IsBadAt bytes at → Gives file bytes (Err (refusal.Fault (fault.BadByte name x)))
give_bad file name bytes x at same is bad =
    inl (BadByte at (ap (λ n. fails Task (refusal.Fault (fault.BadByte n x))) same ∙ ap (λ y. fails Task (refusal.Fault (fault.BadByte file y))) is) bad)

pub give_syntax : (file name bytes : List ℕ) (ts : List Token) (x n : ℕ) → name ≡ file → x ≡ n → IsTokens bytes ts → IsHopelessAt ts n → Gives file bytes (Err (refusal.Fault (fault.Syntax name x)))
give_syntax file name bytes ts x n same is tokens dies =
    inl (Syntax ts n (ap (λ m. fails Task (refusal.Fault (fault.Syntax m x))) same ∙ ap (λ y. fails Task (refusal.Fault (fault.Syntax file y))) is) tokens dies)

pub give_rule : (file name bytes : List ℕ) (ts : List Token) (tree : raw.Task) (f : CheckFault) (y span : Span) (x kind : Kind) → name ≡ file → f ≡ check.Bad kind span → x ≡ kind → y ≡ span → Spells bytes ts tree → IsFault tree f
    → Gives file bytes (Err (refusal.Fault (fault.Rule name y x)))
give_rule file name bytes ts tree f y span x kind same is kinds spans spelled broken =
    inl (Rule ts tree span kind (ap (λ n. fails Task (refusal.Fault (fault.Rule n y x))) same ∙ (ap (λ z. fails Task (refusal.Fault (fault.Rule file z x))) spans ∙ ap (λ z. fails Task (refusal.Fault (fault.Rule file span z))) kinds))
    spelled (subst (IsFault tree) is broken))

pub give_sound : (file bytes : List ℕ) (ts : List Token) (tree : raw.Task) (t : Task) → Spells bytes ts tree → first_fault tree ≡ None → t ≡ numbered tree → Gives file bytes (Ok t)
give_sound file bytes ts tree t spelled sound is = inl (Sound t refl (record { tokens = ts; tree = tree; spelled = spelled; sound = sound; checked = is }))
