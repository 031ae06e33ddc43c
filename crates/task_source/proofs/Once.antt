-- A text gives one answer, and so does its bound.
use Rattle.std.proofs.Common.{◌≡◌, ◌⊎◌, inl, inr, ◌<◌, ◌≤◌, ℕ, List, None, Some, Ok, sym, ap, ◌∙◌, subst, arith}
use Rattle.mars_base.specs.declared.text.Span.{Span}
use Rattle.mc_reader.proofs.Whole.{one_tree, one_hopeless}
use Rattle.mc_tree.proofs.TokenFacts.{tokens_once, tokens_or_bad, bad_once}
use Rattle.mc_tree.specs.Grammar.{Spells, IsTask, IsHopelessAt}
use Rattle.mc_tree.specs.Numbered.{numbered}
use Rattle.mc_tree.specs.Raw as raw
use Rattle.mc_tree.specs.TaskSites.{first_fault}
use Rattle.mc_tree.specs.Tokens.{IsTokens}
use Rattle.mc_tree.specs.declared.kind.Fault.{Fault}
use Rattle.mc_tree.specs.declared.token.Token.{Token}
use Rattle.mc_tree.specs.declared.tree.Task.{Task}
use Rattle.refusals.specs.declared.fault.Fault.TheVariants as fault
use Rattle.refusals.specs.declared.refusal.Refusal.TheVariants as refusal
use Rattle.stages.proofs.Relations.{OneAnswer}
use Rattle.stages.proofs.Turns.{fails}
use Rattle.task_source.specs.Bound.{code_of, BoundGives, Bound, CodeTooLong, NoPath, MaxtTooLong}
use Rattle.task_source.specs.Source.{SourceIs, SourceGives, Sound, BadByte, Syntax, Rule}
use Rattle.word_code.specs.Free.{FreeRun, Greatest}

-- a text spells one tree
tree_once : (bytes : List ℕ) (ts us : List Token) (t u : raw.Task) → Spells bytes ts t → Spells bytes us u → t ≡ u
tree_once bytes ts us t u h k = one_tree bytes us t u (subst (λ (x : List Token). IsTask bytes x t) (tokens_once bytes h.0 k.0) h.1) k.1

-- a text that spells a tree has refused hopeless token
not_hopeless : (bytes : List ℕ) (ts us : List Token) (t : raw.Task) (n : ℕ) → Spells bytes ts t → IsTokens bytes us → IsHopelessAt us n → ⊥
not_hopeless bytes ts us t n h k dies = dies.unspelled bytes t (subst (λ (x : List Token). IsTask bytes x t) (tokens_once bytes h.0 k) h.1)

-- a tree with a fault is none without
not_sound : (bytes : List ℕ) (t : Task) (ts : List Token) (tree : raw.Task) (f : Fault) → SourceIs bytes t → Spells bytes ts tree → first_fault tree ≡ Some f → ⊥
not_sound bytes t ts tree f is spelled broken =
    let same = tree_once bytes is.tokens ts is.tree tree is.spelled spelled in
    let h : None ≡ Some f = sym is.sound ∙ (ap first_fault same ∙ broken) in
    cc

source_once : (bytes : List ℕ) (t u : Task) → SourceIs bytes t → SourceIs bytes u → t ≡ u
source_once bytes t u h k = h.checked ∙ (ap numbered (tree_once bytes h.tokens k.tokens h.tree k.tree h.spelled k.spelled) ∙ sym k.checked)

some_once : (f g : Fault) → Some f ≡ Some g → f ≡ g
some_once f g is = cc

pub gives_once : (file bytes : List ℕ) → OneAnswer (SourceGives file bytes)
gives_once file bytes r s (Sound t ok is) (Sound u fine too) = ok ∙ (ap (λ z. Ok z) (source_once bytes t u is too) ∙ sym fine)
gives_once file bytes r s (Sound t ok is) (BadByte at refused bad) = absurd (tokens_or_bad bytes is.spelled.0 bad)
gives_once file bytes r s (Sound t ok is) (Syntax ts n refused tokens dies) = absurd (not_hopeless bytes is.tokens ts is.tree n is.spelled tokens dies)
gives_once file bytes r s (Sound t ok is) (Rule ts tree span kind refused spelled broken) = absurd (not_sound bytes t ts tree (record { kind = kind; span = span }) is spelled broken)
gives_once file bytes r s (BadByte at refused bad) (Sound t ok is) = absurd (tokens_or_bad bytes is.spelled.0 bad)
gives_once file bytes r s (BadByte at refused bad) (BadByte o none worse) = refused ∙ (ap (λ z. fails Task (refusal.Fault (fault.BadByte file z))) (bad_once bytes bad worse) ∙ sym none)
gives_once file bytes r s (BadByte at refused bad) (Syntax ts n none tokens dies) = absurd (tokens_or_bad bytes tokens bad)
gives_once file bytes r s (BadByte at refused bad) (Rule ts tree span kind none spelled broken) = absurd (tokens_or_bad bytes spelled.0 bad)
gives_once file bytes r s (Syntax ts n refused tokens dies) (Sound t ok is) = absurd (not_hopeless bytes is.tokens ts is.tree n is.spelled tokens dies)
gives_once file bytes r s (Syntax ts n refused tokens dies) (BadByte at none bad) = absurd (tokens_or_bad bytes tokens bad)
gives_once file bytes r s (Syntax ts n refused tokens dies) (Syntax us m none others ends) =
    refused ∙ (ap (λ z. fails Task (refusal.Fault (fault.Syntax file z))) (one_hopeless us n m (subst (λ (x : List Token). IsHopelessAt x n) (tokens_once bytes tokens others) dies) ends) ∙ sym none)
gives_once file bytes r s (Syntax ts n refused tokens dies) (Rule us tree span kind none spelled broken) = absurd (not_hopeless bytes us ts tree n spelled tokens dies)
gives_once file bytes r s (Rule ts tree span kind refused spelled broken) (Sound t ok is) = absurd (not_sound bytes t ts tree (record { kind = kind; span = span }) is spelled broken)
gives_once file bytes r s (Rule ts tree span kind refused spelled broken) (BadByte at none bad) = absurd (tokens_or_bad bytes spelled.0 bad)
gives_once file bytes r s (Rule ts tree span kind refused spelled broken) (Syntax us n none tokens dies) = absurd (not_hopeless bytes ts us tree n spelled tokens dies)
gives_once file bytes r s (Rule ts tree span kind refused spelled broken) (Rule us other place sort none words wrong) =
    let f : Fault = record { kind = kind; span = span } in
    let g : Fault = record { kind = sort; span = place } in
    let same : f ≡ g = some_once f g (sym broken ∙ (ap first_fault (tree_once bytes ts us tree other spelled words) ∙ wrong)) in
    refused ∙ (ap (λ (z : Fault). fails Task (refusal.Fault (fault.Rule file z.span z.kind))) same ∙ sym none)

-- the greatest cycles are one number
greatest_once : (t : Task) (m n : ℕ) → Greatest (code_of t) m → Greatest (code_of t) n → m ≡ n
greatest_once t m n h k = let le = k.above m h.reached in let ge = h.above n k.reached in omega (arith, le, ge)

pub bound_once : (file : List ℕ) (t : Task) → OneAnswer (BoundGives file t)
bound_once file t r s (Bound m ok short is low) (Bound n fine less too under) = ok ∙ (ap (λ z. Ok z) (greatest_once t m n is too) ∙ sym fine)
bound_once file t r s (Bound m ok short is low) (CodeTooLong refused long) = absurd (omega (arith, short, long))
bound_once file t r s (Bound m ok short is low) (NoPath refused less none) = absurd (none m is.reached)
bound_once file t r s (Bound m ok short is low) (MaxtTooLong n refused less run far) = absurd (let h = is.above n run in omega (arith, h, low, far))
bound_once file t r s (CodeTooLong refused long) (Bound m ok short is low) = absurd (omega (arith, short, long))
bound_once file t r s (CodeTooLong refused long) (CodeTooLong none far) = refused ∙ sym none
bound_once file t r s (CodeTooLong refused long) (NoPath none short nothing) = absurd (omega (arith, short, long))
bound_once file t r s (CodeTooLong refused long) (MaxtTooLong n none short run far) = absurd (omega (arith, short, long))
bound_once file t r s (NoPath refused short nothing) (Bound m ok less is low) = absurd (nothing m is.reached)
bound_once file t r s (NoPath refused short nothing) (CodeTooLong none long) = absurd (omega (arith, short, long))
bound_once file t r s (NoPath refused short nothing) (NoPath none less never) = refused ∙ sym none
bound_once file t r s (NoPath refused short nothing) (MaxtTooLong n none less run far) = absurd (nothing n run)
bound_once file t r s (MaxtTooLong n refused short run far) (Bound m ok less is low) = absurd (let h = is.above n run in omega (arith, h, low, far))
bound_once file t r s (MaxtTooLong n refused short run far) (CodeTooLong none long) = absurd (omega (arith, short, long))
bound_once file t r s (MaxtTooLong n refused short run far) (NoPath none less nothing) = absurd (nothing n run)
bound_once file t r s (MaxtTooLong n refused short run far) (MaxtTooLong m none less other longer) = refused ∙ sym none
