use Rattle.std.proofs.Common.{◌≡◌, ◌≤◌, ℕ, List, [], length, drop, Result, Ok, Err, IfOk, MatchResult, ◌⊎◌, inl, inr, arith, refl, ap, ◌∙◌, sym}
use Rattle.std.specs.Prelude.{IsErrAnd}
use Rattle.mc_tree.specs.declared.token.Token.{Token}
use Rattle.mc_tree.specs.declared.raw.RawTask.{RawTask}
use Rattle.mc_tree.specs.Tokens.{IsTokens}
use Rattle.mc_tree.specs.Raw.{Task}
use Rattle.mc_tree.specs.RawPlain.{plain_task}
use Rattle.mc_tree.specs.Grammar.{Spells, IsHopelessAt}
use Rattle.mc_tree.specs.RawSize.{raw_nodes}
use Rattle.mc_tree.specs.Spellable.{IsSpellable}
use Rattle.mc_tree.proofs.TokenFacts.{spans_in_order}
use Rattle.mc_tree.proofs.SpelledSize.{task_size, task_spellable}
use Rattle.mc_reader.specs.declared.ReadFault.{ReadFault}
use Rattle.mc_reader.specs.declared.ReadFault.TheVariants.{Syntax, Memory}
use Rattle.mc_reader.specs.Reading.{Good, Bad}
use Rattle.mc_reader.specs.Readers.{task}
use Rattle.mc_reader.specs.Answers.{Answers}
use Rattle.mc_reader.proofs.Spans.{few_tokens}
use Rattle.mc_reader.proofs.Whole.{task_sound, task_complete, is_hopeless, one_hopeless}
use Rattle.mc_reader.proofs.read.Goals as goal

pub task-requires-clause-few : goal.task-requires-clause-few
task-requires-clause-few c = omega (arith, few_tokens 0 (length c.args.bytes.now) c.args.tokens.now (spans_in_order c.args.bytes.now c.requires.tokens), c.requires.short)

pub task-requires-clause-order : goal.task-requires-clause-order
task-requires-clause-order c = spans_in_order c.args.bytes.now c.requires.tokens

module _ (bytes : List ℕ) (ts : List Token) (at : ℕ) where
  spelled : (r : Result RawTask ReadFault) → IsTokens bytes ts → Answers (task bytes) plain_task ts 0 at r → IfOk r (λ t. Spells bytes ts (plain_task t))
  spelled (Ok t) k h = (k, (task_sound bytes ts (plain_task t) (drop at ts) h.0).0)
  spelled (Err e) k h = tt

  small : (r : Result RawTask ReadFault) → Answers (task bytes) plain_task ts 0 at r → IfOk r (λ t. raw_nodes (plain_task t) ≤ length ts)
  small (Ok t) h = task_size bytes ts (plain_task t) (task_sound bytes ts (plain_task t) (drop at ts) h.0).0
  small (Err e) h = tt

  spellable : (r : Result RawTask ReadFault) → length ts ≤ 65536 → Answers (task bytes) plain_task ts 0 at r → IfOk r (λ t. IsSpellable (plain_task t))
  spellable (Ok t) few h = task_spellable bytes ts (plain_task t) (omega (arith, few)) (task_sound bytes ts (plain_task t) (drop at ts) h.0).0
  spellable (Err e) few h = tt

  hopeless : (r : Result RawTask ReadFault) → Answers (task bytes) plain_task ts 0 at r → (n : ℕ) → r ≡ Err (Syntax n) → IsHopelessAt ts n
  hopeless (Ok t) h n e = absurd cc
  hopeless (Err (Syntax m)) h n e = let c : m ≡ n = cc in is_hopeless bytes ts n (omega (arith, c, h.1)) (h.0 ∙ ap (λ k. Bad (drop k ts)) c)
  hopeless (Err Memory) h n e = absurd cc

  gives : (r : Result RawTask ReadFault) → Answers (task bytes) plain_task ts 0 at r → (t : Task) → Spells bytes ts t → MatchResult r (λ r. plain_task r ≡ t) (λ fault. fault ≡ Memory)
  gives (Ok r) h t (k, s) = let c : Good (plain_task r) (drop at ts) ≡ Good t [] = sym h.0 ∙ task_complete bytes ts t s in cc
  gives (Err (Syntax n)) h t (k, s) = let c : Bad (drop n ts) ≡ Good t [] = sym h.0 ∙ task_complete bytes ts t s in absurd cc
  gives (Err Memory) h t s = refl

  refuses : (r : Result RawTask ReadFault) → Answers (task bytes) plain_task ts 0 at r → (n : ℕ) → IsHopelessAt ts n → IsErrAnd r (λ fault. (fault ≡ Syntax n) ⊎ (fault ≡ Memory))
  refuses (Ok r) h n k = absurd (k.unspelled bytes (plain_task r) (task_sound bytes ts (plain_task r) (drop at ts) h.0).0)
  refuses (Err (Syntax m)) h n k = inl (ap Syntax (one_hopeless ts m n (is_hopeless bytes ts m h.1 h.0) k))
  refuses (Err Memory) h n k = inr refl

pub returns-clause-ok : goal.returns-clause-ok
returns-clause-ok c = spelled c.args.bytes.now c.args.tokens.now c.task.new.cursor.at c.task.result c.requires.tokens c.task.ensures

pub returns-clause-small : goal.returns-clause-small
returns-clause-small c = small c.args.bytes.now c.args.tokens.now c.task.new.cursor.at c.task.result c.task.ensures

pub returns-clause-spellable : goal.returns-clause-spellable
returns-clause-spellable c =
    let few : length c.args.tokens.now ≤ 65536 = omega (arith, few_tokens 0 (length c.args.bytes.now) c.args.tokens.now (spans_in_order c.args.bytes.now c.requires.tokens), c.requires.short) in
    spellable c.args.bytes.now c.args.tokens.now c.task.new.cursor.at c.task.result few c.task.ensures

pub returns-clause-bad : goal.returns-clause-bad
returns-clause-bad c n e = hopeless c.args.bytes.now c.args.tokens.now c.task.new.cursor.at c.task.result c.task.ensures n e

pub returns-clause-only : goal.returns-clause-only
returns-clause-only c t s = gives c.args.bytes.now c.args.tokens.now c.task.new.cursor.at c.task.result c.task.ensures t s

pub returns-clause-only_bad : goal.returns-clause-only_bad
returns-clause-only_bad c n k = refuses c.args.bytes.now c.args.tokens.now c.task.new.cursor.at c.task.result c.task.ensures n k
