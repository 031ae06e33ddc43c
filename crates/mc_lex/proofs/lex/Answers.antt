use Rattle.std.proofs.Common.{◌≡◌, ℕ, List, Vec, Global, Result, Ok, Err, IfOk, MatchResult, ◌⊎◌, inl, inr, refl, ap}
use Rattle.std.specs.Prelude.{IsErrAnd}
use Rattle.mc_tree.specs.declared.token.Token.{Token}
use Rattle.mc_tree.specs.Tokens.{IsTokens, IsBadAt}
use Rattle.mc_tree.proofs.TokenFacts.{tokens_once, tokens_or_bad, bad_once}
use Rattle.mc_lex.specs.declared.LexFault.{LexFault}
use Rattle.mc_lex.specs.declared.LexFault.TheVariants.{Bad, Memory}
use Rattle.mc_lex.proofs.lex.Goals as goal

module _ (bytes : List ℕ) where
  gives : (r : Result (Vec Token Global) LexFault) → IfOk r (λ v. IsTokens bytes v.items) → ((o : ℕ) → r ≡ Err (Bad o) → IsBadAt bytes o)
      → (ts : List Token) → IsTokens bytes ts → MatchResult r (λ v. v.items ≡ ts) (λ fault. fault ≡ Memory)
  gives (Ok v) ok bad ts l = tokens_once bytes ok l
  gives (Err (Bad o)) ok bad ts l = absurd (tokens_or_bad bytes l (bad o refl))
  gives (Err Memory) ok bad ts l = refl

  refuses : (r : Result (Vec Token Global) LexFault) → IfOk r (λ v. IsTokens bytes v.items) → ((o : ℕ) → r ≡ Err (Bad o) → IsBadAt bytes o)
      → (o : ℕ) → IsBadAt bytes o → IsErrAnd r (λ fault. (fault ≡ Bad o) ⊎ (fault ≡ Memory))
  refuses (Ok v) ok bad o l = absurd (tokens_or_bad bytes ok l)
  refuses (Err (Bad p)) ok bad o l = inl (ap Bad (bad_once bytes (bad p refl) l))
  refuses (Err Memory) ok bad o l = inr refl

pub returns-clause-only : goal.returns-clause-only
returns-clause-only c = gives c.args.bytes.now c.cut.result c.cut.ensures.ok c.cut.ensures.bad

pub returns-clause-only_bad : goal.returns-clause-only_bad
returns-clause-only_bad c = refuses c.args.bytes.now c.cut.result c.cut.ensures.ok c.cut.ensures.bad
