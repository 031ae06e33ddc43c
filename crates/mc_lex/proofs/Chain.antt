-- One step of the scanner: what is left decides what comes of the whole text.
use Rattle.std.proofs.Common.{◌≡◌, ℕ, ◌+◌, ◌<◌, ◌≤◌, List, [], ◌∷◌, ◌++◌, length, drop, arith, subst, append_assoc, append-nil}
use Rattle.std.specs.Prelude.{Result, Err, Vec}
use Rattle.std.specs.Global.{Global}
use Rattle.mc_lex.specs.declared.LexFault.{LexFault}
use Rattle.mc_lex.specs.declared.LexFault.TheVariants.{Bad}
use Rattle.mc_tree.specs.declared.token.Token.{Token}
use Rattle.mc_tree.specs.declared.token.TokenKind.{TokenKind}
use Rattle.mc_tree.specs.Lexeme.{Lexeme, Gap, Spelled, Malformed}
use Rattle.mc_tree.specs.Tokens.{Longest, NothingBegins, TokensFrom, BadFrom, token}
use Rattle.mc_tree.specs.Tokens as R
use Rattle.mc_tree.proofs.TokenFacts.{inside}

-- the tokens of what is left go behind those that were cut, and its bad byte is the text's
pub record Kept (bytes : List ℕ) (at : ℕ) (cut : List Token) : Type 0 where
  pub within : at ≤ length bytes
  pub go_on : (ts : List Token) → TokensFrom bytes at ts → TokensFrom bytes 0 (cut ++ ts)
  pub stop : (o : ℕ) → BadFrom bytes at o → BadFrom bytes 0 o

-- here rest is what is left at the offset at
module _ (bytes : List ℕ) (at : ℕ) (rest : List ℕ) (is : rest ≡ drop at bytes) where
  here : (n : ℕ) (s : Lexeme) → Longest rest n s → Longest (drop at bytes) n s
  here n s l = subst (λ (r : List ℕ). Longest r n s) is l

  pub step_gap : (n : ℕ) (cut new : List Token) → Longest rest n Gap → new ≡ cut → Kept bytes at cut → Kept bytes (at + n) new
  step_gap n cut new l e kept = record {
    within = inside bytes at n Gap (here n Gap l);
    go_on = λ ts d. rw e (kept.go_on ts (R.passes n (here n Gap l) d));
    stop = λ o d. kept.stop o (R.after_gap n (here n Gap l) d);
  }

  pub step_token : (n : ℕ) (k : TokenKind) (cut new : List Token) → Longest rest n (Spelled k) → new ≡ cut ++ token k at (at + n) ∷ [] → Kept bytes at cut → Kept bytes (at + n) new
  step_token n k cut new l e kept = record {
    within = inside bytes at n (Spelled k) (here n (Spelled k) l);
    go_on = λ ts d. rw (e, append_assoc) (kept.go_on (token k at (at + n) ∷ ts) (R.takes n k (here n (Spelled k) l) d));
    stop = λ o d. kept.stop o (R.after_token n k (here n (Spelled k) l) d);
  }

  pub malformed : (n : ℕ) (cut : List Token) → Longest rest n Malformed → Kept bytes at cut → BadFrom bytes 0 at
  malformed n cut l kept = kept.stop at (R.malformed n (here n Malformed l))

  pub nothing : (cut : List Token) → NothingBegins rest → at < length bytes → Kept bytes at cut → BadFrom bytes 0 at
  nothing cut none lt kept = kept.stop at (R.nothing lt (subst NothingBegins is none))

-- at the end of the text all tokens were cut
pub all_cut : (bytes : List ℕ) (at : ℕ) (cut : List Token) → length bytes ≤ at → Kept bytes at cut → TokensFrom bytes 0 cut
all_cut bytes at cut le kept =
    subst (TokensFrom bytes 0) (append-nil cut) (kept.go_on [] (R.ends (omega (arith, kept.within))))

-- the offset that is told is the bad byte's
pub told : (bytes : List ℕ) (at o : ℕ) → BadFrom bytes 0 at → (let r : Result (Vec Token Global) LexFault = Err (Bad at) in r ≡ Err (Bad o)) → BadFrom bytes 0 o
told bytes at o bad e = let same : at ≡ o = cc in subst (BadFrom bytes 0) same bad
