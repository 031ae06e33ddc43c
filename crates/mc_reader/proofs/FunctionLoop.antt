-- The loop over functions.
use Rattle.std.proofs.Common.{◌≡◌, ℕ, ◌≤◌, List, [], ◌∷◌, ◌++◌, length, drop, Some, arith}
use Rattle.std.proofs.lemmas.List.{length-drop}
use Rattle.mars_base.specs.declared.text.Span.{Span}
use Rattle.mc_tree.specs.declared.token.Key.TheVariants as K
use Rattle.mc_tree.specs.declared.token.Token.{Token}
use Rattle.mc_tree.specs.Raw.{Func}
use Rattle.mc_reader.specs.Reading.{Good, Bad, Misses}
use Rattle.mc_reader.specs.Readers.{at_key, func, funcs}
use Rattle.mc_reader.specs.Answers.{after}
use Rattle.mc_reader.proofs.Live.{Any}
use Rattle.mc_reader.proofs.LiveTask.{live_func}
use Rattle.mc_reader.proofs.LiveLists.{shorter}
use Rattle.mc_reader.proofs.Loops.{one_more, bad_part, no_more}

module _ (bytes : List ℕ) where
  pub func_more : (xs : List Func) (t : Token) (p : Span) (us : List Token) (x : Func) (rest : List Token) → at_key K.Func t ≡ Some p → func bytes p us ≡ Good x rest → after xs (funcs bytes (t ∷ us)) ≡ after (xs ++ x ∷ []) (funcs bytes rest)
  func_more xs t p us x rest e h = one_more (at_key K.Func) (func bytes) Any (Misses (at_key K.Func)) (live_func bytes) (λ t a ts y e. tt) (λ ts y h. tt) (λ ts h. h) xs t p us x rest e h

  pub func_bad : (xs : List Func) (t : Token) (p : Span) (us : List Token) (rest : List Token) → at_key K.Func t ≡ Some p → func bytes p us ≡ Bad rest → after xs (funcs bytes (t ∷ us)) ≡ Bad rest
  func_bad xs t p us rest e h = bad_part (at_key K.Func) (func bytes) Any (Misses (at_key K.Func)) (live_func bytes) (λ t a ts y e. tt) (λ ts y h. tt) (λ ts h. h) xs t p us rest e h

  pub func_end : (xs : List Func) (ts : List Token) → Misses (at_key K.Func) ts → after xs (funcs bytes ts) ≡ Good xs ts
  func_end xs ts m = no_more (at_key K.Func) (func bytes) Any (Misses (at_key K.Func)) (live_func bytes) (λ t a ts y e. tt) (λ ts y h. tt) (λ ts h. h) xs ts m

  pub func_later : (p : Span) (ts : List Token) (a b : ℕ) (x : Func) → a ≤ length ts → b ≤ length ts → func bytes p (drop a ts) ≡ Good x (drop b ts) → a ≤ b
  func_later p ts a b x h k e = omega (arith, shorter Any (func bytes p) (live_func bytes p) (drop a ts) x (drop b ts) e, length-drop a ts, length-drop b ts, h, k)
