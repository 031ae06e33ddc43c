-- The loop over declarations.
use Rattle.std.proofs.Common.{◌≡◌, ℕ, ◌≤◌, List, [], ◌∷◌, ◌++◌, length, drop, Some, Result, Ok, Err, arith, ◌∙◌}
use Rattle.std.proofs.lemmas.List.{length-drop}
use Rattle.mars_base.specs.declared.word.Role.{Role}
use Rattle.mc_tree.specs.declared.token.Token.{Token}
use Rattle.mc_tree.specs.declared.raw.RawDecl.{RawDecl}
use Rattle.mc_reader.specs.declared.ReadFault.{ReadFault}
use Rattle.mc_reader.specs.declared.ReadFault.TheVariants.{Syntax, Memory}
use Rattle.mc_reader.specs.declared.declaration.Place.{Place}
use Rattle.mc_reader.specs.Reading.{Got, Good, Bad, Misses}
use Rattle.mc_reader.specs.Readers.{decl}
use Rattle.mc_reader.specs.Places.{at_role, decls}
use Rattle.mc_reader.specs.Answers.{Answers, after}
use Rattle.mc_reader.proofs.Live.{Any}
use Rattle.mc_reader.proofs.LiveTask.{live_decl}
use Rattle.mc_reader.proofs.LiveLists.{shorter}
use Rattle.mc_reader.proofs.Loops.{one_more, bad_part, no_more}

-- a fault of a part is a fault of the whole
pub fault : {X Y Z W : Type 0} (P : List Token → Got Y) (Q : List Token → Got W) (f : X → Y) (g : Z → W) (ts : List Token) (a b c d : ℕ) (e : ReadFault) → ((rest : List Token) → P (drop a ts) ≡ Bad rest → Q (drop b ts) ≡ Bad rest)
    → Answers P f ts a c (Err e) → Answers Q g ts b d (Err e)
fault P Q f g ts a b c d (Syntax n) h w = (h (drop n ts) w.0, w.1)
fault P Q f g ts a b c d Memory h w = tt

-- a reader that reads so at another place
pub same_answer : {X Y : Type 0} (P Q : List Token → Got Y) (f : X → Y) (ts : List Token) (a b c : ℕ) (r : Result X ReadFault) → Q (drop b ts) ≡ P (drop a ts) → Answers P f ts a c r → Answers Q f ts b c r
same_answer P Q f ts a b c (Ok x) h w = (h ∙ w.0, w.1)
same_answer P Q f ts a b c (Err (Syntax n)) h w = (h ∙ w.0, w.1)
same_answer P Q f ts a b c (Err Memory) h w = tt

module _ (bytes : List ℕ) (place : Place) where
  pub decl_more : (xs : List RawDecl) (t : Token) (r : Role) (us : List Token) (x : RawDecl) (rest : List Token) → at_role place t ≡ Some r → decl bytes r us ≡ Good x rest → after xs (decls bytes place (t ∷ us)) ≡ after (xs ++ x ∷ []) (decls bytes place rest)
  decl_more xs t r us x rest e h = one_more (at_role place) (decl bytes) Any (Misses (at_role place)) (live_decl bytes) (λ t a ts y e. tt) (λ ts y h. tt) (λ ts h. h) xs t r us x rest e h

  pub decl_bad : (xs : List RawDecl) (t : Token) (r : Role) (us : List Token) (rest : List Token) → at_role place t ≡ Some r → decl bytes r us ≡ Bad rest → after xs (decls bytes place (t ∷ us)) ≡ Bad rest
  decl_bad xs t r us rest e h = bad_part (at_role place) (decl bytes) Any (Misses (at_role place)) (live_decl bytes) (λ t a ts y e. tt) (λ ts y h. tt) (λ ts h. h) xs t r us rest e h

  pub decl_end : (xs : List RawDecl) (ts : List Token) → Misses (at_role place) ts → after xs (decls bytes place ts) ≡ Good xs ts
  decl_end xs ts m = no_more (at_role place) (decl bytes) Any (Misses (at_role place)) (live_decl bytes) (λ t a ts y e. tt) (λ ts y h. tt) (λ ts h. h) xs ts m

pub decl_later : (bytes : List ℕ) (r : Role) (ts : List Token) (a b : ℕ) (x : RawDecl) → a ≤ length ts → b ≤ length ts → decl bytes r (drop a ts) ≡ Good x (drop b ts) → a ≤ b
decl_later bytes r ts a b x h k e = omega (arith, shorter Any (decl bytes r) (live_decl bytes r) (drop a ts) x (drop b ts) e, length-drop a ts, length-drop b ts, h, k)
