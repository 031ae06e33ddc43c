-- One turn of the loop over an expression's tokens.
use Rattle.std.proofs.Common.{◌≡◌, ℕ, suc, ◌+◌, ◌<◌, ◌≤◌, List, ◌∷◌, length, drop, get_or, refl, ap, ◌∙◌, sym, drop-cons, add-one}
use Rattle.std.proofs.Math.ListN.{drop_of_length-le}
use Rattle.mc_tree.specs.declared.token.Token.{Token}
use Rattle.mc_tree.specs.Raw.{Ex}
use Rattle.mc_reader.specs.Reading.{Good, Bad}
use Rattle.mc_reader.specs.Machine.{Frame, Now, Step, Next, Done, Dead, step, then, run}

module _ (bytes : List ℕ) (ts : List Token) (i : ℕ) (d : Token) (n : Now) (u : ℕ) (F : List Frame) (lt : i < length ts) where
  turn : (s : Step) → s ≡ step bytes n u F (get_or ts i d) → run bytes (drop i ts) n u F ≡ then bytes s (drop i ts) (drop (suc i) ts) (run bytes (drop (suc i) ts))
  unfolding run
  turn s is =
      let e : drop i ts ≡ get_or ts i d ∷ drop (suc i) ts = drop-cons ts i d lt in
      ap (λ (x : List Token). run bytes x n u F) e
      ∙ ap (λ (x : Step). then bytes x (get_or ts i d ∷ drop (suc i) ts) (drop (suc i) ts) (run bytes (drop (suc i) ts))) (sym is)
      ∙ ap (λ (x : List Token). then bytes s x (drop (suc i) ts) (run bytes (drop (suc i) ts))) (sym e)

  one : drop (suc i) ts ≡ drop (i + 1) ts
  one = rw add-one refl

  pub next : (m : Now) (w : ℕ) (G : List Frame) → Next m w G ≡ step bytes n u F (get_or ts i d) → run bytes (drop i ts) n u F ≡ run bytes (drop (i + 1) ts) m w G
  next m w G is = turn (Next m w G) is ∙ ap (λ (x : List Token). run bytes x m w G) one

  pub done : (e : Ex) → Done e ≡ step bytes n u F (get_or ts i d) → run bytes (drop i ts) n u F ≡ Good e (drop i ts)
  done e is = turn (Done e) is

  pub dead : Dead ≡ step bytes n u F (get_or ts i d) → run bytes (drop i ts) n u F ≡ Bad (drop i ts)
  dead is = turn Dead is

pub no_more : (bytes : List ℕ) (ts : List Token) (n : Now) (u : ℕ) (F : List Frame) (i : ℕ) → length ts ≤ i → run bytes (drop i ts) n u F ≡ Bad (drop i ts)
unfolding run
no_more bytes ts n u F i le = rw (drop_of_length-le ts le) refl
