-- What the reader of tasks reads, and where it stops.
use Rattle.std.proofs.Common.{◌≡◌, ℕ, zero, suc, ◌+◌, ◌<◌, ◌≤◌, List, [], ◌∷◌, ◌++◌, length, take, drop, get_or, arith, refl, ap, ◌∙◌, sym, subst, append_assoc, drop-cons, add-one, ◌⊎◌, inl, inr}
use Rattle.std.proofs.lemmas.List.{length-append, length-drop, take_more, append-nil, take-append-drop}
use Rattle.std.proofs.Math.Seq.{take-append_seam, drop-append_seam}
use Rattle.mc_tree.specs.declared.token.Token.{Token}
use Rattle.mc_tree.specs.declared.token.TokenKind.TheVariants as T
use Rattle.mc_tree.specs.Raw.{Task}
use Rattle.mc_reader.specs.Roles.{tok}
use Rattle.mc_tree.specs.Grammar.{IsTask, IsPrefixOfTask, IsHopelessAt}
use Rattle.mc_reader.specs.Reading.{Got, Good, Bad}
use Rattle.mc_reader.specs.Readers.{task}
use Rattle.mc_reader.proofs.Live.{AtEnd, Trace, Died}
use Rattle.mc_reader.proofs.LiveTask.{live_task}
use Rattle.mc_reader.proofs.ExactTask.{exact_task}
use Rattle.mc_reader.proofs.Retext.{task_text}

module _ (bytes : List ℕ) where
  pub task_sound : (ts : List Token) (t : Task) (rest : List Token) → task bytes ts ≡ Good t rest → IsTask bytes ts t × (rest ≡ [])
  task_sound ts t rest h = (exact_task bytes).sound ts t rest h

  pub task_complete : (ts : List Token) (t : Task) → IsTask bytes ts t → task bytes ts ≡ Good t []
  task_complete ts t h = (exact_task bytes).complete ts t [] (h, refl) refl

  -- a text has at most one tree
  pub one_tree : (ts : List Token) (t u : Task) → IsTask bytes ts t → IsTask bytes ts u → t ≡ u
  one_tree ts t u h k = let e : Good t [] ≡ Good u [] = sym (task_complete ts t h) ∙ task_complete ts u k in cc

  blank : Token
  blank = tok T.Name (record { from = 0; to = 0 })

  -- where the reader dies, nothing goes on
  pub is_hopeless : (ts : List Token) (n : ℕ) → n ≤ length ts → task bytes ts ≡ Bad (drop n ts) → IsHopelessAt ts n
  is_hopeless ts n le h =
      let d : Died AtEnd (task bytes) ts (drop n ts) = subst (Trace AtEnd (task bytes) ts) h ((live_task bytes).trace ts) in
      let l : length d.front ≡ n = omega (arith, ap length d.is, length-append d.front (drop n ts), length-drop n ts) in
      let e : take n ts ≡ d.front = ap (take n) d.is ∙ ap (λ m. take m (d.front ++ drop n ts)) (sym l) ∙ take-append_seam d.front (drop n ts) in
      let g : task bytes (d.front ++ d.more) ≡ Good d.value [] = ap (λ l. task bytes (d.front ++ l)) (sym (append-nil d.more)) ∙ d.takes [] refl in
      record {
        within = le;
        begins = subst IsPrefixOfTask (sym e) (bytes, d.more, d.value, (task_sound (d.front ++ d.more) d.value [] g).0);
        fails = λ lt p.
            let c : drop n ts ≡ get_or ts n blank ∷ drop (suc n) ts = drop-cons ts n blank lt in
            let f : take (n + 1) ts ≡ d.front ++ get_or ts n blank ∷ [] = take_more ts n blank lt ∙ ap (λ (x : List Token). x ++ get_or ts n blank ∷ []) e in
            let q : IsPrefixOfTask (d.front ++ get_or ts n blank ∷ []) = subst IsPrefixOfTask f (subst (λ m. IsPrefixOfTask (take m ts)) (sym (add-one n)) p) in
            let w = task_text q.0 bytes (d.front ++ get_or ts n blank ∷ [] ++ q.1) q.2 q.3 in
            let a : task bytes (d.front ++ get_or ts n blank ∷ q.1) ≡ Good w.0 [] = ap (task bytes) (sym (append_assoc d.front (get_or ts n blank ∷ []) q.1)) ∙ task_complete (d.front ++ get_or ts n blank ∷ [] ++ q.1) w.0 w.1 in
            let b : Good w.0 [] ≡ Bad (get_or ts n blank ∷ q.1) = sym a ∙ d.dead (get_or ts n blank) (drop (suc n) ts) q.1 c in
            cc;
        unspelled = λ b t k.
            let w = task_text b bytes ts t k in
            let c : Bad (drop n ts) ≡ Good w.0 [] = sym h ∙ task_complete ts w.0 w.1 in
            cc;
      }

  -- the tokens spell a tree, or one of them is hopeless
  pub spelled_or_hopeless : (ts : List Token) → ((t : Task) × IsTask bytes ts t) ⊎ ((n : ℕ) × IsHopelessAt ts n)
  spelled_or_hopeless ts = by (task bytes ts) refl
    where
      by : (g : Got Task) → task bytes ts ≡ g → ((t : Task) × IsTask bytes ts t) ⊎ ((n : ℕ) × IsHopelessAt ts n)
      by (Good t rest) h = inl (t, (task_sound ts t rest h).0)
      by (Bad rest) h =
          let d : Died AtEnd (task bytes) ts rest = subst (Trace AtEnd (task bytes) ts) h ((live_task bytes).trace ts) in
          let e : drop (length d.front) ts ≡ rest = ap (drop (length d.front)) d.is ∙ drop-append_seam d.front rest in
          inr (length d.front, is_hopeless ts (length d.front) (omega (arith, ap length d.is, length-append d.front rest)) (h ∙ ap Bad (sym e)))

take_take : (ts : List Token) (m n : ℕ) → m ≤ n → take m (take n ts) ≡ take m ts
take_take ts zero n le = refl
take_take ts (suc m) zero le = absurd (omega (arith, le))
take_take [] (suc m) (suc n) le = refl
take_take (t ∷ ts) (suc m) (suc n) le = ap (λ l. t ∷ l) (take_take ts m n (omega (arith, le)))

-- the tokens before one that is hopeless begin a task, and those up to it don't
pub fewer_begin : (ts : List Token) (m n : ℕ) → m ≤ n → IsPrefixOfTask (take n ts) → IsPrefixOfTask (take m ts)
fewer_begin ts m n le (bytes, more, t, h) =
    let e : take n ts ≡ take m (take n ts) ++ drop m (take n ts) = sym (take-append-drop m (take n ts)) in
    let f : take m (take n ts) ≡ take m ts = take_take ts m n le in
    let g : take n ts ++ more ≡ take m ts ++ (drop m (take n ts) ++ more) = ap (λ l. l ++ more) e ∙ append_assoc (take m (take n ts)) (drop m (take n ts)) more ∙ ap (λ l. l ++ (drop m (take n ts) ++ more)) f in
    (bytes, drop m (take n ts) ++ more, t, subst (λ l. IsTask bytes l t) g h)

-- at most one token is hopeless
pub one_hopeless : (ts : List Token) (m n : ℕ) → IsHopelessAt ts m → IsHopelessAt ts n → m ≡ n
one_hopeless ts m n h k = least (λ lt. h.fails (omega (arith, k.within, lt)) (fewer_begin ts (suc m) n (omega (arith, lt)) k.begins)) (λ lt. k.fails (omega (arith, h.within, lt)) (fewer_begin ts (suc n) m (omega (arith, lt)) h.begins))
  where
    least : (m < n → ⊥) → (n < m → ⊥) → m ≡ n
    least a b = grind (arith)
