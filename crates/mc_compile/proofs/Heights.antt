-- How far the code of a part reaches, and which heights it begins with.
use Rattle.std.proofs.Common.{◌≡◌, ℕ, ◌+◌, ◌<◌, ◌≤◌, List, [], ◌∷◌, length, Some, sym, ap, ◌∙◌, subst, arith}
use Rattle.std.specs.Option.{option_map}
use Rattle.mc_tree.specs.Counters.{Counted, CountedB}
use Rattle.mc_tree.specs.Tree.{Ex, Num, Var, Elem, Un, Bin, St, Assign, AssignAt, Invoke, When, Choice, Loop, Scoped, Count, Series, Bl, Nil, Then, Ls, NoLoop, OneLoop}
use Rattle.word_code.specs.Typing.{height_at}
use Rattle.word_code.specs.declared.code.Slot.{Slot}
use Rattle.mc_compile.specs.Translate.{between, joined}
use Rattle.mc_compile.specs.Coded.{Has, CodedE, CodedA, CodedS, Coded, CodedB, CodedL}
use Rattle.mc_compile.proofs.Placed.{all_end}

module _ (instrs : List Slot) where
  -- an expression takes at least one instruction
  pub up_e : (e : Ex) (h p q : ℕ) → CodedE instrs h p e q → p < q
  up_e (Num w) h p q c = omega (arith, c.next)
  up_e (Var a) h p q c = omega (arith, c.next)
  up_e (Elem a n i) h p q c = omega (arith, up_e i h p c.0 c.1, c.2.next)
  up_e (Un op e) h p q c = omega (arith, up_e e h p c.0 c.1, c.2.next)
  up_e (Bin op l r) h p q c =
      omega (arith, up_e l h p c.0 c.3, all_end instrs (between op h) c.0 c.1 c.4, up_e r (h + 1) c.1 c.2 c.5, all_end instrs (joined op h) c.2 q c.6)

  -- arguments
  pub up_a : (es : List Ex) (h p q : ℕ) → CodedA instrs h p es q → p ≤ q
  up_a [] h p q c = omega arith
  up_a (e ∷ es) h p q c = omega (arith, up_e e h p c.0 c.1, up_a es (h + 1) c.0 q c.2)

  -- stores of parameters
  pub up_stores : (xs : List ℕ) (h p q : ℕ) → CodedS instrs h p xs q → p ≤ q
  up_stores [] h p q c = omega arith
  up_stores (x ∷ xs) h p q c = omega (arith, up_stores xs (h + 1) p c.0 c.1, c.2.next)

  -- the height of an instruction that stands
  pub height_here : (p q : ℕ) (s : Slot) → Has instrs p s q → height_at instrs p ≡ Some s.height
  height_here p q s c = ap (option_map (λ (x : Slot). x.height)) c.here

  -- code begins with the height that it takes
  pub begins_e : (e : Ex) (h p q : ℕ) → CodedE instrs h p e q → height_at instrs p ≡ Some h
  begins_e (Num w) h p q c = height_here p q _ c
  begins_e (Var a) h p q c = height_here p q _ c
  begins_e (Elem a n i) h p q c = begins_e i h p c.0 c.1
  begins_e (Un op e) h p q c = begins_e e h p c.0 c.1
  begins_e (Bin op l r) h p q c = begins_e l h p c.0 c.3

  -- or with that of what follows it, where it is empty
  pub begins_a : (es : List Ex) (h p q : ℕ) → CodedA instrs h p es q → height_at instrs q ≡ Some (h + length es) → height_at instrs p ≡ Some h
  begins_a [] h p q c at = subst (λ n. height_at instrs n ≡ Some h) (sym c) (at ∙ ap Some (let x : h + 0 ≡ h = omega arith in x))
  begins_a (e ∷ es) h p q c at = begins_e e h p c.0 c.1

  -- stores begin above the words that they take
  pub begins_stores : (xs : List ℕ) (h p q : ℕ) → CodedS instrs h p xs q → height_at instrs q ≡ Some h → height_at instrs p ≡ Some (h + length xs)
  begins_stores [] h p q c at = subst (λ n. height_at instrs n ≡ Some (h + 0)) (sym c) (at ∙ ap Some (let x : h ≡ h + 0 = omega arith in x))
  begins_stores (x ∷ xs) h p q c at =
      let more : h + 1 + length xs ≡ h + length (x ∷ xs) = omega arith in
      begins_stores xs (h + 1) p c.0 c.1 (height_here c.0 q _ c.2) ∙ ap Some more

module _ (instrs : List Slot) (starts : ℕ → ℕ) (params : ℕ → List ℕ) where
  mutual
    -- a statement takes at least one instruction
    pub up : (s : St) (p q : ℕ) → Coded starts params instrs p s q → p < q
    up (Assign a e) p q c = omega (arith, up_e instrs e 0 p c.0 c.1, c.2.next)
    up (AssignAt a n i e) p q c = omega (arith, up_e instrs i 0 p c.0 c.2, up_e instrs e 1 c.0 c.1 c.3, c.4.next)
    up (Invoke a g args) p q c = omega (arith, up_a instrs args 0 p c.0 c.3, up_stores instrs (params g) 0 c.0 c.1 c.4, c.5.next, c.6.next)
    up (When t b) p q c = omega (arith, up_e instrs t 0 p c.0 c.2, c.3.next, up_b b c.1 q c.4)
    up (Choice t b d) p q c = omega (arith, up_e instrs t 0 p c.0 c.4, c.5.next, up_b b c.1 c.2 c.6, c.7.next, up_b d c.3 q c.8)
    up (Loop k n t b) p q c = omega (arith, c.5.next, up_e instrs t 0 c.0 c.1 c.6, c.7.next, c.8.next, up_b b c.3 c.4 c.9, c.10.next)
    up (Scoped k n b) p q c = omega (arith, c.1.next, up_b b c.0 q c.2)
    up (Count k n) p q c = omega (arith, c.next)
    up (Series k n l) p q c = omega (arith, c.1.next, up_l l k n c.0 q c.2)

    -- a block
    pub up_b : (b : Bl) (p q : ℕ) → CodedB starts params instrs p b q → p ≤ q
    up_b Nil p q c = omega arith
    up_b (Then s rest) p q c = omega (arith, up s p c.0 c.1, up_b rest c.0 q c.2)

    -- the loops of a sequence
    pub up_l : (l : Ls) (s k p q : ℕ) → CodedL starts params instrs s k p l q → p ≤ q
    up_l NoLoop s k p q c = omega arith
    up_l (OneLoop d n t b rest) s k p q c =
        omega (arith, c.7.next, up_e instrs t 0 c.0 c.1 c.8, c.9.next, c.10.next, c.11.next, up_b b c.4 c.5 c.12, c.13.next, up_l rest s k c.6 q c.14)

  -- each statement begins at height 0
  pub begins : (cur sc kb lo hi : ℕ) (s : St) (p q : ℕ) → Coded starts params instrs p s q → Counted params cur sc kb lo s hi → height_at instrs p ≡ Some 0
  begins cur sc kb lo hi (Assign a e) p q c n = begins_e instrs e 0 p c.0 c.1
  begins cur sc kb lo hi (AssignAt a w i e) p q c n = begins_e instrs i 0 p c.0 c.2
  begins cur sc kb lo hi (Invoke a g args) p q c n =
      let stores = begins_stores instrs (params g) 0 c.0 c.1 c.4 (height_here instrs c.1 c.2 _ c.5) in
      let same : 0 + length (params g) ≡ 0 + length args = omega (arith, n.2) in
      begins_a instrs args 0 p c.0 c.3 (stores ∙ ap Some same)
  begins cur sc kb lo hi (When t b) p q c n = begins_e instrs t 0 p c.0 c.2
  begins cur sc kb lo hi (Choice t b d) p q c n = begins_e instrs t 0 p c.0 c.4
  begins cur sc kb lo hi (Loop k w t b) p q c n = height_here instrs p c.0 _ c.5
  begins cur sc kb lo hi (Scoped k w b) p q c n = height_here instrs p c.0 _ c.1
  begins cur sc kb lo hi (Count k w) p q c n = height_here instrs p q _ c
  begins cur sc kb lo hi (Series k w l) p q c n = height_here instrs p c.0 _ c.1

  -- a block, by what follows it
  pub begins_b : (cur sc kb lo hi : ℕ) (b : Bl) (p q : ℕ) → CodedB starts params instrs p b q → CountedB params cur sc kb lo b hi → height_at instrs q ≡ Some 0 → height_at instrs p ≡ Some 0
  begins_b cur sc kb lo hi Nil p q c n at = subst (λ m. height_at instrs m ≡ Some 0) (sym c) at
  begins_b cur sc kb lo hi (Then s rest) p q c n at = begins cur sc kb lo n.0 s p c.0 c.1 n.1

  -- the loops of a sequence, by what follows them
  pub begins_l : (l : Ls) (s k p q : ℕ) → CodedL starts params instrs s k p l q → height_at instrs q ≡ Some 0 → height_at instrs p ≡ Some 0
  begins_l NoLoop s k p q c at = subst (λ m. height_at instrs m ≡ Some 0) (sym c) at
  begins_l (OneLoop d w t b rest) s k p q c at = height_here instrs p c.0 _ c.7
