-- The code of each statement of a checked task meets the rules on instructions.
use Rattle.std.proofs.Common.{◌≡◌, ℕ, suc, ◌+◌, ◌<◌, ◌≤◌, List, length, Some, refl, ap, ◌∙◌, arith}
use Rattle.mc_tree.specs.declared.tree.Cell.{Cell}
use Rattle.mc_tree.specs.Tree.{Ex, St, Assign, AssignAt, Invoke, When, Choice, Loop, Scoped, Count, Series, Bl, Nil, Then, Ls, NoLoop, OneLoop}
use Rattle.mc_tree.specs.Counters.{Counted, CountedB, CountedL}
use Rattle.mc_tree.specs.Sound.{IsCell, SoundTest, Sound, SoundB, SoundL}
use Rattle.mc_tree.proofs.Checked.{counted_up_b, counted_up_l}
use Rattle.word_code.specs.Typing.{height_at}
use Rattle.word_code.specs.declared.code.Code.{Code}
use Rattle.word_code.specs.declared.code.Instr.TheVariants.{Store, Jmp, Jz, CZero, CInc}
use Rattle.mc_compile.specs.Translate.{slot}
use Rattle.mc_compile.specs.Coded.{Has, CodedE, Coded, CodedB, CodedL}
use Rattle.mc_compile.proofs.Heights.{up_e, up_a, up_stores, height_here, begins_e, begins_stores, up, up_b, up_l, begins_b, begins_l}
use Rattle.mc_compile.proofs.TypedParts.{IsRoutine, IsCallable, TypedIn, typed_join, typed_none, args_low, step_typed, follows, lands, typed_e, typed_a, typed_stores}

module _ (code : Code) (cells : List Cell) (lo hi r : ℕ) (routine : IsRoutine code lo hi r) (fits : (p n : ℕ) → IsCell cells p n → p + n ≤ code.places) where
  pub test : (t : Ex) (p q : ℕ) → CodedE code.instrs 0 p t q → SoundTest cells t → lo ≤ p → q < hi → height_at code.instrs q ≡ Some 1 → TypedIn code p q
  test t p q c sound above below at =
      typed_e code cells lo hi r routine fits t 0 p q c sound.0 (omega (arith, sound.1)) above below (at ∙ ap Some (let x : 1 ≡ 0 + 1 = omega arith in x))

  jump_if_zero : (p q t : ℕ) → Has code.instrs p (slot (Jz t) 1) q → lo ≤ p → q < hi → lo ≤ t → t < hi → height_at code.instrs t ≡ Some 0 → height_at code.instrs q ≡ Some 0 → TypedIn code p q
  jump_if_zero p q t c above below above' below' there at =
      let n = c.next in
      step_typed code cells lo hi r routine fits p q _ c above below (record { height_fits = omega arith; operands = omega arith; room = omega arith; next = λ x. follows code cells lo hi r routine fits p q 0 0 n at refl; jump = lands code cells lo hi r routine fits p t above (omega arith) above' below' there; place = tt; counter = tt; call = tt; ends = tt })

  jump : (p q t : ℕ) → Has code.instrs p (slot (Jmp t) 0) q → lo ≤ p → q < hi → lo ≤ t → t < hi → height_at code.instrs t ≡ Some 0 → TypedIn code p q
  jump p q t c above below above' below' there =
      let n = c.next in
      step_typed code cells lo hi r routine fits p q _ c above below (record { height_fits = omega arith; operands = omega arith; room = omega arith; next = λ x. absurd x; jump = lands code cells lo hi r routine fits p t above (omega arith) above' below' there; place = tt; counter = tt; call = tt; ends = tt })

  clear : (p q k : ℕ) → Has code.instrs p (slot (CZero k) 0) q → k < code.counters → lo ≤ p → q < hi → height_at code.instrs q ≡ Some 0 → TypedIn code p q
  clear p q k c less above below at =
      step_typed code cells lo hi r routine fits p q _ c above below (record { height_fits = omega arith; operands = omega arith; room = omega arith; next = λ x. follows code cells lo hi r routine fits p q 0 0 c.next at refl; jump = tt; place = tt; counter = less; call = tt; ends = tt })

  count : (p q k n : ℕ) → Has code.instrs p (slot (CInc k n) 0) q → k < code.counters → lo ≤ p → q < hi → height_at code.instrs q ≡ Some 0 → TypedIn code p q
  count p q k n c less above below at =
      step_typed code cells lo hi r routine fits p q _ c above below (record { height_fits = omega arith; operands = omega arith; room = omega arith; next = λ x. follows code cells lo hi r routine fits p q 0 0 c.next at refl; jump = tt; place = tt; counter = less; call = tt; ends = tt })

  store : (p q a : ℕ) → Has code.instrs p (slot (Store a) 1) q → IsCell cells a 1 → lo ≤ p → q < hi → height_at code.instrs q ≡ Some 0 → TypedIn code p q
  store p q a c is above below at =
      step_typed code cells lo hi r routine fits p q _ c above below (record { height_fits = omega arith; operands = omega arith; room = omega arith; next = λ x. follows code cells lo hi r routine fits p q 0 0 c.next at refl; jump = tt; place = omega (arith, fits a 1 is); counter = tt; call = tt; ends = tt })

module _ (code : Code) (cells : List Cell) (lo hi r : ℕ) (routine : IsRoutine code lo hi r) (fits : (p n : ℕ) → IsCell cells p n → p + n ≤ code.places) (starts : ℕ → ℕ) (params : ℕ → List ℕ) (cur : ℕ) (calls : (g : ℕ) → g < cur → IsCallable code cells r (starts g) (params g)) where
  mutual
    pub typed_s : (sc kb c0 c1 : ℕ) (s : St) (p q : ℕ) → Coded starts params code.instrs p s q → Sound cells s → Counted params cur sc kb c0 s c1 → c1 ≤ code.counters → sc ≤ code.counters → lo ≤ p → q < hi → height_at code.instrs q ≡ Some 0 → TypedIn code p q
    typed_s sc kb c0 c1 (Assign a e) p q c sound n few sfew above below at =
        let u = up_e code.instrs e 0 p c.0 c.1 in
        let j = c.2.next in
        typed_join code p c.0 q
        (test code cells lo hi r routine fits e p c.0 c.1 sound.1 above (omega arith) (height_here code.instrs c.0 q _ c.2))
        (store code cells lo hi r routine fits c.0 q a c.2 sound.0 (omega arith) below at)
    typed_s sc kb c0 c1 (AssignAt a w i e) p q c sound n few sfew above below at =
        let u1 = up_e code.instrs i 0 p c.0 c.2 in
        let u2 = up_e code.instrs e 1 c.0 c.1 c.3 in
        let j = c.4.next in
        let low = sound.3 in
        let fit = fits a w sound.0.0 in
        let wide = sound.0.1 in
        let zero_one : 1 ≡ 0 + 1 = omega arith in
        let one_two : 2 ≡ 1 + 1 = omega arith in
        typed_join code p c.0 q
        (typed_e code cells lo hi r routine fits i 0 p c.0 c.2 sound.1 (omega arith) above (omega arith) (begins_e code.instrs e 1 c.0 c.1 c.3 ∙ ap Some zero_one))
        (typed_join code c.0 c.1 q
        (typed_e code cells lo hi r routine fits e 1 c.0 c.1 c.3 sound.2 (omega arith) (omega arith) (omega arith) (height_here code.instrs c.1 q _ c.4 ∙ ap Some one_two))
        (step_typed code cells lo hi r routine fits c.1 q _ c.4 (omega arith) below (record { height_fits = omega arith; operands = omega arith; room = omega arith; next = λ x. follows code cells lo hi r routine fits c.1 q 0 0 j at refl; jump = tt; place = (omega arith, omega arith); counter = tt; call = tt; ends = tt })))
    typed_s sc kb c0 c1 (Invoke a g args) p q c sound n few sfew above below at =
        let u1 = up_a code.instrs args 0 p c.0 c.3 in
        let u2 = up_stores code.instrs (params g) 0 c.0 c.1 c.4 in
        let j5 = c.5.next in
        let j6 = c.6.next in
        let low = args_low args in
        let high = sound.2 in
        let many : length args ≡ length (params g) = n.2 in
        let called = calls g n.1 in
        let same : 0 + length (params g) ≡ 0 + length args = omega arith in
        let at1 = begins_stores code.instrs (params g) 0 c.0 c.1 c.4 (height_here code.instrs c.1 c.2 _ c.5) ∙ ap Some same in
        typed_join code p c.0 q
        (typed_a code cells lo hi r routine fits args 0 p c.0 c.3 sound.1 (omega arith) above (omega arith) at1)
        (typed_join code c.0 c.1 q
        (typed_stores code cells lo hi r routine fits (params g) 0 c.0 c.1 c.4 called.are_cells (omega arith) (omega arith) (omega arith) (height_here code.instrs c.1 c.2 _ c.5))
        (typed_join code c.1 c.2 q
        (step_typed code cells lo hi r routine fits c.1 c.2 _ c.5 (omega arith) (omega arith) (record {
          height_fits = omega arith;
          operands = omega arith;
          room = omega arith;
          next = λ x. absurd x;
          jump = tt;
          place = tt;
          counter = tt;
          call = record { before = refl; after = follows code cells lo hi r routine fits c.1 c.2 1 1 j5 (height_here code.instrs c.2 q _ c.6) refl; start = called.contained; not_first = called.not_first; earlier = λ x. let e = routine.number c.1 (omega arith) (omega arith) in let y = called.earlier (omega arith) in omega arith };
          ends = tt;
        }))
        (store code cells lo hi r routine fits c.2 q a c.6 sound.0 (omega arith) below at)))
    typed_s sc kb c0 c1 (When t b) p q c sound n few sfew above below at =
        let u1 = up_e code.instrs t 0 p c.0 c.2 in
        let u2 = up_b code.instrs starts params b c.1 q c.4 in
        let j = c.3.next in
        typed_join code p c.0 q
        (test code cells lo hi r routine fits t p c.0 c.2 sound.0 above (omega arith) (height_here code.instrs c.0 c.1 _ c.3))
        (typed_join code c.0 c.1 q
        (jump_if_zero code cells lo hi r routine fits c.0 c.1 q c.3 (omega arith) (omega arith) (omega arith) below at (begins_b code.instrs starts params cur sc kb c0 c1 b c.1 q c.4 n at))
        (typed_b sc kb c0 c1 b c.1 q c.4 sound.1 n few sfew (omega arith) below at))
    typed_s sc kb c0 c1 (Choice t b d) p q c sound n few sfew above below at =
        let u1 = up_e code.instrs t 0 p c.0 c.4 in
        let u2 = up_b code.instrs starts params b c.1 c.2 c.6 in
        let u3 = up_b code.instrs starts params d c.3 q c.8 in
        let j5 = c.5.next in
        let j7 = c.7.next in
        let m = counted_up_b params cur sc kb n.0 d c1 n.2 in
        let at2 = height_here code.instrs c.2 c.3 _ c.7 in
        let at3 = begins_b code.instrs starts params cur sc kb n.0 c1 d c.3 q c.8 n.2 at in
        typed_join code p c.0 q
        (test code cells lo hi r routine fits t p c.0 c.4 sound.0 above (omega arith) (height_here code.instrs c.0 c.1 _ c.5))
        (typed_join code c.0 c.1 q
        (jump_if_zero code cells lo hi r routine fits c.0 c.1 c.3 c.5 (omega arith) (omega arith) (omega arith) (omega arith) at3 (begins_b code.instrs starts params cur sc kb c0 n.0 b c.1 c.2 c.6 n.1 at2))
        (typed_join code c.1 c.2 q
        (typed_b sc kb c0 n.0 b c.1 c.2 c.6 sound.1 n.1 (omega arith) sfew (omega arith) (omega arith) at2)
        (typed_join code c.2 c.3 q
        (jump code cells lo hi r routine fits c.2 c.3 q c.7 (omega arith) (omega arith) (omega arith) below at)
        (typed_b sc kb n.0 c1 d c.3 q c.8 sound.2 n.2 few sfew (omega arith) below at))))
    typed_s sc kb c0 c1 (Loop k w t b) p q c sound n few sfew above below at =
        let u1 = up_e code.instrs t 0 c.0 c.1 c.6 in
        let u2 = up_b code.instrs starts params b c.3 c.4 c.9 in
        let j5 = c.5.next in
        let j7 = c.7.next in
        let j8 = c.8.next in
        let j10 = c.10.next in
        let m = counted_up_b params cur sc kb (suc c0) b c1 n.1 in
        let own : k < code.counters = omega (arith, n.0) in
        let at0 = begins_e code.instrs t 0 c.0 c.1 c.6 in
        let at4 = height_here code.instrs c.4 q _ c.10 in
        typed_join code p c.0 q (clear code cells lo hi r routine fits p c.0 k c.5 own above (omega arith) at0)
        (typed_join code c.0 c.1 q
        (test code cells lo hi r routine fits t c.0 c.1 c.6 sound.1 (omega arith) (omega arith) (height_here code.instrs c.1 c.2 _ c.7))
        (typed_join code c.1 c.2 q
        (jump_if_zero code cells lo hi r routine fits c.1 c.2 q c.7 (omega arith) (omega arith) (omega arith) below at (height_here code.instrs c.2 c.3 _ c.8))
        (typed_join code c.2 c.3 q
        (count code cells lo hi r routine fits c.2 c.3 k w c.8 own (omega arith) (omega arith) (begins_b code.instrs starts params cur sc kb (suc c0) c1 b c.3 c.4 c.9 n.1 at4))
        (typed_join code c.3 c.4 q
        (typed_b sc kb (suc c0) c1 b c.3 c.4 c.9 sound.2 n.1 few sfew (omega arith) (omega arith) at4)
        (jump code cells lo hi r routine fits c.4 q c.0 c.10 (omega arith) below (omega arith) (omega arith) at0)))))
    typed_s sc kb c0 c1 (Scoped k w b) p q c sound n few sfew above below at =
        let u = up_b code.instrs starts params b c.0 q c.2 in
        let j = c.1.next in
        let m = counted_up_b params cur (suc c0) w (suc c0) b c1 n.1 in
        typed_join code p c.0 q
        (clear code cells lo hi r routine fits p c.0 k c.1 (omega (arith, n.0)) above (omega arith) (begins_b code.instrs starts params cur (suc c0) w (suc c0) c1 b c.0 q c.2 n.1 at))
        (typed_b (suc c0) w (suc c0) c1 b c.0 q c.2 sound.1 n.1 few (omega arith) (omega arith) below at)
    typed_s sc kb c0 c1 (Count k w) p q c sound n few sfew above below at =
        count code cells lo hi r routine fits p q k w c (omega (arith, n.1)) above below at
    typed_s sc kb c0 c1 (Series k w l) p q c sound n few sfew above below at =
        let u = up_l code.instrs starts params l k w c.0 q c.2 in
        let j = c.1.next in
        let m = counted_up_l params cur (suc c0) l c1 n.1 in
        let own : k < code.counters = omega (arith, n.0) in
        typed_join code p c.0 q
        (clear code cells lo hi r routine fits p c.0 k c.1 own above (omega arith) (begins_l code.instrs starts params l k w c.0 q c.2 at))
        (typed_l k w (suc c0) c1 l c.0 q c.2 sound.1 n.1 few own (omega arith) below at)

    pub typed_b : (sc kb c0 c1 : ℕ) (b : Bl) (p q : ℕ) → CodedB starts params code.instrs p b q → SoundB cells b → CountedB params cur sc kb c0 b c1 → c1 ≤ code.counters → sc ≤ code.counters → lo ≤ p → q < hi → height_at code.instrs q ≡ Some 0 → TypedIn code p q
    typed_b sc kb c0 c1 Nil p q c sound n few sfew above below at = typed_none code p q c
    typed_b sc kb c0 c1 (Then s rest) p q c sound n few sfew above below at =
        let u1 = up code.instrs starts params s p c.0 c.1 in
        let u2 = up_b code.instrs starts params rest c.0 q c.2 in
        let m = counted_up_b params cur sc kb n.0 rest c1 n.2 in
        typed_join code p c.0 q
        (typed_s sc kb c0 n.0 s p c.0 c.1 sound.0 n.1 (omega arith) sfew above (omega arith) (begins_b code.instrs starts params cur sc kb n.0 c1 rest c.0 q c.2 n.2 at))
        (typed_b sc kb n.0 c1 rest c.0 q c.2 sound.1 n.2 few sfew (omega arith) below at)

    pub typed_l : (s k c0 c1 : ℕ) (l : Ls) (p q : ℕ) → CodedL starts params code.instrs s k p l q → SoundL cells l → CountedL params cur c0 l c1 → c1 ≤ code.counters → s < code.counters → lo ≤ p → q < hi → height_at code.instrs q ≡ Some 0 → TypedIn code p q
    typed_l s k c0 c1 NoLoop p q c sound n few own above below at = typed_none code p q c
    typed_l s k c0 c1 (OneLoop d w t b rest) p q c sound n few own above below at =
        let u1 = up_e code.instrs t 0 c.0 c.1 c.8 in
        let u2 = up_b code.instrs starts params b c.4 c.5 c.12 in
        let u3 = up_l code.instrs starts params rest s k c.6 q c.14 in
        let j7 = c.7.next in
        let j9 = c.9.next in
        let j10 = c.10.next in
        let j11 = c.11.next in
        let j13 = c.13.next in
        let m = counted_up_b params cur 0 0 (suc c0) b n.0 n.2 in
        let m2 = counted_up_l params cur n.0 rest c1 n.3 in
        let mine : d < code.counters = omega (arith, n.1) in
        let at0 = begins_e code.instrs t 0 c.0 c.1 c.8 in
        let at5 = height_here code.instrs c.5 c.6 _ c.13 in
        let at6 = begins_l code.instrs starts params rest s k c.6 q c.14 at in
        typed_join code p c.0 q (clear code cells lo hi r routine fits p c.0 d c.7 mine above (omega arith) at0)
        (typed_join code c.0 c.1 q
        (test code cells lo hi r routine fits t c.0 c.1 c.8 sound.1 (omega arith) (omega arith) (height_here code.instrs c.1 c.2 _ c.9))
        (typed_join code c.1 c.2 q
        (jump_if_zero code cells lo hi r routine fits c.1 c.2 c.6 c.9 (omega arith) (omega arith) (omega arith) (omega arith) at6 (height_here code.instrs c.2 c.3 _ c.10))
        (typed_join code c.2 c.3 q
        (count code cells lo hi r routine fits c.2 c.3 d w c.10 mine (omega arith) (omega arith) (height_here code.instrs c.3 c.4 _ c.11))
        (typed_join code c.3 c.4 q
        (count code cells lo hi r routine fits c.3 c.4 s k c.11 own (omega arith) (omega arith) (begins_b code.instrs starts params cur 0 0 (suc c0) n.0 b c.4 c.5 c.12 n.2 at5))
        (typed_join code c.4 c.5 q
        (typed_b 0 0 (suc c0) n.0 b c.4 c.5 c.12 sound.2 n.2 (omega arith) (omega arith) (omega arith) (omega arith) at5)
        (typed_join code c.5 c.6 q
        (jump code cells lo hi r routine fits c.5 c.6 c.0 c.13 (omega arith) (omega arith) (omega arith) (omega arith) at0)
        (typed_l s k n.0 c1 rest c.6 q c.14 sound.3 n.3 few own (omega arith) below at)))))))
